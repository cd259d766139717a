use Rattle.std.proofs.Common.{arith, ◌<◌, length, subst, sym}
use Rattle.std.proofs.lemmas.List.Elements.{All-get_or}
use Rattle.pi_lex.specs.Store.{IsForm}
use Rattle.pi_lex.proofs.LineLemmas.{length-located_from, kind_at}
use Rattle.pi_lex.proofs.store.Store.kind.Goals as goal

pub index-requires : goal.index-requires
index-requires c = omega (arith, c.requires.within, length-located_from c.args.self.now 0 c.args.self.now.forms.items)

pub show-requires : goal.show-requires
show-requires c =
    let store = c.args.self.now in
    let within : c.args.index < length store.forms.items = omega (arith, c.requires.within, length-located_from store 0 store.forms.items) in
    subst (IsForm store) (sym c.index.ensures) (All-get_or (IsForm store) store.forms.items c.args.index c.index.result.now within c.requires.sound.forms)

pub returns : goal.returns
returns c =
    let store = c.args.self.now in
    let within : c.args.index < length store.forms.items = omega (arith, c.requires.within, length-located_from store 0 store.forms.items) in
    rw c.show.ensures (kind_at store 0 store.forms.items c.args.index _ within c.index.ensures)
