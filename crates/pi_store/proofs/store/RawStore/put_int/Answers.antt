use Rattle.std.proofs.Common.{Some, refl, ap, ◌∙◌, rules}
use Rattle.pi_terms.specs.Tree.{int}
use Rattle.pi_store.specs.Holding.{heap_of}
use Rattle.pi_store.proofs.KeepLemmas.{sound_appends, gives_appended}
use Rattle.pi_store.proofs.PartLemmas.{refused}
use Rattle.pi_store.proofs.store.RawStore.put_int.Goals as goal

pub returns-in_err-made-clause-err : goal.returns-in_err-made-clause-err
returns-in_err-made-clause-err c = rw (← c.self.view_is) (refused c.from_residual.result c.self.inside.names c.self.inside.words c.put_int.new.words c.in_err-made.ensures.err)

pub invariant_of-self-2 : goal.invariant_of-self-2
invariant_of-self-2 c =
    let t = c.self.inside.names in
    let i = c.self.inside.words in
    sound_appends t i c.put_int.new.words c.in_ok-made.ensures.appends (c.in_ok-made.ensures.right (heap_of t i) refl) c.self.invariant

pub returns-clause-ok : goal.returns-clause-ok
returns-clause-ok c =
    let t = c.self.inside.names in
    let term = c.in_ok-made.ensures.ok (heap_of t c.put_int.new.words) refl in
    rw (← c.self.view_is) (gives_appended t c.self.inside.words c.put_int.new.words c.in_ok-made.made (int c.args.n) c.in_ok-made.ensures.appends c.self.invariant (term ∙ ap (λ n. Some (int n)) (search rules)))
