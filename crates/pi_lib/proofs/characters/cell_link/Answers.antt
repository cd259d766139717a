use Rattle.std.proofs.Common.{◌≡◌, ◌==◌, false, length, ap, sym, ◌∙◌}
use Rattle.std.specs.Str.{chars}
use Rattle.pi_terms.specs.ListCopies.{list_cell}
use Rattle.pi_constraints.specs.Store.{ShowsCell}
use Rattle.pi_constraints.specs.declared.store.Cell.{Cell}
use Rattle.pi_unify.specs.Terms.{value_of}
use Rattle.pi_unify.proofs.ComparisonLemmas.{shown}
use Rattle.pi_lib.proofs.WalkLemmas.{no_item, long_item}
use Rattle.pi_lib.proofs.characters.cell_link.Goals as goal

pub returns-in_default : goal.returns-in_default
returns-in_default g c = λ item rest a.
    let v = g.S.StateStore.seen c.args.s.now in
    no_item v (value_of v c.args.item) (value_of v c.args.rest) c.look.result c.in_default.not-Atom (shown v c.args.item c.look.result a item c.look.ensures.shows)

pub returns-then-is_character : goal.returns-then-is_character
returns-then-is_character g c = λ item rest a.
    let v = g.S.StateStore.seen c.args.s.now in
    let shows : ShowsCell v (value_of v c.args.item) (Cell.Atom c.in-Atom.name) = shown v c.args.item (Cell.Atom c.in-Atom.name) a item c.in-Atom.ensures.shows in
    let named : c.name.result.now ≡ shows.0 = c.name.ensures shows.0 shows.1 in
    record {
      name = shows.0;
      named = shows.1;
      one = ap (λ f. length (chars f) == 1) (sym named) ∙ (sym c.is_character.ensures ∙ c.if-is_character.true);
      given = rest;
      cell = ap (λ t. list_cell t (value_of v c.args.rest)) shows.2;
    }

pub returns-else-is_character : goal.returns-else-is_character
returns-else-is_character g c = λ item rest a.
    let v = g.S.StateStore.seen c.args.s.now in
    let shows : ShowsCell v (value_of v c.args.item) (Cell.Atom c.in-Atom.name) = shown v c.args.item (Cell.Atom c.in-Atom.name) a item c.in-Atom.ensures.shows in
    let named : c.name.result.now ≡ shows.0 = c.name.ensures shows.0 shows.1 in
    let long : (length (chars shows.0) == 1) ≡ false = ap (λ f. length (chars f) == 1) (sym named) ∙ (sym c.is_character.ensures ∙ c.if-is_character.false) in
    long_item (value_of v c.args.item) (value_of v c.args.rest) shows.0 shows.2 long
