-- The letters, and the end of the list.
use Rattle.std.proofs.Common.{refl, ◌∙◌}
use Rattle.std.proofs.lemmas.Result.{IfOk-weaker}
use Rattle.pi_terms.specs.ListNames.{nil}
use Rattle.pi_rewrite_slots.proofs.CellLemmas.{text-cells}
use Rattle.pi_rewrite_slots.proofs.terms.push_text.Goals as goal

pub returns : goal.returns
returns c =
    IfOk-weaker c.push_atom.result _ _ (λ _ so. text-cells c.args.text.now c.as_slice.result.now c.args.cells.now.items c.push_letters.new.cells.items c.push_atom.new.cells.items nil (c.as_slice.ensures.value ∙ c.in_ok-letters.ensures) c.in_ok-push_letters.ensures refl so) c.push_atom.ensures
