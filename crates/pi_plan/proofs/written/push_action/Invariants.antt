use Rattle.std.proofs.Common.{◌++◌, ◌∷◌, []}
use Rattle.pi_terms.specs.ListNames.{cell_name}
use Rattle.pi_terms.specs.declared.term.TermCell.{TermCell}
use Rattle.pi_plan.proofs.WrittenLemmas.{WrittenTo}
use Rattle.pi_plan.proofs.written.push_action.Given as goal

abbrev pub invariant-loop-i : goal.invariant-loop-i
invariant-loop-i l = WrittenTo (l.fn.cells.items ++ TermCell.Comp cell_name 2 0 ∷ []) l.cells.items l.action l.i
