use Rattle.std.proofs.Common.{◌≡◌, vec_len}
use Rattle.std.specs.Prelude.{map}
use Rattle.pi_core.specs.CoreTree.{pred_tree}
use Rattle.pi_rewrite_loops.specs.Helpers.{lowered}
use Rattle.pi_rewrite_goals.proofs.CloseLemmas.{Closing}
use Rattle.pi_rewrite_goals.proofs.opened.close.Given as goal

-- those that are left are closed around what the others were closed to
abbrev pub invariant-loop-last : goal.invariant-loop-last
invariant-loop-last l = Closing l.initial.opened.items (lowered l.initial.goals.items l.initial.slots) (map pred_tree l.initial.helpers.items) l.opened.items (lowered l.goals.items l.slots) (map pred_tree l.helpers.items)

abbrev pub decreases-loop-last : goal.decreases-loop-last
decreases-loop-last l = vec_len l.opened
