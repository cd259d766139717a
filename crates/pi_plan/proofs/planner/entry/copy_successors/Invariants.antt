use Rattle.std.proofs.Common.{◌≡◌, take}
use Rattle.pi_plan.proofs.planner.entry.copy_successors.Given as goal

abbrev pub invariant-loop-successor : goal.invariant-loop-successor
invariant-loop-successor l = l.copies ≡ take l.successor-index l.successors
