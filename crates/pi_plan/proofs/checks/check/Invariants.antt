use Rattle.std.proofs.Common.{◌≡◌, drop}
use Rattle.pi_plan.specs.Faults.{first_fault}
use Rattle.pi_plan.proofs.checks.check.Given as goal

abbrev pub invariant-loop-successor : goal.invariant-loop-successor
invariant-loop-successor l = first_fault l.successors ≡ first_fault (drop l.successor-index l.successors)
