use Rattle.std.proofs.Common.{◌≡◌}
use Rattle.pi_core.proofs.GoalPlaces.{place_of}
use Rattle.pi_core.proofs.core_goal.CoreGoal.child.Given as goal

-- before the turn with this number `at` is the place of that child goal
abbrev pub invariant-loop : goal.invariant-loop
invariant-loop l = l.at ≡ place_of l.self l.i l.counter
