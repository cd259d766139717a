use Rattle.std.proofs.Common.{◌≡◌, None}
use Rattle.pi_plan.specs.Planner.{IsSound, waits_for}
use Rattle.tables_values.proofs.planners.take_steps.Given as goal

abbrev pub invariant-loop : goal.invariant-loop
invariant-loop l = IsSound l.planner × (waits_for l.planner ≡ None)
