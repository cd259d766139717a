use Rattle.std.specs.Prelude.{IsSome}
use Rattle.pi_plan.specs.Planner.{IsSound, waits_for}
use Rattle.tables_values.proofs.planners.give_first.Given as goal

abbrev pub invariant-loop-entry : goal.invariant-loop-entry
invariant-loop-entry l = IsSound l.planner × IsSome (waits_for l.planner)
