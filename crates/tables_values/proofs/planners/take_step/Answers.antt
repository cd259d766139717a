use Rattle.std.proofs.Common.{ap}
use Rattle.std.specs.Prelude.{is_some}
use Rattle.tables_values.proofs.EndLemmas.{idle_at_end}
use Rattle.tables_values.proofs.planners.take_step.Goals as goal

pub give-requires-clause-asked : goal.give-requires-clause-asked
give-requires-clause-asked c = ap is_some c.in-Expand.ensures.leaves.2

pub next-again-requires-clause-answered : goal.next-again-requires-clause-answered
next-again-requires-clause-answered c = idle_at_end c.next.result c.next.new.self c.in_default.not-Expand c.next.ensures.leaves
