use Rattle.pi_rewrite_loops.specs.Helpers.{ending_of}
use Rattle.pi_rewrite_loops.proofs.EndLemmas.{ClosedTo}
use Rattle.pi_rewrite_loops.proofs.ends.push_ends.Given as goal

abbrev pub invariant-loop-name : goal.invariant-loop-name
invariant-loop-name l = ClosedTo (ending_of l.ending) l.names l.fn.variable l.fn.free l.slots l.initial.goals.items l.name-index l.at l.next l.goals.items
