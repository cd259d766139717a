use Rattle.std.proofs.Common.{length}
use Rattle.pi_plan.proofs.SearchLemmas.{Skipping}
use Rattle.pi_plan.proofs.search.Search.pop.Given as goal

abbrev pub invariant-loop-due : goal.invariant-loop-due
invariant-loop-due l = Skipping l.fn.self l.self

abbrev pub decreases-loop-due : goal.decreases-loop-due
decreases-loop-due l = length l.self.frontier.keys
