use Rattle.pi_rewrite_loops.proofs.EndLemmas.{KeptTo}
use Rattle.pi_rewrite_loops.proofs.entries.push_kept.Given as goal

abbrev pub invariant-loop-name : goal.invariant-loop-name
invariant-loop-name l = KeptTo l.names l.fn.variable l.slots l.initial.goals.items l.name-index l.from l.goals.items
