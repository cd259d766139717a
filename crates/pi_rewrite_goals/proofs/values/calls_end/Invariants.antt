use Rattle.std.proofs.Common.{◌≤◌, length}
use Rattle.pi_rewrite_slots.specs.ReadAs.{readings_of}
use Rattle.pi_rewrite_goals.proofs.PartLemmas.{IsFlatFrom}
use Rattle.pi_rewrite_goals.proofs.values.calls_end.Given as goal

-- none of those from a place on has a call in it
abbrev pub invariant-loop-end : goal.invariant-loop-end
invariant-loop-end l = (l.end ≤ length l.exps) × IsFlatFrom (readings_of l.readings) l.exps l.end

abbrev pub decreases-loop-end : goal.decreases-loop-end
decreases-loop-end l = l.end
