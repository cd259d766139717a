use Rattle.pi_rewrite_slots.proofs.SlotLemmas.{SoughtTo}
use Rattle.pi_rewrite_slots.proofs.slots.place_of.Given as goal

-- the name is none of the first few
abbrev pub invariant-loop-k : goal.invariant-loop-k
invariant-loop-k l = SoughtTo l.name l.names l.k
