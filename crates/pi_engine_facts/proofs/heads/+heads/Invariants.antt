use Rattle.pi_engine_facts.proofs.HeadLemmas.{SoFar}
use Rattle.pi_engine_facts.proofs.heads.+heads.Given as goal

-- the patterns from a number on are left
abbrev pub invariant-put_patterns-loop-i : goal.invariant-put_patterns-loop-i
invariant-put_patterns-loop-i g l =
    SoFar (g.S.StateStore.seen l.initial.s) (g.S.StateStore.seen l.s) l.patterns l.i l.initial.slots.items l.slots.items l.parts.items
