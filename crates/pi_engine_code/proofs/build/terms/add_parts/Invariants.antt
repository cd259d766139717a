use Rattle.pi_engine_code.proofs.LaidTerms.{PartsAdded}
use Rattle.pi_engine_code.proofs.build.terms.add_parts.Given as goal

-- so many parts were added
abbrev pub invariant-loop-i : goal.invariant-loop-i
invariant-loop-i g l = PartsAdded (g.S.StateStore.seen l.initial.store) (g.S.StateStore.seen l.store) l.initial.code l.code l.term l.i
