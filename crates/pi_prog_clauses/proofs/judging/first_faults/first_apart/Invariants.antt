use Rattle.pi_prog_clauses.proofs.judging.JudgeLemmas.{Apart}
use Rattle.pi_prog_clauses.proofs.judging.first_faults.first_apart.Given as goal

abbrev pub invariant-loop-i : goal.invariant-loop-i
invariant-loop-i l = Apart l.earlier l.last l.parts l.i
