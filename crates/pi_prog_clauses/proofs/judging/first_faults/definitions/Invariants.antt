use Rattle.std.proofs.Common.{take, map}
use Rattle.pi_prog_clauses.specs.Defined.{IsSetOf}
use Rattle.pi_prog_clauses.specs.Seen.{seen}
use Rattle.pi_prog_clauses.specs.Verdict.{all_defined}
use Rattle.pi_prog_clauses.proofs.judging.first_faults.definitions.Given as goal

-- the set has what the parts so far define
abbrev pub invariant-loop-i : goal.invariant-loop-i
invariant-loop-i l = IsSetOf l.all (all_defined (take l.i (map seen l.parts)))
