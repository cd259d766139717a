use Rattle.std.proofs.Common.{◌≡◌, List, drop, map}
use Rattle.pi_prog_clauses.specs.Calls.{Named}
use Rattle.pi_prog_clauses.specs.Defined.{IsSetOf}
use Rattle.pi_prog_clauses.specs.Seen.{seen}
use Rattle.pi_prog_clauses.specs.Verdict.{first_unknown_in}
use Rattle.pi_prog_clauses.proofs.judging.first_faults.first_unknown.Given as goal

-- the first unknown name of all parts is that of those left
abbrev pub invariant-loop-i : goal.invariant-loop-i
invariant-loop-i l = (all : List Named) → IsSetOf l.all all → first_unknown_in all 0 (map seen l.parts) ≡ first_unknown_in all l.i (drop l.i (map seen l.parts))
