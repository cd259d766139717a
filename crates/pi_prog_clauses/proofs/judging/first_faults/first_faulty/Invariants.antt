use Rattle.std.proofs.Common.{◌≡◌, List, [], take, drop, map}
use Rattle.pi_prog_clauses.specs.Before.{IsBefore}
use Rattle.pi_prog_clauses.specs.Calls.{Named}
use Rattle.pi_prog_clauses.specs.Defined.{IsSetOf}
use Rattle.pi_prog_clauses.specs.Seen.{seen}
use Rattle.pi_prog_clauses.specs.Verdict.{first_faulty}
use Rattle.pi_prog_clauses.proofs.judging.first_faults.first_faulty.Given as goal

-- the first fault of all parts is that of those left
abbrev pub invariant-loop-i : goal.invariant-loop-i
invariant-loop-i l = record {
  before : IsBefore l.before (take l.i (map seen l.parts));
  same : (all : List Named) → IsSetOf l.all all → first_faulty all [] (map seen l.parts) ≡ first_faulty all (take l.i (map seen l.parts)) (drop l.i (map seen l.parts));
}
