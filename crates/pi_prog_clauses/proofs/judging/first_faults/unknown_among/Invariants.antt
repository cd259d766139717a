use Rattle.std.proofs.Common.{◌≡◌, List, length}
use Rattle.pi_prog_clauses.specs.Called.{calls_ahead}
use Rattle.pi_prog_clauses.specs.Calls.{Named, first_unknown}
use Rattle.pi_prog_clauses.specs.Defined.{IsSetOf}
use Rattle.pi_prog_clauses.proofs.judging.first_faults.unknown_among.Given as goal

-- the first unknown name of all is that of those ahead
abbrev pub invariant-loop-ahead : goal.invariant-loop-ahead
invariant-loop-ahead l = (all : List Named) → IsSetOf l.all all → first_unknown all (calls_ahead l.initial.ahead) ≡ first_unknown all (calls_ahead l.ahead)

abbrev pub decreases-loop-ahead : goal.decreases-loop-ahead
decreases-loop-ahead l = length (calls_ahead l.ahead)
