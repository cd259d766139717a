-- What the judge of parts finds, as the definition has it.
use Rattle.std.specs.Prelude.{◌≡◌, List, Option, option_map, slice_get}
use Rattle.pi_prog_clauses.specs.Before.{fault_shown}
use Rattle.pi_prog_clauses.specs.Called.{named_by}
use Rattle.pi_prog_clauses.specs.Calls.{Named}
use Rattle.pi_prog_clauses.specs.Defined.{IsSetOf}
use Rattle.pi_prog_clauses.specs.Verdict as spec
use Rattle.pi_prog_clauses.specs.declared.names.calls.Called.{Called}
use Rattle.pi_prog_clauses.specs.declared.names.definitions.Definitions.{Definitions}
use Rattle.pi_prog_clauses.specs.declared.judging.first_faults.Faulty.{Faulty}
use Rattle.pi_prog_clauses.specs.declared.judging.first_faults.UnknownCall.{UnknownCall}

abbrev pub faulty_shown : Faulty → spec.Faulty
faulty_shown f = record { number = f.number; fault = fault_shown f.fault }

abbrev pub unknown_shown : UnknownCall → spec.Unknown
unknown_shown u = record { called = named_by u.called; number = u.number }

-- what clauses before one define, the newest first, and the newest
pub record IsEarlier (earlier : Definitions) (last : Option Called) (before : List Named) : Type 0 where
  pub names : IsSetOf earlier before
  pub newest : option_map named_by last ≡ slice_get before 0
