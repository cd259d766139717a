-- What a part of a program defines.
use Rattle.std.specs.Prelude.{Option, Some, None}
use Rattle.pi_syntax.specs.ProgramTree.{WrittenClause, PartTree}
use Rattle.pi_prog_clauses.specs.Calls.{Named}
use Rattle.pi_prog_clauses.specs.Verdict.{definition}

-- the predicate or function that a clause is of, where there is a clause
abbrev pub defined_by_one : Option WrittenClause → Option Named
defined_by_one None = None
defined_by_one (Some c) = definition c

abbrev pub defined_by_part : PartTree → Option Named
defined_by_part p = defined_by_one p.clause
