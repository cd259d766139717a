-- The line of the fault of tokens that are no program, or no goal.
use Rattle.std.specs.Prelude.{ℕ, false, List, Option, None, Some}
use Rattle.pi_prog_clauses.specs.Calls.{named}
use Rattle.pi_prog_clauses.specs.Verdict.{BadClause, TooDeep, BadDeclaration, TooManyVariables}
use Rattle.pi_prog_clauses.specs.declared.prog_fault.ProgFault.{ProgFault}
use Rattle.pi_prog_clauses.specs.declared.prog_fault.ProgFault.TheVariants as fault
use Rattle.pi_top.specs.FaultLines.{part_line, unknown_line, scattered_line}

-- none where memory is wanted
abbrev pub prog_line : ProgFault → Option (List ℕ)
prog_line (fault.BadClause number) = Some (part_line BadClause number)
prog_line (fault.TooDeep number) = Some (part_line TooDeep number)
prog_line (fault.BadDeclaration number) = Some (part_line BadDeclaration number)
prog_line (fault.TooManyVariables number) = Some (part_line TooManyVariables number)
prog_line (fault.UnknownName name arity number) = Some (unknown_line (named name arity false) number)
prog_line (fault.Scattered name arity) = Some (scattered_line (named name arity false))
prog_line fault.Memory = None
