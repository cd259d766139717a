-- What the judge of parts knows of those before one.
use Rattle.std.specs.Prelude.{List}
use Rattle.pi_prog_clauses.specs.Defined.{IsSetOf}
use Rattle.pi_prog_clauses.specs.Verdict.{JudgedPart, all_defined, all_indexed}
use Rattle.pi_prog_clauses.specs.Verdict as spec
use Rattle.pi_prog_clauses.specs.declared.judging.part_fault.Before.{Before}
use Rattle.pi_prog_clauses.specs.declared.judging.part_fault.PartFault.{PartFault}
use Rattle.pi_prog_clauses.specs.declared.judging.part_fault.PartFault.TheVariants as fault

abbrev pub fault_shown : PartFault → spec.PartFault
fault_shown fault.TooDeep = spec.TooDeep
fault_shown fault.BadDeclaration = spec.BadDeclaration
fault_shown fault.BadClause = spec.BadClause
fault_shown fault.TooManyVariables = spec.TooManyVariables

-- it knows what these parts define, and what stands behind an `index` in them
pub record IsBefore (b : Before) (parts : List JudgedPart) : Type 0 where
  pub defined : IsSetOf b.defined (all_defined parts)
  pub indexed : IsSetOf b.indexed (all_indexed parts)
