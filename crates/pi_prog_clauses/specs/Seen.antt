-- What is judged of a part that the code has read.
use Rattle.std.specs.Prelude.{List, map}
use Rattle.pi_syntax.specs.ProgramTree.{written_clause}
use Rattle.pi_prog_clauses.specs.Verdict as spec
use Rattle.pi_prog_clauses.specs.Verdict.{JudgedClause, JudgedPart, refused, libraries, one_clause}
use Rattle.pi_prog_clauses.specs.declared.parts.PartReading.{PartReading}
use Rattle.pi_prog_clauses.specs.declared.parts.PartReading.TheVariants as part
use Rattle.pi_prog_clauses.specs.declared.parts.WrittenPart.{WrittenPart}

abbrev pub seen_clause : WrittenPart → JudgedClause
seen_clause p = record { modes = p.modes; clause = written_clause p.clause; bad_form = p.has_bad_form; many_names = p.has_too_many_names }

abbrev pub seen : PartReading → JudgedPart
seen part.TooDeep = refused spec.TooDeep
seen part.BadDeclaration = refused spec.BadDeclaration
seen part.NoClause = refused spec.BadClause
seen (part.Import names) = libraries names
seen (part.Written p) = one_clause (seen_clause p)

abbrev pub all_seen : List PartReading → List JudgedPart
all_seen ps = map seen ps
