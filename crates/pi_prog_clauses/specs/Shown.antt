-- What the code's readings of parts show.
use Rattle.std.specs.Prelude.{◌≡◌, List, [], ◌∷◌}
use Rattle.pi_syntax.specs.ProgramTree.{written_clause}
use Rattle.pi_prog_clauses.specs.Reading.{Reading, too_deep, misdeclared_part, no_clause, imports_part, written}
use Rattle.pi_prog_clauses.specs.Reading as spec
use Rattle.pi_prog_clauses.specs.Verdict.{clause_in, has_bad_form, has_too_many_names}
use Rattle.pi_prog_clauses.specs.declared.parts.PartReading.{PartReading}
use Rattle.pi_prog_clauses.specs.declared.parts.PartReading.TheVariants as part
use Rattle.pi_prog_clauses.specs.declared.parts.WrittenPart.{WrittenPart}

-- a clause and its mode lists, with what its form and its names come to
pub record IsWritten (p : WrittenPart) (w : spec.WrittenPart) : Type 0 where
  pub modes : p.modes ≡ w.modes
  pub clause : written_clause p.clause ≡ clause_in w
  pub form : p.has_bad_form ≡ has_bad_form w
  pub names : p.has_too_many_names ≡ has_too_many_names w.names

abbrev pub IsShown : PartReading → Reading → Type 0
IsShown part.TooDeep too_deep = Unit {0}
IsShown part.BadDeclaration misdeclared_part = Unit {0}
IsShown part.NoClause no_clause = Unit {0}
IsShown (part.Import names) (imports_part others) = names ≡ others
IsShown (part.Written p) (written w) = IsWritten p w
IsShown p r = ⊥

-- each part is the reading at its place
pub data AreShown : List PartReading → List Reading → Type 0 where
  none : AreShown [] []
  next : {p : PartReading} {r : Reading} {ps : List PartReading} {rs : List Reading} → IsShown p r → AreShown ps rs → AreShown (p ∷ ps) (r ∷ rs)
