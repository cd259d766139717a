-- The parts before a place, as they are read one after the other.
use Rattle.std.specs.Prelude.{◌≡◌, ◌≤◌, ℕ, List, [], ◌∷◌, ◌++◌, drop}
use Rattle.pi_syntax.specs.Tokens.{Token}
use Rattle.pi_expr.specs.Faults as faults
use Rattle.pi_prog.specs.Pieces.{ShowsPart}
use Rattle.pi_prog_clauses.specs.Stretch.{Stretch, stretches, stretches_behind}
use Rattle.pi_prog_clauses.specs.declared.parts.PartReading.{PartReading}

-- each part is shown by the reading at its place
pub data Parts : List Stretch → List PartReading → Type 0 where
  none : Parts [] []
  next : {s : Stretch} {p : PartReading} {ss : List Stretch} {ps : List PartReading} → ShowsPart s p → Parts ss ps → Parts (s ∷ ss) (p ∷ ps)

-- the parts that end before a place are read, and the next begins at an earlier one
pub record SoFar (ts : List Token) (ps : List PartReading) (from at : ℕ) : Type 0 where
  pub before : List Stretch
  pub parts : Parts before ps
  pub rest : stretches ts ≡ before ++ stretches_behind (faults.stretch ts from at) (drop at ts)
  pub ordered : from ≤ at
