-- What each part of a program's tokens is, by itself: too deep, no clause, or a declaration and a clause.
use Rattle.std.specs.Prelude.{◌≡◌, ◌≢◌, ◌<◌, ◌⊎◌, ℕ, true, false, List, [], ◌∷◌, Option, Some, None}
use Rattle.pi_syntax.specs.Crowding.{IsCrowded, most_levels}
use Rattle.pi_syntax.specs.ExpTree.{levels}
use Rattle.pi_syntax.specs.Tokens.{Token, Var}
use Rattle.pi_syntax.specs.declared.program.Mode.{Mode}
use Rattle.pi_prog_clauses.specs.Declaration.{Opening, undeclared, importing, indexing, misdeclared, Opens}
use Rattle.pi_prog_clauses.specs.Shape.{Shape, bare, ruled, HasShape}
use Rattle.pi_prog_clauses.specs.Stretch.{Stretch}

-- a clause with the mode lists of the `index` before it, and the names of the part's variables
pub record WrittenPart : Type 0 where
  pub modes : Option (List (List Mode))
  pub shape : Shape
  pub names : List (List ℕ)

pub data Reading : Type 0 where
  too_deep : Reading
  -- its form up to its clause is none
  misdeclared_part : Reading
  -- it is no clause
  no_clause : Reading
  imports_part : List (List ℕ) → Reading
  written : WrittenPart → Reading

-- names of variables, as often as they stand there
abbrev pub variable_names : List Token → List (List ℕ)
variable_names [] = []
variable_names (Var name ∷ ts) = name ∷ variable_names ts
variable_names (t ∷ ts) = variable_names ts

-- an expression of the shape has more than 1,000 levels
abbrev pub IsDeepShape : Shape → Type 0
IsDeepShape (bare e) = most_levels < levels e
IsDeepShape (ruled l back r) = (most_levels < levels l) ⊎ (most_levels < levels r)

abbrev pub HasNoShape : List Token → Type 0
HasNoShape ts = (s : Shape) → ¬ HasShape ts s

-- the tokens of a clause behind how its part begins, with the mode lists
pub data ClauseOf : List Token → Opening → Option (List (List Mode)) → List Token → Type 0 where
  whole : {ts : List Token} → ClauseOf ts undeclared None ts
  behind_index : {ts rest : List Token} {mss : List (List Mode)} → ClauseOf ts (indexing mss rest) (Some mss) rest

pub data Reads : Stretch → Reading → Type 0 where
  crowded : {s : Stretch} → IsCrowded s.tokens → Reads s too_deep
  no_declaration : {s : Stretch} → ¬ IsCrowded s.tokens → Opens s.tokens misdeclared → Reads s misdeclared_part
  -- no end point stands behind it
  not_ended : {s : Stretch} {o : Opening} → ¬ IsCrowded s.tokens → Opens s.tokens o → o ≢ misdeclared → s.ended ≡ false → Reads s no_clause
  an_import : {s : Stretch} {names : List (List ℕ)} → ¬ IsCrowded s.tokens → Opens s.tokens (importing names) → s.ended ≡ true → Reads s (imports_part names)
  without_form : {s : Stretch} {o : Opening} {modes : Option (List (List Mode))} {ts : List Token} → ¬ IsCrowded s.tokens → Opens s.tokens o
      → ClauseOf s.tokens o modes ts → s.ended ≡ true → HasNoShape ts → Reads s no_clause
  too_many_levels : {s : Stretch} {o : Opening} {modes : Option (List (List Mode))} {ts : List Token} {shape : Shape} → ¬ IsCrowded s.tokens → Opens s.tokens o
      → ClauseOf s.tokens o modes ts → s.ended ≡ true → HasShape ts shape → IsDeepShape shape → Reads s too_deep
  a_clause : {s : Stretch} {o : Opening} {modes : Option (List (List Mode))} {ts : List Token} {shape : Shape} → ¬ IsCrowded s.tokens → Opens s.tokens o
      → ClauseOf s.tokens o modes ts → s.ended ≡ true → HasShape ts shape → ¬ IsDeepShape shape
      → Reads s (written (record { modes = modes; shape = shape; names = variable_names s.tokens }))

-- the parts, each by itself, in order
pub data ReadAll : List Stretch → List Reading → Type 0 where
  none : ReadAll [] []
  next : {s : Stretch} {r : Reading} {ss : List Stretch} {rs : List Reading} → Reads s r → ReadAll ss rs → ReadAll (s ∷ ss) (r ∷ rs)
