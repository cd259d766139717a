-- The parts of a program's tokens: each ended by the end point; what stands behind the last end point is a part that none ends.
-- (A User's Guide to Picat, 'Predicates and Functions'.)
use Rattle.std.specs.Prelude.{Bool, true, false, List, [], ◌∷◌, ◌++◌}
use Rattle.pi_syntax.specs.Tokens.{Token, End}

-- the tokens of a part, and whether an end point stands behind them
pub record Stretch : Type 0 where
  pub tokens : List Token
  pub ended : Bool

abbrev pub stretch : List Token → Bool → Stretch
stretch tokens ended = record { tokens = tokens; ended = ended }

-- where these tokens stand behind the end point before: the parts from there on
unfoldable pub stretches_behind : List Token → List Token → List Stretch
stretches_behind [] [] = []
stretches_behind (b ∷ bs) [] = stretch (b ∷ bs) false ∷ []
stretches_behind before (End ∷ ts) = stretch before true ∷ stretches_behind [] ts
stretches_behind before (t ∷ ts) = stretches_behind (before ++ t ∷ []) ts

abbrev pub stretches : List Token → List Stretch
stretches tokens = stretches_behind [] tokens

-- a goal's tokens, whose last end point may be left out
unfoldable pub without_end : List Token → List Token
without_end [] = []
without_end (End ∷ []) = []
without_end (t ∷ ts) = t ∷ without_end ts
