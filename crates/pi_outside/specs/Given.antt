-- What a source has still to give, where that is told.
use Rattle.std.specs.Prelude.{◌≡◌, ℕ, List, [], ◌++◌, Option, Some}

-- Over a call, or over many: where the source tells at the end what it has still to give, it told so at the
-- start too, and has given the piece since. So telling may end, and never begins again.
pub record Gives (before : Option (List ℕ)) (piece : List ℕ) (after : Option (List ℕ)) : Type 0 where
  pub told : (rest : List ℕ) → after ≡ Some rest → before ≡ Some (piece ++ rest)

-- nothing is left to give, where that is told
pub record IsSpent (after : Option (List ℕ)) : Type 0 where
  pub told : (rest : List ℕ) → after ≡ Some rest → rest ≡ []
