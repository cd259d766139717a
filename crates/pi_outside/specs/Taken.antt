-- What a sink has taken, where that is told.
use Rattle.std.specs.Prelude.{◌≡◌, ℕ, List, ◌++◌, Option, Some}

-- Over a call, or over many: where the sink tells at the end what it has taken, it told so at the start too,
-- and has taken the piece since. So telling may end, and never begins again.
pub record Takes (before : Option (List ℕ)) (piece : List ℕ) (after : Option (List ℕ)) : Type 0 where
  pub told : (all : List ℕ) → after ≡ Some all → (earlier : List ℕ) × (before ≡ Some earlier) × (all ≡ earlier ++ piece)
