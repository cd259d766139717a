-- The front of a list.
use Rattle.std.specs.Prelude.{◌≡◌, List, ◌++◌}

-- a list begins with another one, and goes on with the rest
pub record IsPrefix {T : Type 0} (front whole : List T) : Type 0 where
  pub rest : List T
  pub whole_is : whole ≡ front ++ rest
