-- The alternative that follows another one.
use Rattle.std.specs.Prelude.{◌≡◌, ℕ, ◌+◌, List, Option, Some, None, slice_get}
use Rattle.pi_settling.specs.Choices.{Alternative}

-- the first of all where none was tried; else the one behind it, or none
abbrev pub Follows : List Alternative → Option Alternative → Option Alternative → Type 0
Follows all None found = found ≡ slice_get all 0
Follows all (Some a) found = (k : ℕ) → slice_get all k ≡ Some a → found ≡ slice_get all (k + 1)
