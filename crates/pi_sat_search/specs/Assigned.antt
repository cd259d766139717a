-- The values that an assignment gives. The definition is own.
use Rattle.std.specs.Prelude.{ℕ, nat_eq, if◌then◌else◌, List, [], ◌∷◌, ℤ, pos}

-- the value of a variable: the first that it has, and 0 where it has none
unfoldable pub assigned : List (ℕ × ℤ) → ℕ → ℤ
assigned [] n = pos 0
assigned (p ∷ ps) n = if nat_eq p.0 n then p.1 else assigned ps n
