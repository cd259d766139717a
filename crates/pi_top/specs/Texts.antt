-- A program's text, as it was read.
use Rattle.std.specs.Prelude.{◌≡◌, ◌<◌, ◌⊎◌, ℕ, List, length, Option, Some}
use Rattle.pi_outside.specs.Held.{Holding}
use Rattle.pi_top.specs.Prefix.{IsPrefix}

-- the most bytes that a text may have
abbrev pub most_bytes : ℕ
most_bytes = 16777216

-- all bytes of a file, or more of them than a text may have
abbrev pub IsTextOf : List ℕ → List ℕ → Type 0
IsTextOf bytes text = (text ≡ bytes) ⊎ ((most_bytes < length text) × IsPrefix text bytes)

-- where the files are told, there is one of this name, and this was read of it
pub record IsRead (held : Option Holding) (name text : List ℕ) : Type 0 where
  pub told : (files : Holding) → held ≡ Some files → (bytes : List ℕ) × (files name ≡ Some bytes) × IsTextOf bytes text
