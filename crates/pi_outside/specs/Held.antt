-- What files hold, where that is told.
use Rattle.std.specs.Prelude.{◌≡◌, ℕ, ◌≤◌, List, [], length, take, drop, Option, Some, IsSome, unwrap_or}

-- for each name the bytes of its file, or none where there is no such file
abbrev pub Holding : Type 0
Holding = List ℕ → Option (List ℕ)

-- the bytes of the file of this name, which are no bytes where there is no such file
abbrev pub bytes_of : Holding → List ℕ → List ℕ
bytes_of files name = unwrap_or (files name) []

-- Over a call, or over many: where the files are told at the end, they were told at the start too, and were the
-- same. So telling may end, and never begins again.
pub record Keeps (before after : Option Holding) : Type 0 where
  pub told : (files : Holding) → after ≡ Some files → before ≡ Some files

-- where the files are told, there is one of this name
pub record IsThere (held : Option Holding) (name : List ℕ) : Type 0 where
  pub told : (files : Holding) → held ≡ Some files → IsSome (files name)

-- where the files are told, the piece stands in the one of this name, from this place on
pub record HasPiece (held : Option Holding) (name : List ℕ) (at : ℕ) (piece : List ℕ) : Type 0 where
  pub told : (files : Holding) → held ≡ Some files → piece ≡ take (length piece) (drop at (bytes_of files name))

-- where the files are told, the one of this name ends at this place or before it
pub record EndsBy (held : Option Holding) (name : List ℕ) (at : ℕ) : Type 0 where
  pub told : (files : Holding) → held ≡ Some files → length (bytes_of files name) ≤ at
