-- The reads of files: of which file, from where, and what each gives.
use Rattle.std.specs.Prelude.{ℕ, List, take, Option, None, Some, Result, Ok, Err}
use Rattle.pi_outside.specs.Went.{Went}

-- a file's name, the byte from which on it is read, room for so many bytes, and the bytes that it gave; none where the read failed
pub record FileRead : Type 0 where
  pub name : List ℕ
  pub from : ℕ
  pub room : ℕ
  pub gave : Option (List ℕ)

-- the bytes that a read gave, which answered this and left this in the place into which it read
abbrev pub given_by : {E : Type 0} → Result ℕ E → List ℕ → Option (List ℕ)
given_by (Ok count) into = Some (take count into)
given_by (Err e) into = None

-- These reads, and no others, led files from one state to another: each did what `has_read` says of it. And this holds of them.
pub record ByReads {S : Type 0} (has_read : S → FileRead → S → Type 0) (before after : S) (P : List FileRead → Type 0) : Type 0 where
  pub reads : List FileRead
  pub went : Went has_read before reads after
  pub holds : P reads
