-- A file that is read from its start on: each read is of this file, and from where the one before it ended.
use Rattle.std.specs.Prelude.{◌≡◌, ◌<◌, ◌≤◌, ℕ, List, [], ◌∷◌, ◌++◌, length, Option, None, Some, Result, Ok, Err, Vec}
use Rattle.std.specs.declared.alloc.Global.{Global}
use Rattle.pi_outside.specs.Reads.{FileRead}
use Rattle.pi_top.specs.declared.files.FileStop.{FileStop}
use Rattle.pi_top.specs.declared.files.FileStop.TheVariants.{Fault, Memory}
use Rattle.pi_top.specs.Texts.{most_bytes}

-- the next read of a file of which so much was read: from there on, with room, and it gave these bytes or failed
abbrev pub next_read : List ℕ → List ℕ → ℕ → Option (List ℕ) → FileRead
next_read name text room gave = record { name = name; from = length text; room = room; gave = gave }

-- So much of a file was read by these reads: each gave some bytes, and none was made behind more than a text may have.
pub data ReadsOn (name : List ℕ) : List ℕ → List FileRead → Type 0 where
  nothing : ReadsOn name [] []
  piece : (text bytes : List ℕ) (room : ℕ) (reads : List FileRead) → length text ≤ most_bytes → 0 < length bytes → ReadsOn name text reads →
      ReadsOn name (text ++ bytes) (reads ++ next_read name text room (Some bytes) ∷ [])

-- this text was read of a file: to its end, which the last read met, or until it was more than a text may have
pub data ReadsText (name text : List ℕ) (reads : List FileRead) : Type 0 where
  to_its_end : (earlier : List FileRead) (room : ℕ) → 0 < room → ReadsOn name text earlier → reads ≡ earlier ++ next_read name text room (Some []) ∷ [] → ReadsText name text reads
  too_long : most_bytes < length text → ReadsOn name text reads → ReadsText name text reads

-- the last of these reads of a file failed
pub record FailsReading (name : List ℕ) (reads : List FileRead) : Type 0 where
  pub text : List ℕ
  pub earlier : List FileRead
  pub read : ReadsOn name text earlier
  pub room : ℕ
  pub all : reads ≡ earlier ++ next_read name text room None ∷ []

-- none of these reads of a file failed or met its end, and nothing is said of when they stop
pub record StopsReading (name : List ℕ) (reads : List FileRead) : Type 0 where
  pub text : List ℕ
  pub read : ReadsOn name text reads

-- by what the reading of a file answered
abbrev pub ReadsFile : List ℕ → Result (Vec ℕ Global) FileStop → List FileRead → Type 0
ReadsFile name (Ok text) reads = ReadsText name text.items reads
ReadsFile name (Err Fault) reads = FailsReading name reads
ReadsFile name (Err Memory) reads = StopsReading name reads
