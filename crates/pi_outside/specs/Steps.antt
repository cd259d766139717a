-- The steps of a reader: what is at hand goes to a line, and more is read.
use Rattle.std.specs.Prelude.{◌≡◌, ◌<◌, ℕ, Bool, true, false, List, [], ◌∷◌, ◌++◌, length, take, Option, None, Some, Result, Ok, Err}
use Rattle.pi_outside.specs.Given.{IsSpent}
use Rattle.pi_outside.specs.Inputs.{SourceRead}
use Rattle.pi_outside.specs.Lines.{first_line}
use Rattle.pi_outside.specs.Ahead.{Ahead, with_piece}
use Rattle.pi_outside.specs.Finding.{read_of}
use Rattle.pi_outside.specs.declared.reader.Refill.{Refill}
use Rattle.pi_outside.specs.declared.reader.Refill.TheVariants.{More, End, Over}

-- the first line at hand went behind what was kept of it
pub record MovesLine (longest : ℕ) (before : Ahead) (kept : List ℕ) (after : Ahead) (now : List ℕ) : Type 0 where
  pub line : List ℕ
  pub rest : List ℕ
  pub is_first : first_line before.bytes ≡ Some (record { line = line; rest = rest })
  pub after_is : after ≡ record before { bytes = rest }
  pub kept_now : now ≡ take longest (kept ++ line)

-- all that is at hand, where there is no line feed
pub record MovesAll (longest : ℕ) (before : Ahead) (kept : List ℕ) (after : Ahead) (now : List ℕ) : Type 0 where
  pub no_line : first_line before.bytes ≡ None
  pub after_is : after ≡ record before { bytes = [] }
  pub kept_now : now ≡ take longest (kept ++ before.bytes)

-- by whether there is one
abbrev pub Moves : ℕ → Ahead → List ℕ → Bool → Ahead → List ℕ → Type 0
Moves longest before kept true after now = MovesLine longest before kept after now
Moves longest before kept false after now = MovesAll longest before kept after now

-- one read gave some bytes
pub record ReadsPiece (before : Ahead) (reads : List SourceRead) (after : Ahead) : Type 0 where
  pub may_read : before.is_over ≡ false
  pub room : ℕ
  pub bytes : List ℕ
  pub some : 0 < length bytes
  pub is : reads ≡ read_of room (Some bytes) ∷ []
  pub after_is : after ≡ with_piece bytes before

-- one read met the end
pub record ReadsEnd (before : Ahead) (reads : List SourceRead) : Type 0 where
  pub may_read : before.is_over ≡ false
  pub room : ℕ
  pub some : 0 < room
  pub is : reads ≡ read_of room (Some []) ∷ []

-- none was made
pub record ReadsNothing (before : Ahead) (reads : List SourceRead) : Type 0 where
  pub over : before.is_over ≡ true
  pub is : reads ≡ []

-- one failed
pub record ReadFails (before : Ahead) (reads : List SourceRead) : Type 0 where
  pub may_read : before.is_over ≡ false
  pub room : ℕ
  pub is : reads ≡ read_of room None ∷ []

abbrev pub Refills : {E : Type 0} → Ahead → List SourceRead → Result Refill E → Ahead → Type 0
Refills before reads (Ok More) after = ReadsPiece before reads after
Refills before reads (Ok End) after = ReadsEnd before reads
Refills before reads (Ok Over) after = ReadsNothing before reads
Refills before reads (Err e) after = ReadFails before reads

-- at the end nothing is left to be given, where that is told
abbrev pub EndsBy : Option (List ℕ) → Refill → Type 0
EndsBy rest More = Unit {0}
EndsBy rest End = IsSpent rest
EndsBy rest Over = Unit {0}
