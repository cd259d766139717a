-- How a reader finds what comes next in its input: each read is made only where there is no whole line yet and more may be read.
use Rattle.std.specs.Prelude.{◌≡◌, ◌<◌, ℕ, true, List, [], ◌∷◌, ◌++◌, length, take, Option, None, Some, Result, Ok, Err}
use Rattle.pi_outside.specs.Given.{IsSpent}
use Rattle.pi_outside.specs.Inputs.{SourceRead}
use Rattle.pi_outside.specs.Lines.{first_line}
use Rattle.pi_outside.specs.Ahead.{Ahead, with_piece, WantsMore}
use Rattle.pi_outside.specs.declared.found.Found.{Found}
use Rattle.pi_outside.specs.declared.found.Found.TheVariants.{Line, Last, TooLong}
use Rattle.pi_outside.specs.declared.found.LineStop.{LineStop}
use Rattle.pi_outside.specs.declared.found.LineStop.TheVariants.{Fault, Memory}

-- a read with room for so many bytes that gave these, or failed
abbrev pub read_of : ℕ → Option (List ℕ) → SourceRead
read_of room gave = record { room = room; gave = gave }

-- these reads, each of which gave some bytes, led from one place to another
pub data ReadsOn (start : Ahead) : Ahead → List SourceRead → Type 0 where
  nothing : ReadsOn start start []
  piece : (at : Ahead) (bytes : List ℕ) (room : ℕ) (reads : List SourceRead) → WantsMore at → 0 < length bytes → ReadsOn start at reads →
      ReadsOn start (with_piece bytes at) (reads ++ read_of room (Some bytes) ∷ [])

-- by these reads this line was found, and then the reader stands here
pub record FindsLine (start : Ahead) (reads : List SourceRead) (line : List ℕ) (after : Ahead) : Type 0 where
  pub at : Ahead
  pub on : ReadsOn start at reads
  pub rest : List ℕ
  pub is_first : first_line at.bytes ≡ Some (record { line = line; rest = rest })
  pub after_is : after ≡ record at { bytes = rest }

-- the last of these reads met the end of the input, before which these bytes stand, without a line feed
pub record MeetsEnd (start : Ahead) (reads : List SourceRead) (line : List ℕ) : Type 0 where
  pub at : Ahead
  pub earlier : List SourceRead
  pub on : ReadsOn start at earlier
  pub wants : WantsMore at
  pub room : ℕ
  pub some : 0 < room
  pub all : reads ≡ earlier ++ read_of room (Some []) ∷ []
  pub line_is : line ≡ at.bytes

-- the input has more bytes than may be read, and there is no line feed among those that may and stand ahead
pub record PassesLimit (start : Ahead) (reads : List SourceRead) : Type 0 where
  pub at : Ahead
  pub on : ReadsOn start at reads
  pub no_line : first_line at.bytes ≡ None
  pub over : at.is_over ≡ true

-- the last of these reads failed
pub record FailsReading (start : Ahead) (reads : List SourceRead) : Type 0 where
  pub at : Ahead
  pub earlier : List SourceRead
  pub on : ReadsOn start at earlier
  pub wants : WantsMore at
  pub room : ℕ
  pub all : reads ≡ earlier ++ read_of room None ∷ []

-- none of these reads failed or met the input's end, and nothing is said of when they stop
pub record StopsReading (start : Ahead) (reads : List SourceRead) : Type 0 where
  pub at : Ahead
  pub on : ReadsOn start at reads

-- the first bytes of a line, of which this holds, are kept
pub record OfLine (longest : ℕ) (kept : List ℕ) (P : List ℕ → Type 0) : Type 0 where
  pub line : List ℕ
  pub is_kept : kept ≡ take longest line
  pub holds : P line

-- by what the reader answers
abbrev pub ShowsFound : ℕ → Ahead → List SourceRead → Result Found LineStop → Ahead → Type 0
ShowsFound longest start reads (Ok (Line kept)) after = OfLine longest kept.items (λ line. FindsLine start reads line after)
ShowsFound longest start reads (Ok (Last kept)) after = OfLine longest kept.items (λ line. MeetsEnd start reads line)
ShowsFound longest start reads (Ok TooLong) after = PassesLimit start reads
ShowsFound longest start reads (Err Fault) after = FailsReading start reads
ShowsFound longest start reads (Err Memory) after = StopsReading start reads

-- at the input's end nothing is left to be given, where that is told
abbrev pub MeetsTheEnd : Option (List ℕ) → Found → Type 0
MeetsTheEnd rest (Last kept) = IsSpent rest
MeetsTheEnd rest (Line kept) = Unit {0}
MeetsTheEnd rest TooLong = Unit {0}
