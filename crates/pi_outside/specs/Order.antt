-- Lines that are found one after the other, and the text that they are of.
use Rattle.std.specs.Prelude.{◌≡◌, ◌<◌, ◌≤◌, ℕ, List, [], ◌∷◌, ◌++◌, length, take}
use Rattle.pi_outside.specs.Inputs.{SourceRead, given_in}
use Rattle.pi_outside.specs.Lines.{lines_of}
use Rattle.pi_outside.specs.Ahead.{Ahead, at_start}
use Rattle.pi_outside.specs.Finding.{FindsLine, MeetsEnd, PassesLimit, FailsReading}

-- these lines were found by these reads, in an input of which so many bytes may be read, and then the reader stands here
pub data FoundSoFar (most : ℕ) : List (List ℕ) → List SourceRead → Ahead → Type 0 where
  at_first : FoundSoFar most [] [] (at_start most)
  one_more : (lines : List (List ℕ)) (line : List ℕ) (reads its : List SourceRead) (ahead after : Ahead) → FoundSoFar most lines reads ahead → FindsLine ahead its line after →
      FoundSoFar most (lines ++ line ∷ []) (reads ++ its) after

-- where the input's end is met they are all its lines but the last, and it has no more bytes than may be read
pub record AreItsLines (most : ℕ) (text : List ℕ) (lines : List (List ℕ)) (last : List ℕ) : Type 0 where
  pub within : length text ≤ most
  pub are : lines_of text ≡ lines ++ last ∷ []

abbrev pub EndsWithItsLines : Type 0
EndsWithItsLines = (most : ℕ) (lines : List (List ℕ)) (last : List ℕ) (reads its : List SourceRead) (ahead : Ahead) → FoundSoFar most lines reads ahead → MeetsEnd ahead its last →
    AreItsLines most (given_in (reads ++ its)) lines last

-- where there are more bytes they are the lines whose line feeds stand among those that may be read
pub record AreFirstLines (most : ℕ) (text : List ℕ) (lines : List (List ℕ)) : Type 0 where
  pub more : most < length text
  pub rest : List ℕ
  pub are : lines_of (take most text) ≡ lines ++ rest ∷ []

abbrev pub PassesWithFirstLines : Type 0
PassesWithFirstLines = (most : ℕ) (lines : List (List ℕ)) (reads its : List SourceRead) (ahead : Ahead) → FoundSoFar most lines reads ahead → PassesLimit ahead its →
    AreFirstLines most (given_in (reads ++ its)) lines

-- where a read fails they are the lines whose line feeds were given before it
pub record AreLinesSoFar (most : ℕ) (text : List ℕ) (lines : List (List ℕ)) : Type 0 where
  pub within : length text ≤ most
  pub rest : List ℕ
  pub are : lines_of text ≡ lines ++ rest ∷ []

abbrev pub FailsWithLinesSoFar : Type 0
FailsWithLinesSoFar = (most : ℕ) (lines : List (List ℕ)) (reads its : List SourceRead) (ahead : Ahead) → FoundSoFar most lines reads ahead → FailsReading ahead its →
    AreLinesSoFar most (given_in (reads ++ its)) lines
