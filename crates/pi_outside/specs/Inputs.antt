-- The reads of a source: the room of each, and what it gives.
use Rattle.std.specs.Prelude.{ℕ, List, [], ◌∷◌, ◌++◌, Option, unwrap_or}
use Rattle.pi_outside.specs.Given.{Gives}
use Rattle.pi_outside.specs.Went.{Went}

-- room for so many bytes, and the bytes that were given; none where the read failed
pub record SourceRead : Type 0 where
  pub room : ℕ
  pub gave : Option (List ℕ)

-- what was given in all
abbrev pub given_in : List SourceRead → List ℕ
given_in [] = []
given_in (read ∷ reads) = unwrap_or read.gave [] ++ given_in reads

-- These reads, and no others, led a source from one state to another: each did what `has_read` says of it. The bytes that they gave
-- are those that the source has given in between, where it tells them. And this holds of the reads.
pub record ByInput {S : Type 0} (has_read : S → SourceRead → S → Type 0) (rest : S → Option (List ℕ)) (before after : S) (P : List SourceRead → Type 0) : Type 0 where
  pub reads : List SourceRead
  pub went : Went has_read before reads after
  pub gives : Gives (rest before) (given_in reads) (rest after)
  pub holds : P reads
