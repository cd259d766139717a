-- The writes to a sink: the piece that each hands over, and what comes of it.
use Rattle.std.specs.Prelude.{ℕ, List, [], ◌∷◌, ◌++◌, take, Option, None, Some, unwrap_or, Result, Ok, Err}
use Rattle.pi_outside.specs.Taken.{Takes}
use Rattle.pi_outside.specs.Went.{Went}

-- a piece, and how many of its bytes were taken; none where the write failed
pub record SinkWrite : Type 0 where
  pub piece : List ℕ
  pub took : Option ℕ

-- the write of a piece that answered this
abbrev pub write_of : {E : Type 0} → List ℕ → Result ℕ E → SinkWrite
write_of piece (Ok count) = record { piece = piece; took = Some count }
write_of piece (Err e) = record { piece = piece; took = None }

-- what was taken in all
abbrev pub taken_by : List SinkWrite → List ℕ
taken_by [] = []
taken_by (write ∷ writes) = take (unwrap_or write.took 0) write.piece ++ taken_by writes

-- These writes, and no others, led a sink from one state to another: each did what `wrote` says of it. The bytes that they took
-- are those that the sink has taken in between, where it tells them. And this holds of the writes.
pub record ByWrites {S : Type 0} (wrote : S → SinkWrite → S → Type 0) (taken : S → Option (List ℕ)) (before after : S) (P : List SinkWrite → Type 0) : Type 0 where
  pub writes : List SinkWrite
  pub went : Went wrote before writes after
  pub takes : Takes (taken before) (taken_by writes) (taken after)
  pub holds : P writes
