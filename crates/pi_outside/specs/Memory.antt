-- What the objects in memory are seen as.
use Rattle.std.specs.Prelude.{◌≡◌, ℕ, ◌+◌, ◌≤◌, min, Bool, ◌||◌, List, ◌++◌, length, take, drop, Vec, vec_len, vec_capacity, nat_lt, Option, None, Some, IsSome, if◌then◌else◌}
use Rattle.std.specs.declared.alloc.Global.{Global}
use Rattle.pi_outside.specs.Calls.{Calls, passed, failed}
use Rattle.pi_outside.specs.Inputs.{SourceRead}
use Rattle.pi_outside.specs.Writes.{SinkWrite}

-- a sink that takes up to `room` bytes
pub record SinkOfRoom : Type 0 where
  pub taken : List ℕ
  pub room : ℕ
  pub calls : Calls

-- such a sink after a write, by what came of it: the whole piece was taken, or nothing
abbrev pub after_write : SinkOfRoom → List ℕ → Option ℕ → SinkOfRoom
after_write sink piece (Some count) = record sink { taken = sink.taken ++ piece; calls = passed sink.calls }
after_write sink piece None = record sink { calls = failed sink.calls }

-- what a write makes of it
abbrev pub memory_wrote : SinkOfRoom → SinkWrite → SinkOfRoom → Type 0
memory_wrote before write after = after ≡ after_write before write.piece write.took

-- a sink that keeps the first `room` bytes of all that it takes, and whether those are more
pub record SinkOfFirst : Type 0 where
  pub kept : List ℕ
  pub room : ℕ
  pub is_over : Bool

-- the sink after one more piece
abbrev pub after_piece : SinkOfFirst → List ℕ → SinkOfFirst
after_piece sink piece = record sink {
  kept = take sink.room (sink.kept ++ piece);
  is_over = sink.is_over || nat_lt sink.room (length sink.kept + length piece);
}

-- what a write makes of it: each is taken whole
abbrev pub sure_wrote : SinkOfFirst → SinkWrite → SinkOfFirst → Type 0
sure_wrote before write after = (write.took ≡ Some (length write.piece)) × (after ≡ after_piece before write.piece)

-- what it has taken, told while that is at most `room` bytes
abbrev pub told_bytes : SinkOfFirst → Option (List ℕ)
told_bytes sink = if sink.is_over then None else Some sink.kept

-- The sink has taken these bytes: it keeps the first `room` of them, knows whether they are more, and tells them
-- exactly while they aren't.
pub record HasTaken (all : List ℕ) (sink : SinkOfFirst) : Type 0 where
  pub kept : sink.kept ≡ take sink.room all
  pub over : sink.is_over ≡ nat_lt sink.room (length all)
  pub told : told_bytes sink ≡ (if nat_lt sink.room (length all) then None else Some all)

-- the buffer keeps to its room, which is reserved
pub record IsReserved (kept : Vec ℕ Global) (room : ℕ) : Type 0 where
  pub within : vec_len kept ≤ room
  pub reserved : room ≤ vec_capacity kept

-- bytes that are given in turn, at most `most` of them at once
pub record Supply : Type 0 where
  pub given : List ℕ
  pub rest : List ℕ
  pub most : ℕ

-- how many bytes are given next to one who has room for so many
abbrev pub next_count : Supply → ℕ → ℕ
next_count supply room = min supply.most (min (length supply.rest) room)

-- the supply after its next bytes, so many, were given
abbrev pub after_giving : Supply → ℕ → Supply
after_giving supply count = record supply {
  given = supply.given ++ take count supply.rest;
  rest = drop count supply.rest;
}

-- a source whose calls may be made to fail
pub record SourceOfCalls : Type 0 where
  pub supply : Supply
  pub calls : Calls

-- what a read makes of a supply: none fails
abbrev pub supply_has_read : Supply → SourceRead → Supply → Type 0
supply_has_read before read after = IsSome read.gave × (after ≡ after_giving before (next_count before read.room))

-- such a source after a read into so much room, by what came of it: its next bytes were given, or nothing
abbrev pub after_read : SourceOfCalls → ℕ → Option (List ℕ) → SourceOfCalls
after_read source room (Some bytes) = record { supply = after_giving source.supply (next_count source.supply room); calls = passed source.calls }
after_read source room None = record source { calls = failed source.calls }

-- what a read makes of it
abbrev pub source_has_read : SourceOfCalls → SourceRead → SourceOfCalls → Type 0
source_has_read before read after = after ≡ after_read before read.room read.gave
