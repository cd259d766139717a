-- The piece that a reader of lines holds.
use Rattle.std.specs.Prelude.{ℕ, ◌≤◌, ◌<◌, Vec, vec_len}
use Rattle.std.specs.declared.alloc.Global.{Global}

-- the bytes from one place of it to another are still ahead
pub record IsHeld (piece : Vec ℕ Global) (from to : ℕ) : Type 0 where
  pub in_order : from ≤ to
  pub within : to ≤ vec_len piece
  pub has_room : 0 < vec_len piece
