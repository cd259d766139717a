-- Where a reader of lines stands in its input.
use Rattle.std.specs.Prelude.{◌≡◌, ℕ, ◌+◌, ◌-◌, Bool, false, List, [], ◌++◌, length, take, None, nat_lt, if◌then◌else◌}
use Rattle.pi_outside.specs.Lines.{first_line}

-- the bytes that were read and that no line was made of, how many more may be read, and whether the input has more than those
pub record Ahead : Type 0 where
  pub bytes : List ℕ
  pub left : ℕ
  pub is_over : Bool

-- where nothing was read
abbrev pub at_start : ℕ → Ahead
at_start most = record { bytes = []; left = most; is_over = false }

-- where a piece more was read: what may be read of it stands behind the other bytes
abbrev pub with_piece : List ℕ → Ahead → Ahead
with_piece piece ahead = record { bytes = ahead.bytes ++ take ahead.left piece; left = ahead.left - length piece; is_over = nat_lt ahead.left (length piece) }

-- how many reads more may give something, at most
abbrev pub reads_left : Ahead → ℕ
reads_left ahead = if ahead.is_over then 0 else ahead.left + 1

-- there is no whole line, and more may be read
pub record WantsMore (ahead : Ahead) : Type 0 where
  pub no_line : first_line ahead.bytes ≡ None
  pub may_read : ahead.is_over ≡ false
