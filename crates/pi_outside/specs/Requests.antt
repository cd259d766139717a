-- What the lines of a session ask.
use Rattle.std.specs.Prelude.{ℕ, ◌-◌, nat_lt, Bool, List, [], ◌∷◌, length, take, drop, map, if◌then◌else◌}
use lib.Chars.{codes}
use Rattle.std.specs.List.{prefix_len, suffix_len}
use Rattle.std.specs.Str.{bytes_eq}
use Rattle.pi_syntax.specs.Tokens as tokens
use Rattle.pi_outside.specs.Lines.{lines_of}

-- nothing, the next answer of the present query, more bytes than a line may have, or this goal
pub data Asked : Type 0 where
  nothing : Asked
  another : Asked
  too_long : Asked
  a_goal : List ℕ → Asked

-- the most bytes of a line, without its line feed
abbrev pub most_in_line : ℕ
most_in_line = 16777216

-- white space, which each is one byte
abbrev pub is_white : ℕ → Bool
is_white byte = tokens.is_white byte

abbrev pub white_len : List ℕ → ℕ
white_len text = prefix_len is_white text

abbrev pub white_len_behind : List ℕ → ℕ
white_len_behind text = suffix_len is_white text

-- a line without the white space around it
abbrev pub trimmed : List ℕ → List ℕ
trimmed line =
    let text : List ℕ = drop (white_len line) line in
    take (length text - white_len_behind text) text

abbrev pub asked_by : List ℕ → Asked
asked_by [] = nothing
asked_by (byte ∷ bytes) = if bytes_eq (byte ∷ bytes) (codes ";") then another else a_goal (byte ∷ bytes)

-- what a line asks, where so many bytes may stand in one
abbrev pub request_within : ℕ → List ℕ → Asked
request_within most line = if nat_lt most (length line) then too_long else asked_by (trimmed line)

abbrev pub request_of : List ℕ → Asked
request_of line = request_within most_in_line line

-- what the lines of a text ask, one after the other
abbrev pub requests : List ℕ → List Asked
requests text = map request_of (lines_of text)
