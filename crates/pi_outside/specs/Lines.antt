-- The lines of a text of bytes: each ends at a line feed, or at the end of the text.
use Rattle.std.specs.Prelude.{ℕ, not, ◌==◌, List, [], ◌∷◌, Option, None, Some, if◌then◌else◌}
use Rattle.std.specs.List.{prefix_len}
use Rattle.std.specs.Option.{option_map}

abbrev pub line_feed : ℕ
line_feed = 10

-- a line, without its line feed, and what stands behind that
pub record Split : Type 0 where
  pub line : List ℕ
  pub rest : List ℕ

-- how many bytes stand before the first line feed, or at all where there is none
abbrev pub line_len : List ℕ → ℕ
line_len bytes = prefix_len (λ byte. not (byte == line_feed)) bytes

-- one byte more at the front of the line
abbrev pub in_front : ℕ → Split → Split
in_front byte split = record split { line = byte ∷ split.line }

-- the first line of a text that has a line feed
abbrev pub first_line : List ℕ → Option Split
first_line [] = None
first_line (byte ∷ bytes) = if byte == line_feed then Some (record { line = []; rest = bytes }) else option_map (in_front byte) (first_line bytes)

-- one byte more at the front of the first of these lines
abbrev pub joined : ℕ → List (List ℕ) → List (List ℕ)
joined byte [] = (byte ∷ []) ∷ []
joined byte (line ∷ lines) = (byte ∷ line) ∷ lines

-- all lines of a text; the last one is what stands behind its last line feed, which may be nothing
abbrev pub lines_of : List ℕ → List (List ℕ)
lines_of [] = [] ∷ []
lines_of (byte ∷ bytes) = if byte == line_feed then [] ∷ lines_of bytes else joined byte (lines_of bytes)
