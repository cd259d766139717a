-- Spans of a buffer.
use Rattle.std.specs.Prelude.{ℕ, ◌+◌, ◌-◌, ◌<◌, ◌≤◌, List, length, take, drop, slice_index}
use Rattle.std.specs.Str.{IsUtf8}
use Rattle.pi_lex.specs.declared.store.Span.{Span}

-- the bytes of a span
abbrev pub spanned : List ℕ → Span → List ℕ
spanned bytes span = take span.len (drop span.from bytes)

-- a span of whole characters
pub record IsSpan (bytes : List ℕ) (span : Span) : Type 0 where
  pub within : span.from + span.len ≤ length bytes
  pub starts : IsUtf8 (take span.from bytes)
  pub stops : IsUtf8 (take (span.from + span.len) bytes)

abbrev pub span : ℕ → ℕ → Span
span from len = record { from = from; len = len }

-- the span of the spelling in front of its count, which stands at this place
abbrev pub counted : List ℕ → ℕ → Span
counted bytes place = span (place - slice_index bytes place) (slice_index bytes place)

-- the bytes of that spelling
abbrev pub spelled_at : List ℕ → ℕ → List ℕ
spelled_at bytes place = spanned bytes (counted bytes place)

-- the byte at this place, read as a count, counts bytes of whole characters in front of it, whether or not it was pushed as one
pub record IsCounted (bytes : List ℕ) (place : ℕ) : Type 0 where
  pub within : place < length bytes
  pub fits : slice_index bytes place ≤ place
  pub spelled : IsSpan bytes (counted bytes place)
