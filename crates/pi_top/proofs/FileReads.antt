-- A file that is read piece by piece.
use Rattle.std.proofs.Common.{◌≡◌, ◌<◌, ◌≤◌, ℕ, ◌+◌, List, [], ◌∷◌, ◌++◌, length, Option, None, Some, inl, inr, refl, sym, subst, arith}
use Rattle.std.specs.Prelude.{IsSome, unwrap_or}
use Rattle.pi_outside.specs.Held.{Holding, bytes_of, Keeps, IsThere, HasPiece, EndsBy}
use Rattle.pi_outside.specs.Reads.{FileRead}
use Rattle.pi_outside.proofs.Held.{HasPiece-keeps, HasPiece-then, HasPiece-all}
use Rattle.pi_top.specs.Prefix.{IsPrefix}
use Rattle.pi_top.specs.Reading.{ReadsOn, piece as piece_read, ReadsText, to_its_end, FailsReading}
use Rattle.pi_top.specs.Texts.{most_bytes, IsRead}
use Rattle.pi_top.proofs.Fronts.{prefix-take}

there-is : (file : Option (List ℕ)) → IsSome file → file ≡ Some (unwrap_or file [])
there-is None is = absurd (cc)
there-is (Some bytes) is = refl

-- read to its end
pub whole-read : (held : Option Holding) (name piece : List ℕ) (at : ℕ) → at ≡ length piece → HasPiece held name 0 piece → EndsBy held name at → IsThere held name → IsRead held name piece
whole-read held name piece at is has ends there = record {
  told = λ files told. (piece, HasPiece-all has (rw is at ends) there files told, inl refl);
}

-- read until there are more bytes than a text may have
pub long-read : (held : Option Holding) (name piece : List ℕ) → most_bytes < length piece → HasPiece held name 0 piece → IsThere held name → IsRead held name piece
long-read held name piece long has there = record {
  told = λ files told.
      let bytes : List ℕ = bytes_of files name in
      let front : IsPrefix piece bytes = subst (λ p. IsPrefix p bytes) (sym (has.told files told)) (prefix-take (length piece) bytes) in
      (bytes, there-is (files name) (there.told files told), inr (long, front));
}

-- one piece more
pub more-read : (before after : Option Holding) (name piece more : List ℕ) (at : ℕ) → at ≡ length piece → HasPiece before name 0 piece → Keeps before after → HasPiece after name at more →
    HasPiece after name 0 (piece ++ more)
more-read before after name piece more at is has keeps second =
    let place : at ≡ 0 + length piece = omega (arith, is) in
    HasPiece-then (HasPiece-keeps has keeps) (rw place at second)

-- ---- its reads

-- a read from a place, with room, that gave these bytes or failed
abbrev pub read_at : List ℕ → ℕ → ℕ → Option (List ℕ) → FileRead
read_at name at room gave = record { name = name; from = at; room = room; gave = gave }

-- one read more gave some bytes
pub reads-more : (name text bytes : List ℕ) (at room : ℕ) (reads : List FileRead) → at ≡ length text → length text ≤ most_bytes → 0 < length bytes → ReadsOn name text reads →
    ReadsOn name (text ++ bytes) (reads ++ read_at name at room (Some bytes) ∷ [])
reads-more name text bytes at room reads is within some so_far = rw is (piece_read text bytes room reads within some so_far)

-- one met the end
pub reads-end : (name text : List ℕ) (at room : ℕ) (reads : List FileRead) → at ≡ length text → 0 < room → ReadsOn name text reads →
    ReadsText name text (reads ++ read_at name at room (Some []) ∷ [])
reads-end name text at room reads is some so_far = to_its_end reads room some so_far (rw is refl)

-- one failed
pub reads-fail : (name text : List ℕ) (at room : ℕ) (reads : List FileRead) → at ≡ length text → ReadsOn name text reads → FailsReading name (reads ++ read_at name at room None ∷ [])
reads-fail name text at room reads is so_far = record { text = text; earlier = reads; read = so_far; room = room; all = rw is refl }
