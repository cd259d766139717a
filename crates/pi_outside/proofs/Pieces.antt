-- What a reader does to the piece that it holds.
use Rattle.std.proofs.Common.{◌≡◌, ◌<◌, ◌≤◌, ℕ, zero, suc, ◌+◌, ◌-◌, min, Bool, true, false, List, [], ◌∷◌, ◌++◌, length, take, drop, refl, sym, ◌∙◌, ap, arith, length-take-le}
use Rattle.std.specs.Prelude.{nat_lt, if◌then◌else◌, Some}
use Rattle.std.proofs.lemmas.Bool.Decides.{nat_tests}
use Rattle.std.proofs.lemmas.List.{take_all}
use Rattle.std.proofs.Math.Seq.{take-append_seam}
use Rattle.pi_outside.specs.Lines.{line_len}
use Rattle.pi_outside.specs.Ahead.{Ahead}
use Rattle.pi_outside.specs.Finding.{read_of}
use Rattle.pi_outside.specs.Steps.{Moves, ReadsPiece}
use Rattle.pi_outside.proofs.LineLemmas.{first_line-some, first_line-none}

drop-all : (n : ℕ) (xs : List ℕ) → length xs ≤ n → drop n xs ≡ []
drop-all zero [] within = refl
drop-all zero (x ∷ xs) within = absurd (omega (arith, within))
drop-all (suc n) [] within = refl
drop-all (suc n) (x ∷ xs) within = drop-all n xs (omega (arith, within))

-- the line at the front of some bytes goes behind what is kept of it
pub moves-front : (longest : ℕ) (before : Ahead) (kept now : List ℕ) (count : ℕ) (whole : Bool) (rest : List ℕ) → count ≡ line_len before.bytes → count ≤ length before.bytes → now ≡ take longest (kept ++ take count before.bytes) →
    whole ≡ nat_lt count (length before.bytes) → rest ≡ drop (count + (if whole then 1 else 0)) before.bytes → Moves longest before kept whole (record before { bytes = rest }) now
moves-front longest before kept now count true rest is within now_is test rest_is =
    let less : count < length before.bytes = grind (arith, nat_tests) in
    let front : line_len before.bytes < length before.bytes = omega (arith, is, less) in
    record {
      line = take (line_len before.bytes) before.bytes;
      rest = drop (line_len before.bytes + 1) before.bytes;
      is_first = first_line-some before.bytes front;
      after_is = ap (λ l. record before { bytes = l }) (rest_is ∙ ap (λ n. drop (n + 1) before.bytes) is);
      kept_now = now_is ∙ ap (λ n. take longest (kept ++ take n before.bytes)) is;
    }
moves-front longest before kept now count false rest is within now_is test rest_is =
    let all : length before.bytes ≡ count = grind (arith, nat_tests) in
    let end : length before.bytes ≤ count + 0 = omega (arith, all) in
    record {
      no_line = first_line-none before.bytes (all ∙ is);
      after_is = ap (λ l. record before { bytes = l }) (rest_is ∙ drop-all (count + 0) before.bytes end);
      kept_now = now_is ∙ ap (λ l. take longest (kept ++ l)) (take_all count before.bytes (omega (arith, all)));
    }

take-take : (m n : ℕ) (xs : List ℕ) → take m (take n xs) ≡ take (min n m) xs
take-take zero n xs = (let e : min n 0 ≡ 0 = omega arith in ap (λ k. take k xs) (sym e))
take-take (suc m) zero xs = (let e : min 0 (suc m) ≡ 0 = omega arith in ap (λ k. take k xs) (sym e))
take-take (suc m) (suc n) [] = (let e : min (suc n) (suc m) ≡ suc (min n m) = omega arith in ap (λ k. take k (let l : List ℕ = [] in l)) (sym e))
take-take (suc m) (suc n) (x ∷ xs) = (let e : min (suc n) (suc m) ≡ suc (min n m) = omega arith in ap (λ l. x ∷ l) (take-take m n xs) ∙ ap (λ k. take k (x ∷ xs)) (sym e))

-- what a read leaves of a piece whose whole length it may fill
pub kept-items : (size : ℕ) (into behind : List ℕ) → size ≡ length into → take size (into ++ behind) ≡ into
kept-items size into behind is = ap (λ n. take n (into ++ behind)) is ∙ take-append_seam into behind

-- a piece was read to the front of what there is room for
pub reads-piece : (before after : Ahead) (room count : ℕ) (bytes : List ℕ) → before.is_over ≡ false → before.bytes ≡ [] → 0 < count → count ≤ length bytes →
    after ≡ record { bytes = take (min count before.left) bytes; left = before.left - count; is_over = nat_lt before.left count } → ReadsPiece before (read_of room (Some (take count bytes)) ∷ []) after
reads-piece before after room count bytes may empty some within is =
    let size : length (take count bytes) ≡ count = length-take-le count bytes within in
    record {
      may_read = may;
      room = room;
      bytes = take count bytes;
      some = omega (arith, some, size);
      is = refl;
      after_is = is ∙ rw (empty, size, take-take) refl;
    }
