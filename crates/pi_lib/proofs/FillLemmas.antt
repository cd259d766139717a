-- What the calls on a format's text, and the look-up of an argument, say.
use Rattle.std.proofs.Common.{◌≡◌, ℕ, zero, suc, ◌+◌, ◌<◌, ◌≤◌, List, [], ◌∷◌, ◌++◌, length, get_or, Some, None, refl, ap, sym, ◌∙◌, subst, arith}
use Rattle.std.specs.Prelude.{Option, MatchOption, IfSome, is_some, nat_lt, option_copied, slice_get}
use Rattle.std.proofs.lemmas.Bool.{ltb-true, ltb-false}
use Rattle.std.specs.Borrow.{Bor}
use Rattle.std.specs.Char.{encode_utf8}
use Rattle.std.proofs.lemmas.Str.Pattern.{IsSplitOnceResult, split_parts}
use Rattle.pi_constraints.specs.declared.store.Ref.{Ref}
use Rattle.pi_effects.specs.Format.{Piece}
use Rattle.pi_lib.specs.Signs.{letter_piece}
use Rattle.pi_lib.specs.Filling.{how_many}
use Rattle.pi_lib.proofs.PieceLemmas.{Behind, letter_behind, nothing_behind, NoPercent}

-- ---- what the calls of a text say

pub split_some : (bs : List ℕ) (r : Option (Bor (List ℕ) × Bor (List ℕ))) (x : Bor (List ℕ) × Bor (List ℕ)) (plain behind : Bor (List ℕ)) → IsSplitOnceResult 37 bs r → r ≡ Some x → plain ≡ x.0 → behind ≡ x.1 → (bs ≡ plain.now ++ 37 ∷ behind.now) × NoPercent plain.now
split_some bs None x plain behind h is first second = cc
split_some bs (Some y) x plain behind h is first second =
    let parts = split_parts 37 bs (Some y) h (omega arith) in
    let front : y.0 ≡ plain = let same : y ≡ x = cc in ap (λ (z : Bor (List ℕ) × Bor (List ℕ)). z.0) same ∙ sym first in
    let back : y.1 ≡ behind = let same : y ≡ x = cc in ap (λ (z : Bor (List ℕ) × Bor (List ℕ)). z.1) same ∙ sym second in
    (parts.0 ∙ (ap (λ (b : Bor (List ℕ)). b.now ++ 37 ∷ y.1.now) front ∙ ap (λ (b : Bor (List ℕ)). plain.now ++ 37 ∷ b.now) back), subst (λ (b : Bor (List ℕ)). NoPercent b.now) front parts.1)

pub split_none : (bs : List ℕ) (r : Option (Bor (List ℕ) × Bor (List ℕ))) → IsSplitOnceResult 37 bs r → r ≡ None → NoPercent bs
split_none bs None h is = split_parts 37 bs None h (omega arith)
split_none bs (Some y) h is = cc

pub sign_front : (xs ys : List ℕ) (Q : Type 0) (r : Option ℕ) (behind rest : List ℕ) (p : Piece) → MatchOption r ((length xs ≡ 0) × Q) (λ c. xs ≡ encode_utf8 c ++ ys) → xs ≡ behind → ys ≡ rest → p ≡ letter_piece r → Behind behind rest p
sign_front xs ys Q None behind rest p steps first second is = subst (Behind behind rest) (sym is) (nothing_behind behind rest (ap length (sym first) ∙ steps.0))
sign_front xs ys Q (Some c) behind rest p steps first second is = subst (Behind behind rest) (sym is) (letter_behind c behind rest (sym first ∙ (steps ∙ ap (λ zs. encode_utf8 c ++ zs) second)))

got_within : (rs : List Ref) (i : ℕ) (r : Ref) → slice_get rs i ≡ Some r → i < length rs
got_within [] i r e = cc
got_within (q ∷ rs) zero r e = omega arith
got_within (q ∷ rs) (suc i) r e = let more : i < length rs = got_within rs i r e in omega arith

-- an argument that is taken is there
pub few_left : (o : Option (Bor Ref)) (rs : List Ref) (i n : ℕ) → option_copied o ≡ slice_get rs i → n ≤ how_many o → i ≤ length rs → i + n ≤ length rs
few_left None rs i n is few within = omega arith
few_left (Some b) rs i n is few within = let here : i < length rs = got_within rs i b.now (sym is) in omega arith

-- an argument that is looked up, by its number
get_past : (rs : List Ref) (i : ℕ) → length rs ≤ i → slice_get rs i ≡ None
get_past [] i h = refl
get_past (r ∷ rs) zero h = absurd (omega arith)
get_past (r ∷ rs) (suc i) h = get_past rs i (omega arith)

get_here : (rs : List Ref) (i : ℕ) (r : Ref) → i < length rs → r ≡ get_or rs i r → slice_get rs i ≡ Some r
get_here [] i r h e = absurd (omega arith)
get_here (q ∷ rs) zero r h e = ap Some (sym e)
get_here (q ∷ rs) (suc i) r h e = get_here rs i r (omega arith) e

pub looked : (o : Option (Bor Ref)) (rs : List Ref) (i : ℕ) → is_some o ≡ nat_lt i (length rs) → IfSome o (λ x. x.now ≡ get_or rs i x.now) → option_copied o ≡ slice_get rs i
looked None rs i some here = sym (get_past rs i (ltb-false i (length rs) (sym some)))
looked (Some b) rs i some here = sym (get_here rs i b.now (ltb-true i (length rs) (sym some)) here)
