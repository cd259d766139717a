-- The tokens from one place up to another.
use Rattle.std.proofs.Common.{◌≡◌, ℕ, ◌+◌, ◌-◌, ◌≤◌, zero, suc, List, [], ◌∷◌, ◌++◌, take, drop, length, slice_get, Some, length-take, length-drop, refl, ap, sym, ◌∙◌, arith}
use Rattle.pi_syntax.specs.Tokens.{Token}
use Rattle.pi_expr.specs.Faults.{stretch}
use Rattle.pi_expr.proofs.CrowdLemmas.{stretch_step, stretch_none}

abbrev none : List Token
none = []

take_nothing : (n : ℕ) → take n none ≡ none
take_nothing zero = refl
take_nothing (suc n) = refl

take_split : (d n : ℕ) (xs : List Token) → d ≤ n → take n xs ≡ take d xs ++ take (n - d) (drop d xs)
take_split zero n xs h = let none : n - 0 ≡ n = omega arith in ap (λ k. take k xs) (sym none)
take_split (suc d) zero xs h = absurd (omega arith)
take_split (suc d) (suc n) [] h = sym (take_nothing (suc n - suc d))
take_split (suc d) (suc n) (x ∷ xs) h =
    let less : suc n - suc d ≡ n - d = omega arith in
    ap (λ ys. x ∷ ys) (take_split d n xs (omega arith) ∙ ap (λ k. take d xs ++ take k (drop d xs)) (sym less))

drop_nothing : (n : ℕ) → drop n none ≡ none
drop_nothing zero = refl
drop_nothing (suc n) = refl

drop_drop : (a b n : ℕ) (xs : List Token) → n ≡ a + b → drop b (drop a xs) ≡ drop n xs
drop_drop zero b n xs h = let same : b ≡ n = omega arith in ap (λ k. drop k xs) same
drop_drop (suc a) b zero xs h = absurd (omega arith)
drop_drop (suc a) b (suc n) [] h = drop_nothing b
drop_drop (suc a) b (suc n) (x ∷ xs) h = drop_drop a b n xs (omega arith)

pub stretch_split : (ts : List Token) (from mid to : ℕ) → from ≤ mid → mid ≤ to → stretch ts from to ≡ stretch ts from mid ++ stretch ts mid to
stretch_split ts from mid to a b =
    let count : (to - from) - (mid - from) ≡ to - mid = omega arith in
    let place : mid ≡ from + (mid - from) = omega arith in
    take_split (mid - from) (to - from) (drop from ts) (omega arith)
    ∙ ap (λ k. stretch ts from mid ++ take k (drop (mid - from) (drop from ts))) count
    ∙ ap (λ xs. stretch ts from mid ++ take (to - mid) xs) (drop_drop from (mid - from) mid ts place)

-- one token more
pub stretch_more : (ts : List Token) (from at next : ℕ) (t : Token) → next ≡ at + 1 → from ≤ at → slice_get ts at ≡ Some t → stretch ts from next ≡ stretch ts from at ++ t ∷ []
stretch_more ts from at next t n h is =
    stretch_split ts from at next h (omega arith)
    ∙ ap (λ xs. stretch ts from at ++ xs) (stretch_step ts at next next t n is (omega arith) ∙ ap (λ xs. t ∷ xs) (stretch_none ts next next (omega arith)))

pub length-stretch : (ts : List Token) (from to : ℕ) → to ≤ length ts → from ≤ to → length (stretch ts from to) ≡ to - from
length-stretch ts from to a b = simp (length-take, length-drop) (omega arith)
