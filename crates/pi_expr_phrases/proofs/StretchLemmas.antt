-- A stretch of tokens from the left, and the terminals that it has.
use Rattle.std.proofs.Common.{◌≡◌, ℕ, ◌+◌, ◌-◌, ◌<◌, ◌≤◌, suc, min, List, [], ◌∷◌, map, length, take, drop, slice_get, Some, inl, inr, refl, ap, sym, ◌∙◌, arith, drop-cons}
use Rattle.std.proofs.Math.Seq.{take-nil}
use Rattle.std.proofs.lemmas.Bool.{cases_lt}
use Rattle.std.proofs.lemmas.List.{drop_all, length-map, length-take, length-drop}
use Rattle.std.proofs.lemmas.Option.{slice_get_within, get_or_from_slice_get}
use Rattle.pi_lex.specs.Kinds.{kinds}
use Rattle.pi_syntax.specs.Tokens.{Token, Located}
use Rattle.pi_syntax.specs.Terminals as t
use Rattle.pi_expr_phrases.specs.Shown.{terminals}
use Rattle.pi_expr_phrases.specs.Stretch.{stretch}
use Rattle.pi_expr_phrases.specs.declared.terminals.Terminals.{Terminals}

pub stretch_step : (ts : List Token) (i j to : ℕ) (t : Token) → j ≡ i + 1 → slice_get ts i ≡ Some t → i < to
    → stretch ts i to ≡ t ∷ stretch ts j to
stretch_step ts i j to t q p h =
    let within = slice_get_within ts i t p in
    let here : drop i ts ≡ t ∷ drop (suc i) ts = drop-cons ts i t within ∙ ap (λ x. x ∷ drop (suc i) ts) (get_or_from_slice_get ts i t t p) in
    let count : to - i ≡ suc (to - suc i) = omega (arith, h) in
    let next : suc i ≡ j = omega (arith, q) in
    ap (λ xs. take (to - i) xs) here ∙ ap (λ k. take k (t ∷ drop (suc i) ts)) count ∙ ap (λ k. t ∷ stretch ts k to) next

pub stretch_none : (ts : List Token) (i to : ℕ) → to ≤ i → stretch ts i to ≡ []
stretch_none ts i to h = let none : to - i ≡ 0 = omega (arith, h) in ap (λ k. take k (drop i ts)) none

stretch_past : (ts : List Token) (i to : ℕ) → length ts ≤ i → stretch ts i to ≡ []
stretch_past ts i to h = ap (take (to - i)) (drop_all i ts h) ∙ take-nil (to - i)

stretch_over : (tokens : List Located) (i to : ℕ) → min to (length tokens) ≤ i → stretch (kinds tokens) i to ≡ []
stretch_over tokens i to h =
    let same : length (kinds tokens) ≡ length tokens = length-map tokens (λ (located : Located). located.0) in
    elim (cases_lt i to) [
      | inl within ↦ stretch_past (kinds tokens) i to (omega (arith, h, within, same))
      | inr over ↦ stretch_none (kinds tokens) i to over
    ]

pub terminals_none : (ts : Terminals) (end many : ℕ) → end ≡ min ts.to many → many ≡ length ts.tokens.now → end ≤ ts.from → terminals ts ≡ []
unfolding terminals
terminals_none ts end many p q h = ap (map t.terminal) (stretch_over ts.tokens.now ts.from ts.to (rw (p, q) at h))

pub terminals_step : (ts : Terminals) (end many : ℕ) (k : Token) (x : t.Terminal) → end ≡ min ts.to many → ts.from < end
    → slice_get (kinds ts.tokens.now) ts.from ≡ Some k → x ≡ t.terminal k
    → terminals ts ≡ x ∷ terminals record { tokens = ts.tokens; from = ts.from + 1; to = ts.to }
unfolding terminals
terminals_step ts end many k x p h q r =
    let within : ts.from < ts.to = omega (arith, p, h) in
    ap (map t.terminal) (stretch_step (kinds ts.tokens.now) ts.from (ts.from + 1) ts.to k refl q within)
    ∙ ap (λ y. y ∷ map t.terminal (stretch (kinds ts.tokens.now) (ts.from + 1) ts.to)) (sym r)

pub terminals_length : (ts : Terminals) (end many n : ℕ) → n ≡ end - ts.from → end ≡ min ts.to many → many ≡ length ts.tokens.now
    → n ≡ length (terminals ts)
unfolding terminals
terminals_length ts end many n r p q =
    let tokens = kinds ts.tokens.now in
    let mapped : length (map t.terminal (stretch tokens ts.from ts.to)) ≡ length (stretch tokens ts.from ts.to) = length-map (stretch tokens ts.from ts.to) t.terminal in
    let taken : length (stretch tokens ts.from ts.to) ≡ min (ts.to - ts.from) (length (drop ts.from tokens)) = length-take (ts.to - ts.from) (drop ts.from tokens) in
    let dropped : length (drop ts.from tokens) ≡ length tokens - ts.from = length-drop ts.from tokens in
    let same : length tokens ≡ length ts.tokens.now = length-map ts.tokens.now (λ (located : Located). located.0) in
    omega (arith, r, p, q, mapped, taken, dropped, same)
