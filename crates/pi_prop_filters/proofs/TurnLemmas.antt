-- One turn of the search for full intervals, with its numbers of 64 bits.
use Rattle.std.specs.Prelude.{◌≡◌, ℕ, ◌+◌, ◌^◌, ◌<◌, ◌≤◌, true, false, List, [], ◌∷◌, ◌++◌, length, take, get_or, ℤ, pos, ◌-ℤ◌, ◌≤ℤ◌, ◌<ℤ◌, int_le, nat_abs, FitsSigned}
use Rattle.std.proofs.Common.{arith, sym, ◌∙◌, ap, to_z, of_z}
use Rattle.std.specs.Int.{w64}
use Rattle.std.proofs.lemmas.Bool.{false≢true}
use Rattle.std.proofs.lemmas.Int.{ints, by_lt_z, to_z-of_z, fits_signed_from_abs}
use Rattle.pi_constraints.specs.Domain.{IsWithinBounds}
use Rattle.pi_prop_spec.specs.Rules.{width}
use Rattle.pi_prop_filters.specs.Intervals.{IsEnds, ByGreatest, IsOverfull, AreFullEnds}
use Rattle.pi_prop_filters.proofs.CountLemmas.{count_from, from_counted, nowhere}
use Rattle.pi_prop_filters.proofs.FullLemmas.{FullBefore, full_closed, full_far, full_open, overfull_here}

-- ---- numbers of 64 bits

pub fits64 : (x : ℤ) → IsWithinBounds x → FitsSigned w64 x
fits64 x b = fits_signed_from_abs w64 x (omega (arith, ints, b.0, b.1))

pub back64 : (x : ℤ) → IsWithinBounds x → to_z w64 (of_z w64 x) ≡ x
back64 x b = to_z-of_z w64 x (fits64 x b)

pub below64 : (x y : ℤ) → IsWithinBounds x → IsWithinBounds y → int_le (to_z w64 (of_z w64 x)) (to_z w64 (of_z w64 y)) ≡ true → x ≤ℤ y
below64 x y p q h =
    let same : int_le (to_z w64 (of_z w64 x)) (to_z w64 (of_z w64 y)) ≡ int_le x y = (λ i. int_le (back64 x p i) (back64 y q i)) in
    let t : int_le x y ≡ true = sym same ∙ h in
    omega (arith, ints)

pub above64 : (x y : ℤ) → IsWithinBounds x → IsWithinBounds y → int_le (to_z w64 (of_z w64 x)) (to_z w64 (of_z w64 y)) ≡ false → y <ℤ x
above64 x y p q h =
    let same : int_le (to_z w64 (of_z w64 x)) (to_z w64 (of_z w64 y)) ≡ int_le x y = (λ i. int_le (back64 x p i) (back64 y q i)) in
    let t : int_le x y ≡ false = sym same ∙ h in
    by_lt_z y x (λ l. l) (λ l. let u : int_le x y ≡ true = grind (arith, ints) in absurd (false≢true (sym t ∙ u)))

-- the interval from a to x has one number more than the difference
pub width64 : (a x : ℤ) (d : ℕ) → IsWithinBounds a → IsWithinBounds x → a ≤ℤ x → d ≡ nat_abs (to_z w64 (of_z w64 x) -ℤ to_z w64 (of_z w64 a)) → pos (d + 1) ≡ width a x
width64 a x d p q l e =
    let f : d ≡ nat_abs (x -ℤ a) = e ∙ (λ i. nat_abs (back64 x q i -ℤ back64 a p i)) in
    omega (arith, ints)

-- ---- one turn of the search

-- a place with no value below a, and the difference of its greatest value and a
pub record Reached (a : ℤ) (ends : List (ℤ × ℤ)) (i d : ℕ) : Type 0 where
  pub are : IsEnds (get_or ends i nowhere)
  pub low : a ≤ℤ (get_or ends i nowhere).1
  pub wide : pos (d + 1) ≡ width a ((get_or ends i nowhere).0)

pub reached : (a : ℤ) (ends : List (ℤ × ℤ)) (i d : ℕ) → IsWithinBounds a → IsEnds (get_or ends i nowhere) → int_le (to_z w64 (of_z w64 a)) (to_z w64 (of_z w64 (get_or ends i nowhere).1)) ≡ true
    → d ≡ nat_abs (to_z w64 (of_z w64 (get_or ends i nowhere).0) -ℤ to_z w64 (of_z w64 a)) → Reached a ends i d
reached a ends i d p e t f =
    let first : a ≤ℤ (get_or ends i nowhere).1 = below64 a ((get_or ends i nowhere).1) p e.least t in
    let o = e.ordered in
    record { are = e; low = first; wide = width64 a ((get_or ends i nowhere).0) d p e.greatest (omega (arith, ints)) f }

pub reached_small : (a : ℤ) (ends : List (ℤ × ℤ)) (i d : ℕ) → IsWithinBounds a → Reached a ends i d → d + 1 < 2 ^ 64
reached_small a ends i d p x = let w = x.wide in let h = x.are.greatest in omega (arith, ints, p.0, p.1, h.0, h.1)

wider : (w : ℤ) (m d : ℕ) → pos (d + 1) ≡ w → m < d + 1 → pos m <ℤ w
wider w m d e l = omega (arith, ints)

narrower : (w : ℤ) (m d : ℕ) → pos (d + 1) ≡ w → d + 1 < m → w <ℤ pos m
narrower w m d e l = omega (arith, ints)

pub turn_far : (a : ℤ) (ends : List (ℤ × ℤ)) (i d : ℕ) (full : List ℤ) → ByGreatest ends → i < length ends → Reached a ends i d → length ends < d + 1 → FullBefore a ends i full → AreFullEnds a ends full
turn_far a ends i d full s l x h f = full_far a ends i full s l (wider _ (length ends) d x.wide h) f

pub turn_over : (a : ℤ) (ends : List (ℤ × ℤ)) (i d n : ℕ) → ByGreatest ends → i < length ends → Reached a ends i d → n ≡ count_from a (take i ends) → d + 1 < n + 1 → IsOverfull a ends
turn_over a ends i d n s l x c h = overfull_here a ends i s l x.are x.low (narrower _ (count_from a (take i ends) + 1) d x.wide (omega arith))

pub turn_open : (a : ℤ) (ends : List (ℤ × ℤ)) (i d n : ℕ) (full : List ℤ) → ByGreatest ends → i < length ends → Reached a ends i d → n ≡ count_from a (take i ends) → n + 1 ≤ d + 1 → (d + 1 ≡ n + 1 → ⊥) → FullBefore a ends i full → FullBefore a ends (i + 1) full
turn_open a ends i d n full s l x c h o f = full_open a ends i full s l x.are x.low (wider _ (count_from a (take i ends) + 1) d x.wide (omega arith)) f

pub turn_closed : (a : ℤ) (ends : List (ℤ × ℤ)) (i d n : ℕ) (full : List ℤ) → ByGreatest ends → i < length ends → Reached a ends i d → n ≡ count_from a (take i ends) → d + 1 ≡ n + 1 → FullBefore a ends i full → FullBefore a ends (i + 1) (full ++ (get_or ends i nowhere).0 ∷ [])
turn_closed a ends i d n full s l x c h f = full_closed a ends i full s l x.are x.low (ap (λ (m : ℕ). pos (m + 1)) (sym c) ∙ (ap (λ (m : ℕ). pos m) (sym h) ∙ x.wide)) f

pub turn_counted : (a : ℤ) (ends : List (ℤ × ℤ)) (i d n : ℕ) → i < length ends → Reached a ends i d → n ≡ count_from a (take i ends) → n + 1 ≡ count_from a (take (i + 1) ends)
turn_counted a ends i d n l x c = ap (λ (m : ℕ). m + 1) c ∙ sym (from_counted a ends i l x.low)
