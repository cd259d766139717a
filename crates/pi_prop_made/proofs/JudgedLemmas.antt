-- Terms are told by their coefficients, and so is whether they have 128 bits.
use Rattle.std.specs.Prelude.{◌≡◌, ℕ, suc, ◌<◌, ◌==◌, Bool, true, false, ◌&&◌, cond, List, [], ◌∷◌, Result, Ok, Err, ℤ, pos, negsuc, ◌+ℤ◌, ◌*ℤ◌, refl}
use Rattle.std.proofs.Common.{arith, eqb-true, ◌∙◌, ap, sym}
use Rattle.std.proofs.lemmas.Int.{ints}
use Rattle.pi_effects.specs.Range.{has_128_bits}
use Rattle.pi_prop_spec.specs.PostingSums.{Ascend, coefficient}
use Rattle.pi_prop_spec.specs.Steps.{have_128_bits}
use Rattle.pi_prop_made.specs.declared.stop.SumStop.{SumStop}
use Rattle.pi_prop_made.specs.Changes.{Scales, AddsTimes, ShowsAdded}

-- of joined terms that have 128 bits, so has each coefficient
both_true : (p q : Bool) → (p && q) ≡ true → (p ≡ true) × (q ≡ true)
both_true true q e = (refl, e)
both_true false q e = absurd cc

below_all : (least n : ℕ) (ts : List (ℤ × ℕ)) → Ascend least ts → n < least → coefficient ts n ≡ pos 0
unfolding Ascend coefficient
below_all least n [] s h = refl
below_all least n (t ∷ ts) s h = by (below_all (suc t.1) n ts s.2 (omega (arith, h, s.1))) (n == t.1) refl
  where
    by : coefficient ts n ≡ pos 0 → (b : Bool) → (n == t.1) ≡ b → cond b (t.0 +ℤ coefficient ts n) (coefficient ts n) ≡ pos 0
    by rest true e = absurd (omega (arith, h, s.1, eqb-true n t.1 e))
    by rest false e = rest

each_fits : (least : ℕ) (ts : List (ℤ × ℕ)) (n : ℕ) → Ascend least ts → have_128_bits ts ≡ true → has_128_bits (coefficient ts n) ≡ true
unfolding Ascend coefficient have_128_bits
each_fits least [] n s e = refl
each_fits least (t ∷ ts) n s e = by (each_fits (suc t.1) ts n s.2 (both_true (has_128_bits t.0) (have_128_bits ts) e).1) (n == t.1) refl
  where
    no_more : (x : ℤ) → x +ℤ pos 0 ≡ x
    no_more x = omega (arith, ints)

    by : has_128_bits (coefficient ts n) ≡ true → (b : Bool) → (n == t.1) ≡ b → has_128_bits (cond b (t.0 +ℤ coefficient ts n) (coefficient ts n)) ≡ true
    by rest true h =
        let z : coefficient ts n ≡ pos 0 = below_all (suc t.1) n ts s.2 (omega (arith, eqb-true n t.1 h)) in
        ap has_128_bits (ap (λ (x : ℤ). t.0 +ℤ x) z ∙ no_more t.0) ∙ (both_true (has_128_bits t.0) (have_128_bits ts) e).0
    by rest false h = rest

-- one that is too wide
pub some_wide : (ts : List (ℤ × ℕ)) (n : ℕ) → Ascend 0 ts → has_128_bits (coefficient ts n) ≡ false → have_128_bits ts ≡ false
some_wide ts n s e = by (have_128_bits ts) refl
  where
    by : (b : Bool) → have_128_bits ts ≡ b → have_128_bits ts ≡ false
    by true h = absurd (let f : has_128_bits (coefficient ts n) ≡ true = each_fits 0 ts n s h in cc)
    by false h = h

-- ---- terms that are those that are wanted

pub added_made : (m : ℤ) (u v now : List (ℤ × ℕ)) → AddsTimes m u now v (Ok tt) → ShowsAdded m u v (Ok now)
added_made m u v now a w t h n = a n ∙ sym (h n)

pub added_refused : (m : ℤ) (u v now : List (ℤ × ℕ)) (stop : SumStop) → AddsTimes m u now v (Err stop) → ShowsAdded m u v (Err stop)
added_refused m u v now SumStop.Wide a w t h = some_wide w a.0 t (ap has_128_bits (h a.0) ∙ a.1)
added_refused m u v now SumStop.Memory a w t h = tt

-- exchanged
pub added_exchanged : (u v : List (ℤ × ℕ)) (r : Result (List (ℤ × ℕ)) SumStop) → ShowsAdded (pos 1) v u r → ShowsAdded (pos 1) u v r
added_exchanged u v r a w t h = a w t (λ n. h n ∙ swap (coefficient u n) (coefficient v n))
  where
    swap : (x y : ℤ) → x +ℤ pos 1 *ℤ y ≡ y +ℤ pos 1 *ℤ x
    swap x y = omega (arith, ints)

pub subtracted_exchanged : (u v opposite : List (ℤ × ℕ)) (r : Result (List (ℤ × ℕ)) SumStop) → Scales (negsuc 0) v opposite → ShowsAdded (pos 1) opposite u r → ShowsAdded (negsuc 0) u v r
subtracted_exchanged u v opposite r s a w t h = a w t (λ n. h n ∙ (swap (coefficient u n) (coefficient v n) ∙ ap (λ (x : ℤ). x +ℤ pos 1 *ℤ coefficient u n) (sym (s n))))
  where
    swap : (x y : ℤ) → x +ℤ negsuc 0 *ℤ y ≡ negsuc 0 *ℤ y +ℤ pos 1 *ℤ x
    swap x y = omega (arith, ints)

-- by 1 nothing changes
pub scales_once : (m : ℤ) (u : List (ℤ × ℕ)) → m ≡ pos 1 → Scales m u u
scales_once m u e n = once (coefficient u n) ∙ ap (λ (k : ℤ). k *ℤ coefficient u n) (sym e)
  where
    once : (x : ℤ) → x ≡ pos 1 *ℤ x
    once x = omega (arith, ints)
