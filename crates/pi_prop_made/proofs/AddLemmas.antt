-- Terms that are joined to others one after the other.
use Rattle.std.specs.Prelude.{◌≡◌, ◌≢◌, ℕ, suc, ◌==◌, Bool, true, false, not, ◌&&◌, cond, List, [], ◌∷◌, Some, None, ℤ, pos, negsuc, ◌+ℤ◌, ◌*ℤ◌, neg_ℤ, Err, refl}
use Rattle.std.proofs.Common.{arith, tests, eqb-true, ◌∙◌, ap, sym, subst}
use Rattle.std.proofs.lemmas.Int.{ints}
use Rattle.std.proofs.Math.IntN.{*ℤ-zero}
use Rattle.pi_effects.specs.Range.{has_128_bits}
use Rattle.pi_prop_spec.specs.PostingSums.{Ascend, coefficient}
use Rattle.pi_prop_spec.specs.Steps.{have_128_bits}
use Rattle.pi_prop_spec.proofs.PostingSumLemmas.{distributes_left}
use Rattle.pi_prop_made.specs.declared.coefficient.Coefficient.{Coefficient}
use Rattle.pi_prop_made.specs.declared.sum_limits.Limits.{Limits}
use Rattle.pi_prop_made.specs.declared.stop.SumStop.{SumStop}
use Rattle.pi_prop_made.specs.Signed.{signed}
use Rattle.pi_prop_made.specs.Kept.{counted, terms_of, IsKept}
use Rattle.pi_prop_made.specs.Changes.{Sets, Joins, Scales, AddsTimes, IsTimes}
use Rattle.pi_prop_made.proofs.KeptLemmas.{found, number_found, coefficient-found, not_found}

-- so far: what stands in `rest` is still to be joined, times m
pub record SoFar (m : ℤ) (f : Bool) (old now : List (ℤ × ℕ)) (es rest : List (ℕ × Coefficient)) : Type 0 where
  pub rest_ascends : Ascend 0 (terms_of f rest)
  pub total : (n : ℕ) → coefficient now n +ℤ m *ℤ coefficient (terms_of f rest) n ≡ coefficient old n +ℤ m *ℤ coefficient (terms_of f es) n
  -- what is to be joined has the coefficient that it had
  pub there : (n : ℕ) → found n rest ≢ None → coefficient (terms_of f es) n ≡ coefficient (terms_of f rest) n

from_first : (f : Bool) (k : ℕ) (es : List (ℕ × Coefficient)) → Ascend (suc k) (terms_of f es) → found k es ≡ None
from_first f k es s = not_found f (suc k) k es s (omega arith)

is_at_itself : (k : ℕ) (c : Coefficient) (es : List (ℕ × Coefficient)) → found k ((k, c) ∷ es) ≡ Some c
is_at_itself k c es = grind (arith, tests)

-- the first one's coefficient
first_counts : (f : Bool) (k : ℕ) (c : Coefficient) (es : List (ℕ × Coefficient)) → Ascend 0 (terms_of f ((k, c) ∷ es)) → coefficient (terms_of f ((k, c) ∷ es)) k ≡ counted f c
first_counts f k c es s = coefficient-found f 0 k ((k, c) ∷ es) s ∙ ap (number_found f) (is_at_itself k c es)

is_there : (k : ℕ) (c : Coefficient) (es : List (ℕ × Coefficient)) → found k ((k, c) ∷ es) ≢ None
is_there k c es e = let h : Some c ≡ None = sym (is_at_itself k c es) ∙ e in cc

-- what a variable comes to, where its term is the next one
next_total : (m : ℤ) (f : Bool) (old now : List (ℤ × ℕ)) (es rest : List (ℕ × Coefficient)) (k : ℕ) (c : Coefficient) → SoFar m f old now es ((k, c) ∷ rest) →
    coefficient old k +ℤ m *ℤ coefficient (terms_of f es) k ≡ m *ℤ counted f c +ℤ coefficient now k
next_total m f old now es rest k c so =
    sym (so.total k) ∙ (ap (λ (x : ℤ). coefficient now k +ℤ m *ℤ x) (first_counts f k c rest so.rest_ascends) ∙ swap (coefficient now k) (m *ℤ counted f c))
  where
    swap : (x y : ℤ) → x +ℤ y ≡ y +ℤ x
    swap x y = omega (arith, ints)

pub too_wide : (m : ℤ) (f : Bool) (old now : List (ℤ × ℕ)) (es rest : List (ℕ × Coefficient)) (k : ℕ) (c : Coefficient) (z : ℤ) → SoFar m f old now es ((k, c) ∷ rest) → z ≡ m *ℤ counted f c →
    has_128_bits (z +ℤ coefficient now k) ≡ false → (n : ℕ) × (has_128_bits (coefficient old n +ℤ m *ℤ coefficient (terms_of f es) n) ≡ false)
too_wide m f old now es rest k c z so e wide =
    (k, ap has_128_bits (next_total m f old now es rest k c so ∙ ap (λ (x : ℤ). x +ℤ coefficient now k) (sym e)) ∙ wide)

pub so_far_next : (m : ℤ) (f : Bool) (old now new : List (ℤ × ℕ)) (es rest : List (ℕ × Coefficient)) (k : ℕ) (c : Coefficient) (z : ℤ) → SoFar m f old now es ((k, c) ∷ rest) → z ≡ m *ℤ counted f c →
    Sets now new k (z +ℤ coefficient now k) → SoFar m f old new es rest
unfolding Ascend terms_of coefficient
so_far_next m f old now new es rest k c z so e sets = record {
  rest_ascends = ascend_any (suc k) (terms_of f rest) so.rest_ascends.2;
  total = λ n. total n (n == k) refl (so.total n) (sets n);
  there = λ n h. there n (n == k) refl h (so.there n);
}
  where
    ascend_any : (l : ℕ) (ts : List (ℤ × ℕ)) → Ascend l ts → Ascend 0 ts
    ascend_any l [] s = tt
    ascend_any l (t ∷ ts) s = (s.0, omega arith, s.2)

    none_left : (n : ℕ) → (n == k) ≡ true → found n rest ≡ None
    none_left n i = subst (λ (j : ℕ). found j rest ≡ None) (sym (eqb-true n k i)) (from_first f k rest so.rest_ascends.2)

    not_first : (n : ℕ) → (n == k) ≡ false → found n ((k, c) ∷ rest) ≡ found n rest
    not_first n i = grind (arith, tests, i)

    join : (x y w : ℤ) → x +ℤ (y +ℤ w) ≡ (y +ℤ x) +ℤ w
    join x y w = omega (arith, ints)

    total : (n : ℕ) (same : Bool) → (n == k) ≡ same →
        coefficient now n +ℤ m *ℤ cond same (counted f c +ℤ coefficient (terms_of f rest) n) (coefficient (terms_of f rest) n) ≡ coefficient old n +ℤ m *ℤ coefficient (terms_of f es) n →
        coefficient new n ≡ cond same (z +ℤ coefficient now k) (coefficient now n) →
        coefficient new n +ℤ m *ℤ coefficient (terms_of f rest) n ≡ coefficient old n +ℤ m *ℤ coefficient (terms_of f es) n
    total n true i h s =
        (λ j. (s ∙ (λ t. e t +ℤ coefficient now (sym (eqb-true n k i) t))) j +ℤ m *ℤ coefficient (terms_of f rest) n)
        ∙ (sym (join (coefficient now n) (m *ℤ counted f c) (m *ℤ coefficient (terms_of f rest) n)) ∙ (ap (λ (x : ℤ). coefficient now n +ℤ x) (sym (distributes_left m (counted f c) (coefficient (terms_of f rest) n))) ∙ h))
    total n false i h s = ap (λ (x : ℤ). x +ℤ m *ℤ coefficient (terms_of f rest) n) s ∙ h

    there : (n : ℕ) (same : Bool) → (n == k) ≡ same → found n rest ≢ None →
        (found n ((k, c) ∷ rest) ≢ None → coefficient (terms_of f es) n ≡ cond same (counted f c +ℤ coefficient (terms_of f rest) n) (coefficient (terms_of f rest) n)) →
        coefficient (terms_of f es) n ≡ coefficient (terms_of f rest) n
    there n true i h g = absurd (h (none_left n i))
    there n false i h g = g (λ j. h (sym (not_first n i) ∙ j))

-- nothing is left
pub all_joined : (m : ℤ) (f : Bool) (old now : List (ℤ × ℕ)) (es : List (ℕ × Coefficient)) → SoFar m f old now es [] → (n : ℕ) → coefficient now n ≡ coefficient old n +ℤ m *ℤ coefficient (terms_of f es) n
unfolding terms_of coefficient
all_joined m f old now es so n = sym (ap (λ (x : ℤ). coefficient now n +ℤ x) (*ℤ-zero m) ∙ no_more (coefficient now n)) ∙ so.total n
  where
    no_more : (x : ℤ) → x +ℤ pos 0 ≡ x
    no_more x = omega (arith, ints)

-- ---- a turn of the sign

minus_one : (x : ℤ) → neg_ℤ x ≡ negsuc 0 *ℤ x
minus_one x = omega (arith, ints)

turn_counted : (f : Bool) (c : Coefficient) → counted (not f) c ≡ negsuc 0 *ℤ counted f c
turn_counted false c = minus_one (signed c.negated c.value)
turn_counted true c = omega (arith, ints)

coefficient-turned : (f : Bool) (es : List (ℕ × Coefficient)) (n : ℕ) → coefficient (terms_of (not f) es) n ≡ negsuc 0 *ℤ coefficient (terms_of f es) n
unfolding terms_of coefficient
coefficient-turned f [] n = refl
coefficient-turned f (e ∷ es) n = by (n == e.0) (coefficient-turned f es n)
  where
    add : (x y : ℤ) → negsuc 0 *ℤ x +ℤ negsuc 0 *ℤ y ≡ negsuc 0 *ℤ (x +ℤ y)
    add x y = omega (arith, ints)

    by : (b : Bool) → coefficient (terms_of (not f) es) n ≡ negsuc 0 *ℤ coefficient (terms_of f es) n → cond b (counted (not f) e.1 +ℤ coefficient (terms_of (not f) es) n) (coefficient (terms_of (not f) es) n) ≡ negsuc 0 *ℤ cond b (counted f e.1 +ℤ coefficient (terms_of f es) n) (coefficient (terms_of f es) n)
    by true rest = (λ i. turn_counted f e.1 i +ℤ rest i) ∙ add (counted f e.1) (coefficient (terms_of f es) n)
    by false rest = rest

ascend-turned : (f : Bool) (least : ℕ) (es : List (ℕ × Coefficient)) → Ascend least (terms_of f es) → Ascend least (terms_of (not f) es)
unfolding Ascend terms_of
ascend-turned f least [] s = tt
ascend-turned f least (e ∷ es) s = ((λ h. s.0 (zero (counted f e.1) (sym (turn_counted f e.1) ∙ h))), s.1, ascend-turned f (suc e.0) es s.2)
  where
    zero : (x : ℤ) → negsuc 0 *ℤ x ≡ pos 0 → x ≡ pos 0
    zero x h = omega (arith, ints, h)

pub kept_turned : (f : Bool) (es : List (ℕ × Coefficient)) (limits : Limits) → IsKept f es limits → IsKept (not f) es limits
kept_turned f es limits kept = record { ascend = ascend-turned f 0 es kept.ascend; plain = kept.plain; turned = kept.turned }

pub scales_turned : (f : Bool) (es : List (ℕ × Coefficient)) (limits : Limits) (ts : List (ℤ × ℕ)) → IsKept f es limits → terms_of f es ≡ ts → Scales (negsuc 0) ts (terms_of (not f) es)
scales_turned f es limits ts kept view n = coefficient-turned f es n ∙ ap (λ (us : List (ℤ × ℕ)). negsuc 0 *ℤ coefficient us n) view

-- ---- what joining all of them answers

pub adds_refused : (m : ℤ) (f : Bool) (old now new more : List (ℤ × ℕ)) (es rest : List (ℕ × Coefficient)) (k : ℕ) (c : Coefficient) (z : ℤ) (stop : SumStop) → SoFar m f old now es ((k, c) ∷ rest) → z ≡ m *ℤ counted f c →
    terms_of f es ≡ more → Joins now new k z (Err stop) → AddsTimes m old new more (Err stop)
adds_refused m f old now new more es rest k c z SumStop.Wide so e view j =
    subst (λ (us : List (ℤ × ℕ)). (n : ℕ) × (has_128_bits (coefficient old n +ℤ m *ℤ coefficient us n) ≡ false)) view (too_wide m f old now es rest k c z so e j)
adds_refused m f old now new more es rest k c z SumStop.Memory so e view j = tt

pub adds_all : (m : ℤ) (f : Bool) (old now more : List (ℤ × ℕ)) (es : List (ℕ × Coefficient)) → SoFar m f old now es [] → terms_of f es ≡ more → (n : ℕ) → coefficient now n ≡ coefficient old n +ℤ m *ℤ coefficient more n
adds_all m f old now more es so view n = all_joined m f old now es so n ∙ ap (λ (us : List (ℤ × ℕ)). coefficient old n +ℤ m *ℤ coefficient us n) view

pub signed_times : (b : Bool) (x : ℤ) → signed b x ≡ signed b (pos 1) *ℤ x
signed_times false x = omega (arith, ints)
signed_times true x = omega (arith, ints)

-- ---- the parts of a turn, with what is left as the loop has it

pub next_so_far : (m : ℤ) (f : Bool) (old now new : List (ℤ × ℕ)) (es here rest : List (ℕ × Coefficient)) (k : ℕ) (c : Coefficient) (z : ℤ) → SoFar m f old now es here → here ≡ (k, c) ∷ rest → z ≡ m *ℤ counted f c →
    Sets now new k (z +ℤ coefficient now k) → SoFar m f old new es rest
next_so_far m f old now new es here rest k c z so is e sets = so_far_next m f old now new es rest k c z (subst (λ (hs : List (ℕ × Coefficient)). SoFar m f old now es hs) is so) e sets

pub refused_here : (m : ℤ) (f : Bool) (old now new more : List (ℤ × ℕ)) (es here rest : List (ℕ × Coefficient)) (k : ℕ) (c : Coefficient) (z : ℤ) (stop : SumStop) → SoFar m f old now es here → here ≡ (k, c) ∷ rest → z ≡ m *ℤ counted f c →
    terms_of f es ≡ more → Joins now new k z (Err stop) → AddsTimes m old new more (Err stop)
refused_here m f old now new more es here rest k c z stop so is e view j = adds_refused m f old now new more es rest k c z stop (subst (λ (hs : List (ℕ × Coefficient)). SoFar m f old now es hs) is so) e view j

pub all_here : (m : ℤ) (f : Bool) (old now more : List (ℤ × ℕ)) (es here : List (ℕ × Coefficient)) → SoFar m f old now es here → here ≡ [] → terms_of f es ≡ more →
    (n : ℕ) → coefficient now n ≡ coefficient old n +ℤ m *ℤ coefficient more n
all_here m f old now more es here so is view = adds_all m f old now more es (subst (λ (hs : List (ℕ × Coefficient)). SoFar m f old now es hs) is so) view

-- ---- products, of coefficients that have 128 bits

both_true : (p q : Bool) → (p && q) ≡ true → (p ≡ true) × (q ≡ true)
both_true true q e = (refl, e)
both_true false q e = absurd cc

pub first_fits : (f : Bool) (here rest : List (ℕ × Coefficient)) (k : ℕ) (c : Coefficient) → here ≡ (k, c) ∷ rest → have_128_bits (terms_of f here) ≡ true → (has_128_bits (counted f c) ≡ true) × (have_128_bits (terms_of f rest) ≡ true)
unfolding terms_of have_128_bits
first_fits f here rest k c is e = both_true (has_128_bits (counted f c)) (have_128_bits (terms_of f rest)) (sym (ap (λ (hs : List (ℕ × Coefficient)). have_128_bits (terms_of f hs)) is) ∙ e)

-- a product that is too wide, joined to no terms
pub product_too_wide : (m : ℤ) (f : Bool) (now more : List (ℤ × ℕ)) (es here rest : List (ℕ × Coefficient)) (k : ℕ) (c : Coefficient) (z : ℤ) → SoFar m f [] now es here → here ≡ (k, c) ∷ rest → z ≡ counted f c → terms_of f es ≡ more →
    has_128_bits (m *ℤ z) ≡ false → (n : ℕ) × (has_128_bits (m *ℤ coefficient more n) ≡ false)
product_too_wide m f now more es here rest k c z so is e view wide =
    let next : SoFar m f [] now es ((k, c) ∷ rest) = subst (λ (hs : List (ℕ × Coefficient)). SoFar m f [] now es hs) is so in
    let same : coefficient more k ≡ z =
    ap (λ (us : List (ℤ × ℕ)). coefficient us k) (sym view) ∙ (next.there k (is_there k c rest) ∙ (first_counts f k c rest next.rest_ascends ∙ sym e)) in
    (k, ap (λ (x : ℤ). has_128_bits (m *ℤ x)) same ∙ wide)

from_none : (x : ℤ) → pos 0 +ℤ x ≡ x
from_none x = omega (arith, ints)

pub times_refused : (m : ℤ) (f : Bool) (now new more : List (ℤ × ℕ)) (es here rest : List (ℕ × Coefficient)) (k : ℕ) (c : Coefficient) (z : ℤ) (stop : SumStop) → SoFar m f [] now es here → here ≡ (k, c) ∷ rest → z ≡ m *ℤ counted f c →
    terms_of f es ≡ more → Joins now new k z (Err stop) → IsTimes m more (Err stop)
unfolding coefficient
times_refused m f now new more es here rest k c z SumStop.Wide so is e view j =
    let w : (n : ℕ) × (has_128_bits (pos 0 +ℤ m *ℤ coefficient more n) ≡ false) = refused_here m f [] now new more es here rest k c z SumStop.Wide so is e view j in
    (w.0, ap has_128_bits (sym (from_none (m *ℤ coefficient more w.0))) ∙ w.1)
times_refused m f now new more es here rest k c z SumStop.Memory so is e view j = tt

pub all_times : (m : ℤ) (f : Bool) (now more : List (ℤ × ℕ)) (es here : List (ℕ × Coefficient)) → SoFar m f [] now es here → here ≡ [] → terms_of f es ≡ more → Scales m more now
unfolding coefficient
all_times m f now more es here so is view n = all_here m f [] now more es here so is view n ∙ from_none (m *ℤ coefficient more n)
