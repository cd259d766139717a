-- Sums of joined terms are those that reading defines.
use Rattle.std.specs.Int.{w128}
use Rattle.std.specs.Option.{SomeIff}
use Rattle.std.specs.Prelude.{◌≡◌, ◌≢◌, FitsSigned, cond, ◌==◌, Option, Some, None, ℕ, Bool, true, false, ◌&&◌, List, [], Result, Ok, Err, ℤ, pos, negsuc, ◌+ℤ◌, ◌-ℤ◌, ◌*ℤ◌, neg_ℤ, refl}
use Rattle.std.proofs.Common.{arith, ◌∙◌, ap, sym, subst}
use Rattle.std.proofs.lemmas.Int.{ints}
use Rattle.pi_effects.specs.Range.{has_128_bits}
use Rattle.pi_prop_spec.specs.PostingSums.{Sum, of_variable, added, scaled, opposite, difference, Ascend, coefficient}
use Rattle.pi_prop_spec.specs.Steps.{have_128_bits}
use Rattle.pi_prop_spec.proofs.CoefficientLemmas.{sums_stay_joined, coefficients_add, coefficients_scale, coefficients_tell_terms}
use Rattle.pi_prop_made.specs.declared.stop.SumStop.{SumStop}
use Rattle.pi_prop_made.specs.Changes.{Sets, Joins, IsTimes, ShowsTerms, ShowsAdded}
use Rattle.pi_prop_made.specs.Steps.{fits, ShowsStep, ShowsNumber, IsStepTo}
use Rattle.pi_prop_made.proofs.JudgedLemmas.{some_wide}

-- ---- with the constant

abbrev pub sum_at : List (ℤ × ℕ) → ℤ → Sum
sum_at ts k = record { terms = ts; constant = k }

fits_from : (z : ℤ) → has_128_bits z ≡ true → FitsSigned w128 z
fits_from z e = record { sfits = grind (arith, ints, e) }

from_fits : (z : ℤ) → FitsSigned w128 z → has_128_bits z ≡ true
from_fits z h = grind (arith, ints, h)

both : (p q : Bool) → p ≡ true → q ≡ true → (p && q) ≡ true
both p q e f = (λ i. e i && f i)

not_first : (p q : Bool) → p ≡ false → (p && q) ≡ false
not_first p q e = ap (λ (b : Bool). b && q) e

not_second : (p q : Bool) → q ≡ false → (p && q) ≡ false
not_second true q e = e
not_second false q e = refl

pub number_shown : (o : Option ℤ) (z : ℤ) → SomeIff o (FitsSigned w128 z) z → ShowsNumber o z
number_shown None z h = too_wide (has_128_bits z) refl
  where
    too_wide : (b : Bool) → has_128_bits z ≡ b → has_128_bits z ≡ false
    too_wide true e = absurd (h (fits_from z e))
    too_wide false e = e
number_shown (Some k) z h = (h.1, from_fits z h.0)

-- the constant is too wide
pub no_constant : (w : Sum) (terms : Result (List (ℤ × ℕ)) SumStop) → IsStepTo w terms None → ShowsStep (Err SumStop.Wide) w
no_constant w terms s = not_second (have_128_bits w.terms) (has_128_bits w.constant) s.2

-- the terms can't be made
pub no_terms : (w : Sum) (stop : SumStop) (constant : Option ℤ) → IsStepTo w (Err stop) constant → ShowsStep (Err stop) w
no_terms w SumStop.Wide constant s = not_first (have_128_bits w.terms) (has_128_bits w.constant) s.1
no_terms w SumStop.Memory constant s = tt

-- they are made and fit, or don't
pub terms_are : (w : Sum) (terms : List (ℤ × ℕ)) (constant : Option ℤ) → Ascend 0 terms → IsStepTo w (Ok terms) constant → terms ≡ w.terms
terms_are w terms constant t s = coefficients_tell_terms terms w.terms t s.0 s.1

pub step_made : (w : Sum) (terms : List (ℤ × ℕ)) (constant : ℤ) → Ascend 0 terms → have_128_bits terms ≡ true → IsStepTo w (Ok terms) (Some constant) → ShowsStep (Ok (record { terms = terms; constant = constant })) w
step_made w terms constant t h s =
    let same : terms ≡ w.terms = terms_are w terms (Some constant) t s in
    ((λ i. record { terms = same i; constant = s.2.0 i }), both (have_128_bits w.terms) (has_128_bits w.constant) (ap have_128_bits (sym same) ∙ h) s.2.1)

pub step_refused : (w : Sum) (terms : List (ℤ × ℕ)) (constant : Option ℤ) → Ascend 0 terms → have_128_bits terms ≡ false → IsStepTo w (Ok terms) constant → ShowsStep (Err SumStop.Wide) w
step_refused w terms constant t h s = not_first (have_128_bits w.terms) (has_128_bits w.constant) (ap have_128_bits (sym (terms_are w terms constant t s)) ∙ h)

-- the same, of what was handed in
pub no_constant_step : (w : Sum) (terms : Result (List (ℤ × ℕ)) SumStop) (constant : Option ℤ) → constant ≡ None → IsStepTo w terms constant → fits w ≡ false
no_constant_step w terms constant e s = no_constant w terms (subst (λ (o : Option ℤ). IsStepTo w terms o) e s)

pub no_terms_step : (terms : Result (List (ℤ × ℕ)) SumStop) (stop : SumStop) (constant : Option ℤ) → terms ≡ Err stop → (w : Sum) → IsStepTo w terms constant → ShowsStep (Err stop) w
no_terms_step terms stop constant e w s = no_terms w stop constant (subst (λ (r : Result (List (ℤ × ℕ)) SumStop). IsStepTo w r constant) e s)

pub made_step : (w : Sum) (terms : Result (List (ℤ × ℕ)) SumStop) (made : List (ℤ × ℕ)) (constant : Option ℤ) (k j : ℤ) → terms ≡ Ok made → constant ≡ Some k → j ≡ k → Ascend 0 made → have_128_bits made ≡ true → IsStepTo w terms constant →
    ShowsStep (Ok (sum_at made j)) w
made_step w terms made constant k j e f same t h s =
    subst (λ (i : ℤ). ShowsStep (Ok (sum_at made i)) w) (sym same)
    (step_made w made k t h (subst (λ (o : Option ℤ). IsStepTo w (Ok made) o) f (subst (λ (r : Result (List (ℤ × ℕ)) SumStop). IsStepTo w r constant) e s)))

pub refused_step : (w : Sum) (terms : Result (List (ℤ × ℕ)) SumStop) (made : List (ℤ × ℕ)) (constant : Option ℤ) → terms ≡ Ok made → Ascend 0 made → have_128_bits made ≡ false → IsStepTo w terms constant → fits w ≡ false
refused_step w terms made constant e t h s = step_refused w made constant t h (subst (λ (r : Result (List (ℤ × ℕ)) SumStop). IsStepTo w r constant) e s)

-- ---- each step

once : (x : ℤ) → x ≡ pos 1 *ℤ x
once x = omega (arith, ints)

pub added_step : (us vs : List (ℤ × ℕ)) (j k : ℤ) (u v : Sum) (r : Result (List (ℤ × ℕ)) SumStop) (o : Option ℤ) (result : Result Sum SumStop) →
    sum_at us j ≡ u → sum_at vs k ≡ v → Ascend 0 us → Ascend 0 vs → ShowsAdded (pos 1) us vs r → SomeIff o (FitsSigned w128 (j +ℤ k)) (j +ℤ k) →
    ((w : Sum) → IsStepTo w r o → ShowsStep result w) → ShowsStep result (added u v)
added_step us vs j k u v r o result e f s t a n step =
    let x : Sum = sum_at us j in
    let y : Sum = sum_at vs k in
    let joined : Ascend 0 (added x y).terms = (sums_stay_joined (pos 0) x y s t).0 in
    let terms : ShowsTerms r (added x y).terms = a (added x y).terms joined (λ n. coefficients_add x y n ∙ ap (λ (z : ℤ). coefficient us n +ℤ z) (once (coefficient vs n))) in
    let here : ShowsStep result (added x y) = step (added x y) (joined, terms, number_shown o (j +ℤ k) n) in
    subst (λ (x : Sum). ShowsStep result (added x v)) e (subst (λ (y : Sum). ShowsStep result (added x y)) f here)

pub difference_step : (us vs : List (ℤ × ℕ)) (j k : ℤ) (u v : Sum) (r : Result (List (ℤ × ℕ)) SumStop) (o : Option ℤ) (result : Result Sum SumStop) →
    sum_at us j ≡ u → sum_at vs k ≡ v → Ascend 0 us → Ascend 0 vs → ShowsAdded (negsuc 0) us vs r → SomeIff o (FitsSigned w128 (j -ℤ k)) (j -ℤ k) →
    ((w : Sum) → IsStepTo w r o → ShowsStep result w) → ShowsStep result (difference u v)
difference_step us vs j k u v r o result e f s t a n step =
    let x : Sum = sum_at us j in
    let y : Sum = sum_at vs k in
    let joined : Ascend 0 (difference x y).terms = (sums_stay_joined (pos 0) x (opposite y) s (sums_stay_joined (negsuc 0) y x t s).1).0 in
    let terms : ShowsTerms r (difference x y).terms =
    a (difference x y).terms joined (λ n. coefficients_add x (opposite y) n ∙ ap (λ (z : ℤ). coefficient us n +ℤ z) (coefficients_scale (negsuc 0) y n)) in
    let same : j -ℤ k ≡ j +ℤ negsuc 0 *ℤ k = minus j k in
    let here : ShowsStep result (difference x y) = step (difference x y) (joined, terms, subst (ShowsNumber o) same (number_shown o (j -ℤ k) n)) in
    subst (λ (x : Sum). ShowsStep result (difference x v)) e (subst (λ (y : Sum). ShowsStep result (difference x y)) f here)
  where
    minus : (j k : ℤ) → j -ℤ k ≡ j +ℤ negsuc 0 *ℤ k
    minus j k = omega (arith, ints)

times_terms : (m : ℤ) (u : Sum) (r : Result (List (ℤ × ℕ)) SumStop) → Ascend 0 (scaled m u).terms → IsTimes m u.terms r → ShowsTerms r (scaled m u).terms
times_terms m u (Ok made) t i = λ n. i n ∙ sym (coefficients_scale m u n)
times_terms m u (Err SumStop.Wide) t i = some_wide (scaled m u).terms i.0 t (ap has_128_bits (coefficients_scale m u i.0) ∙ i.1)
times_terms m u (Err SumStop.Memory) t i = tt

pub scaled_step : (m : ℤ) (us : List (ℤ × ℕ)) (j : ℤ) (u : Sum) (r : Result (List (ℤ × ℕ)) SumStop) (o : Option ℤ) (result : Result Sum SumStop) →
    sum_at us j ≡ u → Ascend 0 us → IsTimes m us r → ShowsNumber o (m *ℤ j) →
    ((w : Sum) → IsStepTo w r o → ShowsStep result w) → ShowsStep result (scaled m u)
scaled_step m us j u r o result e s i n step =
    let x : Sum = sum_at us j in
    let joined : Ascend 0 (scaled m x).terms = (sums_stay_joined m x x s s).1 in
    let here : ShowsStep result (scaled m x) = step (scaled m x) (joined, times_terms m x r joined i, n) in
    subst (λ (x : Sum). ShowsStep result (scaled m x)) e here

pub times_shown : (o : Option ℤ) (m j : ℤ) → SomeIff o (FitsSigned w128 (m *ℤ j)) (m *ℤ j) → ShowsNumber o (m *ℤ j)
times_shown o m j n = number_shown o (m *ℤ j) n

pub opposite_shown : (o : Option ℤ) (j : ℤ) → SomeIff o (FitsSigned w128 (neg_ℤ j)) (neg_ℤ j) → ShowsNumber o (negsuc 0 *ℤ j)
opposite_shown o j n = subst (ShowsNumber o) (minus j) (number_shown o (neg_ℤ j) n)
  where
    minus : (j : ℤ) → neg_ℤ j ≡ negsuc 0 *ℤ j
    minus j = omega (arith, ints)

-- one variable
one_is_some : pos 1 ≢ pos 0
one_is_some h = omega (arith, ints, h)

pub variable_step : (k : ℕ) (old ts : List (ℤ × ℕ)) (z : ℤ) (result : Result Sum SumStop) → old ≡ [] → z ≡ pos 1 → Sets old ts k (z +ℤ coefficient old k) → ((w : Sum) → IsStepTo w (Ok ts) (Some (pos 0)) → ShowsStep result w) →
    ShowsStep result (of_variable k)
unfolding coefficient Ascend
variable_step k old ts z result none e sets step = step (of_variable k) ((one_is_some, omega arith, tt), (λ n. here n ∙ by (n == k)), (refl, refl))
  where
    here : (n : ℕ) → coefficient ts n ≡ cond (n == k) (z +ℤ pos 0) (pos 0)
    here n = sets n ∙ ap (λ (us : List (ℤ × ℕ)). cond (n == k) (z +ℤ coefficient us k) (coefficient us n)) none

    by : (b : Bool) → cond b (z +ℤ pos 0) (pos 0) ≡ cond b (pos 1 +ℤ pos 0) (pos 0)
    by true = ap (λ (x : ℤ). x +ℤ pos 0) e
    by false = refl

pub variable_refused : (k : ℕ) (old ts : List (ℤ × ℕ)) (z : ℤ) (stop : SumStop) → old ≡ [] → z ≡ pos 1 → Joins old ts k z (Err stop) → ShowsStep (Err stop) (of_variable k)
unfolding coefficient
variable_refused k old ts z SumStop.Wide none e j =
    absurd (let h : has_128_bits (pos 1 +ℤ pos 0) ≡ false = (λ i. has_128_bits (sym e i +ℤ coefficient (sym none i) k)) ∙ j in cc)
variable_refused k old ts z SumStop.Memory none e j = tt

pub none_joined : (ts : List (ℤ × ℕ)) → ts ≡ [] → Ascend 0 ts × (have_128_bits ts ≡ true)
unfolding Ascend have_128_bits
none_joined ts e = subst (λ (us : List (ℤ × ℕ)). Ascend 0 us × (have_128_bits us ≡ true)) (sym e) (tt, refl)
