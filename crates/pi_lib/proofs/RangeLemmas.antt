-- Values of a range by their numbers, and how many they are.
use Rattle.std.proofs.Common.{◌≡◌, ◌≢◌, ℕ, zero, suc, ◌+◌, ◌-◌, ◌/◌, ◌<◌, ◌≤◌, Bool, true, false, cond, [], ◌∷◌, Some, refl, ap, sym, ◌∙◌, subst, arith, tests, lt-ltb}
use Rattle.std.specs.Prelude.{ℤ, pos, negsuc, ◌+ℤ◌, ◌-ℤ◌, ◌*ℤ◌, int_lt, int_le, unsigned_abs, ◌&&◌, FitsSigned, Option, Ok, Err, codes}
use Rattle.std.specs.Int.{w128, int_gap}
use Rattle.std.proofs.lemmas.Int.{ints}
use Rattle.pi_terms.specs.Tree.{Tree, Trees, int, atom, comp}
use Rattle.pi_terms.proofs.OptionLemmas.{not-less}
use Rattle.pi_terms.specs.ListNames.{nil, cell_name}
use Rattle.pi_terms.specs.ListCopies.{list_cell}
use Rattle.pi_lib.proofs.StoreLemmas.{cell_put}
use lib.IntN.{suc_ℤ-*ℤ, zero-*ℤ}
use Rattle.pi_constraints.specs.State.{State, bindings, followed}
use Rattle.pi_constraints.specs.Store.{StoreView, IsTerm, AreTerms, Keeps}
use Rattle.pi_constraints.specs.declared.store.Ref.{Ref}
use Rattle.pi_effects.specs.Items.{list_onto, list_of}
use Rattle.pi_effects.specs.Range.{has_128_bits}
use Rattle.pi_effects.specs.declared.arith_fault.ArithFault.TheVariants.{Overflow}
use Rattle.pi_effects.specs.Exception.{type_error, range_too_long}
use Rattle.pi_effects.specs.Integers.{fault_term}
use Rattle.pi_effects.specs.Answer.{Answer, found_or, integers_then}
use Rattle.pi_effects.specs.Ranges.{most_items, count_by, values_by, counted, counted_by}
use Rattle.pi_effects.specs.Inner.{pair_parts}
use Rattle.pi_effects.proofs.RangeLemmas.{bits-fit, value-fits}
use Rattle.pi_lib.specs.Steps.{value_after, AllFit}

pub first_value : (low step : ℤ) → value_after low step 0 ≡ low
first_value low step = let none : pos 0 *ℤ step ≡ pos 0 = zero-*ℤ step in rw none (omega (arith, ints))

pub next_value : (low step : ℤ) (k : ℕ) → value_after low step (suc k) ≡ value_after low step k +ℤ step
next_value low step k = let more : pos (suc k) *ℤ step ≡ pos k *ℤ step +ℤ step = suc_ℤ-*ℤ (pos k) step in omega (arith, ints, more)

-- the values from a number on
pub values_from : (low step : ℤ) (j k : ℕ) → values_by (suc j) (value_after low step k) step ≡ int (value_after low step k) ∷ values_by j (value_after low step (suc k)) step
unfolding values_by
values_from low step j k = ap (λ v. int (value_after low step k) ∷ values_by j v step) (sym (next_value low step k))

-- each value of a range fits
pub values_fit : (low step high : ℤ) → FitsSigned w128 low → FitsSigned w128 high → AllFit low step (count_by low step high)
values_fit low step high f g k h = value-fits low step high f g k h

-- ---- values that are put, from the last one on

pub none_put : {M : Type 0} (w : StoreView M) (list : Ref) (low step : ℤ) (j : ℕ) → j ≡ 0 → IsTerm w list (atom nil) → IsTerm w list (list_of (values_by j low step))
unfolding values_by list_onto
none_put w list low step j e is = subst (λ (i : ℕ). IsTerm w list (list_of (values_by i low step))) (sym e) is

pub one_put : {M : Type 0} (w x y : StoreView M) (value list made : Ref) (low step : ℤ) (count k i : ℕ) → i + 1 ≡ k → k ≤ count → IsTerm x value (int (value_after low step i)) → IsTerm w list (list_of (values_by (count - k) (value_after low step k) step)) → Keeps w x → ((ts : Trees) → AreTerms x (value ∷ list ∷ []) ts → IsTerm y made (comp cell_name ts)) → IsTerm y made (list_of (values_by (count - i) (value_after low step i) step))
unfolding list_onto
one_put w x y value list made low step count k i next within is rest keeps puts =
    let j : ℕ = count - k in
    let many : count - i ≡ suc j = omega arith in
    let after : k ≡ suc i = omega arith in
    let behind : Tree = list_of (values_by j (value_after low step (suc i)) step) in
    let kept : IsTerm x list behind = keeps.terms list behind (rest ∙ ap (λ m. Some (list_of (values_by j (value_after low step m) step))) after) in
    let cell : IsTerm y made (list_cell (int (value_after low step i)) behind) = cell_put x y value list made (int (value_after low step i)) behind is kept puts in
    cell ∙ ap (λ ts. Some (list_of ts)) (sym (ap (λ m. values_by m (value_after low step i) step) many ∙ values_from low step j i))

pub all_put : {M : Type 0} (w : StoreView M) (list : Ref) (low step : ℤ) (count k : ℕ) → k ≡ 0 → IsTerm w list (list_of (values_by (count - k) (value_after low step k) step)) → IsTerm w list (list_of (values_by count low step))
all_put w list low step count k e is =
    let many : count - k ≡ count = omega arith in
    is ∙ ap (λ m. Some (list_of (values_by m (value_after low step k) step))) many
    ∙ ap (λ m. Some (list_of (values_by count m step))) (ap (value_after low step) e ∙ first_value low step)

-- ---- ranges

-- a step that isn't 0
pub step_counts : {A : Type 0} (make : ℕ → A) (low step high : ℤ) → step ≢ pos 0 → counted_by make low step high ≡ counted make low step high
step_counts make low (pos zero) high other = absurd (other refl)
step_counts make low (pos (suc n)) high other = refl
step_counts make low (negsuc n) high other = refl

-- ---- how many values a range has

abbrev pub number_of : ℕ → Tree
number_of count = int (pos count)

-- what follows from the first number and from what an array has
abbrev pub pair_then : State → Tree → ℤ → Option (Tree × Tree) → Answer Tree
pair_then s u low pair = found_or pair (type_error (codes "array") u s) (λ p. integers_then s p.0 p.1 (λ step high. counted_by number_of low step high))

abbrev pub pair_counted : State → Tree → ℤ → Answer Tree
pair_counted s u low = pair_then s u low (pair_parts (followed (bindings s) u))

-- ---- how many values a range has, by the distance of its bounds

distance_up : (low high : ℤ) → int_le low high ≡ true → unsigned_abs (low -ℤ high) ≡ int_gap low high
distance_up (pos a) (pos b) h = omega (arith, ints)
distance_up (pos a) (negsuc b) h = cc
distance_up (negsuc a) (pos b) h = omega (arith, ints)
distance_up (negsuc a) (negsuc b) h = omega (arith, ints)

distance_down : (low high : ℤ) → int_le high low ≡ true → unsigned_abs (low -ℤ high) ≡ int_gap high low
distance_down (pos a) (pos b) h = omega (arith, ints)
distance_down (pos a) (negsuc b) h = omega (arith, ints)
distance_down (negsuc a) (pos b) h = cc
distance_down (negsuc a) (negsuc b) h = omega (arith, ints)

-- a range whose bounds stand the other way round has none
abbrev pub is_empty_range : ℤ → ℤ → ℤ → Bool
is_empty_range low step high = cond (int_lt (pos 0) step) (int_lt high low) (int_lt low high)

not_true : (b : Bool) → (b ≡ true → ⊥) → b ≡ false
not_true true h = absurd (h refl)
not_true false h = refl

not_false : (b : Bool) → (b ≡ false → ⊥) → b ≡ true
not_false true h = refl
not_false false h = absurd (h refl)

empty_upwards : (low high : ℤ) (n : ℕ) → is_empty_range low (pos (suc n)) high ≡ int_lt high low
empty_upwards low high n = ap (λ up. cond up (int_lt high low) (int_lt low high)) (not_false (int_lt (pos 0) (pos (suc n))) (λ e. omega (arith, ints)))

-- the test by the direction of the step
pub empty_up : (low step high : ℤ) (empty : Bool) → int_lt (pos 0) step ≡ true → empty ≡ int_lt high low → is_empty_range low step high ≡ empty
empty_up low step high empty up e = ap (λ b. cond b (int_lt high low) (int_lt low high)) up ∙ sym e

pub empty_down : (low step high : ℤ) (empty : Bool) → int_lt (pos 0) step ≡ false → empty ≡ int_lt low high → is_empty_range low step high ≡ empty
empty_down low step high empty down e = ap (λ b. cond b (int_lt high low) (int_lt low high)) down ∙ sym e

pub none_counted : (low step high : ℤ) → step ≢ pos 0 → is_empty_range low step high ≡ true → count_by low step high ≡ 0
none_counted low (pos zero) high other empty = refl
none_counted low (pos (suc n)) high other empty =
    let past : int_lt high low ≡ true = sym (empty_upwards low high n) ∙ empty in
    ap (λ b. cond b (suc (int_gap low high / suc n)) 0) (not_true (int_le low high) (λ e. omega (arith, ints)))
none_counted low (negsuc n) high other empty =
    let past : int_lt low high ≡ true = empty in
    ap (λ b. cond b (suc (int_gap high low / suc n)) 0) (not_true (int_le high low) (λ e. omega (arith, ints)))

pub steps_counted : (low step high : ℤ) (distance size : ℕ) → step ≢ pos 0 → is_empty_range low step high ≡ false → distance ≡ unsigned_abs (low -ℤ high) → size ≡ unsigned_abs step → count_by low step high ≡ suc (distance / size)
steps_counted low (pos zero) high distance size other some far large = absurd (other refl)
steps_counted low (pos (suc n)) high distance size other some far large =
    let past : int_lt high low ≡ false = sym (empty_upwards low high n) ∙ some in
    let within : int_le low high ≡ true = not_false (int_le low high) (λ e. omega (arith, ints)) in
    ap (λ b. cond b (suc (int_gap low high / suc n)) 0) within ∙ (ap (λ d. suc (d / suc n)) (sym (far ∙ distance_up low high within)) ∙ ap (λ m. suc (distance / m)) (sym large))
steps_counted low (negsuc n) high distance size other some far large =
    let past : int_lt low high ≡ false = some in
    let within : int_le high low ≡ true = not_false (int_le high low) (λ e. omega (arith, ints)) in
    ap (λ b. cond b (suc (int_gap high low / suc n)) 0) within ∙ (ap (λ d. suc (d / suc n)) (sym (far ∙ distance_down low high within)) ∙ ap (λ m. suc (distance / m)) (sym large))

-- what is counted where a list has room for it, between numbers of 128 bits
pub counted_so : {A : Type 0} (make : ℕ → A) (low step high : ℤ) (count : ℕ) → FitsSigned w128 low → FitsSigned w128 high → count ≡ count_by low step high → count ≤ most_items → counted make low step high ≡ Ok (make count)
counted_so make low step high count f g is few =
    let c : ℕ = count_by low step high in
    ap (λ b. cond b (Err range_too_long) (cond (has_128_bits low && has_128_bits high) (Ok (make c)) (Err (fault_term Overflow)))) (not-less most_items c (subst (λ (k : ℕ). k ≤ most_items) is few))
    ∙ (ap (λ b. cond (b && has_128_bits high) (Ok (make c)) (Err (fault_term Overflow))) (bits-fit low f)
    ∙ (ap (λ b. cond b (Ok (make c)) (Err (fault_term Overflow))) (bits-fit high g) ∙ ap (λ k. Ok (make k)) (sym is)))

pub counted_too_long : {A : Type 0} (make : ℕ → A) (low step high : ℤ) → most_items < count_by low step high → counted make low step high ≡ Err range_too_long
counted_too_long make low step high many =
    ap (λ b. cond b (Err range_too_long) (cond (has_128_bits low && has_128_bits high) (Ok (make (count_by low step high))) (Err (fault_term Overflow)))) (lt-ltb most_items (count_by low step high) many)
