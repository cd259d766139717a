-- The filter of `all_different`: it is monotone, loses no solution, and is decisive.
use Rattle.std.specs.Prelude.{◌≡◌, ◌≢◌, ◌⊎◌, ℕ, zero, suc, ◌<◌, List, [], ◌∷◌, length, get_or, ℤ, pos, refl}
use Rattle.std.proofs.Common.{arith, sym, ◌∙◌, inl, inr}
use Rattle.std.proofs.lemmas.Int.{ints, by_lt_z}
use Rattle.std.proofs.lemmas.Bool.{cases_order}
use Rattle.pi_constraints.specs.declared.domain.Span.{Span}
use Rattle.pi_prop_spec.specs.Ends.{least_of, IsFixedTo}
use Rattle.pi_prop_spec.specs.Places.{domain_at}
use Rattle.pi_prop_spec.specs.Rules.{DifferentKeeps}
use Rattle.pi_prop_spec.specs.Solutions.{AreDifferent}
use Rattle.pi_prop_spec.proofs.EndLemmas.{fixed_within}
use Rattle.pi_prop_spec.proofs.PlaceLemmas.{Given, Decided, Narrowed, given_only, narrowed_ends}

-- the value at a place of a list
abbrev pub value_in : List ℤ → ℕ → ℤ
value_in ns k = get_or ns k (pos 0)

-- in any order of the places
pub apart : (ns : List ℤ) (i j : ℕ) → AreDifferent ns → i < length ns → j < length ns → i ≢ j → value_in ns i ≢ value_in ns j
apart ns i j d l m other = λ e. elim (cases_order i j) [ inl same ↦ other same | inr h ↦ elim h [ inl b ↦ d i j b m e | inr b ↦ d j i b l (sym e) ] ]

pub differences-keep_solutions : (ds : List (List Span)) (ns : List ℤ) (k : ℕ) (n : ℤ) → Given (value_in ns) ds → length ds ≡ length ns → k < length ds → AreDifferent ns → n ≡ value_in ns k → DifferentKeeps ds k n
differences-keep_solutions ds ns k n g c l d e = λ j b other fixed same.
    let there : value_in ns j ≡ least_of (domain_at ds j) = given_only (value_in ns) ds j (least_of (domain_at ds j)) g b (refl, sym fixed) in
    apart ns j k d (omega (arith, c)) (omega (arith, c)) other (there ∙ (sym same ∙ e))

same_or_apart : (x y : ℤ) → (x ≡ y) ⊎ (x ≢ y)
same_or_apart x y = by_lt_z x y (λ b. inr (λ e. omega (arith, ints))) (λ b. by_lt_z y x (λ c. inr (λ e. omega (arith, ints))) (λ c. inl (omega (arith, ints))))

not_found : (x y : ℤ) (ns : List ℤ) → x ≢ y → ((j : ℕ) → j < length ns → x ≢ value_in ns j) → (j : ℕ) → j < length (y ∷ ns) → x ≢ value_in (y ∷ ns) j
not_found x y ns o none zero l = o
not_found x y ns o none (suc j) l = none j (omega arith)

-- a number stands in a list, or it stands nowhere in it
found_or_not : (x : ℤ) (ns : List ℤ) → ((j : ℕ) × (j < length ns) × (x ≡ value_in ns j)) ⊎ ((j : ℕ) → j < length ns → x ≢ value_in ns j)
found_or_not x [] = inr (λ j l e. omega arith)
found_or_not x (y ∷ ns) = elim (same_or_apart x y) [
  | inl e ↦ inl (0, omega arith, e)
  | inr o ↦ elim (found_or_not x ns) [
    | inl f ↦ inl (suc f.0, omega (arith, f.1), f.2)
    | inr none ↦ inr (not_found x y ns o none)
  ]
]

-- two places with one number
pub record HasPair (ns : List ℤ) : Type 0 where
  pub first : ℕ
  pub second : ℕ
  pub ordered : first < second
  pub inside : second < length ns
  pub same : value_in ns first ≡ value_in ns second

different_behind : (x : ℤ) (ns : List ℤ) → ((j : ℕ) → j < length ns → x ≢ value_in ns j) → AreDifferent ns → AreDifferent (x ∷ ns)
different_behind x ns none d zero zero b l = λ e. omega arith
different_behind x ns none d zero (suc j) b l = none j (omega arith)
different_behind x ns none d (suc i) zero b l = λ e. omega arith
different_behind x ns none d (suc i) (suc j) b l = d i j (omega arith) (omega arith)

pub different_or_pair : (ns : List ℤ) → AreDifferent ns ⊎ HasPair ns
different_or_pair [] = inl (λ i j b l e. omega arith)
different_or_pair (x ∷ ns) = elim (different_or_pair ns) [
  | inr p ↦ inr (record { first = suc p.first; second = suc p.second; ordered = omega (arith, p.ordered); inside = omega (arith, p.inside); same = p.same })
  | inl d ↦ elim (found_or_not x ns) [
    | inl f ↦ inr (record { first = 0; second = suc f.0; ordered = omega arith; inside = omega (arith, f.1); same = f.2 })
    | inr none ↦ inl (different_behind x ns none d)
  ]
]

-- at the first of two fixed places with one value nothing is kept
pub pair-empties : (ds : List (List Span)) (ns : List ℤ) (p : HasPair ns) → Decided (value_in ns) ds → length ds ≡ length ns → DifferentKeeps ds p.first (value_in ns p.first) → ⊥
pair-empties ds ns p d c h =
    let inside : p.second < length ds = omega (arith, p.inside, c) in
    let fixed : IsFixedTo (domain_at ds p.second) (value_in ns p.second) = d.fixed p.second inside in
    h p.second inside (λ e. omega (arith, p.ordered)) (fixed.0 ∙ sym fixed.1) (p.same ∙ sym fixed.0)

pub differences-are_monotone : (ds es : List (List Span)) (k : ℕ) (n : ℤ) → Narrowed ds es → DifferentKeeps es k n → DifferentKeeps ds k n
differences-are_monotone ds es k n w h = λ j l other fixed same.
    let ends = fixed_within (domain_at ds j) (domain_at es j) (narrowed_ends ds es j w l) fixed in
    h j (omega (arith, w.count)) other (ends.0 ∙ (fixed ∙ sym ends.1)) (same ∙ sym ends.0)
