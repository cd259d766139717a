-- What kept entries are read as.
use Rattle.std.specs.Prelude.{◌≡◌, ◌≢◌, ℕ, ◌<◌, ◌≤◌, ◌^◌, nat_le, nat_abs, length, slice_get, Bool, true, false, ◌&&◌, cond, List, [], ◌∷◌, ◌++◌, Option, Some, None, ℤ, pos, refl}
use Rattle.std.specs.Ordering.{int_eq}
use Rattle.std.proofs.Common.{arith, tests, append_assoc, append-nil, ◌∙◌, ap, sym}
use Rattle.std.proofs.lemmas.Int.{ints}
use Rattle.pi_prop_spec.specs.Limits.{are_narrow}
use Rattle.pi_prop_spec.specs.Steps.{variable_of_terms}
use Rattle.pi_prop_made.specs.declared.coefficient.Coefficient.{Coefficient}
use Rattle.pi_prop_made.specs.Signed.{signed}
use Rattle.pi_prop_made.specs.Kept.{counted, terms_of}
use Rattle.pi_prop_made.proofs.KeptLemmas.{length-terms_of}

-- ---- terms are written one after the other

pub written_next : (f : Bool) (before after all : List (ℤ × ℕ)) (here rest : List (ℕ × Coefficient)) (k : ℕ) (c : Coefficient) (z : ℤ) → before ++ terms_of f here ≡ all → here ≡ (k, c) ∷ rest → z ≡ counted f c → after ≡ before ++ (z, k) ∷ [] →
    after ++ terms_of f rest ≡ all
unfolding terms_of
written_next f before after all here rest k c z so is e push =
    ap (λ (ts : List (ℤ × ℕ)). ts ++ terms_of f rest) (push ∙ ap (λ (x : ℤ). before ++ (x, k) ∷ []) e)
    ∙ (append_assoc before ((counted f c, k) ∷ []) (terms_of f rest) ∙ (sym (ap (λ (hs : List (ℕ × Coefficient)). before ++ terms_of f hs) is) ∙ so))

pub all_written : (f : Bool) (written all : List (ℤ × ℕ)) (here : List (ℕ × Coefficient)) → written ++ terms_of f here ≡ all → here ≡ [] → written ≡ all
unfolding terms_of
all_written f written all here so is = sym (append-nil written) ∙ (sym (ap (λ (hs : List (ℕ × Coefficient)). written ++ terms_of f hs) is) ∙ so)

-- ---- whether they are narrow

same_magnitude : (b : Bool) (z : ℤ) → nat_abs (signed b z) ≡ nat_abs z
same_magnitude false z = refl
same_magnitude true z = grind (arith, ints)

pub narrow_any : (f : Bool) (es : List (ℕ × Coefficient)) → are_narrow (terms_of f es) ≡ are_narrow (terms_of false es)
unfolding terms_of are_narrow
narrow_any f [] = refl
narrow_any f (e ∷ es) = (λ i. nat_le (same_magnitude f (signed e.1.negated e.1.value) i) (2 ^ 40) && narrow_any f es i)

first_narrow : (here rest : List (ℕ × Coefficient)) (k : ℕ) (c : Coefficient) → here ≡ (k, c) ∷ rest → are_narrow (terms_of false here) ≡ (nat_le (nat_abs c.value) (2 ^ 40) && are_narrow (terms_of false rest))
unfolding terms_of are_narrow
first_narrow here rest k c is = ap (λ (hs : List (ℕ × Coefficient)). are_narrow (terms_of false hs)) is ∙ ap (λ (n : ℕ). nat_le n (2 ^ 40) && are_narrow (terms_of false rest)) (same_magnitude c.negated c.value)

pub narrow_stops : (here rest : List (ℕ × Coefficient)) (k : ℕ) (c : Coefficient) → here ≡ (k, c) ∷ rest → 2 ^ 40 < nat_abs c.value → are_narrow (terms_of false here) ≡ false
narrow_stops here rest k c is h = first_narrow here rest k c is ∙ ap (λ (b : Bool). b && are_narrow (terms_of false rest)) (wide (nat_le (nat_abs c.value) (2 ^ 40)) refl)
  where
    wide : (b : Bool) → nat_le (nat_abs c.value) (2 ^ 40) ≡ b → nat_le (nat_abs c.value) (2 ^ 40) ≡ false
    wide true e = absurd (grind (arith, tests, e, h))
    wide false e = e

pub narrow_next : (here rest : List (ℕ × Coefficient)) (k : ℕ) (c : Coefficient) → here ≡ (k, c) ∷ rest → nat_abs c.value ≤ 2 ^ 40 → are_narrow (terms_of false here) ≡ are_narrow (terms_of false rest)
narrow_next here rest k c is h = first_narrow here rest k c is ∙ ap (λ (b : Bool). b && are_narrow (terms_of false rest)) (narrow (nat_le (nat_abs c.value) (2 ^ 40)) refl)
  where
    narrow : (b : Bool) → nat_le (nat_abs c.value) (2 ^ 40) ≡ b → nat_le (nat_abs c.value) (2 ^ 40) ≡ true
    narrow true e = e
    narrow false e = absurd (grind (arith, tests, e, h))

pub narrow_all : (here : List (ℕ × Coefficient)) → here ≡ [] → are_narrow (terms_of false here) ≡ true
unfolding terms_of are_narrow
narrow_all here is = ap (λ (hs : List (ℕ × Coefficient)). are_narrow (terms_of false hs)) is

-- ---- whether one variable stands alone

not_one_term : (ts : List (ℤ × ℕ)) → length ts ≢ 1 → None ≡ variable_of_terms ts (pos 0)
not_one_term [] h = refl
not_one_term (t ∷ []) h = absurd (h refl)
not_one_term (t ∷ u ∷ ts) h = refl

pub not_single : (f : Bool) (es : List (ℕ × Coefficient)) (ts : List (ℤ × ℕ)) → terms_of f es ≡ ts → length es ≢ 1 → None ≡ variable_of_terms ts (pos 0)
not_single f es ts view h = not_one_term ts (λ e. h (sym (length-terms_of f es) ∙ (ap (λ (us : List (ℤ × ℕ)). length us) view ∙ e)))

pub single_one : (f : Bool) (es : List (ℕ × Coefficient)) (ts : List (ℤ × ℕ)) (k : ℕ) (c : Coefficient) (z : ℤ) → terms_of f es ≡ ts → length es ≡ 1 → slice_get es 0 ≡ Some (k, c) → z ≡ counted f c → (b : Bool) → b ≡ int_eq z (pos 1) →
    cond b (Some k) None ≡ variable_of_terms ts (pos 0)
unfolding terms_of
single_one f [] ts k c z view one first e b is = absurd (omega (arith, one))
single_one f (d ∷ []) ts k c z view one first e b is =
    let same : d ≡ (k, c) = ap (option_or_first d) first in
    let test : b ≡ int_eq (counted f c) (pos 1) = is ∙ ap (λ (x : ℤ). int_eq x (pos 1)) e in
    (ap (λ (t : Bool). cond t (Some k) None) test ∙ by (int_eq (counted f c) (pos 1)))
    ∙ (ap (λ (x : ℕ × Coefficient). variable_of_terms ((counted f x.1, x.0) ∷ []) (pos 0)) (sym same) ∙ ap (λ (us : List (ℤ × ℕ)). variable_of_terms us (pos 0)) view)
  where
    option_or_first : ℕ × Coefficient → Option (ℕ × Coefficient) → ℕ × Coefficient
    option_or_first d None = d
    option_or_first d (Some x) = x

    by : (t : Bool) → cond t (Some k) None ≡ cond (t && true) (Some k) None
    by true = refl
    by false = refl
single_one f (d ∷ e ∷ es) ts k c z view one first g b is = absurd (omega (arith, one))
