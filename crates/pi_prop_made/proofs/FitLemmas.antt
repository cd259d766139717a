-- Coefficients have 128 bits just where none is at the limit that the sign in front turns.
use Rattle.std.specs.Prelude.{◌≡◌, ℕ, zero, suc, ◌+◌, ◌==◌, Bool, true, false, not, ◌&&◌, List, [], ◌∷◌, ℤ, neg_ℤ, refl}
use Rattle.std.proofs.Common.{arith, ◌∙◌, ap, sym, tests}
use Rattle.std.proofs.lemmas.Int.{ints}
use Rattle.pi_effects.specs.Range.{has_128_bits}
use Rattle.pi_prop_spec.specs.Steps.{have_128_bits}
use Rattle.pi_prop_made.specs.declared.coefficient.Coefficient.{Coefficient}
use Rattle.pi_prop_made.specs.Signed.{signed}
use Rattle.pi_prop_made.specs.Kept.{counted, terms_of, one_where, is_least, limit_of, limits_of}

-- the opposite of a number of 128 bits
opposite_fits : (z : ℤ) → has_128_bits z ≡ true → has_128_bits (neg_ℤ z) ≡ not (is_least z)
opposite_fits z e = grind (arith, ints, e)

twice : (z : ℤ) → neg_ℤ (neg_ℤ z) ≡ z
twice z = omega (arith, ints)

none_or_one : (b : Bool) → not b ≡ (one_where true b == 0)
none_or_one true = refl
none_or_one false = refl

plain_fits : (negated : Bool) (z : ℤ) → has_128_bits z ≡ true → has_128_bits (signed negated z) ≡ (one_where negated (is_least z) == 0)
plain_fits false z e = e
plain_fits true z e = opposite_fits z e ∙ none_or_one (is_least z)

turned_fits : (negated : Bool) (z : ℤ) → has_128_bits z ≡ true → has_128_bits (neg_ℤ (signed negated z)) ≡ (one_where (not negated) (is_least z) == 0)
turned_fits false z e = opposite_fits z e ∙ none_or_one (is_least z)
turned_fits true z e = ap has_128_bits (twice z) ∙ e

one_fits : (f : Bool) (c : Coefficient) → has_128_bits (counted f c) ≡ (limit_of (not f) c == 0)
one_fits false c = plain_fits c.negated c.value c.fits
one_fits true c = turned_fits c.negated c.value c.fits

none_of : (m n : ℕ) → ((m == 0) && (n == 0)) ≡ (m + n == 0)
none_of zero zero = refl
none_of zero (suc n) = grind (arith, tests)
none_of (suc m) n = grind (arith, tests)

pub all_fit : (f : Bool) (es : List (ℕ × Coefficient)) → (limits_of (not f) es == 0) ≡ have_128_bits (terms_of f es)
unfolding terms_of limits_of have_128_bits
all_fit f [] = refl
all_fit f (e ∷ es) = sym ((λ i. one_fits f e.1 i && sym (all_fit f es) i) ∙ none_of (limit_of (not f) e.1) (limits_of (not f) es))

pub fit_by : (f : Bool) (es : List (ℕ × Coefficient)) (count : ℕ) (ts : List (ℤ × ℕ)) → terms_of f es ≡ ts → count ≡ limits_of (not f) es → (count == 0) ≡ have_128_bits ts
fit_by f es count ts view e = ap (λ (n : ℕ). n == 0) e ∙ (all_fit f es ∙ ap have_128_bits view)
