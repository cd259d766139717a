-- Terms as they are kept: by variables, each coefficient with a sign of its own, and one sign in front of all. (Own.)
use Rattle.std.specs.Prelude.{◌≡◌, ℕ, ◌+◌, ◌-◌, ◌^◌, Bool, true, false, not, List, [], ◌∷◌, ℤ, pos, neg_ℤ, Option, Some, None}
use Rattle.std.specs.Ordering.{int_eq}
use Rattle.pi_prop_spec.specs.PostingSums.{Ascend}
use Rattle.pi_prop_made.specs.declared.coefficient.Coefficient.{Coefficient}
use Rattle.pi_prop_made.specs.declared.sum_limits.Limits.{Limits}
use Rattle.pi_prop_made.specs.Signed.{signed}

-- the number that a coefficient is, under the sign in front
abbrev pub counted : Bool → Coefficient → ℤ
counted negated c = signed negated (signed c.negated c.value)

-- the terms of the entries of a map
unfoldable pub terms_of : Bool → List (ℕ × Coefficient) → List (ℤ × ℕ)
terms_of negated [] = []
terms_of negated (e ∷ es) = (counted negated e.1, e.0) ∷ terms_of negated es

-- ---- coefficients at the limit

abbrev pub one_where : Bool → Bool → ℕ
one_where true true = 1
one_where true false = 0
one_where false b = 0

abbrev pub is_least : ℤ → Bool
is_least z = int_eq z (neg_ℤ (pos (2 ^ 127)))

-- 1 for a coefficient that is kept as -2^127 with this sign
abbrev pub limit_of : Bool → Coefficient → ℕ
limit_of true c = one_where c.negated (is_least c.value)
limit_of false c = one_where (not c.negated) (is_least c.value)

unfoldable pub limits_of : Bool → List (ℕ × Coefficient) → ℕ
limits_of negated [] = 0
limits_of negated (e ∷ es) = limit_of negated e.1 + limits_of negated es

abbrev pub LimitsMore : Limits → Coefficient → Limits → Type 0
LimitsMore old c new = (new.plain ≡ old.plain + limit_of false c) × (new.negated ≡ old.negated + limit_of true c)

-- of a coefficient that may be there
abbrev pub limit_found : Bool → Option Coefficient → ℕ
limit_found b None = 0
limit_found b (Some c) = limit_of b c

abbrev pub LimitsFewer : Limits → Option Coefficient → Limits → Type 0
LimitsFewer old c new = (new.plain ≡ old.plain - limit_found false c) × (new.negated ≡ old.negated - limit_found true c)

-- ---- entries with the sign in front and the counts that belong to them

pub record IsKept (negated : Bool) (es : List (ℕ × Coefficient)) (limits : Limits) : Type 0 where
  pub ascend : Ascend 0 (terms_of negated es)
  pub plain : limits.plain ≡ limits_of false es
  pub turned : limits.negated ≡ limits_of true es
