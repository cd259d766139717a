-- The limits of finished constraints, in the order in which one constraint is judged: first the number of its terms or items, then its coefficients, its constant and its integer items. (Own.)
use Rattle.std.specs.Prelude.{ℕ, nat_lt, nat_le, ◌^◌, Bool, true, ◌&&◌, cond, List, [], ◌∷◌, length, ℤ, neg_ℤ, int_le, nat_abs, Option, Some, None}
use Rattle.std.specs.Option.{option_or}
use Rattle.pi_constraints.specs.declared.constraint.Item.{Item}
use Rattle.pi_constraints.specs.declared.constraint.Constraint.{Constraint}
use Rattle.pi_constraints.specs.declared.domain.TheConstants.{MAX_VALUE}
use Rattle.pi_constraints.specs.Constraint.{most_items}
use Rattle.pi_prop_spec.specs.Steps.{Refusal, too_many_terms, wide_coefficient}

-- coefficients of at most 2^40, whatever their sign
unfoldable pub are_narrow : List (ℤ × ℕ) → Bool
are_narrow [] = true
are_narrow (t ∷ ts) = nat_le (nat_abs t.0) (2 ^ 40) && are_narrow ts

-- an integer item is a value that a domain can have
abbrev pub is_value : Item → Bool
is_value (Item.Var n) = true
is_value (Item.Int i) = int_le (neg_ℤ MAX_VALUE) i && int_le i MAX_VALUE

unfoldable pub are_values : List Item → Bool
are_values [] = true
are_values (x ∷ xs) = is_value x && are_values xs

-- so many terms or items, and what else is asked of them
abbrev pub refusal_by : ℕ → Bool → Option Refusal
refusal_by count narrow = cond (nat_lt most_items count) (Some too_many_terms) (cond narrow None (Some wide_coefficient))

-- why a finished constraint is refused; None where it keeps the limits
abbrev pub refusal_of : Constraint → Option Refusal
refusal_of (Constraint.Linear rel terms constant) = refusal_by (length terms) (are_narrow terms && nat_le (nat_abs constant) (2 ^ 100))
refusal_of (Constraint.Product z x y) = refusal_by 0 (are_values (z ∷ x ∷ y ∷ []))
refusal_of (Constraint.Absolute z x) = refusal_by 0 (are_values (z ∷ x ∷ []))
refusal_of (Constraint.Different items) = refusal_by (length items) (are_values items)
refusal_of (Constraint.Element index items value) = refusal_by (length items) (are_values (index ∷ value ∷ items))
refusal_of (Constraint.Reified truth rel terms constant) = refusal_by (length terms) (are_values (truth ∷ []) && are_narrow terms && nat_le (nat_abs constant) (2 ^ 100))
refusal_of (Constraint.Distinct items) = refusal_by (length items) (are_values items)

-- of several the first
unfoldable pub first_refusal : List Constraint → Option Refusal
first_refusal [] = None
first_refusal (c ∷ cs) = option_or (refusal_of c) (first_refusal cs)
