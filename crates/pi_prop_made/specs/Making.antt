-- What was made so far, as it is kept: all constraints until one is refused, and from then on why. (Own.)
use Rattle.std.specs.Prelude.{◌≡◌, ⊤, ℕ, ℤ, ◌<◌, Result, Ok, Err, ◌^◌, ◌&&◌, suc, nat_le, nat_abs, List, [], ◌∷◌, ◌++◌, length, Bool, false, Option, Some, None}
use Rattle.pi_effects.specs.Range.{has_128_bits}
use Rattle.pi_constraints.specs.declared.constraint.Constraint.{Constraint}
use Rattle.pi_prop_spec.specs.PostingSums.{Sum}
use Rattle.pi_prop_spec.specs.Steps.{Refusal, too_many_terms, wide_coefficient, Made, Reading, then, side, product_variable, absolute_variable}
use Rattle.pi_prop_made.specs.declared.stop.SumStop.{SumStop}
use Rattle.pi_prop_spec.specs.Limits.{are_narrow, refusal_by, first_refusal}
use Rattle.pi_prop_made.specs.declared.limits.Limit.{Limit}
use Rattle.pi_prop_made.specs.declared.making.Making.{Making}

-- why a constraint with this limit is refused
abbrev pub refusal_for : Limit → Refusal
refusal_for Limit.Terms = too_many_terms
refusal_for Limit.Width = wide_coefficient

-- why a constraint over a sum of these terms and this constant is refused, whatever it says of the sum
abbrev pub sum_refusal : List (ℤ × ℕ) → ℤ → Option Refusal
sum_refusal terms k = refusal_by (length terms) (are_narrow terms && nat_le (nat_abs k) (2 ^ 100))

-- a number, or none where it needs more than 128 bits
abbrev pub IsNumber : Option ℤ → ℤ → Type 0
IsNumber (Some made) k = made ≡ k
IsNumber None k = has_128_bits k ≡ false

-- the constant, where a constraint over a sum with these terms keeps its limits, or the limit that it doesn't keep
abbrev pub ShowsWithin : Result ℤ Limit → List (ℤ × ℕ) → Option ℤ → Type 0
ShowsWithin (Ok k) terms constant = (constant ≡ Some k) × (sum_refusal terms k ≡ None)
ShowsWithin (Err limit) terms constant = (k : ℤ) → IsNumber constant k → sum_refusal terms k ≡ Some (refusal_for limit)

-- the constraints that were made: all of them are kept, or the first refusal is
abbrev pub AreKept : Option Limit → List Constraint → List Constraint → Type 0
AreKept None kept made = (kept ≡ made) × (first_refusal made ≡ None)
AreKept (Some limit) kept made = first_refusal made ≡ Some (refusal_for limit)

pub record Shows (a : Making) (m : Made) : Type 0 where
  pub unused : a.unused ≡ m.unused
  pub constraints : AreKept a.refused a.constraints m.constraints

-- one more constraint, and one more variable
abbrev pub with_constraint : Made → Constraint → Made
with_constraint m c = record { unused = m.unused; constraints = m.constraints ++ c ∷ [] }

abbrev pub with_variable : Made → Made
with_variable m = record { unused = suc m.unused; constraints = m.constraints }

-- only variables below n stand in the terms
unfoldable pub AllBelow : ℕ → List (ℤ × ℕ) → Type 0
AllBelow n [] = ⊤
AllBelow n (t ∷ ts) = (t.1 < n) × AllBelow n ts

-- a reading from m gives x, and what was made by then is shown
pub record Reads {A : Type 0} (r : Reading A) (m : Made) (x : A) (new : Making) : Type 0 where
  pub made : Made
  pub is : r m ≡ Ok (record { what = x; made = made })
  pub shown : Shows new made

-- a step of a reading from m, and what is answered of it; memory may be wanted at any time
abbrev pub ShowsReading : Reading Sum → Made → Making → Result Sum SumStop → Type 0
ShowsReading r m new (Ok w) = Reads r m w new
ShowsReading r m new (Err SumStop.Wide) = r m ≡ Err wide_coefficient
ShowsReading r m new (Err SumStop.Memory) = ⊤

-- the product of two sides, and the absolute value of one, neither of them constant
abbrev pub side_product : Sum → Sum → Reading Sum
side_product u v = then (side u) (λ x. then (side v) (λ y. product_variable x y))

abbrev pub side_absolute : Sum → Reading Sum
side_absolute u = then (side u) absolute_variable
