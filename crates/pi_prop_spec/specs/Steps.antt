-- Reading step by step: what was made so far, steps that are judged, new variables, and each node of an operand. (A User's Guide to Picat, 'Constraints'; the forms that constraints
-- are brought into, the limits and their order are own.)
use Rattle.std.specs.Prelude.{ℕ, suc, Bool, true, ◌&&◌, cond, List, [], ◌∷◌, ◌++◌, ℤ, pos, Option, Some, None, Result, Ok, Err}
use Rattle.std.specs.Ordering.{int_eq}
use Rattle.pi_terms.specs.Tree.{Tree}
use Rattle.pi_effects.specs.Range.{has_128_bits}
use Rattle.pi_constraints.specs.declared.constraint.Rel.{Rel}
use Rattle.pi_constraints.specs.declared.constraint.Item.{Item}
use Rattle.pi_constraints.specs.declared.constraint.Constraint.{Constraint}
use Rattle.pi_prop_spec.specs.Rules.{magnitude}
use Rattle.pi_prop_spec.specs.Operands.{Operand, number, variable, plus, minus, times, positive, negative, absolute, total, no_operand, Operands, no_operands, operand}
use Rattle.pi_prop_spec.specs.PostingSums.{Sum, of_number, of_variable, added, scaled, opposite, difference}

-- why a goal is refused: a term that can't stand where it does; too many terms or items; a coefficient, a constant or an integer item that is too wide
pub data Refusal : Type 0 where
  not_a_constraint : Tree → Refusal
  too_many_terms : Refusal
  wide_coefficient : Refusal

-- what was made so far: the number that the next new variable gets, and the constraints, in the order of their making
pub record Made : Type 0 where
  pub unused : ℕ
  pub constraints : List Constraint

-- something that was read, and what was made by then
pub record Known (A : Type 0) : Type 0 where
  pub what : A
  pub made : Made

-- a reading goes on from what was made before it
abbrev pub Reading : Type 0 → Type 0
Reading A = Made → Result (Known A) Refusal

abbrev pub gives : {A : Type 0} → A → Reading A
gives x m = Ok (record { what = x; made = m })

abbrev pub refuses : {A : Type 0} → Refusal → Reading A
refuses r m = Err r

abbrev pub after : {A B : Type 0} → Result (Known A) Refusal → (A → Reading B) → Result (Known B) Refusal
after (Err r) f = Err r
after (Ok k) f = f k.what k.made

-- one reading and then another, unless the first is refused
abbrev pub then : {A B : Type 0} → Reading A → (A → Reading B) → Reading B
then r f m = after (r m) f

-- a new variable, by its number
abbrev pub new_variable : Reading ℕ
new_variable m = Ok (record { what = m.unused; made = record { unused = suc m.unused; constraints = m.constraints } })

-- a constraint is made, and then this is read
abbrev pub posting : {A : Type 0} → Constraint → Reading A → Reading A
posting c r m = r (record { unused = m.unused; constraints = m.constraints ++ c ∷ [] })

-- a sum that stands so to 0
abbrev pub linear : Rel → Sum → Constraint
linear rel u = Constraint.Linear rel u.terms u.constant

-- ---- steps

-- each coefficient has 128 bits
unfoldable pub have_128_bits : List (ℤ × ℕ) → Bool
have_128_bits [] = true
have_128_bits (t ∷ ts) = has_128_bits t.0 && have_128_bits ts

-- the sum of a step, unless a coefficient or the constant needs more than 128 bits
abbrev pub step : Sum → Reading Sum
step u = cond (have_128_bits u.terms && has_128_bits u.constant) (gives u) (refuses wide_coefficient)

-- ---- sides of products, and operands of `abs`

-- the constant that a sum is
abbrev pub constant_of_terms : List (ℤ × ℕ) → ℤ → Option ℤ
constant_of_terms [] k = Some k
constant_of_terms (t ∷ ts) k = None

abbrev pub constant_of : Sum → Option ℤ
constant_of u = constant_of_terms u.terms u.constant

-- the variable that a sum is: it has the coefficient 1, no other stands beside it, and the constant is 0
abbrev pub variable_of_terms : List (ℤ × ℕ) → ℤ → Option ℕ
variable_of_terms [] k = None
variable_of_terms (t ∷ []) k = cond (int_eq t.0 (pos 1) && int_eq k (pos 0)) (Some t.1) None
variable_of_terms (t ∷ u ∷ ts) k = None

abbrev pub variable_of : Sum → Option ℕ
variable_of u = variable_of_terms u.terms u.constant

-- that variable; or a new variable N, with N - side = 0
abbrev pub side_by : Option ℕ → Sum → Reading ℕ
side_by (Some n) u = gives n
side_by None u = then new_variable (λ n. posting (linear Rel.Equal (difference (of_variable n) u)) (gives n))

abbrev pub side : Sum → Reading ℕ
side u = side_by (variable_of u) u

-- ---- products: a constant side scales the other; of two that aren't constant a new variable is the product of their variables

abbrev pub product_variable : ℕ → ℕ → Reading Sum
product_variable x y = then new_variable (λ z. posting (Constraint.Product (Item.Var z) (Item.Var x) (Item.Var y)) (gives (of_variable z)))

abbrev pub product_by : Option ℤ → Option ℤ → Sum → Sum → Reading Sum
product_by (Some c) d u v = gives (scaled c v)
product_by None (Some d) u v = gives (scaled d u)
product_by None None u v = then (side u) (λ x. then (side v) (λ y. product_variable x y))

abbrev pub product : Sum → Sum → Reading Sum
product u v = product_by (constant_of u) (constant_of v) u v

-- ---- `abs`: of a constant it is one; of any other operand a new variable is the absolute value of its variable

abbrev pub absolute_variable : ℕ → Reading Sum
absolute_variable x = then new_variable (λ z. posting (Constraint.Absolute (Item.Var z) (Item.Var x)) (gives (of_variable z)))

abbrev pub absolute_by : Option ℤ → Sum → Reading Sum
absolute_by (Some c) u = gives (of_number (magnitude c))
absolute_by None u = then (side u) absolute_variable

abbrev pub absolute_sum : Sum → Reading Sum
absolute_sum u = absolute_by (constant_of u) u

-- ---- operands: left before right, and each node's sum is a step behind those in it

unfoldable mutual
  pub read_operand : Operand → Reading Sum
  read_operand (number i) = gives (of_number i)
  read_operand (variable n) = gives (of_variable n)
  read_operand (plus x y) = then (read_operand x) (λ u. then (read_operand y) (λ v. step (added u v)))
  read_operand (minus x y) = then (read_operand x) (λ u. then (read_operand y) (λ v. step (difference u v)))
  read_operand (times x y) = then (read_operand x) (λ u. then (read_operand y) (λ v. then (product u v) step))
  read_operand (positive x) = then (read_operand x) step
  read_operand (negative x) = then (read_operand x) (λ u. step (opposite u))
  read_operand (absolute x) = then (read_operand x) (λ u. then (absolute_sum u) step)
  read_operand (total xs) = read_items xs (of_number (pos 0))
  read_operand (no_operand t) = refuses (not_a_constraint t)

  -- the items of `sum`, added to a sum one by one, each a step
  pub read_items : Operands → Sum → Reading Sum
  read_items no_operands u = gives u
  read_items (operand x xs) u = then (read_operand x) (λ v. then (step (added u v)) (read_items xs))
