-- What a goal says of values, apart from how it is posted: the value of an operand, the truth of a Boolean expression, whether a goal is so. Variable n has the value a n. (A User's Guide
-- to Picat, 'Constraints'.)
use Rattle.std.specs.Prelude.{◌≡◌, ℕ, zero, suc, ◌<◌, Bool, true, false, not, ◌&&◌, ◌||◌, ⊤, List, [], ◌∷◌, length, map, get_or, Option, Some, None, option_map, IsSomeAnd, ℤ, pos, negsuc, ◌+ℤ◌, ◌-ℤ◌, ◌*ℤ◌, neg_ℤ, int_le, int_lt}
use Rattle.std.specs.Ordering.{int_eq}
use Rattle.pi_terms.specs.Tree.{Tree, var, int, atom, comp}
use Rattle.pi_constraints.specs.declared.constraint.Constraint.{Constraint}
use Rattle.pi_prop_spec.specs.Rules.{magnitude}
use Rattle.pi_prop_spec.specs.Solutions.{AreDifferent, Holds}
use Rattle.pi_effects.specs.Items.{collection_items}
use Rattle.pi_prop_spec.specs.Operands.{Operand, number, variable, plus, minus, times, positive, negative, absolute, total, no_operand, Operands, no_operands, operand, Comparison, equal, unequal, less, at_most, greater, at_least, Connective, and, or, either, implies, equivalent, Boolean, truth_variable, truth_number, relation, negation, joined, no_boolean, Goal, relates, is_so, all_different, all_distinct, element, no_constraint}

-- ---- operands

-- the value of an operand; what is told of a term that is none counts for nothing
unfoldable mutual
  pub operand_value : (ℕ → ℤ) → Operand → ℤ
  operand_value a (number i) = i
  operand_value a (variable n) = a n
  operand_value a (plus x y) = operand_value a x +ℤ operand_value a y
  operand_value a (minus x y) = operand_value a x -ℤ operand_value a y
  operand_value a (times x y) = operand_value a x *ℤ operand_value a y
  operand_value a (positive x) = operand_value a x
  operand_value a (negative x) = neg_ℤ (operand_value a x)
  operand_value a (absolute x) = magnitude (operand_value a x)
  operand_value a (total xs) = total_value a xs
  operand_value a (no_operand t) = pos 0

  pub total_value : (ℕ → ℤ) → Operands → ℤ
  total_value a no_operands = pos 0
  total_value a (operand x xs) = operand_value a x +ℤ total_value a xs

-- ---- relations

abbrev pub compares : Comparison → ℤ → ℤ → Bool
compares equal i j = int_eq i j
compares unequal i j = not (int_eq i j)
compares less i j = int_lt i j
compares at_most i j = int_le i j
compares greater i j = int_lt j i
compares at_least i j = int_le j i

-- ---- Boolean expressions

-- 1 is so, 0 isn't; any other integer is no truth
abbrev pub truth_of_number : ℤ → Option Bool
truth_of_number (pos zero) = Some false
truth_of_number (pos (suc zero)) = Some true
truth_of_number (pos (suc (suc n))) = None
truth_of_number (negsuc n) = None

abbrev pub joins : Connective → Bool → Bool → Bool
joins and p q = p && q
joins or p q = p || q
joins either p q = (p && not q) || (not p && q)
joins implies p q = not p || q
joins equivalent p q = (p && q) || (not p && not q)

abbrev pub both_truths : (Bool → Bool → Bool) → Option Bool → Option Bool → Option Bool
both_truths f None q = None
both_truths f (Some p) None = None
both_truths f (Some p) (Some q) = Some (f p q)

-- the truth of an expression; None where a variable or an integer in it is no truth, or a term is none
unfoldable pub truth : (ℕ → ℤ) → Boolean → Option Bool
truth a (truth_variable n) = truth_of_number (a n)
truth a (truth_number i) = truth_of_number i
truth a (relation c x y) = Some (compares c (operand_value a x) (operand_value a y))
truth a (negation b) = option_map not (truth a b)
truth a (joined k b c) = both_truths (joins k) (truth a b) (truth a c)
truth a (no_boolean t) = None

-- ---- goals

-- the value of an integer or a variable; what is told of any other term counts for nothing
abbrev pub item_value : (ℕ → ℤ) → Tree → ℤ
item_value a (var n) = a n
item_value a (int i) = i
item_value a (atom name) = pos 0
item_value a (comp name ts) = pos 0

-- the integer is the number of one of these, from 1 on, and that one is the value
abbrev pub IsItemWith : List ℤ → ℤ → ℤ → Type 0
IsItemWith items index value = (i : ℕ) × (i < length items) × (index ≡ pos (suc i)) × (get_or items i (pos 0) ≡ value)

-- the goal is so
abbrev pub Says : (ℕ → ℤ) → Goal → Type 0
Says a (relates c x y) = compares c (operand_value a x) (operand_value a y) ≡ true
Says a (is_so b) = truth a b ≡ Some true
Says a (all_different t) = IsSomeAnd (collection_items [] t) (λ ts. AreDifferent (map (item_value a) ts))
Says a (all_distinct t) = IsSomeAnd (collection_items [] t) (λ ts. AreDifferent (map (item_value a) ts))
Says a (element i l v) = IsSomeAnd (collection_items [] l) (λ ts. IsItemWith (map (item_value a) ts) (item_value a i) (item_value a v))
Says a (no_constraint t) = ⊥

-- ---- solutions

-- all of the constraints hold
unfoldable pub AllHold : List Constraint → (ℕ → ℤ) → Type 0
AllHold [] a = ⊤
AllHold (c ∷ cs) a = Holds c a × AllHold cs a

-- two assignments give the variables below n the same values
abbrev pub AgreeBelow : ℕ → (ℕ → ℤ) → (ℕ → ℤ) → Type 0
AgreeBelow n a b = (m : ℕ) → m < n → b m ≡ a m
