-- The variables of operands, Boolean expressions and goals are those of their terms.
use Rattle.std.specs.Prelude.{⊤, ℕ, ◌<◌, Bool, true, false, cond, List, Option, Some, None, option_map, codes, refl}
use Rattle.std.specs.Option.{option_or}
use Rattle.std.specs.Str.{bytes_eq}
use Rattle.std.proofs.Common.{inl, inr}
use Rattle.pi_terms.specs.Tree.{Tree, var, int, atom, comp, Trees, no_trees, tree}
use Rattle.pi_terms.specs.ListNames.{nil, cell_name}
use Rattle.pi_terms.specs.Variables.{Occurs, OccursInAny}
use Rattle.pi_syntax.specs.PrintTerm.{array_name}
use Rattle.pi_constraints.specs.State.{SpeaksBelow}
use Rattle.pi_prop_spec.specs.Operands.{Operand, plus, minus, times, positive, negative, absolute, no_operand, Operands, no_operands, operand, Comparison, Connective, Boolean, relation, negation, joined, no_boolean, Goal, relates, is_so, all_different, all_distinct, element, no_constraint}
use Rattle.pi_prop_spec.specs.Terms.{total_of, one_part, two_parts, operand_of, operands_of, operands_of_array, operands_of_list, comparison_named, connective_named, joined_by, related_by, boolean_of, goal_of_boolean, goal_of}
use Rattle.pi_prop_spec.proofs.OperandLemmas.{OperandBelow, OperandsBelow}
use Rattle.pi_prop_spec.proofs.BooleanLemmas.{BooleanBelow}

-- where there are operands
abbrev SomeOperandsBelow : ℕ → Option Operands → Type 0
SomeOperandsBelow n None = ⊤
SomeOperandsBelow n (Some xs) = OperandsBelow n xs

-- whatever a test says
either_way : (P : Operand → Type 0) (b : Bool) (x y : Operand) → P x → P y → P (cond b x y)
either_way P true x y h k = h
either_way P false x y h k = k

total_below : (n : ℕ) (t : Tree) (o : Option Operands) → SomeOperandsBelow n o → OperandBelow n (total_of t o)
unfolding OperandBelow
total_below n t None h = tt
total_below n t (Some xs) h = h

one_below : (n : ℕ) (name : List ℕ) (whole t : Tree) (x : Operand) (o : Option Operands) → OperandBelow n x → SomeOperandsBelow n o → OperandBelow n (one_part name whole t x o)
unfolding OperandBelow
one_below n name whole t x o h k =
    either_way (OperandBelow n) (bytes_eq name (codes "+")) (positive x) _ h
    (either_way (OperandBelow n) (bytes_eq name (codes "-")) (negative x) _ h
    (either_way (OperandBelow n) (bytes_eq name (codes "abs")) (absolute x) _ h
    (either_way (OperandBelow n) (bytes_eq name (codes "sum")) (total_of t o) (no_operand whole) (total_below n t o k) tt)))

two_below : (n : ℕ) (name : List ℕ) (whole : Tree) (x y : Operand) → OperandBelow n x → OperandBelow n y → OperandBelow n (two_parts name whole x y)
unfolding OperandBelow
two_below n name whole x y h k =
    either_way (OperandBelow n) (bytes_eq name (codes "+")) (plus x y) _ (h, k)
    (either_way (OperandBelow n) (bytes_eq name (codes "-")) (minus x y) _ (h, k)
    (either_way (OperandBelow n) (bytes_eq name (codes "*")) (times x y) (no_operand whole) (h, k) tt))

or_below : (n : ℕ) (o p : Option Operands) → SomeOperandsBelow n o → SomeOperandsBelow n p → SomeOperandsBelow n (option_or o p)
or_below n None p h k = k
or_below n (Some xs) p h k = h

array_below : (n : ℕ) (b : Bool) (xs : Operands) → OperandsBelow n xs → SomeOperandsBelow n (cond b (Some xs) None)
array_below n true xs h = h
array_below n false xs h = tt

nil_below : (n : ℕ) (b : Bool) → SomeOperandsBelow n (cond b (Some no_operands) None)
unfolding OperandBelow
nil_below n true = tt
nil_below n false = tt

front_below : (n : ℕ) (x : Operand) (o : Option Operands) → OperandBelow n x → SomeOperandsBelow n o → SomeOperandsBelow n (option_map (operand x) o)
unfolding OperandBelow
front_below n x None h k = tt
front_below n x (Some xs) h k = (h, k)

cell_below : (n : ℕ) (b : Bool) (o : Option Operands) → SomeOperandsBelow n o → SomeOperandsBelow n (cond b o None)
cell_below n true o h = h
cell_below n false o h = tt

mutual
  unfolding operand_of OperandBelow Occurs

  pub operand-below : (n : ℕ) (t : Tree) → SpeaksBelow n t → OperandBelow n (operand_of t)
  operand-below n (var m) h = h m refl
  operand-below n (int i) h = tt
  operand-below n (atom name) h = tt
  operand-below n (comp name no_trees) h = tt
  operand-below n (comp name (tree t no_trees)) h =
      one_below n name (comp name (tree t no_trees)) t (operand_of t) (option_or (operands_of_array t) (operands_of_list t)) (operand-below n t (λ m o. h m (inl o)))
      (or_below n (operands_of_array t) (operands_of_list t) (array-below n t (λ m o. h m (inl o))) (list-below n t (λ m o. h m (inl o))))
  operand-below n (comp name (tree t (tree u no_trees))) h =
      two_below n name (comp name (tree t (tree u no_trees))) (operand_of t) (operand_of u) (operand-below n t (λ m o. h m (inl o))) (operand-below n u (λ m o. h m (inr (inl o))))
  operand-below n (comp name (tree t (tree u (tree v ts)))) h = tt

  operands-below : (n : ℕ) (ts : Trees) → ((m : ℕ) → OccursInAny m ts → m < n) → OperandsBelow n (operands_of ts)
  operands-below n no_trees h = tt
  operands-below n (tree t ts) h = (operand-below n t (λ m o. h m (inl o)), operands-below n ts (λ m o. h m (inr o)))

  array-below : (n : ℕ) (t : Tree) → SpeaksBelow n t → SomeOperandsBelow n (operands_of_array t)
  array-below n (var m) h = tt
  array-below n (int i) h = tt
  array-below n (atom name) h = tt
  array-below n (comp name ts) h = array_below n (bytes_eq name array_name) (operands_of ts) (operands-below n ts h)

  list-below : (n : ℕ) (t : Tree) → SpeaksBelow n t → SomeOperandsBelow n (operands_of_list t)
  list-below n (var m) h = tt
  list-below n (int i) h = tt
  list-below n (atom name) h = nil_below n (bytes_eq name nil)
  list-below n (comp name no_trees) h = tt
  list-below n (comp name (tree t no_trees)) h = tt
  list-below n (comp name (tree t (tree u no_trees))) h =
      cell_below n (bytes_eq name cell_name) (option_map (operand (operand_of t)) (operands_of_list u)) (front_below n (operand_of t) (operands_of_list u) (operand-below n t (λ m o. h m (inl o))) (list-below n u (λ m o. h m (inr (inl o)))))
  list-below n (comp name (tree t (tree u (tree v ts)))) h = tt

-- ---- Boolean expressions

negation_below : (n : ℕ) (p : Bool) (b c : Boolean) → BooleanBelow n b → BooleanBelow n c → BooleanBelow n (cond p b c)
negation_below n true b c h k = h
negation_below n false b c h k = k

joined_below : (n : ℕ) (o : Option Connective) (whole : Tree) (b c : Boolean) → BooleanBelow n b → BooleanBelow n c → BooleanBelow n (joined_by o whole b c)
unfolding BooleanBelow
joined_below n None whole b c h k = tt
joined_below n (Some j) whole b c h k = (h, k)

related_below : (n : ℕ) (o : Option Comparison) (x y : Operand) (b : Boolean) → OperandBelow n x → OperandBelow n y → BooleanBelow n b → BooleanBelow n (related_by o x y b)
unfolding BooleanBelow
related_below n None x y b h k r = r
related_below n (Some c) x y b h k r = (h, k)

pub boolean-below : (n : ℕ) (t : Tree) → SpeaksBelow n t → BooleanBelow n (boolean_of t)
unfolding boolean_of BooleanBelow Occurs
boolean-below n (var m) h = h m refl
boolean-below n (int i) h = tt
boolean-below n (atom name) h = tt
boolean-below n (comp name no_trees) h = tt
boolean-below n (comp name (tree t no_trees)) h = negation_below n (bytes_eq name (codes "#~")) (negation (boolean_of t)) (no_boolean (comp name (tree t no_trees))) (boolean-below n t (λ m o. h m (inl o))) tt
boolean-below n (comp name (tree t (tree u no_trees))) h =
    related_below n (comparison_named name) (operand_of t) (operand_of u) (joined_by (connective_named name) (comp name (tree t (tree u no_trees))) (boolean_of t) (boolean_of u))
    (operand-below n t (λ m o. h m (inl o))) (operand-below n u (λ m o. h m (inr (inl o))))
    (joined_below n (connective_named name) (comp name (tree t (tree u no_trees))) (boolean_of t) (boolean_of u) (boolean-below n t (λ m o. h m (inl o))) (boolean-below n u (λ m o. h m (inr (inl o)))))
boolean-below n (comp name (tree t (tree u (tree v ts)))) h = tt

-- ---- goals

unfoldable pub GoalBelow : ℕ → Goal → Type 0
GoalBelow n (relates c x y) = OperandBelow n x × OperandBelow n y
GoalBelow n (is_so b) = BooleanBelow n b
GoalBelow n (all_different t) = SpeaksBelow n t
GoalBelow n (all_distinct t) = SpeaksBelow n t
GoalBelow n (element i l v) = SpeaksBelow n i × SpeaksBelow n l × SpeaksBelow n v
GoalBelow n (no_constraint t) = ⊤

of_boolean_below : (n : ℕ) (b : Boolean) (whole : Tree) → BooleanBelow n b → GoalBelow n (goal_of_boolean b whole)
unfolding BooleanBelow GoalBelow
of_boolean_below n (Boolean.truth_variable m) whole h = tt
of_boolean_below n (Boolean.truth_number i) whole h = tt
of_boolean_below n (relation c x y) whole h = h
of_boolean_below n (negation b) whole h = h
of_boolean_below n (joined k b c) whole h = h
of_boolean_below n (no_boolean t) whole h = tt

goal_either_way : (n : ℕ) (p : Bool) (g h : Goal) → GoalBelow n g → GoalBelow n h → GoalBelow n (cond p g h)
goal_either_way n true g h a b = a
goal_either_way n false g h a b = b

pub goal-below : (n : ℕ) (t : Tree) → SpeaksBelow n t → GoalBelow n (goal_of t)
unfolding goal_of GoalBelow Occurs
goal-below n (var m) h = tt
goal-below n (int i) h = tt
goal-below n (atom name) h = tt
goal-below n (comp name no_trees) h = tt
goal-below n (comp name (tree t no_trees)) h =
    let whole : Tree = comp name (tree t no_trees) in
    goal_either_way n (bytes_eq name (codes "all_different")) (all_different t) (cond (bytes_eq name (codes "all_distinct")) (all_distinct t) (goal_of_boolean (boolean_of whole) whole)) (λ m o. h m (inl o))
    (goal_either_way n (bytes_eq name (codes "all_distinct")) (all_distinct t) (goal_of_boolean (boolean_of whole) whole) (λ m o. h m (inl o)) (of_boolean_below n (boolean_of whole) whole (boolean-below n whole h)))
goal-below n (comp name (tree t (tree u no_trees))) h = let whole : Tree = comp name (tree t (tree u no_trees)) in of_boolean_below n (boolean_of whole) whole (boolean-below n whole h)
goal-below n (comp name (tree t (tree u (tree v no_trees)))) h =
    goal_either_way n (bytes_eq name (codes "element")) (element t u v) (no_constraint (comp name (tree t (tree u (tree v no_trees))))) ((λ m o. h m (inl o)), (λ m o. h m (inr (inl o))), (λ m o. h m (inr (inr (inl o))))) tt
goal-below n (comp name (tree t (tree u (tree v (tree w ts))))) h = tt
