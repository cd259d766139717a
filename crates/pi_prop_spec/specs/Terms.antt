-- Which term is which operand, which Boolean expression and which goal. The terms are values: no variable in them is bound. (A User's Guide to Picat, 'Constraints'.)
use Rattle.std.specs.Prelude.{ℕ, cond, List, Option, Some, None, option_map, codes}
use Rattle.std.specs.Option.{option_or}
use Rattle.std.specs.Str.{bytes_eq}
use Rattle.pi_terms.specs.Tree.{Tree, var, int, atom, comp, Trees, no_trees, tree}
use Rattle.pi_terms.specs.ListNames.{nil, cell_name}
use Rattle.pi_syntax.specs.PrintTerm.{array_name}
use Rattle.pi_prop_spec.specs.Operands.{Operand, number, variable, plus, minus, times, positive, negative, absolute, total, no_operand, Operands, no_operands, operand, Comparison, equal, unequal, less, at_most, greater, at_least, Connective, and, or, either, implies, equivalent, Boolean, truth_variable, truth_number, relation, negation, joined, no_boolean, Goal, relates, is_so, all_different, all_distinct, element, no_constraint}

-- ---- operands

-- `sum` is over the items of a proper list or an array; where its argument is neither, that argument is the wrong term
abbrev pub total_of : Tree → Option Operands → Operand
total_of t None = no_operand t
total_of t (Some xs) = total xs

-- a name with one argument: the whole term, the argument, the operand that it is, and the operands that its items are
abbrev pub one_part : List ℕ → Tree → Tree → Operand → Option Operands → Operand
one_part name whole t x items =
    cond (bytes_eq name (codes "+")) (positive x)
    (cond (bytes_eq name (codes "-")) (negative x)
    (cond (bytes_eq name (codes "abs")) (absolute x)
    (cond (bytes_eq name (codes "sum")) (total_of t items)
    (no_operand whole))))

-- a name with two
abbrev pub two_parts : List ℕ → Tree → Operand → Operand → Operand
two_parts name whole x y =
    cond (bytes_eq name (codes "+")) (plus x y)
    (cond (bytes_eq name (codes "-")) (minus x y)
    (cond (bytes_eq name (codes "*")) (times x y)
    (no_operand whole)))

unfoldable mutual
  pub operand_of : Tree → Operand
  operand_of (var n) = variable n
  operand_of (int i) = number i
  operand_of (atom name) = no_operand (atom name)
  operand_of (comp name no_trees) = no_operand (comp name no_trees)
  operand_of (comp name (tree t no_trees)) = one_part name (comp name (tree t no_trees)) t (operand_of t) (option_or (operands_of_array t) (operands_of_list t))
  operand_of (comp name (tree t (tree u no_trees))) = two_parts name (comp name (tree t (tree u no_trees))) (operand_of t) (operand_of u)
  operand_of (comp name (tree t (tree u (tree v ts)))) = no_operand (comp name (tree t (tree u (tree v ts))))

  -- terms, each by itself
  pub operands_of : Trees → Operands
  operands_of no_trees = no_operands
  operands_of (tree t ts) = operand (operand_of t) (operands_of ts)

  -- the items of an array; None of any other term
  pub operands_of_array : Tree → Option Operands
  operands_of_array (var n) = None
  operands_of_array (int i) = None
  operands_of_array (atom name) = None
  operands_of_array (comp name ts) = cond (bytes_eq name array_name) (Some (operands_of ts)) None

  -- the items of a proper list; None of any other term
  pub operands_of_list : Tree → Option Operands
  operands_of_list (var n) = None
  operands_of_list (int i) = None
  operands_of_list (atom name) = cond (bytes_eq name nil) (Some no_operands) None
  operands_of_list (comp name no_trees) = None
  operands_of_list (comp name (tree t no_trees)) = None
  operands_of_list (comp name (tree t (tree rest no_trees))) = cond (bytes_eq name cell_name) (option_map (operand (operand_of t)) (operands_of_list rest)) None
  operands_of_list (comp name (tree t (tree u (tree v ts)))) = None

-- ---- Boolean expressions

-- the comparison that is written so
unfoldable pub comparison_named : List ℕ → Option Comparison
comparison_named name =
    cond (bytes_eq name (codes "#=")) (Some equal)
    (cond (bytes_eq name (codes "#!=")) (Some unequal)
    (cond (bytes_eq name (codes "#<")) (Some less)
    (cond (bytes_eq name (codes "#=<")) (Some at_most)
    (cond (bytes_eq name (codes "#<=")) (Some at_most)
    (cond (bytes_eq name (codes "#>")) (Some greater)
    (cond (bytes_eq name (codes "#>=")) (Some at_least)
    None))))))

-- the connective that is written so
unfoldable pub connective_named : List ℕ → Option Connective
connective_named name =
    cond (bytes_eq name (codes "#/\\")) (Some and)
    (cond (bytes_eq name (codes "#\\/")) (Some or)
    (cond (bytes_eq name (codes "#^")) (Some either)
    (cond (bytes_eq name (codes "#=>")) (Some implies)
    (cond (bytes_eq name (codes "#<=>")) (Some equivalent)
    None))))

-- of a term with two arguments
abbrev pub joined_by : Option Connective → Tree → Boolean → Boolean → Boolean
joined_by None whole b c = no_boolean whole
joined_by (Some k) whole b c = joined k b c

abbrev pub related_by : Option Comparison → Operand → Operand → Boolean → Boolean
related_by None x y other = other
related_by (Some c) x y other = relation c x y

unfoldable pub boolean_of : Tree → Boolean
boolean_of (var n) = truth_variable n
boolean_of (int i) = truth_number i
boolean_of (atom name) = no_boolean (atom name)
boolean_of (comp name no_trees) = no_boolean (comp name no_trees)
boolean_of (comp name (tree t no_trees)) = cond (bytes_eq name (codes "#~")) (negation (boolean_of t)) (no_boolean (comp name (tree t no_trees)))
boolean_of (comp name (tree t (tree u no_trees))) =
    related_by (comparison_named name) (operand_of t) (operand_of u) (joined_by (connective_named name) (comp name (tree t (tree u no_trees))) (boolean_of t) (boolean_of u))
boolean_of (comp name (tree t (tree u (tree v ts)))) = no_boolean (comp name (tree t (tree u (tree v ts))))

-- ---- goals

-- a relation between operands is one as a goal; only a connective makes a goal of truths
abbrev pub goal_of_boolean : Boolean → Tree → Goal
goal_of_boolean (truth_variable n) whole = no_constraint whole
goal_of_boolean (truth_number i) whole = no_constraint whole
goal_of_boolean (relation c x y) whole = relates c x y
goal_of_boolean (negation b) whole = is_so (negation b)
goal_of_boolean (joined k b c) whole = is_so (joined k b c)
goal_of_boolean (no_boolean t) whole = no_constraint whole

abbrev pub goal_of_one : List ℕ → Tree → Goal → Goal
goal_of_one name t other = cond (bytes_eq name (codes "all_different")) (all_different t) (cond (bytes_eq name (codes "all_distinct")) (all_distinct t) other)

abbrev pub goal_of_three : List ℕ → Tree → Tree → Tree → Goal → Goal
goal_of_three name t u v other = cond (bytes_eq name (codes "element")) (element t u v) other

unfoldable pub goal_of : Tree → Goal
goal_of (var n) = no_constraint (var n)
goal_of (int i) = no_constraint (int i)
goal_of (atom name) = no_constraint (atom name)
goal_of (comp name no_trees) = no_constraint (comp name no_trees)
goal_of (comp name (tree t no_trees)) = goal_of_one name t (goal_of_boolean (boolean_of (comp name (tree t no_trees))) (comp name (tree t no_trees)))
goal_of (comp name (tree t (tree u no_trees))) = goal_of_boolean (boolean_of (comp name (tree t (tree u no_trees)))) (comp name (tree t (tree u no_trees)))
goal_of (comp name (tree t (tree u (tree v no_trees)))) = goal_of_three name t u v (no_constraint (comp name (tree t (tree u (tree v no_trees)))))
goal_of (comp name (tree t (tree u (tree v (tree w ts))))) = no_constraint (comp name (tree t (tree u (tree v (tree w ts)))))
