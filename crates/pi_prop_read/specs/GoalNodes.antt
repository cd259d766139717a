-- What a term is as a goal of constraints, at its root. (Own.)
use Rattle.std.specs.Prelude.{◌≡◌, ⊤, ℕ, cond, List, codes}
use Rattle.std.specs.Str.{bytes_eq}
use Rattle.pi_constraints.specs.Store.{Moment}
use Rattle.pi_constraints.specs.declared.store.Ref.{Ref}
use Rattle.pi_prop_spec.specs.Operands.{Goal, relates, is_so, all_different, all_distinct, element, no_constraint}
use Rattle.pi_prop_spec.specs.Terms.{goal_of, goal_of_boolean}
use Rattle.pi_prop_read.specs.Refs.{IsThere, value_at, operand_at}
use Rattle.pi_prop_read.specs.Relations.{comparison_of}
use Rattle.pi_prop_read.specs.TruthNodes.{boolean_at}
use Rattle.pi_prop_read.specs.declared.nodes.ListGoal.{ListGoal}
use Rattle.pi_prop_read.specs.declared.nodes.GoalNode.{GoalNode}

-- ---- by name

abbrev pub one_named : List ℕ → Ref → ListGoal
one_named name q = cond (bytes_eq name (codes "all_different")) (ListGoal.Different q) (cond (bytes_eq name (codes "all_distinct")) (ListGoal.Distinct q) ListGoal.Other)

abbrev pub three_named : List ℕ → Ref → Ref → Ref → ListGoal
three_named name i l v = cond (bytes_eq name (codes "element")) (ListGoal.Element i l v) ListGoal.Other

-- ---- what it says of a Ref

abbrev pub goal_at : Moment → Ref → Goal
goal_at w r = goal_of (value_at w r)

-- a goal over items; any other one is what the term is as a Boolean expression
abbrev pub list_goal_by : Moment → Ref → ListGoal → Goal
list_goal_by w r (ListGoal.Different q) = all_different (value_at w q)
list_goal_by w r (ListGoal.Distinct q) = all_distinct (value_at w q)
list_goal_by w r (ListGoal.Element i l v) = element (value_at w i) (value_at w l) (value_at w v)
list_goal_by w r ListGoal.Other = goal_of_boolean (boolean_at w r) (value_at w r)

abbrev pub HasListParts : Moment → ListGoal → Type 0
HasListParts w (ListGoal.Different q) = IsThere w q
HasListParts w (ListGoal.Distinct q) = IsThere w q
HasListParts w (ListGoal.Element i l v) = IsThere w i × IsThere w l × IsThere w v
HasListParts w ListGoal.Other = ⊤

pub record ShowsListGoal (w : Moment) (r : Ref) (node : ListGoal) : Type 0 where
  pub is : goal_at w r ≡ list_goal_by w r node
  pub parts : HasListParts w node

-- the goal that a node is, of the Ref r
abbrev pub goal_by : Moment → Ref → GoalNode → Goal
goal_by w r (GoalNode.Relation c p q) = relates (comparison_of c) (operand_at w p) (operand_at w q)
goal_by w r GoalNode.Truth = is_so (boolean_at w r)
goal_by w r (GoalNode.Different q) = all_different (value_at w q)
goal_by w r (GoalNode.Distinct q) = all_distinct (value_at w q)
goal_by w r (GoalNode.Element i l v) = element (value_at w i) (value_at w l) (value_at w v)
goal_by w r GoalNode.Other = no_constraint (value_at w r)

abbrev pub HasGoalParts : Moment → GoalNode → Type 0
HasGoalParts w (GoalNode.Relation c p q) = IsThere w p × IsThere w q
HasGoalParts w GoalNode.Truth = ⊤
HasGoalParts w (GoalNode.Different q) = IsThere w q
HasGoalParts w (GoalNode.Distinct q) = IsThere w q
HasGoalParts w (GoalNode.Element i l v) = IsThere w i × IsThere w l × IsThere w v
HasGoalParts w GoalNode.Other = ⊤

pub record ShowsGoalNode (w : Moment) (r : Ref) (node : GoalNode) : Type 0 where
  pub is : goal_at w r ≡ goal_by w r node
  pub parts : HasGoalParts w node
