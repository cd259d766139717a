-- The names of goals of constraints, and how many arguments they take. (A User's Guide to Picat, 'Constraints'.)
use Rattle.std.specs.Prelude.{ℕ, List, codes}
use Rattle.pi_prop_read.specs.declared.relations.Comparison.{Comparison}
use Rattle.pi_prop_read.specs.declared.truths.nodes.Connective.{Connective}
use Rattle.pi_lib_constraints.specs.declared.kinds.GoalOfOne.{GoalOfOne}
use Rattle.pi_lib_constraints.specs.declared.kinds.GoalOfTwo.{GoalOfTwo}
use Rattle.pi_lib_constraints.specs.declared.kinds.ConstraintGoal.{ConstraintGoal}

abbrev pub one_name : GoalOfOne → List ℕ
one_name GoalOfOne.Negation = codes "#~"
one_name GoalOfOne.Different = codes "all_different"
one_name GoalOfOne.Distinct = codes "all_distinct"

abbrev pub comparison_name : Comparison → List ℕ
comparison_name Comparison.Equal = codes "#="
comparison_name Comparison.Unequal = codes "#!="
comparison_name Comparison.Less = codes "#<"
comparison_name Comparison.AtMost = codes "#=<"
comparison_name Comparison.Greater = codes "#>"
comparison_name Comparison.AtLeast = codes "#>="

abbrev pub connective_name : Connective → List ℕ
connective_name Connective.And = codes "#/\\"
connective_name Connective.Or = codes "#\\/"
connective_name Connective.Either = codes "#^"
connective_name Connective.Implies = codes "#=>"
connective_name Connective.Equivalent = codes "#<=>"

abbrev pub two_name : GoalOfTwo → List ℕ
two_name GoalOfTwo.Within = codes "::"
two_name GoalOfTwo.NotIn = codes "notin"
two_name (GoalOfTwo.Relation c) = comparison_name c
two_name (GoalOfTwo.Joined k) = connective_name k

abbrev pub goal_name : ConstraintGoal → List ℕ
goal_name (ConstraintGoal.OfOne g) = one_name g
goal_name (ConstraintGoal.OfTwo g) = two_name g
goal_name ConstraintGoal.Element = codes "element"

-- how many arguments a goal takes
abbrev pub goal_arity : ConstraintGoal → ℕ
goal_arity (ConstraintGoal.OfOne g) = 1
goal_arity (ConstraintGoal.OfTwo g) = 2
goal_arity ConstraintGoal.Element = 3
