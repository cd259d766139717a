-- What each goal with two arguments does. (A User's Guide to Picat, 'Constraints'.)
use Rattle.pi_terms.specs.Tree.{Tree, comp, no_trees, tree}
use Rattle.pi_constraints.specs.State.{State}
use Rattle.pi_effects.specs.Effect.{Effect}
use Rattle.pi_settling.specs.Posted.{posting_goal}
use Rattle.pi_settling.specs.Within.{within_goal, notin_goal}
use Rattle.pi_lib_constraints.specs.Names.{comparison_name, connective_name}
use Rattle.pi_lib_constraints.specs.declared.kinds.GoalOfTwo.{GoalOfTwo}

abbrev pub two_done : GoalOfTwo → State → Tree → Tree → Effect
two_done GoalOfTwo.Within s t u = within_goal s t u
two_done GoalOfTwo.NotIn s t u = notin_goal s t u
two_done (GoalOfTwo.Relation c) s t u = posting_goal s (comp (comparison_name c) (tree t (tree u no_trees)))
two_done (GoalOfTwo.Joined k) s t u = posting_goal s (comp (connective_name k) (tree t (tree u no_trees)))
