-- Which goal of constraints a name is, with so many arguments. (A User's Guide to Picat, 'Constraints'.)
use Rattle.std.specs.Prelude.{◌≡◌, ℕ, true, cond, List, Option, Some, None, codes}
use Rattle.std.specs.Option.{option_or}
use Rattle.std.specs.Str.{bytes_eq}
use Rattle.pi_terms.specs.Tree.{Trees, tree_count}
use Rattle.pi_constraints.specs.State.{State}
use Rattle.pi_prop_read.specs.declared.relations.Comparison.{Comparison}
use Rattle.pi_prop_read.specs.declared.truths.nodes.Connective.{Connective}
use Rattle.pi_settling.specs.Goals.{constraint_effect, is_constraint_goal}
use Rattle.pi_lib_constraints.specs.Names.{goal_name, goal_arity}
use Rattle.pi_lib_constraints.specs.declared.functions.DomainFunction.{DomainFunction}
use Rattle.pi_lib_constraints.specs.declared.kinds.GoalOfOne.{GoalOfOne}
use Rattle.pi_lib_constraints.specs.declared.kinds.GoalOfTwo.{GoalOfTwo}
use Rattle.pi_lib_constraints.specs.declared.kinds.ConstraintGoal.{ConstraintGoal}

-- it does the same with so many arguments, whatever they and the state are
pub record IsConstraintNamed (name : List ℕ) (count : ℕ) (g : ConstraintGoal) : Type 0 where
  pub known : is_constraint_goal name count ≡ true
  pub takes : goal_arity g ≡ count
  pub same : (ts : Trees) (s : State) → tree_count ts ≡ count → constraint_effect name ts s ≡ constraint_effect (goal_name g) ts s

-- ---- by name

abbrev pub one_named : List ℕ → Option GoalOfOne
one_named name =
    cond (bytes_eq name (codes "#~")) (Some GoalOfOne.Negation)
    (cond (bytes_eq name (codes "all_different")) (Some GoalOfOne.Different)
    (cond (bytes_eq name (codes "all_distinct")) (Some GoalOfOne.Distinct) None))

abbrev pub compared : List ℕ → Option GoalOfTwo
compared name =
    cond (bytes_eq name (codes "#=")) (Some (GoalOfTwo.Relation Comparison.Equal))
    (cond (bytes_eq name (codes "#!=")) (Some (GoalOfTwo.Relation Comparison.Unequal))
    (cond (bytes_eq name (codes "#<")) (Some (GoalOfTwo.Relation Comparison.Less))
    (cond (bytes_eq name (codes "#=<")) (Some (GoalOfTwo.Relation Comparison.AtMost))
    (cond (bytes_eq name (codes "#<=")) (Some (GoalOfTwo.Relation Comparison.AtMost))
    (cond (bytes_eq name (codes "#>")) (Some (GoalOfTwo.Relation Comparison.Greater))
    (cond (bytes_eq name (codes "#>=")) (Some (GoalOfTwo.Relation Comparison.AtLeast)) None))))))

abbrev pub connected : List ℕ → Option GoalOfTwo
connected name =
    cond (bytes_eq name (codes "#/\\")) (Some (GoalOfTwo.Joined Connective.And))
    (cond (bytes_eq name (codes "#\\/")) (Some (GoalOfTwo.Joined Connective.Or))
    (cond (bytes_eq name (codes "#^")) (Some (GoalOfTwo.Joined Connective.Either))
    (cond (bytes_eq name (codes "#=>")) (Some (GoalOfTwo.Joined Connective.Implies))
    (cond (bytes_eq name (codes "#<=>")) (Some (GoalOfTwo.Joined Connective.Equivalent)) None))))

abbrev pub ranged : List ℕ → Option GoalOfTwo
ranged name = cond (bytes_eq name (codes "::")) (Some GoalOfTwo.Within) (cond (bytes_eq name (codes "notin")) (Some GoalOfTwo.NotIn) None)

abbrev pub two_named : List ℕ → Option GoalOfTwo
two_named name = option_or (ranged name) (option_or (compared name) (connected name))

-- a function of domains
abbrev pub function_named : List ℕ → Option DomainFunction
function_named name =
    cond (bytes_eq name (codes "fd_min")) (Some DomainFunction.Least)
    (cond (bytes_eq name (codes "fd_max")) (Some DomainFunction.Greatest)
    (cond (bytes_eq name (codes "fd_size")) (Some DomainFunction.Size)
    (cond (bytes_eq name (codes "fd_dom")) (Some DomainFunction.Values) None)))
