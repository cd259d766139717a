-- Goals of constraints by their names and arguments: `::` and `notin`, and those that post. What each does is said before it is settled. (A User's Guide to Picat, 'Constraints'.)
use Rattle.std.specs.Prelude.{◌≡◌, ℕ, Bool, List, [], ◌∷◌, Option, is_some, codes}
use Rattle.pi_terms.specs.Tree.{Tree, comp, Trees, no_trees, tree, tree_count}
use Rattle.pi_constraints.specs.State.{State}
use Rattle.pi_effects.specs.Effect.{Effect}
use Rattle.pi_effects.specs.Rows.{of_one, of_two, of_three, Row, line, done_by, has_line}
use Rattle.pi_settling.specs.Within.{within_goal, notin_goal}
use Rattle.pi_settling.specs.Posted.{posting_goal}

-- a goal that posts, with one argument, with two or with three
abbrev pub posts_with_one : List ℕ → Row Effect
posts_with_one name = line name (of_one (λ s t. posting_goal s (comp name (tree t no_trees))))

abbrev pub posts_with_two : List ℕ → Row Effect
posts_with_two name = line name (of_two (λ s t u. posting_goal s (comp name (tree t (tree u no_trees)))))

abbrev pub posts_with_three : List ℕ → Row Effect
posts_with_three name = line name (of_three (λ s t u v. posting_goal s (comp name (tree t (tree u (tree v no_trees))))))

unfoldable pub constraint_goals : List (Row Effect)
constraint_goals =
    line (codes "::") (of_two within_goal) ∷
    line (codes "notin") (of_two notin_goal) ∷
    posts_with_two (codes "#=") ∷
    posts_with_two (codes "#!=") ∷
    posts_with_two (codes "#<") ∷
    posts_with_two (codes "#=<") ∷
    posts_with_two (codes "#<=") ∷
    posts_with_two (codes "#>") ∷
    posts_with_two (codes "#>=") ∷
    posts_with_one (codes "#~") ∷
    posts_with_two (codes "#/\\") ∷
    posts_with_two (codes "#\\/") ∷
    posts_with_two (codes "#^") ∷
    posts_with_two (codes "#=>") ∷
    posts_with_two (codes "#<=>") ∷
    posts_with_one (codes "all_different") ∷
    posts_with_one (codes "all_distinct") ∷
    posts_with_three (codes "element") ∷
    []

-- what a goal does; None where there is none of that name with so many arguments
abbrev pub constraint_effect : List ℕ → Trees → State → Option Effect
constraint_effect name ts s = done_by constraint_goals name ts s

-- which names are those of such goals, with which numbers of arguments
abbrev pub is_constraint_goal : List ℕ → ℕ → Bool
is_constraint_goal name k = has_line constraint_goals name k

-- just these do something
abbrev pub ConstraintGoalsAreListed : Type 0
ConstraintGoalsAreListed = (name : List ℕ) (ts : Trees) (s : State) → is_some (constraint_effect name ts s) ≡ is_constraint_goal name (tree_count ts)
