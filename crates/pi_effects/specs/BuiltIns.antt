-- What each built-in predicate and function does, by name and arguments, before settling: the tables of all subjects. Not among them is what a machine runs
-- itself (`call`, `catch`, `find_all`, `count_all`), and what constraints, labelling, agents and planning do. (A User's Guide to Picat, 'Appendix:
-- Predicates and Functions'; which names are there is own.)
use Rattle.std.specs.Prelude.{◌≡◌, ◌⊎◌, ℕ, Bool, true, false, ◌||◌, List, [], ◌∷◌, ◌++◌, Option, Some, option_map, is_some, codes, Ok, Err}
use Rattle.std.specs.Option.{option_or}
use Rattle.pi_terms.specs.Tree.{Tree, Trees, tree_count}
use Rattle.pi_constraints.specs.State.{State}
use Rattle.pi_constraints.specs.Unify.{unified}
use Rattle.pi_constraints.specs.Evaluation.{with_new_variables}
use Rattle.pi_effects.specs.Effect.{Effect, Succeeds, Fails, Writes, Raises, FunctionEffect, Gives, Refuses, succeeds_in}
use Rattle.pi_effects.specs.Exception.{thrown}
use Rattle.pi_effects.specs.Answer.{Answer}
use Rattle.pi_effects.specs.Rows.{of_none, of_one, of_two, Row, line, done_by, has_line}
use Rattle.pi_effects.specs.Integers.{integer_functions}
use Rattle.pi_effects.specs.Comparing.{comparing_tests}
use Rattle.pi_effects.specs.Kinds.{kind_tests}
use Rattle.pi_effects.specs.Collections.{collection_functions}
use Rattle.pi_effects.specs.Sorting.{sorting_functions}
use Rattle.pi_effects.specs.Indexing.{index_functions}
use Rattle.pi_effects.specs.Ranges.{range_functions}
use Rattle.pi_effects.specs.Naming.{naming_functions}
use Rattle.pi_effects.specs.Texts.{text_functions, writing_predicates}
use Rattle.pi_effects.specs.Inner.{inner_functions}
use Rattle.pi_effects.specs.Making.{making_functions}

-- ---- functions

-- those that leave the state as it is
unfoldable pub reading_functions : List (Row (Answer Tree))
reading_functions =
    integer_functions ++ (collection_functions ++ (sorting_functions ++ (index_functions ++ (range_functions ++ (naming_functions ++ (text_functions ++ inner_functions))))))

abbrev pub answer_in : State → Answer Tree → FunctionEffect
answer_in s (Ok t) = Gives t s
answer_in s (Err ball) = Refuses ball

-- what a function does; None where there is none of that name with so many arguments
unfoldable pub built_in_function : List ℕ → Trees → State → Option FunctionEffect
built_in_function name ts s = option_or (option_map (answer_in s) (done_by reading_functions name ts s)) (done_by making_functions name ts s)

-- ---- predicates

-- tests: they hold or they don't
unfoldable pub tests : List (Row (Answer Bool))
tests =
    line (codes "true") (of_none (λ s. Ok true)) ∷
    line (codes "fail") (of_none (λ s. Ok false)) ∷
    (comparing_tests ++ kind_tests)

abbrev pub test_in : State → Answer Bool → Effect
test_in s (Ok true) = Succeeds s
test_in s (Ok false) = Fails
test_in s (Err ball) = Raises ball

abbrev pub writing_in : State → Answer (List ℕ) → Effect
writing_in s (Ok text) = Writes text s
writing_in s (Err ball) = Raises ball

-- unification, which alone binds variables; and exceptions
unfoldable pub other_predicates : List (Row Effect)
other_predicates =
    line (codes "=") (of_two (λ s t u. succeeds_in (unified s t u))) ∷
    line (codes "throw") (of_one (λ s t. Raises (thrown t s))) ∷
    []

-- what a predicate does; None where there is none of that name with so many arguments
unfoldable pub built_in_predicate : List ℕ → Trees → State → Option Effect
built_in_predicate name ts s =
    option_or (option_map (test_in s) (done_by tests name ts s))
    (option_or (option_map (writing_in s) (done_by writing_predicates name ts s)) (done_by other_predicates name ts s))

-- which names are built in, with which numbers of arguments
unfoldable pub is_function : List ℕ → ℕ → Bool
is_function name k = has_line reading_functions name k || has_line making_functions name k

unfoldable pub is_predicate : List ℕ → ℕ → Bool
is_predicate name k = has_line tests name k || (has_line writing_predicates name k || has_line other_predicates name k)

-- ---- laws

-- just these do something
abbrev pub FunctionsAreListed : Type 0
FunctionsAreListed = (name : List ℕ) (ts : Trees) (s : State) → is_some (built_in_function name ts s) ≡ is_function name (tree_count ts)

abbrev pub PredicatesAreListed : Type 0
PredicatesAreListed = (name : List ℕ) (ts : Trees) (s : State) → is_some (built_in_predicate name ts s) ≡ is_predicate name (tree_count ts)

-- a function leaves the state as it is, but for new variables
abbrev pub OnlyMakesVariables : State → FunctionEffect → Type 0
OnlyMakesVariables s (Gives t r) = (k : ℕ) × (r ≡ with_new_variables k s)
OnlyMakesVariables s (Refuses ball) = Unit {0}

abbrev pub FunctionsOnlyMakeVariables : Type 0
FunctionsOnlyMakeVariables = (name : List ℕ) (ts : Trees) (s : State) (e : FunctionEffect) → built_in_function name ts s ≡ Some e → OnlyMakesVariables s e

-- a predicate leaves the state as it is, or it unifies two terms
abbrev pub OnlyUnifies : State → Effect → Type 0
OnlyUnifies s (Succeeds r) = (r ≡ s) ⊎ ((t : Tree) × (u : Tree) × (unified s t u ≡ Some r))
OnlyUnifies s Fails = Unit {0}
OnlyUnifies s (Writes text r) = r ≡ s
OnlyUnifies s (Raises ball) = Unit {0}

abbrev pub PredicatesOnlyUnify : Type 0
PredicatesOnlyUnify = (name : List ℕ) (ts : Trees) (s : State) (e : Effect) → built_in_predicate name ts s ≡ Some e → OnlyUnifies s e
