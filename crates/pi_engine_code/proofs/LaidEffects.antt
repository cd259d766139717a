-- What the name of a node does: what the built-in, the goal of constraints or the function of domains does that the node has.
use Rattle.std.proofs.Common.{◌≡◌, ℕ, Bool, true, false, List, Option, Some, None, refl, ◌∙◌, ap}
use Rattle.std.specs.Prelude.{not, is_some}
use Rattle.std.specs.Option.{option_or}
use Rattle.pi_terms.specs.Tree.{Trees, tree_count}
use Rattle.pi_constraints.specs.State.{State}
use Rattle.pi_effects.specs.Rows.{has_line}
use Rattle.pi_effects.specs.Comparing.{comparing_tests}
use Rattle.pi_effects.specs.Kinds.{kind_tests}
use Rattle.pi_effects.specs.Texts.{text_functions, writing_predicates}
use Rattle.pi_effects.specs.Integers.{integer_functions}
use Rattle.pi_effects.specs.Collections.{collection_functions}
use Rattle.pi_effects.specs.Sorting.{sorting_functions}
use Rattle.pi_effects.specs.Indexing.{index_functions}
use Rattle.pi_effects.specs.Ranges.{range_functions}
use Rattle.pi_effects.specs.Naming.{naming_functions}
use Rattle.pi_effects.specs.Making.{making_functions}
use Rattle.pi_effects.specs.BuiltIns.{tests, other_predicates, reading_functions, is_predicate, is_function, built_in_predicate, built_in_function}
use Rattle.pi_effects.proofs.BuiltInLemmas.{predicates-listed, functions-listed}
use Rattle.pi_settling.specs.Goals.{constraint_goals, constraint_effect, is_constraint_goal}
use Rattle.pi_settling.specs.DomainValues.{domain_function}
use Rattle.pi_meaning.specs.Shared.Effects.{predicate_effect, value_effect}
use Rattle.pi_meaning.proofs.Shared.TableLemmas.{body-holds, each-line, lines-hold}
use Rattle.pi_lib_builtin.specs.Names.{predicate_name}
use Rattle.pi_lib_builtin.specs.Names.{function_name as built_in_name}
use Rattle.pi_lib_builtin.specs.Resolved.{IsPredicateNamed, IsFunctionNamed}
use Rattle.pi_lib_builtin.specs.declared.functions.Function.{Function}
use Rattle.pi_lib_builtin.specs.declared.predicates.Predicate.{Predicate}
use Rattle.pi_lib_constraints.specs.Functions.{function_name}
use Rattle.pi_lib_constraints.specs.Names.{goal_name}
use Rattle.pi_lib_constraints.specs.Named.{IsConstraintNamed}
use Rattle.pi_lib_constraints.specs.declared.functions.DomainFunction.{DomainFunction}
use Rattle.pi_lib_constraints.specs.declared.kinds.ConstraintGoal.{ConstraintGoal}
use Rattle.pi_engine_code.specs.Laid.{IsDomainFunctionNamed}

denied : (b : Bool) → not b ≡ true → b ≡ false
denied true h = absurd cc
denied false h = refl

-- no name is in two tables
abbrev no_table : List ℕ → ℕ → Bool
no_table name k = not (is_predicate name k)

goal-no_predicate : (name : List ℕ) (k : ℕ) → is_constraint_goal name k ≡ true → is_predicate name k ≡ false
unfolding constraint_goals each-line body-holds is_predicate has_line tests comparing_tests kind_tests writing_predicates other_predicates
goal-no_predicate name k is = denied (is_predicate name k) (lines-hold no_table constraint_goals refl name k is)

none-first : {A : Type 0} (o p : Option A) (listed : Bool) → is_some o ≡ listed → listed ≡ false → option_or o p ≡ p
none-first None p listed is none = refl
none-first (Some x) p listed is none = absurd cc

some-first : {A : Type 0} (o p : Option A) (listed : Bool) → is_some o ≡ listed → listed ≡ true → option_or o p ≡ o
some-first None p listed is some = absurd cc
some-first (Some x) p listed is some = refl

pub constraint-done : (name : List ℕ) (k : ℕ) (g : ConstraintGoal) → IsConstraintNamed name k g → (ts : Trees) (s : State) → tree_count ts ≡ k → predicate_effect name ts s ≡ constraint_effect (goal_name g) ts s
constraint-done name k g is ts s many =
    none-first (built_in_predicate name ts s) (constraint_effect name ts s) (is_predicate name (tree_count ts)) (predicates-listed name ts s)
    (ap (is_predicate name) many ∙ goal-no_predicate name k is.known) ∙ is.same ts s many

pub built-in-done : (name : List ℕ) (k : ℕ) (p : Predicate) → IsPredicateNamed name k p → (ts : Trees) (s : State) → tree_count ts ≡ k → predicate_effect name ts s ≡ built_in_predicate (predicate_name p) ts s
built-in-done name k p is ts s many =
    some-first (built_in_predicate name ts s) (constraint_effect name ts s) (is_predicate name (tree_count ts)) (predicates-listed name ts s)
    (ap (is_predicate name) many ∙ is.known) ∙ is.same ts s many

-- ---- functions

no-built_in : (f : DomainFunction) → is_function (function_name f) 1 ≡ false
unfolding is_function has_line reading_functions integer_functions collection_functions sorting_functions index_functions range_functions naming_functions text_functions making_functions
no-built_in DomainFunction.Least = refl
no-built_in DomainFunction.Greatest = refl
no-built_in DomainFunction.Size = refl
no-built_in DomainFunction.Values = refl

pub domain-value-done : (name : List ℕ) (k : ℕ) (f : DomainFunction) → IsDomainFunctionNamed name k f → (ts : Trees) (s : State) → tree_count ts ≡ k → value_effect name ts s ≡ domain_function (function_name f) ts s
domain-value-done name k f is ts s many =
    ap (λ n. value_effect n ts s) is.0
    ∙ none-first (built_in_function (function_name f) ts s) (domain_function (function_name f) ts s) (is_function (function_name f) (tree_count ts)) (functions-listed (function_name f) ts s)
    (ap (is_function (function_name f)) (many ∙ is.1) ∙ no-built_in f)

pub built-in-value-done : (name : List ℕ) (k : ℕ) (f : Function) → IsFunctionNamed name k f → (ts : Trees) (s : State) → tree_count ts ≡ k → value_effect name ts s ≡ built_in_function (built_in_name f) ts s
built-in-value-done name k f is ts s many =
    some-first (built_in_function name ts s) (domain_function name ts s) (is_function name (tree_count ts)) (functions-listed name ts s)
    (ap (is_function name) many ∙ is.known) ∙ is.same ts s many
