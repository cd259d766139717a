-- Names of goals of constraints and of functions of domains: no table of built-ins has them, so a name does what the goal or the function does.
use Rattle.std.proofs.Common.{◌≡◌, ℕ, ◌||◌, Bool, true, false, not, List, Option, Some, None, is_some, refl, sym, ◌∙◌, ap, subst}
use Rattle.std.specs.Prelude.{codes, option_map, Ok, Err}
use Rattle.std.specs.Option.{option_or}
use Rattle.pi_terms.specs.Tree.{Tree, Trees, tree_count}
use Rattle.pi_constraints.specs.State.{State}
use Rattle.pi_constraints.specs.Evaluation.{with_new_variables}
use Rattle.pi_effects.specs.Answer.{Answer}
use Rattle.pi_effects.specs.Effect.{Effect, FunctionEffect}
use Rattle.pi_effects.specs.Rows.{done_by, has_line}
use Rattle.pi_effects.specs.Collections.{collection_functions}
use Rattle.pi_effects.specs.Comparing.{comparing_tests}
use Rattle.pi_effects.specs.Indexing.{index_functions}
use Rattle.pi_effects.specs.Integers.{integer_functions}
use Rattle.pi_effects.specs.Kinds.{kind_tests}
use Rattle.pi_effects.specs.Making.{making_functions}
use Rattle.pi_effects.specs.Naming.{naming_functions}
use Rattle.pi_effects.specs.Ranges.{range_functions}
use Rattle.pi_effects.specs.Sorting.{sorting_functions}
use Rattle.pi_effects.specs.Texts.{writing_predicates, text_functions}
use Rattle.pi_effects.specs.BuiltIns.{tests, other_predicates, reading_functions, built_in_predicate, built_in_function, is_predicate, is_function, answer_in, OnlyMakesVariables}
use Rattle.pi_effects.proofs.BuiltInLemmas.{predicates-listed, functions-listed}
use Rattle.pi_effects.proofs.RowLemmas.{given-map}
use Rattle.pi_settling.specs.Goals.{constraint_goals, constraint_effect, is_constraint_goal}
use Rattle.pi_settling.specs.DomainValues.{domain_functions, domain_function, is_domain_function}
use Rattle.pi_meaning.specs.Shared.Effects.{predicate_effect, value_effect, is_effect_name, is_value_name}
use Rattle.pi_meaning.proofs.Shared.TableLemmas.{Test, each-line, body-holds, lines-hold}
use Rattle.pi_lib_constraints.specs.declared.functions.DomainFunction.{DomainFunction}
use Rattle.pi_engine_code.specs.Laid.{IsDomainFunctionNamed}

denied : (b : Bool) → not b ≡ true → b ≡ false
denied true h = absurd cc
denied false h = refl

none-of : {A : Type 0} (o : Option A) (listed : Bool) → is_some o ≡ listed → listed ≡ false → o ≡ None
none-of None listed is none = refl
none-of (Some x) listed is none = absurd cc

pub or-right : (a b : Bool) → b ≡ true → (a || b) ≡ true
or-right true b h = refl
or-right false b h = h

or-left : (a b : Bool) → a ≡ true → (a || b) ≡ true
or-left true b h = refl
or-left false b h = absurd cc

-- ---- goals

no-table : Test
no-table name k = not (is_predicate name k)

goal-no_predicate : (name : List ℕ) (k : ℕ) → is_constraint_goal name k ≡ true → is_predicate name k ≡ false
unfolding constraint_goals each-line body-holds no-table is_predicate has_line tests comparing_tests kind_tests writing_predicates other_predicates
goal-no_predicate name k is = denied (is_predicate name k) (lines-hold no-table constraint_goals refl name k is)

pub goal-effect : (name : List ℕ) (ts : Trees) (s : State) → is_constraint_goal name (tree_count ts) ≡ true → predicate_effect name ts s ≡ constraint_effect name ts s
goal-effect name ts s is =
    ap (λ o. option_or o (constraint_effect name ts s)) (none-of (built_in_predicate name ts s) (is_predicate name (tree_count ts)) (predicates-listed name ts s) (goal-no_predicate name (tree_count ts) is))

-- what a built-in does its name does
pub built-effect : (name : List ℕ) (ts : Trees) (s : State) (d : Effect) → built_in_predicate name ts s ≡ Some d → predicate_effect name ts s ≡ Some d
built-effect name ts s d is = ap (λ o. option_or o (constraint_effect name ts s)) is

-- ---- functions

no-function : Test
no-function name k = not (is_function name k)

domain-no_function : (name : List ℕ) (k : ℕ) → is_domain_function name k ≡ true → is_function name k ≡ false
unfolding domain_functions each-line body-holds no-function is_function has_line reading_functions integer_functions collection_functions sorting_functions index_functions range_functions naming_functions text_functions making_functions
domain-no_function name k is = denied (is_function name k) (lines-hold no-function domain_functions refl name k is)

pub domain-effect : (name : List ℕ) (ts : Trees) (s : State) → is_domain_function name (tree_count ts) ≡ true → value_effect name ts s ≡ domain_function name ts s
domain-effect name ts s is =
    ap (λ o. option_or o (domain_function name ts s)) (none-of (built_in_function name ts s) (is_function name (tree_count ts)) (functions-listed name ts s) (domain-no_function name (tree_count ts) is))

pub built-value : (name : List ℕ) (ts : Trees) (s : State) (d : FunctionEffect) → built_in_function name ts s ≡ Some d → value_effect name ts s ≡ Some d
built-value name ts s d is = ap (λ o. option_or o (domain_function name ts s)) is

pub function-value : (name : List ℕ) (k : ℕ) → is_function name k ≡ true → is_value_name name k ≡ true
function-value name k is = or-left (is_function name k) (is_domain_function name k) is

pub domain-value : (name : List ℕ) (k : ℕ) → is_domain_function name k ≡ true → is_value_name name k ≡ true
domain-value name k is = or-right (is_function name k) (is_domain_function name k) is

-- the name of such a function
pub domain-known : (name : List ℕ) (k : ℕ) (f : DomainFunction) → IsDomainFunctionNamed name k f → is_domain_function name k ≡ true
unfolding domain_functions has_line
domain-known name k DomainFunction.Least is = ap (λ n. is_domain_function n k) is.0 ∙ ap (is_domain_function (codes "fd_min")) is.1
domain-known name k DomainFunction.Greatest is = ap (λ n. is_domain_function n k) is.0 ∙ ap (is_domain_function (codes "fd_max")) is.1
domain-known name k DomainFunction.Size is = ap (λ n. is_domain_function n k) is.0 ∙ ap (is_domain_function (codes "fd_size")) is.1
domain-known name k DomainFunction.Values is = ap (λ n. is_domain_function n k) is.0 ∙ ap (is_domain_function (codes "fd_dom")) is.1

-- it leaves the state as it is
answered-so : (s : State) (a : Answer Tree) → OnlyMakesVariables s (answer_in s a)
unfolding with_new_variables
answered-so s (Ok t) = (0, refl)
answered-so s (Err ball) = tt

pub domains-make : (name : List ℕ) (ts : Trees) (s : State) (d : FunctionEffect) → domain_function name ts s ≡ Some d → OnlyMakesVariables s d
domains-make name ts s d is = given-map (OnlyMakesVariables s) (answer_in s) (done_by domain_functions name ts s) d (answered-so s) is
