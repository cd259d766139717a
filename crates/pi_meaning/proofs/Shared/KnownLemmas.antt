-- Which names do something by themselves, with all names of the language; and that planner calls are of a later stage.
use Rattle.std.proofs.Common.{◌≡◌, ◌⊎◌, inl, inr, ℕ, Bool, true, false, cond, ◌||◌, ◌==◌, List, refl, ap, ◌∙◌}
use Rattle.std.specs.Prelude.{Option, Some, None, is_some, option_map, codes}
use Rattle.std.specs.Ordering.{is_eq}
use Rattle.std.proofs.lemmas.Bool.{and_parts, or_cases, eqb-true}
use Rattle.pi_terms.specs.Tree.{Trees, tree_count}
use Rattle.pi_terms.specs.Order.{name_order}
use Rattle.pi_constraints.specs.State.{State}
use Rattle.pi_constraints.proofs.MatchLemmas.{same_name}
use Rattle.pi_effects.specs.BuiltIns.{built_in_predicate, built_in_function, is_predicate, is_function}
use Rattle.pi_effects.proofs.BuiltInLemmas.{predicates-listed, functions-listed}
use Rattle.pi_effects.proofs.RowLemmas.{some-or, some-map}
use Rattle.pi_meaning.specs.Shared.Level.{Level}
use Rattle.pi_meaning.specs.Shared.Names.{later_predicates, is_later_predicate, is_later_function, is_planner, is_resource, is_call, is_given}
use Rattle.pi_meaning.specs.Shared.Builtin.{settled_effect, function_trace}
use Rattle.pi_meaning.specs.Shared.Given.{Setting}
use Rattle.pi_meaning.specs.Shared.Calls.{built_in, given_later, predicate_given, function_later, function_given, first_called}
use Rattle.pi_meaning.specs.CoreMeaning.Instances.{core_setting, predicate_or_call}
use Rattle.pi_meaning.specs.CoreMeaning.Laws.{WholeKnowsWhatIsGiven}

some-cond : {A : Type 0} (c : Bool) (x : A) (o : Option A) → is_some (cond c (Some x) o) ≡ (c || is_some o)
some-cond true x o = refl
some-cond false x o = refl

none-behind : (c : Bool) → (c || false) ≡ c
none-behind true = refl
none-behind false = refl

either-same : (a b c d : Bool) → a ≡ c → b ≡ d → (a || b) ≡ (c || d)
either-same a b c d h k = rw (h, k) refl

built-known : (set : Setting) (name : List ℕ) (ts : Trees) (s : State) → is_some (built_in set name ts s) ≡ is_predicate name (tree_count ts)
built-known set name ts s = some-map (settled_effect set.view s) (built_in_predicate name ts s) ∙ predicates-listed name ts s

later-known : (set : Setting) (l : Level) (name : List ℕ) (ts : Trees) (s : State) → is_some (given_later set l name ts s) ≡ is_later_predicate name (tree_count ts)
later-known set l name ts s =
    some-cond (is_later_predicate name (tree_count ts)) (set.later.predicate set.view l name ts s) None ∙ none-behind (is_later_predicate name (tree_count ts))

pub given-known : (set : Setting) (l : Level) (name : List ℕ) (ts : Trees) (s : State) →
    is_some (predicate_given set l name ts s) ≡ (is_predicate name (tree_count ts) || is_later_predicate name (tree_count ts))
unfolding predicate_given
given-known set l name ts s =
    some-or (built_in set name ts s) (given_later set l name ts s)
    ∙ either-same (is_some (built_in set name ts s)) (is_some (given_later set l name ts s)) (is_predicate name (tree_count ts)) (is_later_predicate name (tree_count ts))
    (built-known set name ts s) (later-known set l name ts s)

predicate-known : (set : Setting) (l : Level) (name : List ℕ) (ts : Trees) (s : State) → is_some (predicate_or_call set l name ts s) ≡ is_given false name (tree_count ts)
predicate-known set l name ts s =
    some-cond (is_call name (tree_count ts)) (first_called set l ts s) (predicate_given set l name ts s)
    ∙ ap (λ b. is_call name (tree_count ts) || b) (given-known set l name ts s)

later-function-known : (set : Setting) (name : List ℕ) (ts : Trees) (s : State) →
    is_some (function_later set name ts s) ≡ (is_resource name (tree_count ts) || is_later_function name (tree_count ts))
later-function-known set name ts s =
    some-cond (is_resource name (tree_count ts)) _ _
    ∙ ap (λ b. is_resource name (tree_count ts) || b)
    (some-cond (is_later_function name (tree_count ts)) (set.later.function name ts s) None ∙ none-behind (is_later_function name (tree_count ts)))

function-known : (set : Setting) (name : List ℕ) (ts : Trees) (s : State) → is_some (function_given set name ts s) ≡ is_given true name (tree_count ts)
unfolding function_given
function-known set name ts s =
    some-or (option_map function_trace (built_in_function name ts s)) (function_later set name ts s)
    ∙ either-same (is_some (option_map function_trace (built_in_function name ts s))) (is_some (function_later set name ts s)) (is_function name (tree_count ts)) _
    (some-map function_trace (built_in_function name ts s) ∙ functions-listed name ts s) (later-function-known set name ts s)

pub whole-knows : WholeKnowsWhatIsGiven
whole-knows v later preds l name ts s = (predicate-known (core_setting v later preds) l name ts s, function-known (core_setting v later preds) name ts s)

-- ---- planner calls

plans-later : ((is_later_predicate (codes "plan") 2 ≡ true) × (is_later_predicate (codes "plan") 3 ≡ true) × (is_later_predicate (codes "plan") 4 ≡ true))
    × ((is_later_predicate (codes "best_plan") 2 ≡ true) × (is_later_predicate (codes "best_plan") 3 ≡ true) × (is_later_predicate (codes "best_plan") 4 ≡ true))
unfolding is_later_predicate later_predicates
plans-later = ((refl, refl, refl), (refl, refl, refl))

later-by : (name : List ℕ) (k : ℕ) (known : List ℕ) → name ≡ known → (is_later_predicate known 2 ≡ true) × (is_later_predicate known 3 ≡ true) × (is_later_predicate known 4 ≡ true) →
    (k == 2) || ((k == 3) || (k == 4)) ≡ true → is_later_predicate name k ≡ true
later-by name k known is all count = ap (λ n. is_later_predicate n k) is ∙ number (or_cases (k == 2) ((k == 3) || (k == 4)) count)
  where
    further : ((k == 3) ≡ true) ⊎ ((k == 4) ≡ true) → is_later_predicate known k ≡ true
    further (inl three) = ap (is_later_predicate known) (eqb-true k 3 three) ∙ all.1
    further (inr four) = ap (is_later_predicate known) (eqb-true k 4 four) ∙ all.2

    number : ((k == 2) ≡ true) ⊎ (((k == 3) || (k == 4)) ≡ true) → is_later_predicate known k ≡ true
    number (inl two) = ap (is_later_predicate known) (eqb-true k 2 two) ∙ all.0
    number (inr more) = further (or_cases (k == 3) (k == 4) more)

-- planner calls are of later stages
pub planner-later : (name : List ℕ) (k : ℕ) → is_planner name k ≡ true → is_later_predicate name k ≡ true
planner-later name k is = named (or_cases (is_eq (name_order name (codes "plan"))) (is_eq (name_order name (codes "best_plan"))) parts.0)
  where
    parts : ((is_eq (name_order name (codes "plan")) || is_eq (name_order name (codes "best_plan"))) ≡ true) × (((k == 2) || ((k == 3) || (k == 4))) ≡ true)
    parts = and_parts (is_eq (name_order name (codes "plan")) || is_eq (name_order name (codes "best_plan"))) ((k == 2) || ((k == 3) || (k == 4))) is

    named : (is_eq (name_order name (codes "plan")) ≡ true) ⊎ (is_eq (name_order name (codes "best_plan")) ≡ true) → is_later_predicate name k ≡ true
    named (inl plan) = later-by name k (codes "plan") (same_name name (codes "plan") plan) plans-later.0 parts.1
    named (inr best) = later-by name k (codes "best_plan") (same_name name (codes "best_plan") best) plans-later.1 parts.1
