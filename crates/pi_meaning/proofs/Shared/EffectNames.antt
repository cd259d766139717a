-- What is built, by its names: goals of constraints and functions of domains are of later stages; `call` and planner calls aren't built so.
use Rattle.std.proofs.Common.{◌≡◌, ◌⊎◌, inl, inr, ℕ, Bool, true, false, ◌&&◌, ◌||◌, List, refl, ap, sym, ◌∙◌}
use Rattle.std.specs.Prelude.{◌==◌, not, codes, is_some, Option, Some, None}
use Rattle.std.specs.Ordering.{is_eq}
use Rattle.std.proofs.lemmas.Bool.{and_parts, or_cases}
use Rattle.pi_terms.specs.Tree.{Trees, tree_count}
use Rattle.pi_terms.specs.Order.{name_order}
use Rattle.pi_constraints.specs.State.{State}
use Rattle.pi_constraints.proofs.MatchLemmas.{same_name}
use Rattle.pi_effects.specs.BuiltIns.{built_in_predicate, built_in_function, is_predicate, is_function, answer_in}
use Rattle.pi_effects.specs.Rows.{done_by, has_line}
use Rattle.pi_effects.proofs.BuiltInLemmas.{predicates-listed, functions-listed}
use Rattle.pi_effects.proofs.RowLemmas.{some-or, some-map, lines-fit}
use Rattle.pi_settling.specs.Goals.{constraint_goals, constraint_effect, is_constraint_goal}
use Rattle.pi_settling.specs.DomainValues.{domain_functions, domain_function, is_domain_function}
use Rattle.pi_meaning.specs.Shared.Effects.{predicate_effect, value_effect, is_effect_name, is_value_name}
use Rattle.pi_meaning.specs.Shared.Names.{later_predicates, is_later_predicate, is_later_function, is_planner, is_resource, is_call}
use Rattle.pi_meaning.proofs.Shared.NamesApart.{predicate-no_call, planner-no_predicate}
use Rattle.pi_meaning.proofs.Shared.TableLemmas.{body-holds, each-line, lines-hold}

-- ---- just these do something

pub goals-listed : (name : List ℕ) (ts : Trees) (s : State) → is_some (constraint_effect name ts s) ≡ is_constraint_goal name (tree_count ts)
goals-listed name ts s = lines-fit constraint_goals name ts s

pub domains-listed : (name : List ℕ) (ts : Trees) (s : State) → is_some (domain_function name ts s) ≡ is_domain_function name (tree_count ts)
domains-listed name ts s = some-map (answer_in s) (done_by domain_functions name ts s) ∙ lines-fit domain_functions name ts s

pub effects-listed : (name : List ℕ) (ts : Trees) (s : State) → is_some (predicate_effect name ts s) ≡ is_effect_name name (tree_count ts)
effects-listed name ts s =
    some-or (built_in_predicate name ts s) (constraint_effect name ts s)
    ∙ (ap (λ b. b || is_some (constraint_effect name ts s)) (predicates-listed name ts s) ∙ ap (λ b. is_predicate name (tree_count ts) || b) (goals-listed name ts s))

pub values-listed : (name : List ℕ) (ts : Trees) (s : State) → is_some (value_effect name ts s) ≡ is_value_name name (tree_count ts)
values-listed name ts s =
    some-or (built_in_function name ts s) (domain_function name ts s)
    ∙ (ap (λ b. b || is_some (domain_function name ts s)) (functions-listed name ts s) ∙ ap (λ b. is_function name (tree_count ts) || b) (domains-listed name ts s))

none-listed : {A : Type 0} (o : Option A) (listed : Bool) → is_some o ≡ listed → listed ≡ false → o ≡ None
none-listed None listed is none = refl
none-listed (Some x) listed is none = absurd cc

pub no-effect : (name : List ℕ) (ts : Trees) (s : State) → is_effect_name name (tree_count ts) ≡ false → predicate_effect name ts s ≡ None
no-effect name ts s none = none-listed (predicate_effect name ts s) (is_effect_name name (tree_count ts)) (effects-listed name ts s) none

pub no-value : (name : List ℕ) (ts : Trees) (s : State) → is_value_name name (tree_count ts) ≡ false → value_effect name ts s ≡ None
no-value name ts s none = none-listed (value_effect name ts s) (is_value_name name (tree_count ts)) (values-listed name ts s) none

-- ---- they are of later stages

pub goal-later : (name : List ℕ) (k : ℕ) → is_constraint_goal name k ≡ true → is_later_predicate name k ≡ true
unfolding constraint_goals each-line body-holds is_later_predicate later_predicates
goal-later name k is = lines-hold is_later_predicate constraint_goals refl name k is

-- functions of domains are of a later stage, and no other function of the language
abbrev only-later : List ℕ → ℕ → Bool
only-later name k = not (is_resource name k) && is_later_function name k

domain-so : (name : List ℕ) (k : ℕ) → is_domain_function name k ≡ true → only-later name k ≡ true
unfolding domain_functions each-line body-holds is_later_function
domain-so name k is = lines-hold only-later domain_functions refl name k is

denied : (b : Bool) → not b ≡ true → b ≡ false
denied true h = absurd cc
denied false h = refl

pub domain-later : (name : List ℕ) (k : ℕ) → is_domain_function name k ≡ true → is_later_function name k ≡ true
domain-later name k is = (and_parts (not (is_resource name k)) (is_later_function name k) (domain-so name k is)).1

pub domain-no_resource : (name : List ℕ) (k : ℕ) → is_domain_function name k ≡ true → is_resource name k ≡ false
domain-no_resource name k is = denied (is_resource name k) (and_parts (not (is_resource name k)) (is_later_function name k) (domain-so name k is)).0

-- so a name that isn't given isn't built
neither-of : (a b c : Bool) → (b ≡ true → c ≡ true) → (a || c) ≡ false → (a || b) ≡ false
neither-of true b c f h = absurd cc
neither-of false true true f h = absurd cc
neither-of false true false f h = let e : false ≡ true = f refl in absurd cc
neither-of false false c f h = refl

pub not-given-effect : (name : List ℕ) (k : ℕ) → (is_predicate name k || is_later_predicate name k) ≡ false → is_effect_name name k ≡ false
not-given-effect name k h = neither-of (is_predicate name k) (is_constraint_goal name k) (is_later_predicate name k) (goal-later name k) h

-- a name that isn't built is none of the tables
first-none : (a b : Bool) → (a || b) ≡ false → a ≡ false
first-none true b h = absurd cc
first-none false b h = refl

pub no-predicate : (name : List ℕ) (k : ℕ) → is_effect_name name k ≡ false → is_predicate name k ≡ false
no-predicate name k h = first-none (is_predicate name k) (is_constraint_goal name k) h

pub no-function : (name : List ℕ) (k : ℕ) → is_value_name name k ≡ false → is_function name k ≡ false
no-function name k h = first-none (is_function name k) (is_domain_function name k) h

-- and what is built is given
either-of : (a b c : Bool) → (b ≡ true → c ≡ true) → (a || b) ≡ true → (a || c) ≡ true
either-of true b c f h = refl
either-of false b c f h = f h

pub effect-given : (name : List ℕ) (k : ℕ) → is_effect_name name k ≡ true → (is_predicate name k || is_later_predicate name k) ≡ true
effect-given name k h = either-of (is_predicate name k) (is_constraint_goal name k) (is_later_predicate name k) (goal-later name k) h

pub value-given : (name : List ℕ) (k : ℕ) → is_value_name name k ≡ true → (is_function name k || (is_resource name k || is_later_function name k)) ≡ true
value-given name k h =
    either-of (is_function name k) (is_domain_function name k) (is_resource name k || is_later_function name k) (λ is. or-later (is_resource name k) (is_later_function name k) (domain-later name k is)) h
  where
    or-later : (a b : Bool) → b ≡ true → (a || b) ≡ true
    or-later true b h = refl
    or-later false b h = h

pub not-given-value : (name : List ℕ) (k : ℕ) → (is_function name k || (is_resource name k || is_later_function name k)) ≡ false → is_value_name name k ≡ false
not-given-value name k h = unless (is_value_name name k) refl
  where
    unless : (b : Bool) → is_value_name name k ≡ b → b ≡ false
    unless true is = sym (value-given name k is) ∙ h
    unless false is = refl

-- ---- `call` and planner calls

uncalled : List ℕ → ℕ → Bool
uncalled name k = not (is_call name k)

goal-no_call : (name : List ℕ) (k : ℕ) → is_constraint_goal name k ≡ true → is_call name k ≡ false
unfolding constraint_goals each-line body-holds uncalled
goal-no_call name k is = denied (is_call name k) (lines-hold uncalled constraint_goals refl name k is)

pub effect-no_call : (name : List ℕ) (k : ℕ) → is_effect_name name k ≡ true → is_call name k ≡ false
effect-no_call name k is = tested (is_predicate name k) refl is
  where
    tested : (b : Bool) → is_predicate name k ≡ b → (b || is_constraint_goal name k) ≡ true → is_call name k ≡ false
    tested true table h = predicate-no_call name k table
    tested false table h = goal-no_call name k h

plan-alone : (k : ℕ) → is_constraint_goal (codes "plan") k ≡ false
unfolding constraint_goals has_line
plan-alone k = refl

best-plan-alone : (k : ℕ) → is_constraint_goal (codes "best_plan") k ≡ false
unfolding constraint_goals has_line
best-plan-alone k = refl

planner-no_goal : (name : List ℕ) (k : ℕ) → is_planner name k ≡ true → is_constraint_goal name k ≡ false
planner-no_goal name k is =
    named (or_cases (is_eq (name_order name (codes "plan"))) (is_eq (name_order name (codes "best_plan")))
    (and_parts (is_eq (name_order name (codes "plan")) || is_eq (name_order name (codes "best_plan"))) ((k == 2) || ((k == 3) || (k == 4))) is).0)
  where
    named : (is_eq (name_order name (codes "plan")) ≡ true) ⊎ (is_eq (name_order name (codes "best_plan")) ≡ true) → is_constraint_goal name k ≡ false
    named (inl plan) = ap (λ n. is_constraint_goal n k) (same_name name (codes "plan") plan) ∙ plan-alone k
    named (inr best) = ap (λ n. is_constraint_goal n k) (same_name name (codes "best_plan") best) ∙ best-plan-alone k

pub planner-no_effect : (name : List ℕ) (k : ℕ) → is_planner name k ≡ true → is_effect_name name k ≡ false
planner-no_effect name k is = ap (λ b. b || is_constraint_goal name k) (planner-no_predicate name k is) ∙ planner-no_goal name k is
