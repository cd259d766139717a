-- The names of `solve`: just these label, they are of a later stage and no names of the tables, and planner calls aren't among them.
use Rattle.std.proofs.Common.{◌≡◌, ◌⊎◌, inl, inr, ℕ, ◌||◌, Bool, true, false, List, refl, ap, ◌∙◌}
use Rattle.std.specs.Prelude.{◌==◌, not, codes, is_some, Option, Some, None}
use Rattle.std.specs.Ordering.{is_eq}
use Rattle.std.proofs.lemmas.Bool.{and_parts, or_cases}
use Rattle.pi_terms.specs.Tree.{Trees, tree_count}
use Rattle.pi_terms.specs.Order.{name_order}
use Rattle.pi_constraints.specs.State.{State}
use Rattle.pi_constraints.proofs.MatchLemmas.{same_name}
use Rattle.pi_effects.specs.BuiltIns.{is_predicate, tests, other_predicates}
use Rattle.pi_effects.specs.Comparing.{comparing_tests}
use Rattle.pi_effects.specs.Kinds.{kind_tests}
use Rattle.pi_effects.specs.Texts.{writing_predicates}
use Rattle.pi_settling.specs.Goals.{constraint_goals}
use Rattle.pi_effects.specs.Rows.{has_line}
use Rattle.pi_effects.proofs.RowLemmas.{lines-fit}
use Rattle.pi_settling.specs.SolveCalls.{solve_calls, solve_asked, is_solve}
use Rattle.pi_meaning.specs.Shared.Effects.{is_effect_name, is_built_name}
use Rattle.pi_meaning.specs.Shared.Names.{later_predicates, is_later_predicate, is_planner, is_call}
use Rattle.pi_meaning.proofs.Shared.EffectNames.{effect-given, planner-no_effect}
use Rattle.pi_meaning.proofs.Shared.TableLemmas.{body-holds, each-line, lines-hold}

solve-listed : (name : List ℕ) (ts : Trees) (s : State) → is_some (solve_asked name ts s) ≡ is_solve name (tree_count ts)
solve-listed name ts s = lines-fit solve_calls name ts s

none-listed : {A : Type 0} (o : Option A) (listed : Bool) → is_some o ≡ listed → listed ≡ false → o ≡ None
none-listed None listed is none = refl
none-listed (Some x) listed is none = absurd cc

pub no-solve : (name : List ℕ) (ts : Trees) (s : State) → is_solve name (tree_count ts) ≡ false → solve_asked name ts s ≡ None
no-solve name ts s none = none-listed (solve_asked name ts s) (is_solve name (tree_count ts)) (solve-listed name ts s) none

pub solve-later : (name : List ℕ) (k : ℕ) → is_solve name k ≡ true → is_later_predicate name k ≡ true
unfolding solve_calls each-line body-holds is_later_predicate later_predicates
solve-later name k is = lines-hold is_later_predicate solve_calls refl name k is

-- what is built is given
given-either : (effect solve table later : Bool) → (effect ≡ true → (table || later) ≡ true) → (solve ≡ true → later ≡ true) → (effect || solve) ≡ true → (table || later) ≡ true
given-either true solve table later f g h = f refl
given-either false true true later f g h = refl
given-either false true false later f g h = g refl
given-either false false table later f g h = absurd cc

pub built-given : (name : List ℕ) (k : ℕ) → is_built_name name k ≡ true → (is_predicate name k || is_later_predicate name k) ≡ true
built-given name k h =
    given-either (is_effect_name name k) (is_solve name k) (is_predicate name k) (is_later_predicate name k) (effect-given name k) (solve-later name k) h

-- ---- it is neither `call` nor a name of the tables

no-other : List ℕ → ℕ → Bool
no-other name k = not (is_call name k || is_effect_name name k)

other-none : (name : List ℕ) (k : ℕ) → is_solve name k ≡ true → no-other name k ≡ true
unfolding no-other solve_calls each-line body-holds has_line is_predicate tests comparing_tests kind_tests writing_predicates other_predicates constraint_goals
other-none name k is = lines-hold no-other solve_calls refl name k is

denied : (a b : Bool) → not (a || b) ≡ true → (a ≡ false) × (b ≡ false)
denied true b h = absurd cc
denied false true h = absurd cc
denied false false h = (refl, refl)

pub solve-no_call : (name : List ℕ) (k : ℕ) → is_solve name k ≡ true → is_call name k ≡ false
unfolding no-other
solve-no_call name k is = (denied (is_call name k) (is_effect_name name k) (other-none name k is)).0

pub solve-no_effect : (name : List ℕ) (k : ℕ) → is_solve name k ≡ true → is_effect_name name k ≡ false
unfolding no-other
solve-no_effect name k is = (denied (is_call name k) (is_effect_name name k) (other-none name k is)).1

-- ---- planner calls

plan-alone : (k : ℕ) → is_solve (codes "plan") k ≡ false
unfolding solve_calls has_line
plan-alone k = refl

best-plan-alone : (k : ℕ) → is_solve (codes "best_plan") k ≡ false
unfolding solve_calls has_line
best-plan-alone k = refl

planner-no_solve : (name : List ℕ) (k : ℕ) → is_planner name k ≡ true → is_solve name k ≡ false
planner-no_solve name k is =
    named (or_cases (is_eq (name_order name (codes "plan"))) (is_eq (name_order name (codes "best_plan")))
    (and_parts (is_eq (name_order name (codes "plan")) || is_eq (name_order name (codes "best_plan"))) ((k == 2) || ((k == 3) || (k == 4))) is).0)
  where
    named : (is_eq (name_order name (codes "plan")) ≡ true) ⊎ (is_eq (name_order name (codes "best_plan")) ≡ true) → is_solve name k ≡ false
    named (inl plan) = ap (λ n. is_solve n k) (same_name name (codes "plan") plan) ∙ plan-alone k
    named (inr best) = ap (λ n. is_solve n k) (same_name name (codes "best_plan") best) ∙ best-plan-alone k

pub planner-no_built : (name : List ℕ) (k : ℕ) → is_planner name k ≡ true → is_built_name name k ≡ false
planner-no_built name k is = ap (λ b. b || is_solve name k) (planner-no_effect name k is) ∙ planner-no_solve name k is
