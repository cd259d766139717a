-- The goal that labels in the rounds of a search: `solve` with two arguments, by its name.
use Rattle.std.proofs.Common.{◌≡◌, ℕ, true, List, Option, Some, refl, sym, ◌∙◌, ap, subst}
use Rattle.std.specs.Prelude.{slice_get, codes}
use Rattle.pi_effects.specs.Rows.{has_line}
use Rattle.pi_effects.specs.BuiltIns.{is_predicate, tests, other_predicates}
use Rattle.pi_effects.specs.Comparing.{comparing_tests}
use Rattle.pi_effects.specs.Kinds.{kind_tests}
use Rattle.pi_effects.specs.Texts.{writing_predicates}
use Rattle.pi_settling.specs.Goals.{constraint_goals}
use Rattle.pi_settling.specs.SolveCalls.{solve_calls}
use Rattle.pi_core.specs.GoalTree.{GoalTree}
use Rattle.pi_core.specs.CoreTree.{PredTree}
use Rattle.pi_meaning.specs.Machine.NamedGoals.{goal_by_name}
use Rattle.pi_meaning.specs.Machine.Step.{round_goal}
use Rattle.pi_engine_code.specs.declared.code.Code.{Code}
use Rattle.pi_engine_code.specs.Code.{Tables}
use Rattle.pi_engine_code.specs.Callables.{place_in, HasPlace}
use Rattle.pi_engine_stands.specs.Here.{IsHere}
use Rattle.pi_engine_stands.specs.Stands.{round_block, NamedHere, IsCodeOf}
use Rattle.pi_engine_stands.specs.Searches.{FindsRound}

round-named : (preds : List PredTree) → goal_by_name preds (codes "solve") 2 ≡ Some round_goal
unfolding goal_by_name has_line is_predicate tests comparing_tests kind_tests writing_predicates other_predicates constraint_goals solve_calls
round-named preds = refl

same-text : (o : Option (List ℕ)) (name other : List ℕ) → o ≡ Some name → o ≡ Some other → name ≡ other
same-text o name other at is = cc

same-goal : (o : Option GoalTree) (g h : GoalTree) → o ≡ Some g → o ≡ Some h → g ≡ h
same-goal o g h at is = cc

-- its place is found by the number of its name, which has no other one
pub round-found : (code : Code) (t : Tables) (names : List (List ℕ)) (preds : List PredTree) (n : ℕ) → IsCodeOf code t names preds → slice_get names n ≡ Some (codes "solve") →
    ((i j : ℕ) (other : List ℕ) → slice_get names i ≡ Some other → slice_get names j ≡ Some other → i ≡ j) → FindsRound t code.steps.items (place_in code.callables n 2)
round-found code t names preds n is named distinct =
    let it : HasPlace names code.callables (codes "solve") 2 = is.named.each (codes "solve") 2 round_goal (round-named preds) in
    let found : place_in code.callables n 2 ≡ Some it.place = ap (λ i. place_in code.callables i 2) (distinct n it.number (codes "solve") named it.name_is) ∙ it.place_is in
    let there : NamedHere code t names preds n 2 it.place = is.named.right n 2 it.place found in
    let text : there.name ≡ codes "solve" = same-text (slice_get names n) there.name (codes "solve") there.name_is named in
    let goal : there.it ≡ round_goal = same-goal (goal_by_name preds (codes "solve") 2) there.it round_goal (sym (ap (λ x. goal_by_name preds x 2) text) ∙ there.is) (round-named preds) in
    subst (FindsRound t code.steps.items) (sym found) (λ base. subst (λ g. IsHere t code.steps.items (round_block base) it.place g true) goal (there.here base))
