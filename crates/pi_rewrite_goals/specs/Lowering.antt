-- What a function that lowers does: it puts goals behind those that stand before, and leaves the slots that there are then; and it puts the helpers of loops behind those before.
use Rattle.std.specs.Prelude.{◌≡◌, ℕ, ◌≤◌, ◌<◌, Bool, true, false, cond, List, [], ◌++◌, length, map, drop, Option}
use Rattle.pi_terms.specs.Tree.{Tree}
use Rattle.pi_core.specs.GoalTree.{GoalTree}
use Rattle.pi_core.specs.CoreTree.{PredTree, pred_tree}
use Rattle.pi_core.specs.declared.core_program.CorePred.{CorePred}
use Rattle.pi_syntax.specs.ExpTree.{ExpTree, ExpTrees}
use Rattle.pi_syntax.specs.ExpLists.{exps_of}
use Rattle.pi_syntax.specs.Signature.{exp_count}
use Rattle.pi_meaning.specs.OverNames.Texts.{variable_first}
use Rattle.pi_meaning.specs.OverNames.Forms.{Form, form_of, Reading, plain, readings, is_find_all}
use Rattle.pi_syntax.specs.declared.exp.Exp.{Exp}
use Rattle.pi_rewrite_spec.specs.Slots.{SlotNames}
use Rattle.pi_rewrite_spec.specs.Values.{are_flat_as, SlotValue, SlotValues, slot_term, as_it_stands, filled_before, last_value, value_by_as}
use Rattle.pi_rewrite_spec.specs.Goals.{SlotGoals, SlotParts, call_goals, call_value}
use Rattle.pi_rewrite_spec.specs.Sites.{Site, goal_sites, value_sites}
use Rattle.pi_rewrite_spec.specs.Written.{made_as, made, goal_of, goals_in, values_in, parts_as, arguments_as}
use Rattle.pi_rewrite_spec.specs.Helpers.{HelperParts, goal_helpers, value_helpers, goal_call_helpers, value_call_helpers, goals_helpers, values_helpers, all_helpers}
use Rattle.pi_rewrite_loops.specs.Parts.{AreGoals, IsValue}

-- what is made of a part of a text, with the helpers of its loops behind those before
pub record With (Is : Type 0) (old new : List CorePred) (hs : List PredTree) : Type 0 where
  pub is : Is
  pub helpers : map pred_tree new ≡ map pred_tree old ++ hs

-- what is lowered so far: the slots that there are, the goals, and the helpers of loops
pub record SoFar (H : Type 0) : Type 0 where
  pub slots : SlotNames
  pub goals : List GoalTree
  pub helpers : List H

abbrev pub so_far : {H : Type 0} → SlotNames → List GoalTree → List H → SoFar H
so_far ns goals hs = record { slots = ns; goals = goals; helpers = hs }

-- what a goal and an expression with a call come to, behind the goals before
abbrev pub Puts : Site → ExpTree → SoFar CorePred → SoFar CorePred → Type 0
Puts s e old new = With (AreGoals (goal_of s e old.slots) old.goals new.goals new.slots) old.helpers new.helpers (goal_helpers s e)

abbrev pub GivesAs : Reading → Site → ExpTree → Tree → SoFar CorePred → SoFar CorePred → Type 0
GivesAs r s e t old new = With (IsValue (made_as s r e old.slots) old.goals new.goals t new.slots) old.helpers new.helpers (value_helpers s e)

-- where it is evaluated
abbrev pub Gives : Site → ExpTree → Tree → SoFar CorePred → SoFar CorePred → Type 0
Gives s e t old new = GivesAs plain s e t old new

-- an expression as the last one that is evaluated
abbrev pub value_of : Site → ExpTree → SlotNames → SlotValue
value_of s e ns = last_value e ns (made s e ns)

-- an expression by whether it is the last one that is evaluated, and one without a call
unfoldable pub by_place_as : Reading → Bool → Site → ExpTree → SlotNames → SlotValue
by_place_as r is_last s e ns = value_by_as r is_last s.filled e ns (made_as s r e ns)

abbrev pub by_place : Bool → Site → ExpTree → SlotNames → SlotValue
by_place is_last s e ns = by_place_as plain is_last s e ns

abbrev pub flat_by : Bool → ℕ → ExpTree → SlotNames → SlotValue
flat_by is_last h e ns = cond is_last (as_it_stands (slot_term e ns)) (filled_before h (length ns) (slot_term e ns))

-- parts of a term, or arguments
unfoldable pub values_as : Bool → Site → List Reading → ExpTrees → SlotNames → SlotValues
values_as are_parts s rs es ns = cond are_parts (parts_as s rs es ns) (arguments_as s rs es ns)

abbrev pub values_of : Bool → Site → ExpTrees → SlotNames → SlotValues
values_of are_parts s es ns = values_as are_parts s [] es ns

-- ---- calls

-- arguments, each where it stands
abbrev pub parts_at : (ℕ → Site) → Site → List Reading → ExpTrees → SlotParts
parts_at sites s rs es = record { variable = variable_first es; goals = goals_in sites es; values = values_in sites es; all = arguments_as s rs es }

abbrev pub helpers_by : (ℕ → Site) → Site → ExpTrees → HelperParts
helpers_by sites s es = record { goals = goals_helpers sites es; values = values_helpers sites es; all = all_helpers s es }

-- a call as a goal, and as an expression
abbrev pub goal_with : Option Form → Site → List ℕ → ExpTrees → SlotNames → SlotGoals
goal_with form s name es ns = call_goals name form (parts_at (goal_sites form s es) s (readings name (exp_count es)) es) ns

abbrev pub value_with : Bool → Site → List ℕ → ExpTrees → SlotNames → SlotValue
value_with finds s name es ns = call_value name (exp_count es) (parts_at (value_sites finds s es) s [] es) ns

unfoldable pub call_as_goal : Site → List ℕ → ExpTrees → SlotNames → SlotGoals
call_as_goal s name es ns = goal_with (form_of name (exp_count es)) s name es ns

unfoldable pub call_as_value : Site → List ℕ → ExpTrees → SlotNames → SlotValue
call_as_value s name es ns = value_with (is_find_all name (exp_count es)) s name es ns

-- the helpers of their arguments
abbrev pub goal_helpers_with : Option Form → Site → ExpTrees → List PredTree
goal_helpers_with form s es = goal_call_helpers form (helpers_by (goal_sites form s es) s es)

abbrev pub value_helpers_with : Bool → Site → List ℕ → ExpTrees → List PredTree
value_helpers_with finds s name es = value_call_helpers name (exp_count es) (helpers_by (value_sites finds s es) s es)

unfoldable pub call_goal_helpers : Site → List ℕ → ExpTrees → List PredTree
call_goal_helpers s name es = goal_helpers_with (form_of name (exp_count es)) s es

unfoldable pub call_value_helpers : Site → List ℕ → ExpTrees → List PredTree
call_value_helpers s name es = value_helpers_with (is_find_all name (exp_count es)) s name es

-- no call stands from a place on, and one does before it
pub record EndsCalls (rs : List Reading) (es : List Exp) (k : ℕ) : Type 0 where
  pub flat : (j : ℕ) → k ≤ j → are_flat_as (drop j rs) (exps_of (drop j es)) ≡ true
  pub calls : (j : ℕ) → j < k → are_flat_as (drop j rs) (exps_of (drop j es)) ≡ false
