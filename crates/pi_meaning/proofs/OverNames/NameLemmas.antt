-- The goal of a name, by what the name is.
use Rattle.std.proofs.Common.{◌≡◌, ℕ, Bool, true, false, cond, List}
use Rattle.std.specs.Prelude.{Option, Some, None, ◌||◌}
use Rattle.pi_core.specs.GoalTree.{GoalTree, call}
use Rattle.pi_core.specs.CoreTree.{PredTree, find_pred}
use Rattle.pi_meaning.specs.Shared.Effects.{is_built_name}
use Rattle.pi_meaning.specs.Shared.Names.{is_catch, is_call}
use Rattle.pi_meaning.specs.CoreMeaning.Instances.{is_called_by_name}
use Rattle.pi_meaning.specs.Machine.NamedGoals.{goal_by_name, slots_from, catch_of_slots, call_of_slots}

first-chosen : (a : Bool) (x g : GoalTree) (rest : Option GoalTree) → a ≡ true → cond a (Some x) rest ≡ Some g → x ≡ g
first-chosen true x g rest is e = cc
first-chosen false x g rest is e = absurd cc

second-chosen : (a : Bool) (x g : GoalTree) (rest : Option GoalTree) → a ≡ false → cond a (Some x) rest ≡ Some g → rest ≡ Some g
second-chosen true x g rest is e = absurd cc
second-chosen false x g rest is e = e

last-chosen : (a : Bool) (x g : GoalTree) → cond a (Some x) None ≡ Some g → x ≡ g
last-chosen true x g e = cc
last-chosen false x g e = absurd cc

pub catch-goal : (preds : List PredTree) (name : List ℕ) (k : ℕ) (g : GoalTree) → is_catch name k ≡ true → goal_by_name preds name k ≡ Some g → catch_of_slots ≡ g
unfolding goal_by_name
catch-goal preds name k g is e = first-chosen (is_catch name k) catch_of_slots g _ is e

pub call-goal : (preds : List PredTree) (name : List ℕ) (k : ℕ) (g : GoalTree) → is_catch name k ≡ false → is_call name k ≡ true → goal_by_name preds name k ≡ Some g → call_of_slots k ≡ g
unfolding goal_by_name
call-goal preds name k g other is e = first-chosen (is_call name k) (call_of_slots k) g _ is (second-chosen (is_catch name k) catch_of_slots g _ other e)

pub plain-goal : (preds : List PredTree) (name : List ℕ) (k : ℕ) (g : GoalTree) → is_catch name k ≡ false → is_call name k ≡ false → goal_by_name preds name k ≡ Some g → call name (slots_from 0 k) ≡ g
unfolding goal_by_name
plain-goal preds name k g other another e =
    last-chosen (is_built_name name k || is_called_by_name (find_pred false name k preds)) (call name (slots_from 0 k)) g
    (second-chosen (is_call name k) (call_of_slots k) g _ another (second-chosen (is_catch name k) catch_of_slots g _ other e))
