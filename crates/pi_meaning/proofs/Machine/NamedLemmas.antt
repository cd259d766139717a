-- Which goal a name is called by, in cases.
use Rattle.std.proofs.Common.{◌≡◌, ℕ, ◌||◌, Bool, true, false, cond, List, refl, subst}
use Rattle.std.specs.Prelude.{Option, Some, None}
use Rattle.pi_core.specs.GoalTree.{GoalTree, call}
use Rattle.pi_core.specs.CoreTree.{PredTree, find_pred}
use Rattle.pi_meaning.specs.Shared.Effects.{is_built_name}
use Rattle.pi_meaning.specs.Shared.Names.{is_catch, is_call}
use Rattle.pi_meaning.specs.CoreMeaning.Instances.{is_called_by_name}
use Rattle.pi_meaning.specs.Machine.NamedGoals.{slots_from, catch_of_slots, call_of_slots, goal_by_name}

-- a predicate that is built or that the program defines
abbrev pub is_there : List PredTree → List ℕ → ℕ → Bool
is_there preds name k = is_built_name name k || is_called_by_name (find_pred false name k preds)

pub data NamedBy (preds : List PredTree) (name : List ℕ) (k : ℕ) : GoalTree → Type 0 where
  by_catch : is_catch name k ≡ true → NamedBy preds name k catch_of_slots
  by_call : is_catch name k ≡ false → is_call name k ≡ true → NamedBy preds name k (call_of_slots k)
  by_name : is_catch name k ≡ false → is_call name k ≡ false → is_there preds name k ≡ true → NamedBy preds name k (call name (slots_from 0 k))

-- a name that nothing has
pub record IsUnnamed (preds : List PredTree) (name : List ℕ) (k : ℕ) : Type 0 where
  pub no_catch : is_catch name k ≡ false
  pub no_call : is_call name k ≡ false
  pub not_there : is_there preds name k ≡ false

-- what an option of a goal says of a name
abbrev pub Names : List PredTree → List ℕ → ℕ → Option GoalTree → Type 0
Names preds name k None = IsUnnamed preds name k
Names preds name k (Some g) = NamedBy preds name k g

tested : (preds : List PredTree) (name : List ℕ) (k : ℕ) (a b c : Bool) → is_catch name k ≡ a → is_call name k ≡ b → is_there preds name k ≡ c →
    Names preds name k (cond a (Some catch_of_slots) (cond b (Some (call_of_slots k)) (cond c (Some (call name (slots_from 0 k))) None)))
tested preds name k true b c h i j = by_catch h
tested preds name k false true c h i j = by_call h i
tested preds name k false false true h i j = by_name h i j
tested preds name k false false false h i j = record { no_catch = h; no_call = i; not_there = j }

pub names-it : (preds : List PredTree) (name : List ℕ) (k : ℕ) → Names preds name k (goal_by_name preds name k)
unfolding goal_by_name
names-it preds name k = tested preds name k (is_catch name k) (is_call name k) (is_there preds name k) refl refl refl

pub named-by : (preds : List PredTree) (name : List ℕ) (k : ℕ) (g : GoalTree) → goal_by_name preds name k ≡ Some g → NamedBy preds name k g
named-by preds name k g is = subst (Names preds name k) is (names-it preds name k)

pub unnamed : (preds : List PredTree) (name : List ℕ) (k : ℕ) → goal_by_name preds name k ≡ None → IsUnnamed preds name k
unnamed preds name k is = subst (Names preds name k) is (names-it preds name k)
