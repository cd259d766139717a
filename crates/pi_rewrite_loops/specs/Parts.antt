-- What parts come to that are lowered: goals stand behind those before, and slots are those that there are then.
use Rattle.std.specs.Prelude.{◌≡◌, ℕ, List, ◌++◌}
use Rattle.pi_terms.specs.Tree.{Tree}
use Rattle.pi_core.specs.GoalTree.{GoalTree}
use Rattle.pi_rewrite_spec.specs.Slots.{SlotNames}
use Rattle.pi_rewrite_spec.specs.Values.{SlotValue, SlotValues, Slotted}
use Rattle.pi_rewrite_spec.specs.Goals.{SlotGoals, in_turn}
use Rattle.pi_rewrite_spec.specs.Ranges.{SlotRange}

-- goals, with the slots behind them
pub record AreGoals (g : SlotGoals) (old new : List GoalTree) (ns : SlotNames) : Type 0 where
  pub goals : new ≡ old ++ g.goals
  pub names : ns ≡ g.names

-- goals as one goal
pub record IsAlone (g : SlotGoals) (one : GoalTree) (ns : SlotNames) : Type 0 where
  pub goal : one ≡ in_turn g.goals
  pub names : ns ≡ g.names

-- a value's term behind its goals
pub record IsValue (v : SlotValue) (old new : List GoalTree) (t : Tree) (ns : SlotNames) : Type 0 where
  pub goals : new ≡ old ++ v.goals
  pub tree : t ≡ v.tree
  pub names : ns ≡ v.names

pub record AreValues (vs : SlotValues) (old new : List GoalTree) (ts : List Tree) (ns : SlotNames) : Type 0 where
  pub goals : new ≡ old ++ vs.goals
  pub trees : ts ≡ vs.trees
  pub names : ns ≡ vs.names

-- bounds of a range and its step
pub record IsRange (r : SlotRange) (old new : List GoalTree) (first by last : Tree) (ns : SlotNames) : Type 0 where
  pub goals : new ≡ old ++ r.goals
  pub low : first ≡ r.low
  pub step : by ≡ r.step
  pub high : last ≡ r.high
  pub names : ns ≡ r.names

-- a value's slot behind its goals
pub record IsSlotted (s : Slotted) (old new : List GoalTree) (k : ℕ) (ns : SlotNames) : Type 0 where
  pub goals : new ≡ old ++ s.goals
  pub slot : k ≡ s.place
  pub names : ns ≡ s.names

-- the goals that evaluate a value
abbrev pub goals_before : SlotValue → SlotGoals
goals_before v = record { goals = v.goals; names = v.names }
