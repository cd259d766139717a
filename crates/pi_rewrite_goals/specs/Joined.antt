-- Branches that are lowered, and the goals that they come to.
use Rattle.std.specs.Prelude.{◌≡◌, List, [], ◌∷◌}
use Rattle.pi_core.specs.GoalTree.{GoalTree, if_else}
use Rattle.pi_syntax.specs.ExpTree.{ExpTree, ExpTrees, ExpBranches}
use Rattle.pi_rewrite_spec.specs.Slots.{SlotNames}
use Rattle.pi_rewrite_spec.specs.Goals.{SlotGoals, SlotBranches, in_turn, either_of, branch_before}
use Rattle.pi_rewrite_spec.specs.Sites.{Site}
use Rattle.pi_rewrite_spec.specs.Written.{goal_of, any_of, arrow_in, branches_of}
use Rattle.pi_rewrite_goals.specs.declared.branches.Branch.{Branch}
use Rattle.pi_rewrite_goals.specs.declared.branches.Branch.TheVariants.{Goal, Choice}
use Rattle.pi_rewrite_goals.specs.declared.branches.Condition.{Condition}

-- branches in front of others; what stands behind an arrow is its else part
abbrev pub closed : List Branch → List GoalTree → List GoalTree
closed [] gs = gs
closed (Goal g ∷ bs) gs = g ∷ closed bs gs
closed (Choice test body ∷ bs) gs = if_else test body (either_of (closed bs gs)) ∷ []

-- conditions in front of what is done where none holds
abbrev pub chosen : List Condition → List GoalTree → List GoalTree
chosen [] gs = gs
chosen (c ∷ cs) gs = if_else c.test c.body (in_turn (chosen cs gs)) ∷ []

-- branches of a disjunction, in front of others
abbrev pub branches_onto : List Branch → SlotBranches → SlotBranches
branches_onto bs others = record { branches = closed bs others.branches; names = others.names }

abbrev pub chosen_onto : List Condition → SlotGoals → SlotGoals
chosen_onto cs g = record { goals = chosen cs g.goals; names = g.names }

-- a branch, whatever stands behind it
pub record IsBranch (s : Site) (e : ExpTree) (old : SlotNames) (b : Branch) (ns : SlotNames) : Type 0 where
  pub is : (others : SlotNames → SlotBranches) → branch_before (arrow_in s e) (goal_of s e) others old ≡ branches_onto (b ∷ []) (others ns)

-- the branches of a disjunction, with the slots behind them
pub record AreBranches (s : Site) (es : ExpTrees) (old : SlotNames) (bs : List Branch) (ns : SlotNames) : Type 0 where
  pub are : any_of s es old ≡ branches_onto bs (record { branches = []; names = ns })

-- conditions with their bodies, whatever is done where none holds
pub record AreConditions (s : Site) (bs : ExpBranches) (old : SlotNames) (cs : List Condition) (ns : SlotNames) : Type 0 where
  pub are : (other : SlotNames → SlotGoals) → branches_of s bs other old ≡ chosen_onto cs (other ns)
