-- More depth only adds to labelling, `solve` and draining, in both runs: the laws.
use Rattle.std.specs.Prelude.{◌≡◌, ℕ, suc, List, Option, Some, None}
use Rattle.pi_terms.specs.Tree.{Tree}
use Rattle.pi_constraints.specs.State.{State}
use Rattle.pi_constraints.specs.declared.constraint.Item.{Item}
use Rattle.pi_settling.specs.Options.{Options, Objective}
use Rattle.pi_settling.specs.Fire.{SlotValue}
use Rattle.pi_settling.specs.Label.{Settling}
use Rattle.pi_settling.specs.Reading.{Solving}
use Rattle.pi_traces.specs.Depth.{DepthOnlyAdds}
use Rattle.pi_traces.specs.Related.{BelowBy}
use Rattle.pi_resume_spec.specs.Resumed.{Search}
use Rattle.pi_resume_spec.specs.Label.{labelling, solved_for}
use Rattle.pi_resume_spec.specs.Drain.{RuleRuns, Lower, drained}
use Rattle.pi_resume_spec.specs.More.{SearchBelow}

-- each depth adds to what draining does at the one before
abbrev pub DrainsAdd : (ℕ → State → Search State) → Type 0
DrainsAdd drains = (d : ℕ) (s : State) → SearchBelow (drains d s) (drains (suc d) s)

abbrev pub LabellingFollowsMore : Type 0
LabellingFollowsMore = (settle : Settling) (drains : ℕ → State → Search State) → DrainsAdd drains → (o : Options) (items : List Item) (d : ℕ) (s : State) →
    SearchBelow (labelling settle drains o items d s) (labelling settle drains o items (suc d) s)

-- with an objective by what draining does without paths
abbrev pub SolvingFollowsMore : Type 0
SolvingFollowsMore = (p : Solving) (drains : ℕ → State → Search State) → DrainsAdd drains → ((s : State) → DepthOnlyAdds (λ d. p.drains d s)) → (o : Option Objective) (d : ℕ) (s : State) →
    SearchBelow (solved_for p drains o d s) (solved_for p drains o (suc d) s)

-- ---- draining, where places in a run may be others as long as what follows from them only adds

pub record RulesFollowMore {X Y : Type 0} (R : X → Y → Type 0) (f : RuleRuns X) (g : RuleRuns Y) : Type 0 where
  pub applies : (i : ℕ) (t : Tree) (s : State) → BelowBy R (f.applies i t s) (g.applies i t s)
  pub body : (i : ℕ) (t : Tree) (v : Option SlotValue) (x : X) (y : Y) → R x y → SearchBelow (f.body i t v x) (g.body i t v y)
  pub anew : (t : Tree) (s : State) → SearchBelow (f.anew t s) (g.anew t s)

-- the lowest depth does less than any
abbrev pub LowerFollowsMore : {X Y : Type 0} → (X → Y → Type 0) → Option (Lower X) → Option (Lower Y) → Type 0
LowerFollowsMore R None m = Unit {0}
LowerFollowsMore R (Some l) None = ⊥
LowerFollowsMore R (Some l) (Some m) = RulesFollowMore R l.rules m.rules × ((s : State) → SearchBelow (l.drains s) (m.drains s))

abbrev pub DrainingFollowsMoreBy : {X Y : Type 0} → (X → Y → Type 0) → Type 0
DrainingFollowsMoreBy {X = X} {Y = Y} R = (l : Option (Lower X)) (m : Option (Lower Y)) → LowerFollowsMore R l m → (s : State) → SearchBelow (drained l s) (drained m s)

abbrev pub DrainingFollowsMore : Type 0 → Type 0
DrainingFollowsMore X = DrainingFollowsMoreBy {X = X} (λ x y. x ≡ y)
