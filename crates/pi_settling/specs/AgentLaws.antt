-- The laws of agents.
use Rattle.std.specs.Prelude.{◌≡◌, ℕ, List, [], ◌∷◌, Option, Some, None}
use Rattle.pi_terms.specs.Tree.{Tree}
use Rattle.pi_traces.specs.Trace.{note, Tick, one, then}
use Rattle.pi_traces.specs.Depth.{Below}
use Rattle.pi_traces.specs.Related.{BelowBy}
use Rattle.pi_constraints.specs.State.{State, Agent, with_waiting}
use Rattle.pi_constraints.specs.declared.event.Activation.{Activation}
use Rattle.pi_settling.specs.Fire.{SlotValue, Rules, fired}
use Rattle.pi_settling.specs.Drain.{Lower, living, drained}

-- draining nothing is nothing
abbrev pub DrainingNothing : Type 0 → Type 0
DrainingNothing X = (below : Option (Lower X)) (s : State) → s.waiting ≡ [] → drained below s ≡ one s

-- an activation of an agent that has ended is as if it weren't there
abbrev pub EndedArePassedOver : Type 0 → Type 0
EndedArePassedOver X = (below : Option (Lower X)) (s : State) (a : Activation) (rest : List Activation) → s.waiting ≡ a ∷ rest → living s a.agent ≡ None →
    drained below s ≡ drained below (with_waiting s rest)

-- the first that waits runs first, while those behind it wait, and what comes of it is drained
abbrev pub FirstInFirstOut : Type 0 → Type 0
FirstInFirstOut X = (l : Lower X) (s : State) (a : Activation) (rest : List Activation) (agent : Agent) → s.waiting ≡ a ∷ rest → living s a.agent ≡ Some agent →
    drained (Some l) s ≡ note Tick (then (fired l.rules (with_waiting s rest) a agent) l.drains)

-- More depth only adds, where places in a run may be others as long as what follows from them only adds.

pub record RulesDoMore {X Y : Type 0} (R : X → Y → Type 0) (f : Rules X) (g : Rules Y) : Type 0 where
  pub applies : (i : ℕ) (call : Tree) (s : State) → BelowBy R (f.applies i call s) (g.applies i call s)
  pub body : (i : ℕ) (call : Tree) (v : Option SlotValue) (x : X) (y : Y) → R x y → Below (f.body i call v x) (g.body i call v y)
  pub anew : (call : Tree) (s : State) → Below (f.anew call s) (g.anew call s)

-- the lowest depth does less than any
abbrev pub LowerDoesMore : {X Y : Type 0} → (X → Y → Type 0) → Option (Lower X) → Option (Lower Y) → Type 0
LowerDoesMore R None m = Unit {0}
LowerDoesMore R (Some l) None = ⊥
LowerDoesMore R (Some l) (Some m) = RulesDoMore R l.rules m.rules × ((s : State) → Below (l.drains s) (m.drains s))

abbrev pub DrainingDoesMoreBy : {X Y : Type 0} → (X → Y → Type 0) → Type 0
DrainingDoesMoreBy {X = X} {Y = Y} R = (l : Option (Lower X)) (m : Option (Lower Y)) → LowerDoesMore R l m → (s : State) → Below (drained l s) (drained m s)

abbrev pub DrainingDoesMore : Type 0 → Type 0
DrainingDoesMore X = DrainingDoesMoreBy {X = X} (λ x y. x ≡ y)
