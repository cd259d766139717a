-- Levels: how deep goals may go on, and what calls do there. The depth is a device of the definitions (own), which makes
-- each trace finite: a call that is counted takes one from it for the rules that it runs, and a goal `Tick` takes one for
-- what follows it. Where none is left the trace ends in Deep. A call by `call` takes one without a Tick: so a depth says nothing of
-- how many Ticks stand before a Deep.
use Rattle.std.specs.Prelude.{ℕ, List, Option, Some, None}
use Rattle.pi_terms.specs.Tree.{Tree, Trees}
use Rattle.pi_terms.specs.Places.{Places}
use Rattle.pi_constraints.specs.State.{State}
use Rattle.pi_traces.specs.Trace.{Trace, end, note, Deep, Tick}
use Rattle.pi_traces.specs.Depth.{Below}

-- an answer of a function call: its value, and the state after it
pub record Applied : Type 0 where
  pub value : Tree
  pub state : State

-- what the call of a predicate and that of a function do, by name and arguments, and what draining a state does
pub record Calls : Type 0 where
  pub called : List ℕ → Trees → State → Trace State
  pub applied : List ℕ → Trees → State → Trace Applied
  pub drained : State → Trace State

-- a level: what calls do at it, and the level that a Tick leads to, where there is one
pub data Level : Type 0 where
  lowest : Calls → Level
  over : Calls → Level → Level

abbrev pub level_of : Calls → Option Level → Level
level_of c None = lowest c
level_of c (Some l) = over c l

abbrev pub calls_at : Level → Calls
calls_at (lowest c) = c
calls_at (over c l) = c

abbrev pub lower : Level → Option Level
lower (lowest c) = None
lower (over c l) = Some l

-- one Tick, and what follows at the lower level; where there is none, Deep
abbrev pub ticked : {A : Type 0} → Option Level → (Level → Trace A) → Trace A
ticked None f = end Deep
ticked (Some l) f = note Tick (f l)

-- the same without a Tick
abbrev pub unticked : {A : Type 0} → Option Level → (Level → Trace A) → Trace A
unticked None f = end Deep
unticked (Some l) f = f l

-- what a name does by itself; where it does nothing by itself, the call of the program's predicate, or function, of that name
abbrev pub or_called : Option (Trace State) → Level → List ℕ → Trees → State → Trace State
or_called None l name ts s = (calls_at l).called name ts s
or_called (Some t) l name ts s = t

abbrev pub or_applied : Option (Trace Applied) → Level → List ℕ → Trees → State → Trace Applied
or_applied None l name ts s = (calls_at l).applied name ts s
or_applied (Some t) l name ts s = t

-- a place in a run: how deep it may go on, what the slots of the clause hold, the state
pub record Point : Type 0 where
  pub level : Level
  pub slots : Places
  pub state : State

-- More depth only adds, for calls, levels and places

pub record CallsBelow (c d : Calls) : Type 0 where
  pub called : (name : List ℕ) (ts : Trees) (s : State) → Below (c.called name ts s) (d.called name ts s)
  pub applied : (name : List ℕ) (ts : Trees) (s : State) → Below (c.applied name ts s) (d.applied name ts s)
  pub drained : (s : State) → Below (c.drained s) (d.drained s)

-- calls do the same and maybe more, here and at each lower level that the first has
abbrev pub LevelBelow : Level → Level → Type 0
LevelBelow (lowest c) m = CallsBelow c (calls_at m)
LevelBelow (over c l) (lowest d) = ⊥
LevelBelow (over c l) (over d m) = CallsBelow c d × LevelBelow l m

-- the same slots and state, at a level below another
pub data PointBelow : Point → Point → Type 0 where
  same_but_level : {l m : Level} → LevelBelow l m → (e : Places) (s : State) →
      PointBelow (record { level = l; slots = e; state = s }) (record { level = m; slots = e; state = s })
