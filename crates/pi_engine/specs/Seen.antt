-- A machine, as those that use it see it: what they read of it, and how its run may end.
use Rattle.std.specs.Prelude.{◌≡◌, ◌⊎◌, ℕ, List, length, Option, Some, None, ⊤}
use Rattle.pi_constraints.specs.Store.{StoreView}
use Rattle.pi_terms.specs.Tree.{Tree}
use Rattle.pi_traces.specs.Trace.{End, Raise, Abort, Note, Tick, Load, Out}
use Rattle.pi_core.specs.declared.core_program.NameSlot.{NameSlot}
use Rattle.pi_engine_code.specs.declared.code.Code.{Code}
use Rattle.pi_meaning.specs.declared.happening.Happening.{Happening}
use Rattle.pi_meaning.specs.declared.happening.Mode.{Mode}
use Rattle.pi_meaning.specs.Machine.Budget.{IsInner}
pub use Rattle.pi_engine_stands.specs.Views.{Fits}
use Rattle.pi_engine.specs.declared.machine.Kept.{Kept}
use Rattle.pi_engine.specs.declared.machine.Machine.{Machine}
use Rattle.pi_engine_arenas.specs.declared.run.End.{End as RunEnd}
use Rattle.pi_engine_arenas.specs.declared.run.Now.{Now}
use Rattle.pi_engine_arenas.specs.Arenas.{ArenasView, view_of}

-- A machine at one moment. What it has inside is read by the names below alone.
pub record MachineView (M : Type 0) : Type 0 where
  pub code : Code
  pub names : List NameSlot
  pub mode : Mode
  pub store : StoreView M
  pub order : M → ℕ
  pub arenas : ArenasView M
  pub now : Now

-- the store that a machine has
abbrev pub store_of : {S M : Type 0} → Machine S M → S
store_of m = m.run.store

-- a machine, by what its kind of store holds and by the order of its marks
abbrev pub machine_view : {S M : Type 0} → (S → StoreView M) → (M → ℕ) → Machine S M → MachineView M
machine_view seen order m =
    record { code = m.code; names = m.names; mode = m.mode; store = seen (store_of m); order = order; arenas = view_of m.run.arenas; now = m.run.now }

-- ---- what is read of it

-- whether it runs a query or the body of a planner call
abbrev pub mode_of : {M : Type 0} → MachineView M → Mode
mode_of m = m.mode

-- how much it keeps beside its store
abbrev pub kept_by : {M : Type 0} → MachineView M → Kept
kept_by m = record { entries = length m.arenas.entries; frames = length m.arenas.frames; slots = length m.arenas.blocks.slots; collected = length m.arenas.collected }

-- an end, as it is answered
abbrev pub told_end : RunEnd → Happening
told_end RunEnd.Done = Happening.Done
told_end (RunEnd.Raised ball) = Happening.Raised ball
told_end RunEnd.StepsSpent = Happening.StepsSpent
told_end RunEnd.WorkSpent = Happening.WorkSpent
told_end RunEnd.Memory = Happening.Memory

-- the end that a run has come to; None where it goes on
abbrev pub end_in : Now → Option Happening
end_in (Now.Ended e) = Some (told_end e)
end_in now = None

-- the end that its run has come to, as each call answers it from then on; None where the run goes on
abbrev pub end_of : {M : Type 0} → MachineView M → Option Happening
end_of m = end_in m.now

abbrev pub HasEnded : {M : Type 0} → MachineView M → Happening → Type 0
HasEnded m happening = end_of m ≡ Some happening

abbrev pub GoesOn : {M : Type 0} → MachineView M → Type 0
GoesOn m = end_of m ≡ None

-- the machine as it was, but that its run has ended for want of memory
abbrev pub stopped : {M : Type 0} → MachineView M → MachineView M
stopped m = record { code = m.code; names = m.names; mode = m.mode; store = m.store; order = m.order; arenas = m.arenas; now = Now.Ended RunEnd.Memory }

-- ---- how a run may end

-- the ends that are told as an exception: one that a `catch` would have caught, and one that none does
abbrev pub IsException : Tree → End → Type 0
IsException ball e = (e ≡ Raise ball) ⊎ (e ≡ Abort ball)

-- what is work: a propagation, and a Tick of an Inner machine
abbrev pub IsWork : Mode → Note → Type 0
IsWork mode Tick = IsInner mode
IsWork mode (Load k) = ⊤
IsWork mode (Out text) = ⊥
