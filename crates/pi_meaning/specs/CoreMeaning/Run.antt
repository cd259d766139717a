-- The run of a query of a program: its trace, cut just before a Tick, at a depth that reaches to the cut. All
-- such depths give the same cut.
use Rattle.std.specs.Prelude.{◌≡◌, ℕ, List, [], ◌∷◌, ◌++◌, None, replicate}
use Rattle.pi_terms.specs.Places.{Places}
use Rattle.pi_constraints.specs.State.{State, empty_state}
use Rattle.pi_traces.specs.Trace.{Trace, then, one}
use Rattle.pi_traces.specs.Depth.{Cut, cut, CutWithoutDeep}
use Rattle.pi_meaning.specs.Shared.View.{query_view}
use Rattle.pi_meaning.specs.CoreMeaning.Builtins.{Builtins}
use Rattle.pi_meaning.specs.CoreMeaning.Instances.{built_later, whole}
use Rattle.pi_core.specs.CoreTree.{PredTree, QueryTree}
use Rattle.pi_meaning.specs.Shared.Level.{Level, Point}
use Rattle.pi_meaning.specs.Shared.Raise.{within_limit}
use Rattle.pi_meaning.specs.CoreMeaning.Meaning.{slot_value, meaning, strictly}
use Rattle.pi_meaning.specs.CoreMeaning.Rules.{level_at}
use Rattle.pi_core.specs.declared.core_program.NameSlot.{NameSlot}
use Rattle.pi_core.specs.declared.log.LogEntry.{LogEntry}

-- an answer of a query: what its slots hold, and the state
pub record Solution : Type 0 where
  pub slots : Places
  pub state : State

abbrev pub solution : Point → Solution
solution p = record { slots = p.slots; state = p.state }

-- an answer of whose named variables one has a value past the limit raises an exception in its place
unfoldable pub told : List NameSlot → Solution → Trace Solution → Trace Solution
told [] x t = t
told (n ∷ names) x t = within_limit (slot_value n.slot x.slots x.state) (told names x t)

abbrev pub answered_with : List NameSlot → Point → Trace Solution
answered_with names p = told names (solution p) (one (solution p))

-- the place in which a query begins
abbrev pub query_start : Level → QueryTree → Point
query_start l q = record { level = l; slots = replicate q.slots None; state = empty_state }

-- the trace of a query at a depth, with these built-ins; an answer counts when nothing waits any more
unfoldable pub query_trace : Builtins → List PredTree → QueryTree → ℕ → Trace Solution
query_trace b program q depth =
    then (strictly (meaning b q.goal) (query_start (level_at b (program ++ q.helpers) depth) q)) (answered_with q.names)

-- what a program does with a query, before Tick number n + 1
pub record IsRunUnder (b : Builtins) (program : List PredTree) (q : QueryTree) (n : ℕ) (c : Cut Solution) : Type 0 where
  pub depth : ℕ
  pub reaches : CutWithoutDeep n (query_trace b program q depth)
  pub is_cut : c ≡ cut n (query_trace b program q depth)

-- the same with all names of the language, with what is built of later stages, under a log of planner calls, where none is being answered
abbrev pub IsRun : List PredTree → QueryTree → List LogEntry → ℕ → Cut Solution → Type 0
IsRun program q log n c = IsRunUnder (whole (query_view log) built_later (program ++ q.helpers)) program q n c
