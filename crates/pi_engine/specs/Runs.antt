-- The run of a machine, as those that use it see it: its events so far, and its end.
use Rattle.std.specs.Prelude.{◌≡◌, ℕ, ◌+◌, ◌≤◌, List, ◌++◌}
use Rattle.pi_terms.specs.Tree.{Tree}
use Rattle.pi_traces.specs.Trace.{End, Done, Emitted, count_ticks}
use Rattle.pi_traces.specs.Depth.{Cut, Ended, with_events}
use Rattle.pi_meaning.specs.Shared.View.{View}
use Rattle.pi_meaning.specs.CoreMeaning.Instances.{built_later, whole}
use Rattle.pi_meaning.specs.CoreMeaning.Run.{Solution, IsRunUnder}
use Rattle.pi_core.specs.CoreTree.{PredTree, QueryTree}
use Rattle.pi_meaning.specs.declared.happening.Happening.{Happening}
use Rattle.pi_meaning.specs.Machine.Next.{some_ticks}
use Rattle.pi_engine.specs.Seen.{MachineView, mode_of, HasEnded, Fits, IsException}
use Rattle.pi_engine.specs.Inside.{IsPlaced}

-- these events begin each run of the query that is cut behind them
abbrev pub BeginRuns : View → List PredTree → QueryTree → List (Emitted Solution) → Type 0
BeginRuns v program q events = (n : ℕ) (run : Cut Solution) → IsRunUnder (whole v built_later (program ++ q.helpers)) program q (count_ticks events + n) run → (rest : Cut Solution) × (run ≡ with_events events rest)

-- Under a view, a machine's run of a query of a program has come so far: these are its events, with which each run of the query
-- begins; and what the machine has inside is at the place behind them, from which it goes on.
pub record RunsTo {M : Type 0} (v : View) (m : MachineView M) (program : List PredTree) (q : QueryTree) (events : List (Emitted Solution)) : Type 0 where
  pub view : Fits (mode_of m) v
  pub begins : BeginRuns v program q events
  pub place : IsPlaced v m program q events

-- these events are the whole run, cut before whichever Tick comes later, and this is its end
abbrev pub EndsWith : View → List PredTree → QueryTree → List (Emitted Solution) → End → Type 0
EndsWith v program q events e = (n : ℕ) → count_ticks events ≤ n → IsRunUnder (whole v built_later (program ++ q.helpers)) program q n (record { events = events; stop = Ended e })

-- ---- laws

-- where a machine's run has ended so, its events are the whole run, and this is its end
abbrev pub DoneIsTheEnd : Type 0 → Type 0
DoneIsTheEnd M =
    (v : View) (m : MachineView M) (program : List PredTree) (q : QueryTree) (events : List (Emitted Solution)) → RunsTo v m program q events → HasEnded m Happening.Done →
    EndsWith v program q events Done

abbrev pub RaisedIsTheEnd : Type 0 → Type 0
RaisedIsTheEnd M =
    (v : View) (m : MachineView M) (program : List PredTree) (q : QueryTree) (events : List (Emitted Solution)) (ball : Tree) → RunsTo v m program q events → HasEnded m (Happening.Raised ball) →
    (e : End) × IsException ball e × EndsWith v program q events e

-- Ticks behind events are counted as so many more
abbrev pub TicksAdd : Type 0
TicksAdd = (events : List (Emitted Solution)) (k : ℕ) → count_ticks (events ++ some_ticks k) ≡ count_ticks events + k
