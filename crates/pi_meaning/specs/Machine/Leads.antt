-- Runs of the machine: what remained before some steps is what they did, and then what remains after them. This is said
-- from below: at each depth after, and at some depth before. No depth is counted.
use Rattle.std.specs.Prelude.{◌≡◌, ◌≢◌, ◌≤◌, ◌<◌, ℕ, ◌+◌, List, [], ◌++◌}
use Rattle.pi_core.specs.CoreTree.{PredTree, QueryTree}
use Rattle.pi_traces.specs.Trace.{Trace, end, note, End, Call, Deep, Note, Tick, Emitted, emit, count_ticks, then}
use Rattle.pi_traces.specs.Depth.{Below, DepthOnlyAdds, Cut, Ended, Spent, with_events, CutWithoutDeep}
use Rattle.pi_constraints.specs.State.{State}
use Rattle.pi_meaning.specs.Shared.View.{View, Wanted, reading}
use Rattle.pi_meaning.specs.CoreMeaning.Instances.{built_later, whole}
use Rattle.pi_meaning.specs.Shared.Level.{Point}
use Rattle.pi_meaning.specs.CoreMeaning.Rules.{level_at}
use Rattle.pi_meaning.specs.CoreMeaning.Quiet.{TicksBetween}
use Rattle.pi_meaning.specs.CoreMeaning.Run.{Solution, answered_with, query_trace, IsRunUnder}
use Rattle.pi_core.specs.declared.core_program.NameSlot.{NameSlot}
use Rattle.pi_meaning.specs.Machine.Configuration.{Config}
use Rattle.pi_meaning.specs.Machine.Remaining.{around, remaining}
use Rattle.pi_meaning.specs.Machine.Step.{start}
use Rattle.pi_meaning.specs.Machine.Shape.{IsGood}
use Rattle.pi_meaning.specs.Machine.Built.{AreOfRules}
use Rattle.pi_meaning.specs.Machine.Weight.{weight}

-- a step that does nothing but go on, of which there are only so many in a row
pub record Silent (v : View) (preds : List PredTree) (names : List NameSlot) (before after : Config) : Type 0 where
  pub same : (d : ℕ) → remaining v preds names d before ≡ remaining v preds names d after
  pub lighter : weight preds after < weight preds before

-- steps with these events
pub record Leads (v : View) (preds : List PredTree) (names : List NameSlot) (events : List (Emitted Solution)) (before after : Config) : Type 0 where
  pub depth : ℕ → ℕ
  pub below : (d : ℕ) → Below (emit events (remaining v preds names d after)) (remaining v preds names (depth d) before)

-- this note comes next
pub record IsAtNote (v : View) (preds : List PredTree) (names : List NameSlot) (n : Note) (c : Config) : Type 0 where
  pub depth : ℕ
  pub rest : Trace Solution
  pub begins : remaining v preds names depth c ≡ note n rest

-- it is about to count a Tick
abbrev pub IsAtTick : View → List PredTree → List NameSlot → Config → Type 0
IsAtTick v preds names c = IsAtNote v preds names Tick c

-- it has come to this end
pub record IsAtEnd (v : View) (preds : List PredTree) (names : List NameSlot) (e : End) (c : Config) : Type 0 where
  pub ends : (d : ℕ) → remaining v preds names d c ≡ end e
  pub reached : e ≢ Deep

-- it waits for a planner call: what remains begins with the call's reading, from a state, and what follows each answer of that
pub record IsAtCall (v : View) (preds : List PredTree) (names : List NameSlot) (waiting : Call) (c : Config) : Type 0 where
  pub wanted : Wanted
  pub state : State
  pub follows : ℕ → State → Trace Point
  pub begins : (d : ℕ) → remaining v preds names d c ≡
      then (around (whole v built_later preds) (level_at (whole v built_later preds) preds d) c.stack (then (reading v waiting wanted state) (follows d)) []) (answered_with names)

-- ---- laws

-- more depth only adds to what remains
abbrev pub RemainingDoesMore : Type 0
RemainingDoesMore = (v : View) (preds : List PredTree) (names : List NameSlot) (c : Config) → DepthOnlyAdds (λ d. remaining v preds names d c)

-- at the beginning the meaning of the query remains
abbrev pub StartsWithTheMeaning : Type 0
StartsWithTheMeaning = (v : View) (program : List PredTree) (q : QueryTree) (d : ℕ) →
    remaining v (program ++ q.helpers) q.names d (start q) ≡ query_trace (whole v built_later (program ++ q.helpers)) program q d

-- one run after another
abbrev pub LeadsOn : Type 0
LeadsOn = (v : View) (preds : List PredTree) (names : List NameSlot) (front back : List (Emitted Solution)) (a b c : Config) →
    Leads v preds names front a b → Leads v preds names back b c → Leads v preds names (front ++ back) a c

-- For each configuration and each number of Ticks there is a depth that reaches so far, where Ticks stand between the calls of quiet predicates.
abbrev pub DepthSuffices : Type 0
DepthSuffices = (v : View) (preds : List PredTree) (names : List NameSlot) (c : Config) → AreOfRules preds → TicksBetween preds → IsGood c → (n : ℕ) →
    (d : ℕ) × CutWithoutDeep n (remaining v preds names d c)

-- Where a run has ended, what remained before it was its events and that end, at each depth from some one on.
abbrev pub EndedRunIsAll : Type 0
EndedRunIsAll = (v : View) (preds : List PredTree) (names : List NameSlot) (events : List (Emitted Solution)) (before after : Config) (e : End) →
    Leads v preds names events before after → IsAtEnd v preds names e after →
    (depth : ℕ) × ((more : ℕ) → remaining v preds names (depth + more) before ≡ emit events (end e))

-- Where it is about to count a Tick, what remained before it begins with its events and a Tick, from some depth on.
abbrev pub RunBeforeTickBegins : Type 0
RunBeforeTickBegins = (v : View) (preds : List PredTree) (names : List NameSlot) (events : List (Emitted Solution)) (before after : Config) →
    Leads v preds names events before after → IsAtTick v preds names after →
    (depth : ℕ) × ((more : ℕ) → (rest : Trace Solution) × (remaining v preds names (depth + more) before ≡ emit events (note Tick rest)))

-- So, under every view, the events of a run that has ended are the query's run before each Tick that comes later,
abbrev pub EndedRunIsTheRun : Type 0
EndedRunIsTheRun = (v : View) (program : List PredTree) (q : QueryTree) (events : List (Emitted Solution)) (c : Config) (e : End) (n : ℕ) →
    Leads v (program ++ q.helpers) q.names events (start q) c → IsAtEnd v (program ++ q.helpers) q.names e c → count_ticks events ≤ n →
    IsRunUnder (whole v built_later (program ++ q.helpers)) program q n (record { events = events; stop = Ended e })

-- those of a run that is about to count a Tick are the query's run before that Tick,
abbrev pub SpentRunIsTheRun : Type 0
SpentRunIsTheRun = (v : View) (program : List PredTree) (q : QueryTree) (events : List (Emitted Solution)) (c : Config) →
    Leads v (program ++ q.helpers) q.names events (start q) c → IsAtTick v (program ++ q.helpers) q.names c →
    IsRunUnder (whole v built_later (program ++ q.helpers)) program q (count_ticks events) (record { events = events; stop = Spent })

-- and those of any run begin the query's run before each Tick that comes later.
abbrev pub RunIsAPrefix : Type 0
RunIsAPrefix = (v : View) (program : List PredTree) (q : QueryTree) (events : List (Emitted Solution)) (c : Config) (n : ℕ) (run : Cut Solution) →
    Leads v (program ++ q.helpers) q.names events (start q) c → IsRunUnder (whole v built_later (program ++ q.helpers)) program q (count_ticks events + n) run →
    (rest : Cut Solution) × (run ≡ with_events events rest)
