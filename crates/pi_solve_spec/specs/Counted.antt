-- What is counted of planner calls: Ticks and loads of their bodies, states that are expanded or reached, chains of calls. (Own.)
use Rattle.std.specs.Prelude.{◌≡◌, ◌≢◌, ℕ, ◌+◌, ◌≤◌, Bool, true, false, List, [], ◌∷◌, length, All, AllPairs, Contains, ⊤}
use Rattle.pi_terms.specs.Tree.{Tree}
use Rattle.pi_traces.specs.Trace.{Trace, Call, Load, Emitted, noted, answered, events_of, ticks}
use Rattle.pi_constraints.specs.State.{State}
use Rattle.pi_core.specs.declared.log.LogEntry.{LogEntry}
use Rattle.pi_meaning.specs.Shared.View.{body_view}
use Rattle.pi_solve_spec.specs.Bodies.{Bodies, Offer}
use Rattle.pi_solve_spec.specs.Steps.{GoesOn, CallReaches}
use Rattle.pi_solve_spec.specs.Calls.{IsFront, Edge}

-- ---- loads

abbrev pub load_in : {A : Type 0} → Emitted A → ℕ
load_in (noted (Load k)) = k
load_in (noted n) = 0
load_in (answered x) = 0

-- the sum of the loads among events
unfoldable pub loads_of : {A : Type 0} → List (Emitted A) → ℕ
loads_of [] = 0
loads_of (event ∷ events) = load_in event + loads_of events

abbrev pub loads : {A : Type 0} → Trace A → ℕ
loads t = loads_of (events_of t)

-- ---- the largest number of something: the least that is no less than each

pub record IsLeast (P : ℕ → Type 0) (n : ℕ) : Type 0 where
  pub holds : P n
  pub least : (m : ℕ) → P m → n ≤ m

-- ---- bodies of states with their rests

-- what is counted of a trace
abbrev pub Count : Type 1
Count = (A : Type 0) → Trace A → ℕ

abbrev pub its_ticks : Count
its_ticks A t = ticks t

abbrev pub its_loads : Count
its_loads A t = loads t

-- With no call open the bodies of a state with this rest come to so much at most: that of `final`, and where this has ended without an answer both together. That of `action`
-- is run only there.
pub record AtMostUnder (count : Count) (b : Bodies) (log : List LogEntry) (s : Tree) (r most : ℕ) : Type 0 where
  pub final : (d : ℕ) → count State (b.final (body_view log [] r) s d) ≤ most
  pub both : GoesOn b log s r → (d : ℕ) → count State (b.final (body_view log [] r) s d) + count Offer (b.action (body_view log [] r) s d) ≤ most

-- under each front of the log
abbrev pub AtMost : Count → Bodies → List LogEntry → Tree → ℕ → ℕ → Type 0
AtMost count b log s r most = (front : List LogEntry) → IsFront 0 log front → AtMostUnder count b front s r most

-- a state with its rest
pub record Pair : Type 0 where
  pub state : Tree
  pub rest : ℕ

-- a call expands a pair: it runs its bodies
pub record Expansion : Type 0 where
  pub call : Call
  pub pair : Pair

-- the bodies of each pair that was expanded come to so much at most
abbrev pub AtMostEach : Count → Bodies → List LogEntry → List Expansion → ℕ → Type 0
AtMostEach count b log expanded most = All (λ e. AtMost count b log e.pair.state e.pair.rest most) expanded

-- the largest number of Ticks of the bodies of one expanded pair, and the largest sum of their loads
abbrev pub MostTicks : Bodies → List LogEntry → List Expansion → ℕ → Type 0
MostTicks b log expanded = IsLeast (AtMostEach its_ticks b log expanded)

abbrev pub MostLoads : Bodies → List LogEntry → List Expansion → ℕ → Type 0
MostLoads b log expanded = IsLeast (AtMostEach its_loads b log expanded)

-- ---- states that calls expand and reach

-- A call expands a state once, and in a program by rests a state with its rest.
abbrev pub IsAnother : Bool → Expansion → Expansion → Type 0
IsAnother false e f = e.call ≡ f.call → e.pair.state ≢ f.pair.state
IsAnother true e f = e.call ≡ f.call → e.pair ≢ f.pair

-- what these calls expanded, in a program by rests or in another one: each pair is reached by its call, and none is there twice
pub record AreExpanded (by_rests : Bool) (b : Bodies) (log : List LogEntry) (calls : List Call) (expanded : List Expansion) : Type 0 where
  pub of_calls : All (λ e. Contains calls e.call) expanded
  pub reached : All (λ e. CallReaches b log e.call e.pair.state e.pair.rest) expanded
  pub once : AllPairs (IsAnother by_rests) expanded

-- so many different states a call reaches at most, and in a program by rests so many different states with their rests
abbrev pub ReachesAtMost : Bool → Bodies → List LogEntry → Call → ℕ → Type 0
ReachesAtMost false b log c most = (states : List Tree) → AllPairs (λ s t. s ≢ t) states → All (λ s. (r : ℕ) × CallReaches b log c s r) states → length states ≤ most
ReachesAtMost true b log c most = (pairs : List Pair) → AllPairs (λ p q. p ≢ q) pairs → All (λ p. CallReaches b log c p.state p.rest) pairs → length pairs ≤ most

-- ---- chains of calls

-- no call stands there twice
abbrev pub AreDifferent : List Call → Type 0
AreDifferent calls = AllPairs (λ c d. c ≢ d) calls

-- from each to the next there is an edge
unfoldable pub AreJoined : Bodies → List LogEntry → List Call → Type 0
AreJoined b log [] = ⊤
AreJoined b log (c ∷ []) = ⊤
AreJoined b log (c ∷ d ∷ calls) = Edge b 0 log c d × AreJoined b log (d ∷ calls)

-- a chain of different calls among these, joined by edges
pub record IsChain (b : Bodies) (log : List LogEntry) (calls chain : List Call) : Type 0 where
  pub among : All (Contains calls) chain
  pub different : AreDifferent chain
  pub joined : AreJoined b log chain

-- none is longer
abbrev pub ChainsAtMost : Bodies → List LogEntry → List Call → ℕ → Type 0
ChainsAtMost b log calls most = (chain : List Call) → IsChain b log calls chain → length chain ≤ most

-- the length of the longest
abbrev pub LongestChain : Bodies → List LogEntry → List Call → ℕ → Type 0
LongestChain b log calls = IsLeast (ChainsAtMost b log calls)
