-- Planner calls that lead to each other, and those that a query wants. (Own.)
use Rattle.std.specs.Prelude.{◌≡◌, ◌≢◌, ◌⊎◌, ℕ, ◌≤◌, List, [], ◌++◌, length}
use Rattle.pi_terms.specs.Tree.{Tree}
use Rattle.pi_traces.specs.Trace.{Call, Done, Miss, Deep}
use Rattle.pi_traces.specs.Depth.{Cut, Ended}
use Rattle.pi_core.specs.declared.log.LogEntry.{LogEntry}
use Rattle.pi_meaning.specs.Shared.View.{body_view}
use Rattle.pi_solve_spec.specs.Bodies.{Bodies, EndsIn, FailsIn}
use Rattle.pi_solve_spec.specs.Steps.{CallReaches}

-- with no call open, a body of the first call ends where the second is missing
pub record Misses (b : Bodies) (log : List LogEntry) (c d : Call) : Type 0 where
  pub state : Tree
  pub rest : ℕ
  pub reached : CallReaches b log c state rest
  pub body : EndsIn (b.final (body_view log [] rest) state) (Miss d) ⊎ (FailsIn (b.final (body_view log [] rest) state) Done × EndsIn (b.action (body_view log [] rest) state) (Miss d))

-- a front of the log, of so many entries at least
pub record IsFront (least : ℕ) (log front : List LogEntry) : Type 0 where
  pub behind : List LogEntry
  pub parts : log ≡ front ++ behind
  pub enough : least ≤ length front

-- a body of the first call ends where the second is missing, under such a front
pub record Edge (b : Bodies) (least : ℕ) (log : List LogEntry) (c d : Call) : Type 0 where
  pub front : List LogEntry
  pub is_front : IsFront least log front
  pub misses : Misses b front c d

-- a chain of no, one or more of them
pub data Reach (b : Bodies) (least : ℕ) (log : List LogEntry) (c : Call) : Call → Type 0 where
  itself : Reach b least log c c
  further : (d e : Call) → Reach b least log c d → Edge b least log d e → Reach b least log c e

-- A query, by its run under each log: what stands before its cut, and where that stops, at each depth.
abbrev pub Query : Type 0 → Type 0
Query A = List LogEntry → ℕ → Cut A

-- the depth reaches to the cut
abbrev pub ReachesToCut : {A : Type 0} → Query A → List LogEntry → ℕ → Type 0
ReachesToCut q log depth = (q log depth).stop ≢ Ended Deep

-- under a front of the log, of so many entries at least, its run ends where a call is missing
pub record Asks {A : Type 0} (q : Query A) (known : ℕ) (log : List LogEntry) (c : Call) : Type 0 where
  pub front : List LogEntry
  pub is_front : IsFront known log front
  pub depth : ℕ
  pub ends : (q front depth).stop ≡ Ended (Miss c)

-- A query that was asked when the log had so many entries wants a call: one that it asks for, or one to which a chain under such fronts leads from one that it asks for.
pub record IsWanted {A : Type 0} (b : Bodies) (q : Query A) (known : ℕ) (log : List LogEntry) (c : Call) : Type 0 where
  pub first : Call
  pub asks : Asks q known log first
  pub leads : Reach b known log first c
