-- Steps, plans and the states that a planner call reaches, under a log. Each state stands with its rest, what is left of the limit there. (A User's Guide to
-- Picat, 'Planning'; rests and exhausted numbers are own.)
use Rattle.std.specs.Prelude.{◌≡◌, ℕ, ◌+◌, ◌≤◌, ℤ, pos, negsuc, Bool, true, false, List, [], ◌∷◌, None}
use Rattle.pi_terms.specs.Tree.{Tree, int}
use Rattle.pi_terms.specs.Variables.{IsGround}
use Rattle.pi_traces.specs.Trace.{Call, Done, answers, end_of}
use Rattle.pi_core.specs.declared.log.LogEntry.{LogEntry}
use Rattle.pi_meaning.specs.Shared.View.{body_view}
use Rattle.pi_solve_spec.specs.Bodies.{Bodies, Gives, HasAnswer, FailsIn, first_fault}

-- the state is final there
abbrev pub IsFinal : Bodies → List LogEntry → Tree → ℕ → Type 0
IsFinal b log s r = HasAnswer (b.final (body_view log [] r) s)

-- the search goes on behind it: `final` has ended without an answer
abbrev pub GoesOn : Bodies → List LogEntry → Tree → ℕ → Type 0
GoesOn b log s r = FailsIn (b.final (body_view log [] r) s) Done

-- an action leads at this cost, which is no more than the rest, to another state
pub record IsStep (b : Bodies) (log : List LogEntry) (s : Tree) (r : ℕ) (action : Tree) (cost : ℕ) (t : Tree) : Type 0 where
  pub given : Gives (b.action (body_view log [] r) s) (record { state = t; action = action; cost = int (pos cost) })
  pub state : IsGround t
  pub ground : IsGround action
  pub within : cost ≤ r

-- A list of actions is valid from a state and its rest, at a cost: none where the state is final, or a first one that leads to a state from which the
-- others are valid with what is left of rest and cost.
unfoldable pub Valid : Bodies → List LogEntry → List Tree → Tree → ℕ → ℕ → Type 0
Valid b log [] s r cost = IsFinal b log s r × (cost ≡ 0)
Valid b log (a ∷ plan) s r cost =
    (c : ℕ) × (t : Tree) × (left : ℕ) × (others : ℕ) × IsStep b log s r a c t × (c + left ≡ r) × (c + others ≡ cost) × Valid b log plan t left others

-- a state with its rest is reached from the start under this limit
pub data Reached (b : Bodies) (log : List LogEntry) (start : Tree) (limit : ℕ) : Tree → ℕ → Type 0 where
  at_start : Reached b log start limit start limit
  by_step : (s : Tree) (r : ℕ) (action : Tree) (c : ℕ) (t : Tree) (left : ℕ) → Reached b log start limit s r → GoesOn b log s r → IsStep b log s r action c t → c + left ≡ r → Reached b log start limit t left

-- both bodies of a state have ended, without a final answer and without a fault
pub record IsClosed (b : Bodies) (log : List LogEntry) (s : Tree) (r : ℕ) : Type 0 where
  pub final : GoesOn b log s r
  pub depth : ℕ
  pub action : end_of (b.action (body_view log [] r) s depth) ≡ Done
  pub faults : first_fault (answers (b.action (body_view log [] r) s depth)) ≡ None

-- nothing is to be found under this limit: no plan is valid, and all that is reached is closed
pub record IsExhausted (b : Bodies) (log : List LogEntry) (start : Tree) (limit : ℕ) : Type 0 where
  pub none : (plan : List Tree) (cost : ℕ) → Valid b log plan start limit cost → ⊥
  pub closed : (s : Tree) (r : ℕ) → Reached b log start limit s r → IsClosed b log s r

-- a limit as a number
abbrev pub number_of : ℤ → ℕ
number_of (pos n) = n
number_of (negsuc n) = 0

-- where a planner call starts: the state, and its limit
pub record Start : Type 0 where
  pub state : Tree
  pub limit : ℕ

abbrev pub start_of : Call → Start
start_of c = record { state = c.start; limit = number_of c.limit }

-- `plan` reaches what is reached under its limit, `best_plan` what is reached under some limit up to its own
abbrev pub ReachedUpTo : Bool → Bodies → List LogEntry → Start → Tree → ℕ → Type 0
ReachedUpTo false b log start s r = Reached b log start.state start.limit s r
ReachedUpTo true b log start s r = (m : ℕ) × (m ≤ start.limit) × Reached b log start.state m s r

abbrev pub CallReaches : Bodies → List LogEntry → Call → Tree → ℕ → Type 0
CallReaches b log c s r = ReachedUpTo c.best b log (start_of c) s r
