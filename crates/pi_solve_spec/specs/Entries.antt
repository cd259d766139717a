-- Right entries of a log of planner calls: what each says of its call holds. (A User's Guide to Picat, 'Planning': plans are valid, and those of `best_plan` cheapest;
-- the log, exceptions and open calls are own.)
use Rattle.std.specs.Prelude.{◌≡◌, ◌⊎◌, ℕ, ◌<◌, ◌≤◌, ℤ, pos, Bool, true, false, List, ◌++◌, take, slice_get, Some, codes, All}
use Rattle.pi_terms.specs.Tree.{Tree}
use Rattle.pi_terms.specs.Variables.{IsGround}
use Rattle.pi_traces.specs.Trace.{Call, Done, Raise, Abort, answers}
use Rattle.pi_constraints.specs.State.{empty_state}
use Rattle.pi_effects.specs.Exception.{exception_with}
use Rattle.pi_effects.specs.Items.{list_of}
use Rattle.pi_meaning.specs.Shared.View.{call_of, same_call, body_view}
use Rattle.pi_core.specs.declared.log.LogEntry.{LogEntry}
use Rattle.pi_core.specs.declared.log.PlanResult.{PlanResult}
use Rattle.pi_solve_spec.specs.Bodies.{Bodies, EndsIn, FailsIn, first_fault}
use Rattle.pi_solve_spec.specs.Steps.{Valid, Reached, IsExhausted, number_of, Start, start_of}
use Rattle.pi_solve_spec.specs.Calls.{Reach}

-- ---- plans that were found

-- the plan is valid from the start under this limit, with its cost
pub record HasPlan (b : Bodies) (log : List LogEntry) (start : Tree) (limit : ℕ) (plan : Tree) (cost : ℤ) : Type 0 where
  pub actions : List Tree
  pub number : ℕ
  pub is_list : plan ≡ list_of actions
  pub is_cost : cost ≡ pos number
  pub valid : Valid b log actions start limit number

-- all numbers below this one are exhausted
abbrev pub ExhaustedBelow : Bodies → List LogEntry → Tree → ℕ → Type 0
ExhaustedBelow b log start m = (j : ℕ) → j < m → IsExhausted b log start j

abbrev pub IsFound : Bool → Bodies → List LogEntry → Start → Tree → ℤ → Type 0
IsFound false b log start plan cost = HasPlan b log start.state start.limit plan cost
IsFound true b log start plan cost = (m : ℕ) × (m ≤ start.limit) × HasPlan b log start.state m plan cost × ExhaustedBelow b log start.state m

abbrev pub IsNoPlan : Bool → Bodies → List LogEntry → Tree → ℕ → Type 0
IsNoPlan false b log start limit = IsExhausted b log start limit
IsNoPlan true b log start limit = (m : ℕ) → m ≤ limit → IsExhausted b log start m

-- ---- exceptions

-- a body of a state ends in this exception, while these calls are being answered: `final` without an answer, or `action` behind it, or the answers of that have
-- a fault
pub data Raises (b : Bodies) (log : List LogEntry) (waiting : List Call) (s : Tree) (r : ℕ) : Tree → Type 0 where
  in_final : (ball : Tree) → FailsIn (b.final (body_view log waiting r) s) (Raise ball) ⊎ FailsIn (b.final (body_view log waiting r) s) (Abort ball) → Raises b log waiting s r ball
  in_action : (ball : Tree) → FailsIn (b.final (body_view log waiting r) s) Done → EndsIn (b.action (body_view log waiting r) s) (Raise ball) ⊎ EndsIn (b.action (body_view log waiting r) s) (Abort ball) →
      Raises b log waiting s r ball
  by_fault : (t : Tree) (d : ℕ) → FailsIn (b.final (body_view log waiting r) s) Done → first_fault (answers (b.action (body_view log waiting r) s d)) ≡ Some t →
      Raises b log waiting s r (exception_with (codes "planner") t empty_state)

-- a state that the call reaches; of `best_plan` under a limit below which all is exhausted
abbrev pub ReachedInTurn : Bool → Bodies → List LogEntry → Start → Tree → ℕ → Type 0
ReachedInTurn false b log start s r = Reached b log start.state start.limit s r
ReachedInTurn true b log start s r = (m : ℕ) × (m ≤ start.limit) × Reached b log start.state m s r × ExhaustedBelow b log start.state m

-- a call raises a term under a log: a body of a state that it reaches does, while calls are being answered each of which leads to this one
pub record IsRaised (b : Bodies) (log : List LogEntry) (c : Call) (ball : Tree) : Type 0 where
  pub waiting : List Call
  pub lead : All (λ d. Reach b 0 log d c) waiting
  pub state : Tree
  pub rest : ℕ
  pub reached : ReachedInTurn c.best b log (start_of c) state rest
  pub raises : Raises b log waiting state rest ball

-- ---- entries

abbrev pub IsRightResult : Bodies → List LogEntry → Bool → Tree → ℤ → PlanResult → Type 0
IsRightResult b log best start limit (PlanResult.Found plan cost) =
    IsFound best b log (record { state = start; limit = number_of limit }) plan cost
IsRightResult b log best start limit PlanResult.NoPlan = IsNoPlan best b log start (number_of limit)

-- what an entry says holds under the log to which it is added, where no call that is open has an entry yet
abbrev pub IsRightlyAdded : Bodies → List LogEntry → LogEntry → Type 0
IsRightlyAdded b log (LogEntry.Planned best start limit result) = IsRightResult b log best start limit result
IsRightlyAdded b log (LogEntry.RaisedPlan best start limit ball) = IsRaised b log (record { best = best; start = start; limit = limit }) ball

-- what an entry says holds under the log; of an exception, under a front of it
abbrev pub IsRightEntry : Bodies → List LogEntry → LogEntry → Type 0
IsRightEntry b log (LogEntry.Planned best start limit result) = IsRightResult b log best start limit result
IsRightEntry b log (LogEntry.RaisedPlan best start limit ball) =
    (front : List LogEntry) × (behind : List LogEntry) × (log ≡ front ++ behind) × IsRaised b front (record { best = best; start = start; limit = limit }) ball

-- a call has a ground start and a limit from 0; others have no entry
pub record MayHaveEntry (c : Call) : Type 0 where
  pub ground : IsGround c.start
  pub number : ℕ
  pub limit : c.limit ≡ pos number

-- each entry is of such a call and is right under those before it, and no two are for one call
pub record IsRightLog (b : Bodies) (log : List LogEntry) : Type 0 where
  pub calls : (k : ℕ) (e : LogEntry) → slice_get log k ≡ Some e → MayHaveEntry (call_of e)
  pub entries : (k : ℕ) (e : LogEntry) → slice_get log k ≡ Some e → IsRightlyAdded b (take k log) e
  pub once : (j k : ℕ) (e f : LogEntry) → j < k → slice_get log j ≡ Some e → slice_get log k ≡ Some f → same_call (call_of e) (call_of f) ≡ false
