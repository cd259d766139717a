-- The laws of propagation.
use Rattle.std.specs.Prelude.{◌≡◌, ℕ, ◌+◌, ◌≤◌, List, [], ◌∷◌, length, Some, slice_get, sum_by}
use Rattle.pi_constraints.specs.declared.constraint.Constraint.{Constraint}
use Rattle.pi_constraints.specs.State.{State, IsState}
use Rattle.pi_settling.specs.Stable.{IsStable, IsEmptied}
use Rattle.pi_settling.specs.SettlingLaws.{MaySettle}
use Rattle.pi_settling.specs.Load.{count_lost}
use Rattle.pi_settling.specs.Run.{Fails}
use Rattle.pi_settling.specs.Runs.{Runs, MayPropagate}

-- a propagation goes through states that may be settled
abbrev pub RunsKeepStates : Type 0
RunsKeepStates = (s : State) (due : List ℕ) (k : ℕ) (r : State) (now : List ℕ) → IsState s → MaySettle s → Runs s due k r now → IsState r × MaySettle r

-- where nothing is due any more, the stable domains stand
abbrev pub RunsReachStableDomains : Type 0
RunsReachStableDomains = (s : State) (due : List ℕ) (k : ℕ) (r : State) → MayPropagate s due → Runs s due k r [] → IsStable s r

-- where a run fails, one of them is empty
abbrev pub FailuresEmpty : Type 0
FailuresEmpty = (s : State) (due : List ℕ) (k : ℕ) (r : State) (i : ℕ) (rest : List ℕ) (c : Constraint) → MayPropagate s due → Runs s due k r (i ∷ rest) → slice_get r.constraints i ≡ Some c → Fails r c → IsEmptied s

-- the runs, and those that are due still, are no more than those that were due and, for each constraint, the values that its variables lost
abbrev pub RunsAreBounded : Type 0
RunsAreBounded = (s : State) (due : List ℕ) (k : ℕ) (r : State) (now : List ℕ) → IsState s → MaySettle s → Runs s due k r now → k + length now ≤ length due + sum_by (count_lost s r) s.constraints
