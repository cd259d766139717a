-- How a propagation ends, by the runs that lead there. (Own.)
use Rattle.std.specs.Prelude.{◌≡◌, ◌⊎◌, ℕ, zero, suc, ◌≤◌, Bool, true, false, List, [], ◌∷◌, ◌++◌, Result, Ok, Err, ⊤}
use Rattle.pi_core.specs.declared.log.Work.{Work}
use Rattle.pi_constraints.specs.State.{State}
use Rattle.pi_settling.specs.Runs.{Runs, HasRun, work_of}
use Rattle.pi_settling.specs.declared.stop.PropStop.{PropStop}
use Rattle.pi_queue.specs.Leaving.{IsNarrower}
use Rattle.pi_queue.specs.Turn.{IsFailure}

-- the numbers below n, ascending
unfoldable pub numbers_below : ℕ → List ℕ
numbers_below zero = []
numbers_below (suc n) = numbers_below n ++ n ∷ []

-- none is due any more, and the work counted is just the runs
pub record IsDone (s : State) (due : List ℕ) (old new : Work) (r : State) : Type 0 where
  pub many : ℕ
  pub runs : Runs s due many r []
  pub counted : HasRun many old new

-- behind some runs that of the constraint that waited longest fails, and the work counted is just these
pub record HasFailed (s : State) (due : List ℕ) (old new : Work) : Type 0 where
  pub many : ℕ
  pub reached : State
  pub first : ℕ
  pub rest : List ℕ
  pub runs : Runs s due many reached (first ∷ rest)
  pub failure : IsFailure reached first
  pub counted : HasRun (suc many) old new

-- Behind some runs a constraint is due and the work has just reached its limit, where it was within it. The work counted is just these runs.
pub record IsSpent (s : State) (due : List ℕ) (limit : ℕ) (old new : Work) (r : State) : Type 0 where
  pub many : ℕ
  pub first : ℕ
  pub rest : List ℕ
  pub runs : Runs s due many r (first ∷ rest)
  pub counted : HasRun many old new
  pub spent : work_of old ≤ limit → work_of new ≡ limit

-- some runs were made, and perhaps a part of one more
pub record IsUnderWay (s : State) (due : List ℕ) (old new : Work) (r : State) : Type 0 where
  pub many : ℕ
  pub reached : State
  pub now : List ℕ
  pub runs : Runs s due many reached now
  pub narrower : IsNarrower reached r
  pub counted : HasRun many old new ⊎ (HasRun (suc many) old new × (now ≡ [] → ⊥))

-- What is counted, whatever the answer: so many runs and nothing else. None was begun where the work had reached its limit.
pub record KeepsWithin (limit : ℕ) (old new : Work) : Type 0 where
  pub many : ℕ
  pub counted : HasRun many old new
  pub within : (many ≡ 0) ⊎ (work_of new ≤ limit)

-- the work before and after, and its limit
pub record Worked : Type 0 where
  pub limit : ℕ
  pub old : Work
  pub new : Work

abbrev pub worked : ℕ → Work → Work → Worked
worked limit old new = record { limit = limit; old = old; new = new }

-- what a propagation makes of a state in which these constraints are due, and of the work, by its answer
abbrev pub Ends : State → List ℕ → Worked → State → Result Bool PropStop → Type 0
Ends s due w r (Ok true) = IsDone s due w.old w.new r
Ends s due w r (Ok false) = HasFailed s due w.old w.new
Ends s due w r (Err PropStop.WorkSpent) = IsSpent s due w.limit w.old w.new r
Ends s due w r (Err PropStop.Memory) = ⊤
