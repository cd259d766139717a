-- Settling: what comes after each built-in goal, and after a fact, a plan or an exception is unified. The domains become the stable ones; where one is
-- empty there is no answer. Then the goal's events wake agents. (A User's Guide to Picat, 'Constraints' and 'Action Rules'; own as the files say that it
-- is made of.)
use Rattle.std.specs.Prelude.{◌≡◌, ◌⊎◌, ℕ, zero, suc, ◌++◌}
use Rattle.pi_traces.specs.Trace.{Trace, note, Load, one, done}
use Rattle.pi_constraints.specs.State.{State, with_waiting}
use Rattle.pi_settling.specs.Stable.{IsEmptied, IsStable}
use Rattle.pi_settling.specs.Events.{events_between}
use Rattle.pi_settling.specs.Answers.{activations}
use Rattle.pi_settling.specs.Load.{load, load_of_failure}

-- a load stands before the answer or the end, where it is above 0
unfoldable pub loaded : {A : Type 0} → ℕ → Trace A → Trace A
loaded zero t = t
loaded (suc k) t = note (Load (suc k)) t

-- the activations of the goal's events wait behind those that wait already
abbrev pub with_events : State → State → State
with_events before r = with_waiting r (r.waiting ++ activations r (events_between before r))

-- what becomes of a state that a goal left which began in another: no answer, or its stable state with what the goal's events make wait
abbrev pub IsSettled : State → State → Trace State → Type 0
IsSettled before s t =
    (IsEmptied s × (t ≡ loaded (load_of_failure before s) done)) ⊎ ((r : State) × IsStable s r × (t ≡ loaded (load before s r) (one (with_events before r))))
