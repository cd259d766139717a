-- What the propagation after a goal comes to. (Own.)
use Rattle.std.specs.Prelude.{◌≡◌, ◌≢◌, ℕ, ◌+◌, ◌<◌, ◌≤◌, List, []}
use Rattle.pi_core.specs.declared.log.Work.{Work}
use Rattle.pi_constraints.specs.State.{State}
use Rattle.std.specs.Prelude.{None, Some}
use Rattle.pi_constraints.specs.State.{IsState}
use Rattle.pi_settling.specs.SettlingLaws.{MaySettle}
use Rattle.pi_settling.specs.Calm.{IsCalm}
use Rattle.pi_meaning.specs.Shared.Follows.{Follows}
use Rattle.pi_settling.specs.Settle.{Settlement}
use Rattle.pi_settling.specs.Stable.{IsStable, IsEmptied}
use Rattle.pi_settling.specs.Load.{load, load_of_failure}
use Rattle.pi_settling.specs.Runs.{work_of}
use Rattle.pi_queue.specs.Ends.{Worked}
use Rattle.pi_engine_settle.specs.declared.propagating.Settled.{Settled}

-- the stable domains stand, and the runs are no more than the load
pub record HasSettled (before s r : State) (old new : Work) : Type 0 where
  pub stable : IsStable s r
  pub runs : new.runs ≤ old.runs + load before s r

-- one of the stable domains is empty, and the runs are no more than the load
pub record HasLost (before s : State) (old new : Work) : Type 0 where
  pub emptied : IsEmptied s
  pub runs : new.runs ≤ old.runs + load_of_failure before s

-- A constraint was due, and the work has reached its limit, just so where it was within it. The runs are fewer than the load, with a stable state and
-- without one.
pub record HasStopped (before s : State) (due : List ℕ) (w : Worked) : Type 0 where
  pub some : due ≢ []
  pub spent : w.limit ≤ work_of w.new
  pub just : work_of w.old ≤ w.limit → work_of w.new ≡ w.limit
  pub fewer : (r : State) → IsStable s r → w.new.runs < w.old.runs + load before s r
  pub fewer_where_lost : w.new.runs < w.old.runs + load_of_failure before s

-- What the propagation in a state comes to that a goal left which began in another, where these constraints are due: by the work before and after, what
-- stands then, and how it ended.
abbrev pub ComesTo : State → State → List ℕ → Worked → State → Settled → Type 0
ComesTo before s due w r Settled.Left = HasSettled before s r w.old w.new
ComesTo before s due w r Settled.Lost = HasLost before s w.old w.new
ComesTo before s due w r Settled.Spent = HasStopped before s due w

-- a goal began in the first state, which is calm, and left the second; no agents are made so far
pub record LeftBy (before s : State) : Type 0 where
  pub calm : IsCalm before
  pub follows : Follows before s
  pub state : IsState s
  pub settles : MaySettle s
  pub none_made : s.agents ≡ []

-- What settling comes to what a goal left, by its settlement: the work before and after, what stands then, and how it ended. Where the work has reached its limit, just so where it was
-- within it, the load is above 0, and the runs are fewer.
abbrev pub SettlesAs : Settlement → Worked → State → Settled → Type 0
SettlesAs m w r Settled.Left = (m.left ≡ Some r) × IsCalm r × (r.agents ≡ []) × (w.new.runs ≤ w.old.runs + m.load)
SettlesAs m w r Settled.Lost = (m.left ≡ None) × (w.new.runs ≤ w.old.runs + m.load)
SettlesAs m w r Settled.Spent = (w.limit ≤ work_of w.new) × (work_of w.old ≤ w.limit → work_of w.new ≡ w.limit) × (w.new.runs < w.old.runs + m.load)
