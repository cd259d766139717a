-- What is next after a goal, by what it left: a point, at once or after a state is settled.
use Rattle.std.specs.Prelude.{◌≡◌, Bool, true, false, Option, Some, None, Box}
use Rattle.std.specs.Global.{Global}
use Rattle.pi_constraints.specs.State.{State}
use Rattle.pi_settling.specs.Calm.{IsCalm}
use Rattle.pi_meaning.specs.Shared.Settle.{settlement}
use Rattle.pi_engine_settle.specs.Due.{IsDueFor}
use Rattle.pi_engine_settle.specs.Settles.{LeftBy}
use Rattle.pi_engine_arenas.specs.declared.frames.Point.{Point}
use Rattle.pi_engine_arenas.specs.declared.run.Settling.{Settling}
use Rattle.pi_engine_arenas.specs.declared.run.Now.{Now}

-- a goal that began in the first state left the second, and a point is next: at once where nothing is left to settle, else with what is due
pub data GoesOnTo (before s : State) (p : Point) : Now → Type 0 where
  at_once : IsCalm s → settlement before s ≡ record { load = 0; left = Some s } → GoesOnTo before s p (Now.Going p)
  settled_first : (it : Box Settling Global) → it.value.point ≡ p → IsDueFor before s it.value.due → GoesOnTo before s p (Now.Settling it)

-- the same where there was an answer; else the newest entry is next
abbrev pub NextAfter : Bool → State → State → Point → Now → Type 0
NextAfter true before s p now = GoesOnTo before s p now
NextAfter false before s p now = now ≡ Now.Failing

-- what is next where a ball unifies with one that was raised in the first state, to which that gives this state
abbrev pub NextCaught : State → Option State → State → Point → Option Now → Type 0
NextCaught before o s p None = o ≡ None
NextCaught before o s p (Some now) = (o ≡ Some s) × LeftBy before s × GoesOnTo before s p now

-- What is next after a narrowing that began in the first state, by the state that it gives: the point, at once or once that state is settled; where it leaves no value,
-- the newest entry.
abbrev pub NextLeft : State → Option State → State → Point → Now → Type 0
NextLeft before None s p now = now ≡ Now.Failing
NextLeft before (Some r) s p now = (s ≡ r) × LeftBy before s × GoesOnTo before s p now
