-- What is next behind a built-in predicate and behind a goal of constraints, by what its call came to.
use Rattle.std.specs.Prelude.{◌≡◌, ⊤}
use Rattle.pi_constraints.specs.State.{State}
use Rattle.pi_effects.specs.Effect.{Effect, Succeeds, Fails, Writes, Raises}
use Rattle.pi_engine_settle.specs.Settles.{LeftBy}
use Rattle.pi_lib.specs.declared.predicates.Outcome.{Outcome}
use Rattle.pi_meaning.specs.declared.happening.Mode.{Mode}
use Rattle.pi_engine_arenas.specs.declared.frames.Point.{Point}
use Rattle.pi_engine_arenas.specs.declared.run.Now.{Now}
use Rattle.pi_engine_stands.specs.Does.{IsTold}
use Rattle.pi_engine_stands.specs.Settling.{GoesOnTo}

abbrev pub IsDone : Mode → Point → Outcome → Now → Type 0
IsDone mode p Outcome.Yes now = now ≡ Now.Going p
IsDone mode p Outcome.No now = now ≡ Now.Failing
IsDone mode p (Outcome.Out text) now = IsTold mode text p now

-- what a goal of constraints leaves of a state, where it has an answer; none of them writes
abbrev pub Leaves : State → Effect → Type 0
Leaves before (Succeeds r) = LeftBy before r
Leaves before Fails = ⊤
Leaves before (Writes text r) = ⊥
Leaves before (Raises ball) = ⊤

-- what is next behind one that came to this, where it began in the first state and left the second
abbrev pub IsNext : State → State → Point → Outcome → Now → Type 0
IsNext before s p Outcome.Yes now = GoesOnTo before s p now
IsNext before s p Outcome.No now = now ≡ Now.Failing
IsNext before s p (Outcome.Out text) now = ⊤
