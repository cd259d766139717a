-- What is next behind a call of a built-in predicate, and of a goal of constraints.
use Rattle.std.specs.Prelude.{◌≡◌, List, ℕ, Box, codes}
use Rattle.std.specs.Global.{Global}
use Rattle.pi_terms.specs.Tree.{atom}
use Rattle.pi_constraints.specs.State.{State}
use Rattle.pi_effects.specs.Effect.{Effect, Succeeds, Fails, Writes, Raises}
use Rattle.pi_meaning.specs.declared.happening.Mode.{Mode}
use Rattle.pi_engine_arenas.specs.declared.frames.Point.{Point}
use Rattle.pi_engine_arenas.specs.declared.run.Telling.{Telling}
use Rattle.pi_engine_arenas.specs.declared.run.Now.{Now}
use Rattle.pi_engine_settle.specs.Settles.{LeftBy}
use Rattle.pi_engine_stands.specs.Settling.{GoesOnTo}

-- a text is told, and then a point is next; where a machine runs the body of a planner call that is an exception
abbrev pub IsTold : Mode → List ℕ → Point → Now → Type 0
IsTold Mode.Top text p now = (told : Box Telling Global) × (told.value ≡ record { text = text; point = p }) × (now ≡ Now.Telling told)
IsTold (Mode.Inner rest) text p now = now ≡ Now.Raising (atom (codes "output_in_plan"))

-- what is next behind a predicate that does this, in a state, where a point is next behind its goal
abbrev pub ComesNext : Mode → Point → Effect → State → Now → Type 0
ComesNext mode p (Succeeds r) s now = (r ≡ s) × (now ≡ Now.Going p)
ComesNext mode p Fails s now = now ≡ Now.Failing
ComesNext mode p (Writes text r) s now = (r ≡ s) × IsTold mode text p now
ComesNext mode p (Raises ball) s now = now ≡ Now.Raising ball

-- what is next behind a goal of constraints that does this, which began in the first state and left the second: what it left is settled first
abbrev pub ComesAfter : State → Point → Effect → State → Now → Type 0
ComesAfter before p (Succeeds r) s now = (r ≡ s) × LeftBy before s × GoesOnTo before s p now
ComesAfter before p Fails s now = now ≡ Now.Failing
ComesAfter before p (Writes text r) s now = ⊥
ComesAfter before p (Raises ball) s now = now ≡ Now.Raising ball
