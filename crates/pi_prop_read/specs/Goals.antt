-- What the reading of a goal answers. (Own.)
use Rattle.std.specs.Prelude.{Result, Ok, Err}
use Rattle.pi_constraints.specs.Store.{Moment}
use Rattle.pi_prop_spec.specs.Steps.{Made, Reading}
use Rattle.pi_prop_made.specs.declared.making.Making.{Making}
use Rattle.pi_prop_made.specs.Making.{Reads}
use Rattle.pi_prop_read.specs.declared.operands.stop.OperandStop.{OperandStop}
use Rattle.pi_prop_read.specs.OperandFrames.{Refuses}

abbrev pub ShowsGoal : Moment → Reading (Unit {0}) → Made → Making → Result (Unit {0}) OperandStop → Type 0
ShowsGoal w r m new (Ok done) = Reads r m done new
ShowsGoal w r m new (Err stop) = Refuses w stop (r m)
