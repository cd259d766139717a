use Rattle.std.specs.Prelude.{◌≤◌}
use Rattle.pi_constraints.specs.State.{IsState, next}
use Rattle.pi_prop_spec.specs.Steps.{Made, read_operand}
use Rattle.pi_prop_made.specs.Making.{Shows}
use Rattle.pi_prop_read.specs.Refs.{IsThere, operand_at}
use Rattle.pi_prop_read.specs.OperandFrames.{IsTurn}
use Rattle.pi_prop_read.proofs.operands.read.read_operand.Given as goal

-- the turn and what waits come to the whole
abbrev pub invariant-loop : goal.invariant-loop
invariant-loop g l =
    let w = (g.S.StateStore.seen l.s).now in
    (m : Made) → IsState w.state → IsThere w l.fn.operand → Shows l.fn.making m → next w.state ≤ m.unused → IsTurn w l.making l.turn l.frames.items (read_operand (operand_at w l.fn.operand) m)
