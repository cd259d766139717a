use Rattle.std.specs.Prelude.{Result}
use Rattle.pi_constraints.specs.declared.constraint.Item.{Item}
use Rattle.pi_constraints.specs.State.{IsState}
use Rattle.pi_prop_spec.specs.Steps.{Refusal, Known}
use Rattle.pi_prop_read.specs.TruthFrames.{IsTurn}
use Rattle.pi_prop_read.proofs.truths.read.take_turns.Given as goal

-- the turn and what waits come to the whole
abbrev pub invariant-loop : goal.invariant-loop
invariant-loop g l =
    let w = (g.S.StateStore.seen l.s).now in
    (whole : Result (Known Item) Refusal) → IsState w.state → IsTurn w l.fn.making l.fn.first l.fn.frames.items whole → IsTurn w l.making l.turn l.frames.items whole
