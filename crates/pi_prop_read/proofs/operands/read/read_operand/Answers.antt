-- Each turn comes to the whole.
use Rattle.std.specs.Prelude.{Ok}
use Rattle.std.proofs.Common.{subst}
use Rattle.pi_prop_spec.specs.Steps.{read_operand}
use Rattle.pi_prop_read.specs.Refs.{operand_at}
use Rattle.pi_prop_read.specs.OperandFrames.{ShowsNext}
use Rattle.pi_prop_read.proofs.LoopLemmas.{first-turn}
use Rattle.pi_prop_read.proofs.operands.read.read_operand.Goals as goal

pub loop-init : goal.loop-init
loop-init g c = λ m s here shown l.
    let w = (g.S.StateStore.seen c.args.s.now).now in
    first-turn w c.args.making.now c.args.operand m c.new-frames.result.items c.new-frames.ensures.items here shown l

pub returns-in-Done : goal.returns-in-Done
returns-in-Done g c = λ m s here shown l.
    let w = (g.S.StateStore.seen c.args.s.now).now in
    let whole = read_operand (operand_at w c.args.operand) m in
    subst (λ n. ShowsNext w c.take_turn.new.making (Ok n) c.take_turn.new.frames.items whole) c.in-Done.is (c.in_ok-following.ensures whole s (c.loop.invariant m s here shown l))

pub loop-preserved : goal.loop-preserved
loop-preserved g c = λ m s here shown l.
    let w = (g.S.StateStore.seen c.args.s.now).now in
    let whole = read_operand (operand_at w c.args.operand) m in
    subst (λ n. ShowsNext w c.take_turn.new.making (Ok n) c.take_turn.new.frames.items whole) c.in-Turn.is (c.in_ok-following.ensures whole s (c.loop.invariant m s here shown l))
