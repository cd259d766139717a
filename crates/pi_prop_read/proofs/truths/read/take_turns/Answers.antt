-- Each turn comes to the whole.
use Rattle.std.specs.Prelude.{Ok}
use Rattle.std.proofs.Common.{subst}
use Rattle.pi_prop_read.specs.TruthFrames.{ShowsNext}
use Rattle.pi_prop_read.proofs.truths.read.take_turns.Goals as goal

pub loop-init : goal.loop-init
loop-init g c = λ whole s t. t

pub returns-in-Done : goal.returns-in-Done
returns-in-Done g c = λ whole s t.
    let w = (g.S.StateStore.seen c.args.s.now).now in
    subst (λ n. ShowsNext w c.take_turn.new.making (Ok n) c.take_turn.new.frames.items whole) c.in-Done.is (c.in_ok-following.ensures whole s (c.loop.invariant whole s t))

pub loop-preserved : goal.loop-preserved
loop-preserved g c = λ whole s t.
    let w = (g.S.StateStore.seen c.args.s.now).now in
    subst (λ n. ShowsNext w c.take_turn.new.making (Ok n) c.take_turn.new.frames.items whole) c.in-Turn.is (c.in_ok-following.ensures whole s (c.loop.invariant whole s t))
