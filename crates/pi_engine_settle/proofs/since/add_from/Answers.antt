use Rattle.std.proofs.Common.{arith}
use Rattle.pi_engine_settle.proofs.AddLemmas.{from-start, from-more, from-all}
use Rattle.pi_engine_settle.proofs.since.add_from.Goals as goal

pub loop-i-init : goal.loop-i-init
loop-i-init c = (omega arith, from-start c.args.first c.args.end c.args.due.now)

pub loop-i-preserved : goal.loop-i-preserved
loop-i-preserved c = (
  omega (arith, c.loop-i.invariant.0),
  from-more c.args.first c.args.end c.loop-i.i c.args.due.now c.loop-i.due c.add.new.self c.loop-i.invariant.0 c.loop-i-test.true c.loop-i.invariant.1 c.in_ok-add.ensures.there c.in_ok-add.ensures.new,
)

pub returns : goal.returns
returns c = from-all c.args.first c.args.end c.loop-i.i c.args.due.now c.loop-i.due c.loop-i-test.false c.loop-i.invariant.1
