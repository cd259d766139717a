use Rattle.std.proofs.Common.{◌∙◌}
use Rattle.std.proofs.lemmas.List.{take_all}
use Rattle.pi_queue.proofs.WaitingLemmas.{Itself, added-start, added-more, added-all, added-one, added-themselves, in-order-more}
use Rattle.pi_queue.proofs.waking.add_all.Goals as goal

pub loop-k-init : goal.loop-k-init
loop-k-init c = (added-start Itself c.args.numbers.now c.args.waiting.now, λ differ none. none)

pub loop-k-preserved : goal.loop-k-preserved
loop-k-preserved c =
    let ns = c.args.numbers.now in
    let k = c.loop-k.k in (
      added-more Itself ns k c.args.waiting.now c.loop-k.waiting c.add.new.self c.loop-k-test.true c.loop-k.invariant.0 (added-one c.loop-k.waiting c.add.new.self _ c.in_ok-add.ensures.there c.in_ok-add.ensures.new),
      λ differ none. in-order-more ns k c.loop-k.waiting c.add.new.self differ c.loop-k-test.true (c.loop-k.invariant.1 differ none) c.in_ok-add.ensures.new,
    )

pub returns-clause-added : goal.returns-clause-added
returns-clause-added c = added-themselves c.args.numbers.now c.args.waiting.now c.loop-k.waiting (added-all Itself c.args.numbers.now c.loop-k.k c.args.waiting.now c.loop-k.waiting c.loop-k-test.false c.loop-k.invariant.0)

pub returns-clause-new : goal.returns-clause-new
returns-clause-new c = λ differ none. c.loop-k.invariant.1 differ none ∙ take_all c.loop-k.k c.args.numbers.now c.loop-k-test.false
