use Rattle.std.proofs.Common.{arith}
use Rattle.pi_lib_builtin.proofs.CollectionLemmas.{arguments-more, arguments-all}
use Rattle.pi_lib_builtin.proofs.collection.arguments.Goals as goal

pub loop-i-preserved : goal.loop-i-preserved
loop-i-preserved g c = λ ts a has.
    let v = g.S.StateStore.seen c.args.s.now in
    arguments-more v c.loop-i.items.items c.push.new.self.items c.args.term c.arg.result c.args.count c.loop-i.i ts a has (omega (arith, c.loop-i-test.true)) c.arg.ensures (c.loop-i.invariant ts a has) c.in_ok-push.ensures.items

pub returns : goal.returns
returns g c = λ ts a has.
    let v = g.S.StateStore.seen c.args.s.now in
    arguments-all v c.loop-i.items.items c.args.term c.args.count c.loop-i.i ts has (omega (arith, c.loop-i-test.false)) (c.loop-i.invariant ts a has)
