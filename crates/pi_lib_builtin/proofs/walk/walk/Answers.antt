use Rattle.pi_lib_builtin.proofs.WalkLemmas.{walk-none, walk-more, walk-ends, walk-fails}
use Rattle.pi_lib_builtin.proofs.walk.walk.Goals as goal

pub loop-init : goal.loop-init
loop-init g c = λ t a is. walk-none (g.S.StateStore.seen c.args.s.now) t c.args.list c.new-items.result.items c.new-items.ensures.items is

pub returns-in-Nil : goal.returns-in-Nil
returns-in-Nil g c = λ t a is. walk-ends (g.S.StateStore.seen c.args.s.now) t c.loop.items c.loop.at a (c.loop.invariant t a is) c.in-Nil.ensures

pub returns-in-Other : goal.returns-in-Other
returns-in-Other g c = λ t a is. walk-fails (g.S.StateStore.seen c.args.s.now) t c.loop.items.items c.loop.at a (c.loop.invariant t a is) c.in-Other.ensures

pub loop-preserved : goal.loop-preserved
loop-preserved g c = λ t a is.
    walk-more (g.S.StateStore.seen c.args.s.now) t c.loop.items.items c.push.new.self.items c.loop.at c.arg.result c.arg-at.result a (c.loop.invariant t a is) c.in-Cell.ensures c.arg.ensures c.arg-at.ensures c.in_ok-push-in-Cell.ensures.items
