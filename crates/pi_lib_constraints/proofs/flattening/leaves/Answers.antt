use Rattle.std.proofs.Common.{sym, ◌∙◌}
use Rattle.pi_constraints.specs.State.{bindings}
use Rattle.pi_settling.specs.Asked.{flat_items}
use Rattle.pi_lib_constraints.proofs.LeafLemmas.{walk-none, walk-ends, walk-more, walk-stops}
use Rattle.pi_lib_constraints.proofs.flattening.leaves.Goals as goal

pub loop-init : goal.loop-init
loop-init g c = λ t a is. walk-none (g.S.StateStore.seen c.args.s.now) c.args.term t c.new-found.result.items c.new-left.result.items c.push.new.self.items c.new-found.ensures.items c.new-left.ensures.items c.in_ok-push.ensures.items is

pub returns-in_default : goal.returns-in_default
returns-in_default g c = λ t a is.
    let v = g.S.StateStore.seen c.args.s.now in
    walk-ends v c.loop.found.items c.loop.left.items (flat_items (bindings v.now.state) t) (c.loop.invariant t a is) (sym c.loop.left.ok.0 ∙ c.in_default.ensures.cases.0)

pub returns-in_err-look_at : goal.returns-in_err-look_at
returns-in_err-look_at g c = λ t a is.
    let v = g.S.StateStore.seen c.args.s.now in
    walk-stops v c.in-Some.at c.loop.found.items c.loop.left.items c.pop.new.self.items c.look_at.new.found.items c.look_at.new.left.items (flat_items (bindings v.now.state) t) _ c.from_residual-in_err-look_at.result c.from_residual-in_err-look_at.ensures.1 (c.loop.invariant t a is) c.in-Some.ensures.items
    (λ given gs. c.in_err-look_at.ensures a given gs)

pub loop-preserved : goal.loop-preserved
loop-preserved g c = λ t a is.
    let v = g.S.StateStore.seen c.args.s.now in
    walk-more v c.in-Some.at c.loop.found.items c.loop.left.items c.pop.new.self.items c.look_at.new.found.items c.look_at.new.left.items (flat_items (bindings v.now.state) t) (c.loop.invariant t a is) c.in-Some.ensures.items
    (λ given gs. c.in_ok-look_at.ensures a given gs)
