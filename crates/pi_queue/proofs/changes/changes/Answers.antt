use Rattle.std.proofs.Common.{arith, ap, length}
use Rattle.pi_constraints.specs.declared.constraint.Item.{Item}
use Rattle.pi_queue.specs.Standing.{standing_at}
use Rattle.pi_queue.proofs.ChangeLemmas.{item-at, push-count, none-told, told-more, told-all}
use Rattle.pi_queue.proofs.changes.changes.Goals as goal

pub loop-k-init : goal.loop-k-init
loop-k-init g c = (ap length c.new-told.ensures.items, λ all. none-told _ _ _)

pub loop-k-preserved : goal.loop-k-preserved
loop-k-preserved g c =
    let st = (g.S.StateStore.seen c.args.store.now).now.state in (
      push-count c.loop-k.told.items c.push.new.self.items c.in_ok-one.one c.loop-k.k c.in_ok-push.ensures.items c.loop-k.invariant.0,
      λ all. told-more (standing_at st) c.args.items.now c.loop-k.told.items c.push.new.self.items c.args.held.now c.loop-k.k (Item.Var 0) c.in_ok-one.one c.index-held-k.result c.loop-k-test.true c.requires c.loop-k.invariant.0 c.in_ok-push.ensures.items c.index-held-k.is
          (c.in_ok-one.ensures (item-at c.args.items.now c.loop-k.k (Item.Var 0) c.loop-k-test.true all)) (c.loop-k.invariant.1 all),
    )

pub returns-clause-told : goal.returns-clause-told
returns-clause-told g c = λ all. told-all _ c.loop-k.told.items c.args.held.now c.loop-k.k c.loop-k.invariant.0 (omega (arith, c.loop-k-test.false, c.loop-k.auto.k-end, c.requires)) (c.loop-k.invariant.1 all)
