use Rattle.pi_constraints.specs.declared.constraint.Item.{Item}
use Rattle.pi_queue.specs.Standing.{standing_at}
use Rattle.pi_queue.proofs.ChangeLemmas.{item-at, push-count, read-more}
use Rattle.pi_queue.proofs.held_places.HeldPlaces.of.Goals as goal

pub loop-k-preserved : goal.loop-k-preserved
loop-k-preserved g c =
    let st = (g.S.StateStore.seen c.args.store.now).now.state in (
      push-count c.loop-k.held.items c.push.new.self.items c.of-one.result c.loop-k.k c.in_ok-push.ensures.items c.loop-k.invariant.0,
      λ all. read-more (standing_at st) c.args.items.now c.loop-k.k (Item.Var 0) c.loop-k.held.items c.push.new.self.items c.of-one.result c.loop-k-test.true c.in_ok-push.ensures.items (c.loop-k.invariant.1 all) (c.of-one.ensures (item-at c.args.items.now c.loop-k.k (Item.Var 0) c.loop-k-test.true all)),
    )
