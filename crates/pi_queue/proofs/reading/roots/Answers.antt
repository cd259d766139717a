use Rattle.std.proofs.Common.{◌∙◌}
use Rattle.pi_constraints.specs.declared.constraint.Item.{Item}
use Rattle.pi_settling.specs.Roots.{root_item}
use Rattle.pi_queue.specs.Reading.{IsRoot}
use Rattle.pi_queue.proofs.ReadLemmas.{push-count, read-more, read-all, one-of}
use Rattle.pi_queue.proofs.reading.roots.Goals as goal

pub loop-i-preserved : goal.loop-i-preserved
loop-i-preserved g c =
    let st = (g.S.StateStore.seen c.args.s.now).now.state in
    let items = c.args.items.now in
    let i = c.loop-i.i in (
      push-count c.loop-i.roots.items _ _ i c.in_ok-push.ensures.items c.loop-i.invariant.0,
      λ acyclic are.
          c.in_ok-push.ensures.items
          ∙ read-more (root_item st) items i (Item.Var 0) c.loop-i.roots.items _ c.loop-i-test.true (c.loop-i.invariant.1 acyclic are)
          (c.root-root.ensures acyclic (one-of (λ x. IsRoot st (root_item st x)) items i (Item.Var 0) c.loop-i-test.true are)),
    )

pub returns-clause-roots : goal.returns-clause-roots
returns-clause-roots g c = λ acyclic are. read-all (root_item (g.S.StateStore.seen c.args.s.now).now.state) c.args.items.now c.loop-i.i c.loop-i.roots.items c.loop-i-test.false (c.loop-i.invariant.1 acyclic are)
