use Rattle.std.proofs.Common.{sym}
use Rattle.pi_types.proofs.CopyLemmas.{one_queued}
use Rattle.pi_types.proofs.tree_store.copied.copied_queue.Goals as goal

pub loop-i-preserved : goal.loop-i-preserved
loop-i-preserved g c = one_queued c.args.values.now _ _ c.loop-i.i _ _ (sym c.in-Some.ensures) c.loop-i.invariant c.in_ok-copied.ensures.ok c.in_ok-push.ensures.ok
