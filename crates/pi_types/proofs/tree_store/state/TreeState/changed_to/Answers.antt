use Rattle.std.proofs.Common.{arith}
use Rattle.pi_types.specs.TreeStoreWalks.{HasChangedIn}
use Rattle.pi_types.proofs.PlaceLemmas.{lists_start, lists_more, lists_end}
use Rattle.pi_types.proofs.tree_store.state.TreeState.changed_to.Goals as goal

pub loop-n-init : goal.loop-n-init
loop-n-init c = lists_start (HasChangedIn c.args.self.now c.args.later.now) _ c.new-found.ensures

pub loop-n-preserved : goal.loop-n-preserved
loop-n-preserved c = lists_more (HasChangedIn c.args.self.now c.args.later.now) c.loop-n.n c.loop-n.found _ c.has_changed.result c.loop-n.invariant c.has_changed.ensures c.in_ok-push_if.ensures

pub returns : goal.returns
returns c = lists_end (HasChangedIn c.args.self.now c.args.later.now) c.loop-n.n _ c.loop-n.found (omega arith) c.loop-n.invariant
