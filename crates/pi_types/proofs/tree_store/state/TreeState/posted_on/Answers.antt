use Rattle.std.proofs.Common.{arith}
use Rattle.std.specs.Prelude.{IsTrue}
use Rattle.pi_types.specs.TreeStoreWalks.{posted_in}
use Rattle.pi_types.proofs.PlaceLemmas.{lists_start, lists_more, lists_end, same_truth}
use Rattle.pi_types.proofs.tree_store.state.TreeState.posted_on.Goals as goal

pub loop-i-init : goal.loop-i-init
loop-i-init c = lists_start (λ i. IsTrue (posted_in c.args.self.now c.args.v i)) _ c.new-found.ensures

pub loop-i-preserved : goal.loop-i-preserved
loop-i-preserved c = lists_more (λ i. IsTrue (posted_in c.args.self.now c.args.v i)) c.loop-i.i c.loop-i.found _ c.is_posted.result c.loop-i.invariant (same_truth _ _ c.is_posted.ensures) c.in_ok-push_if.ensures

pub returns : goal.returns
returns c = lists_end (λ i. IsTrue (posted_in c.args.self.now c.args.v i)) c.loop-i.i _ c.loop-i.found (omega arith) c.loop-i.invariant
