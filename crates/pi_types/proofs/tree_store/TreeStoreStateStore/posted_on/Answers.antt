use Rattle.pi_types.proofs.TreeStorePlaces.{posted_are}
use Rattle.pi_types.proofs.tree_store.TreeStoreStateStore.posted_on.Goals as goal

pub returns : goal.returns
returns c = λ a _. posted_are _ _ c.args.self.now.sound.present_is c.args.v _ c.in_ok-found.ensures a
