use Rattle.pi_types.proofs.TreeStorePlaces.{changed_since_is}
use Rattle.pi_types.proofs.tree_store.TreeStoreStateStore.changed_since.Goals as goal

pub returns : goal.returns
returns c = λ _. changed_since_is c.args.self.now.atoms _ c.marked.result.now c.args.self.now.present c.in_ok-found.found c.marked.ensures c.in_ok-found.ensures
