use Rattle.pi_types.proofs.TreeStoreLooks.{variable_term}
use Rattle.pi_types.proofs.tree_store.TreeStoreStateStore.var_ref.Goals as goal

pub returns : goal.returns
returns c = λ h. variable_term _ _ c.args.self.now.sound.present_is _ _ c.var_ref.ensures h
