use Rattle.pi_types.proofs.TreeStoreBinds.{confines}
use Rattle.pi_types.proofs.tree_store.TreeStoreStateStore.set_domain.Goals as goal

pub returns-clause-ok : goal.returns-clause-ok
returns-clause-ok c = confines _ _ _ _ _ _ _ _ c.args.self.now.sound.present_is c.args.v _ _ c.in_ok-domain.ensures.ok (λ n e. c.in_ok-know.ensures.ok n e)
