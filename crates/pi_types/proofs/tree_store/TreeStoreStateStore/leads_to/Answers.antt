use Rattle.pi_types.proofs.TreeStoreLeads.{leads_term}
use Rattle.pi_types.proofs.tree_store.TreeStoreStateStore.leads_to.Goals as goal

pub returns : goal.returns
returns c = λ t i a. leads_term _ _ c.args.self.now.sound.present_is c.args.r t c.args.v c.leads_to.result c.leads_to.ensures i a
