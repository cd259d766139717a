use Rattle.pi_types.proofs.TreeStoreCalls.{gives_new}
use Rattle.pi_types.proofs.TreeStoreSoundLemmas.{sound_new}
use Rattle.pi_types.proofs.tree_store.TreeStoreStateStore.new_var.Goals as goal

pub change-requires : goal.change-requires
change-requires c = sound_new _ _ c.args.self.now.sound.present_is

pub returns-clause-ok : goal.returns-clause-ok
returns-clause-ok c = gives_new _ _ _ _ _ _ _ _ _ c.in_ok-change.ensures.ok c.args.self.now.sound.present_is c.len-number.ensures
