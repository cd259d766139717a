use Rattle.pi_types.proofs.TreeStoreSoundLemmas.{sound_term}
use Rattle.pi_types.proofs.tree_store.TreeStore.add.Goals as goal

pub change-requires : goal.change-requires
change-requires c = sound_term _ _ _ c.args.self.now.sound.present_is c.requires
