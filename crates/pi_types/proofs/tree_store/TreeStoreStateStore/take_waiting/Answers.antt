use Rattle.std.proofs.Common.{sym}
use Rattle.pi_types.proofs.TreeStoreCalls.{takes_none}
use Rattle.pi_types.proofs.TreeStoreSoundLemmas.{sound_drop}
use Rattle.pi_types.proofs.tree_store.TreeStoreStateStore.take_waiting.Goals as goal

pub change-requires : goal.change-requires
change-requires c = sound_drop _ _ c.args.self.now.sound.present_is

pub returns-in_default-clause-ok : goal.returns-in_default-clause-ok
returns-in_default-clause-ok c = takes_none _ _ _ _ (sym c.in_default.ensures)
