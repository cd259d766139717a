use Rattle.pi_types.proofs.TreeStoreGround.{grounds}
use Rattle.pi_types.proofs.tree_store.TreeStoreStateStore.is_ground.Goals as goal

pub returns : goal.returns
returns c = λ t h. grounds _ _ c.args.self.now.sound.present_is _ _ t c.is_ground.ensures h
