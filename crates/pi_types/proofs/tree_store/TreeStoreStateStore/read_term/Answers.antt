use Rattle.pi_types.proofs.tree_store.TreeStoreStateStore.read_term.Goals as goal

pub returns : goal.returns
returns c = λ t i a. c.read.ensures t (c.args.self.now.sound.present_is, (i, a))
