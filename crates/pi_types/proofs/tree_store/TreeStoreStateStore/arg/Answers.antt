use Rattle.pi_types.proofs.TreeStoreLooks.{arg_is}
use Rattle.pi_types.proofs.tree_store.TreeStoreStateStore.arg.Goals as goal

pub returns : goal.returns
returns c = λ t u h _ e. arg_is _ _ c.args.self.now.sound.present_is _ _ _ _ t u c.followed.ensures c.arg.ensures h e
