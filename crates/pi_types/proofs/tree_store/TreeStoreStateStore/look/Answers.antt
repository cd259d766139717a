use Rattle.pi_types.proofs.TreeStoreLooks.{looks}
use Rattle.pi_types.proofs.TreeStoreSpeaks.{terms_speak}
use Rattle.pi_types.proofs.tree_store.TreeStoreStateStore.look.Goals as goal

pub returns-clause-shows : goal.returns-clause-shows
returns-clause-shows c = λ t h _. let s = c.args.self.now in looks s.atoms s.earlier s.present s.is_kept s.sound.present_is c.args.r c.followed.result c.cell.result t c.followed.ensures c.cell.ensures h

pub returns-clause-distinct : goal.returns-clause-distinct
returns-clause-distinct c = c.args.self.now.sound.distinct.same

pub returns-clause-below : goal.returns-clause-below
returns-clause-below c = λ q t e. terms_speak _ _ c.args.self.now.sound.present_is q t e
