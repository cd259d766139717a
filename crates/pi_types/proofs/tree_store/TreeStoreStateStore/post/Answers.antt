use Rattle.std.proofs.Common.{refl}
use Rattle.pi_terms.proofs.GetLemmas.{on_err}
use Rattle.pi_types.proofs.TreeStoreCalls.{same_terms}
use Rattle.pi_types.proofs.TreeStoreKeeps.{changes_by, stays_by}
use Rattle.pi_types.proofs.TreeStoreSoundLemmas.{sound_post}
use Rattle.pi_types.proofs.tree_store.TreeStoreStateStore.post.Goals as goal

pub change-requires : goal.change-requires
change-requires c = sound_post _ _ _ c.args.self.now.sound.present_is

pub returns-in_err-change-clause-keeps : goal.returns-in_err-change-clause-keeps
returns-in_err-change-clause-keeps c = (stays_by _ _ _ _ _ _ _ _ c.in_err-change.ensures.err).keeps

pub returns-in_err-change-clause-err : goal.returns-in_err-change-clause-err
returns-in_err-change-clause-err c = on_err c.from_residual-in_err-change.result (stays_by _ _ _ _ _ _ _ _ c.in_err-change.ensures.err)

pub returns-clause-keeps : goal.returns-clause-keeps
returns-clause-keeps c = (changes_by _ _ _ _ _ _ _ _ _ _ c.in_ok-change.ensures.ok (same_terms c.args.self.now.atoms c.args.self.now.present) refl).keeps
