use Rattle.std.proofs.Common.{refl, false, IsTrue}
use Rattle.pi_terms.proofs.GetLemmas.{on_err}
use Rattle.pi_types.proofs.TreeStoreCalls.{same_terms}
use Rattle.pi_types.proofs.TreeStoreKeeps.{changes_by, stays_by}
use Rattle.pi_types.proofs.TreeStoreAgents.{suspends_by, suspends_none}
use Rattle.pi_types.proofs.TreeStoreSoundLemmas.{sound_suspend}
use Rattle.pi_types.proofs.tree_store.TreeStoreStateStore.suspend.Goals as goal

pub returns-then-not-has-clause-ok : goal.returns-then-not-has-clause-ok
returns-then-not-has-clause-ok c = let s = c.args.self.now in suspends_none s.atoms s.earlier s.present s.is_kept c.args.call c.args.rule c.args.watches.now c.len-number.result (λ h _. let f : IsTrue false = c.if-not-has.ensures.1 h in cc) c.len-number.ensures

pub returns-then-not-has_watched-clause-ok : goal.returns-then-not-has_watched-clause-ok
returns-then-not-has_watched-clause-ok c = let s = c.args.self.now in suspends_none s.atoms s.earlier s.present s.is_kept c.args.call c.args.rule c.args.watches.now c.len-number.result (λ _ h. let f : IsTrue false = c.if-not-has_watched.ensures.1 h in cc) c.len-number.ensures

pub change-requires : goal.change-requires
change-requires c = sound_suspend _ _ _ c.args.self.now.sound.present_is (record { call = c.if-not-has.ensures.0 refl; watches = rw c.in_ok-watches.ensures.ok (c.if-not-has_watched.ensures.0 refl) })

pub returns-clause-ok : goal.returns-clause-ok
returns-clause-ok c = suspends_by _ _ _ _ _ _ _ _ c.args.call c.args.rule c.args.watches.now c.in_ok-watches.watches c.len-number.result c.in_ok-change.ensures.ok c.in_ok-watches.ensures.ok c.len-number.ensures

pub returns-in_err-change-clause-keeps : goal.returns-in_err-change-clause-keeps
returns-in_err-change-clause-keeps c = (stays_by _ _ _ _ _ _ _ _ c.in_err-change.ensures.err).keeps

pub returns-in_err-change-clause-err : goal.returns-in_err-change-clause-err
returns-in_err-change-clause-err c = on_err c.from_residual-in_err-change.result (stays_by _ _ _ _ _ _ _ _ c.in_err-change.ensures.err)

pub returns-clause-keeps : goal.returns-clause-keeps
returns-clause-keeps c = (changes_by _ _ _ _ _ _ _ _ _ _ c.in_ok-change.ensures.ok (same_terms c.args.self.now.atoms c.args.self.now.present) refl).keeps
