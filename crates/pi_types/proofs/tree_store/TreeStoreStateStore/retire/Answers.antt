use Rattle.std.proofs.Common.{sym, ap, false}
use Rattle.pi_types.proofs.TreeStoreCalls.{ends_none, same_terms, state_ended, agent_ended}
use Rattle.pi_types.proofs.TreeStoreKeeps.{changes_by}
use Rattle.pi_types.proofs.TreeStoreSoundLemmas.{sound_set_agent}
use Rattle.pi_types.proofs.tree_store.TreeStoreStateStore.retire.Goals as goal

pub returns-in_default-clause-ok : goal.returns-in_default-clause-ok
returns-in_default-clause-ok c = λ _. ends_none _ _ _ c.args.self.now.is_kept _ (sym c.in_default.ensures)

pub change-requires : goal.change-requires
change-requires c = sound_set_agent _ _ _ _ c.args.self.now.sound.present_is (agent_ended _ c.in-Some.agent.now _ (c.args.self.now.sound.present_is.agents c.args.n c.in-Some.agent.now (sym c.in-Some.ensures)) c.in_ok-ended.ensures.ok)

pub returns-clause-ok : goal.returns-clause-ok
returns-clause-ok c = λ _. changes_by _ _ _ _ _ _ _ _ _ _ c.in_ok-change.ensures.ok (same_terms c.args.self.now.atoms c.args.self.now.present) (state_ended c.args.self.now.atoms c.args.self.now.present c.args.n c.in-Some.agent.now _ (sym c.in-Some.ensures) (ap (λ a. record { call = a.call; rule = a.rule; watches = a.watches; is_alive = false }) c.in_ok-ended.ensures.ok))
