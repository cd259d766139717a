use Rattle.std.proofs.Common.{sym}
use Rattle.pi_types.proofs.TreeStoreAgents.{watches_of, watches_none}
use Rattle.pi_types.proofs.tree_store.TreeStoreStateStore.watches.Goals as goal

pub returns : goal.returns
returns c = let s = c.args.self.now in watches_of s.atoms s.earlier s.present s.is_kept s.sound.present_is c.args.n c.in-Some.agent.now c.in_ok-watches.watches (sym c.in-Some.ensures) c.in_ok-watches.ensures.ok

pub returns-in_default : goal.returns-in_default
returns-in_default c = let s = c.args.self.now in watches_none s.atoms s.earlier s.present s.is_kept c.args.n _ (sym c.in_default.ensures)
