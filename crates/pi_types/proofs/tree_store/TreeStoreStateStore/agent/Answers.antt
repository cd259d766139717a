use Rattle.std.proofs.Common.{sym}
use Rattle.pi_types.proofs.TreeStoreAgents.{shows_agent}
use Rattle.pi_types.proofs.tree_store.TreeStoreStateStore.agent.Goals as goal

pub returns : goal.returns
returns c = let s = c.args.self.now in shows_agent s.atoms s.earlier s.present s.is_kept s.sound.present_is c.args.n c.in_ok-agent.agent.now (sym c.in_ok-agent.ensures) c.if-not-agent.false
