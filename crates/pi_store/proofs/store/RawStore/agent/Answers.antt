use Rattle.std.proofs.Common.{◌∙◌, sym}
use Rattle.pi_store.proofs.SoundLemmas.{has_agents, ref_has_term}
use Rattle.pi_store.proofs.AgentLemmas.{shows_none, shows_agent}
use Rattle.pi_store.proofs.store.RawStore.agent.Goals as goal

pub returns-then-not-is_alive : goal.returns-then-not-is_alive
returns-then-not-is_alive c = rw (← c.self.view_is) (shows_none c.self.inside.names c.self.inside.words c.args.n (sym c.is_alive.ensures ∙ c.if-not-is_alive.true))

pub returns : goal.returns
returns c =
    let t = c.self.inside.names in
    let i = c.self.inside.words in
    rw (← c.self.view_is) (shows_agent t i (ref_has_term t i c.self.invariant) c.args.n c.agent_end-end.result c.agent_call.result c.agent_rule.result (has_agents t i c.self.invariant c.args.n) (sym c.is_alive.ensures ∙ c.if-not-is_alive.false)
    c.agent_end-end.ensures c.agent_call.ensures c.agent_rule.ensures)
