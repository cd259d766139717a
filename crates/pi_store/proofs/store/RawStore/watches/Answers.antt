use Rattle.std.proofs.Common.{◌∙◌, ap}
use Rattle.pi_store_blocks.specs.Agent.{watches_at}
use Rattle.pi_store.proofs.SoundLemmas.{has_agents, ref_has_term}
use Rattle.pi_store.proofs.AgentLemmas.{shows_watches}
use Rattle.pi_store.proofs.store.RawStore.watches.Goals as goal

pub returns : goal.returns
returns c =
    let t = c.self.inside.names in
    let i = c.self.inside.words in
    rw (← c.self.view_is) (shows_watches t i (ref_has_term t i c.self.invariant) c.args.n c.in_ok-watches.watches (has_agents t i c.self.invariant c.args.n) (c.in_ok-watches.ensures ∙ ap (watches_at i.region) c.agent_end.ensures))
