use Rattle.pi_types.proofs.CopyLemmas.{state_copied}
use Rattle.pi_types.proofs.tree_store.state.TreeStateCopied.copied.Goals as goal

pub returns : goal.returns
returns c = record { ok = state_copied c.args.self.now _ _ _ _ _ c.in_ok-terms.ensures.ok c.in_ok-variables.ensures.ok c.in_ok-constraints.ensures.ok c.in_ok-agents.ensures.ok c.in_ok-waiting.ensures.ok }
