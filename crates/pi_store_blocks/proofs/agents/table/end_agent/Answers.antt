use Rattle.pi_region.proofs.BackLemmas.{from_itself}
use Rattle.pi_store_blocks.proofs.agents.table.end_agent.Goals as goal

pub returns-then-word-ne1-clause-advances : goal.returns-then-word-ne1-clause-advances
returns-then-word-ne1-clause-advances c = from_itself c.args.words.now c.len-len.ensures.sound
