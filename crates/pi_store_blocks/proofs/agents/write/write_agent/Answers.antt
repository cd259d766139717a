use Rattle.std.proofs.Common.{arith}
use Rattle.pi_store_blocks.proofs.AgentLemmas.{written}
use Rattle.pi_store_blocks.proofs.agents.write.write_agent.Goals as goal

pub returns-in-Ok-clause-ok : goal.returns-in-Ok-clause-ok
returns-in-Ok-clause-ok c =
    written c.args.words.now c.append_agent.new.words c.args.call c.args.rule _ c.len-start.result c.len.result (record { trail = c.len-start.ensures.sound; at = c.len-start.ensures.len }) (omega arith)
    (rw (← c.as_slice.ensures) c.in-Ok.ensures.slots) (rw (← c.as_slice.ensures) c.in-Ok.ensures.ok) c.len.ensures.len
