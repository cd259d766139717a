use Rattle.std.proofs.Common.{length}
use Rattle.pi_store_blocks.proofs.BlockLemmas.{appends_then}
use Rattle.pi_store_blocks.specs.Events.{watch_words}
use Rattle.pi_store_blocks.specs.Agent.{call_words}
use Rattle.pi_store_blocks.proofs.EventLemmas.{appended_twice}
use Rattle.pi_store_blocks.proofs.agents.write.append_agent.Goals as goal

pub returns-in_err-append_call-clause-appends : goal.returns-in_err-append_call-clause-appends
returns-in_err-append_call-clause-appends c = appends_then _ _ _ _ c.in_ok-append_watches.ensures.ok c.append_call.ensures.appends

pub returns-clause-appends : goal.returns-clause-appends
returns-clause-appends c = appends_then _ _ _ _ c.in_ok-append_watches.ensures.ok c.append_call.ensures.appends

pub returns-clause-ok : goal.returns-clause-ok
returns-clause-ok c =
    appended_twice _ _ _ (watch_words c.args.watches.now) (call_words c.args.call c.args.rule (length c.args.watches.now)) c.in_ok-append_watches.ensures.ok c.in_ok-append_call.ensures.ok
