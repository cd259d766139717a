use Rattle.std.proofs.Common.{length}
use Rattle.pi_store.proofs.NameLemmas.{keeps_itself}
use Rattle.pi_store.proofs.KeepLemmas.{keeps_all}
use Rattle.pi_store.proofs.SuspendLemmas.{sound_ended, ends_to}
use Rattle.pi_store.proofs.PartLemmas.{refused}
use Rattle.pi_store.proofs.store.RawStore.retire.Goals as goal

pub returns-in_err-end_agent-clause-err : goal.returns-in_err-end_agent-clause-err
returns-in_err-end_agent-clause-err c = rw (← c.self.view_is) (refused c.from_residual.result c.self.inside.names c.self.inside.words c.end_agent.new.words c.in_err-end_agent.ensures.err)

pub invariant_of-self-2 : goal.invariant_of-self-2
invariant_of-self-2 c = sound_ended c.self.inside.names c.self.inside.words c.end_agent.new.words c.args.n c.self.invariant c.in_ok-end_agent.ensures.advances c.in_ok-end_agent.ensures.ok

pub returns-clause-keeps : goal.returns-clause-keeps
returns-clause-keeps c =
    let t = c.self.inside.names in
    let i = c.self.inside.words in
    rw (← c.self.view_is) (keeps_all t t i c.end_agent.new.words (keeps_itself t (length i.region)) c.in_ok-end_agent.ensures.advances)

pub returns-clause-ok : goal.returns-clause-ok
returns-clause-ok c =
    rw (← c.self.view_is) (ends_to c.self.inside.names c.self.inside.words c.end_agent.new.words c.args.n c.self.invariant c.in_ok-end_agent.ensures.advances c.in_ok-end_agent.ensures.ok)
