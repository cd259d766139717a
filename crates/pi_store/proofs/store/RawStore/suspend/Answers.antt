use Rattle.std.proofs.Common.{IsTrue, false, length, refl, sym, subst}
use Rattle.pi_store_blocks.specs.AgentTable.{AreEventsIn}
use Rattle.pi_store.specs.Holding.{heap_of}
use Rattle.pi_store.proofs.NameLemmas.{keeps_itself}
use Rattle.pi_store.proofs.KeepLemmas.{keeps_all}
use Rattle.pi_store.proofs.SuspendLemmas.{sound_added, suspends_to, suspends_none}
use Rattle.pi_store.proofs.PartLemmas.{refused}
use Rattle.pi_store.proofs.store.RawStore.suspend.Goals as goal

pub returns-in_err-add_agent-clause-err : goal.returns-in_err-add_agent-clause-err
returns-in_err-add_agent-clause-err c = rw (← c.self.view_is) (refused c.from_residual.result c.self.inside.names c.self.inside.words c.add_agent.new.words c.in_err-add_agent.ensures.err)

pub returns-then-not-has-clause-ok : goal.returns-then-not-has-clause-ok
returns-then-not-has-clause-ok c =
    let none = suspends_none c.self.inside.names c.self.inside.words c.args.call c.args.rule c.args.watches.now c.count-number.result c.self.invariant
    (λ given. let f : IsTrue false = (c.if-not-has.ensures c.self.invariant.cells).1 given.called in cc) c.count-number.ensures.len in
    rw (← c.self.view_is) none

pub returns-then-not-has_events-clause-ok : goal.returns-then-not-has_events-clause-ok
returns-then-not-has_events-clause-ok c =
    let h = heap_of c.self.inside.names c.self.inside.words in
    let none = suspends_none c.self.inside.names c.self.inside.words c.args.call c.args.rule c.args.watches.now c.count-number.result c.self.invariant
    (λ given. let f : IsTrue false = (c.if-not-has_events.ensures c.self.invariant.cells).1 (subst (AreEventsIn h) (sym c.as_slice.ensures) given.events) in cc) c.count-number.ensures.len in
    rw (← c.self.view_is) none

pub invariant_of-self-2 : goal.invariant_of-self-2
invariant_of-self-2 c =
    let h = heap_of c.self.inside.names c.self.inside.words in
    sound_added c.self.inside.names c.self.inside.words c.add_agent.new.words c.args.call c.args.rule c.args.watches.now c.self.invariant
    (record {
      called = (c.if-not-has.ensures c.self.invariant.cells).0 refl;
      events = subst (AreEventsIn h) c.as_slice.ensures ((c.if-not-has_events.ensures c.self.invariant.cells).0 refl);
    })
    c.in_ok-add_agent.ensures.ok

pub returns-clause-keeps : goal.returns-clause-keeps
returns-clause-keeps c =
    let t = c.self.inside.names in
    let i = c.self.inside.words in
    rw (← c.self.view_is) (keeps_all t t i c.add_agent.new.words (keeps_itself t (length i.region)) c.in_ok-add_agent.ensures.ok.advances)

pub returns-clause-ok : goal.returns-clause-ok
returns-clause-ok c =
    rw (← c.self.view_is) (suspends_to c.self.inside.names c.self.inside.words c.add_agent.new.words c.args.call c.args.rule c.args.watches.now c.count-number.result c.self.invariant c.in_ok-add_agent.ensures.ok c.count-number.ensures.len)
