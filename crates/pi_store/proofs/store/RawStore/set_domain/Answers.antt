use Rattle.std.proofs.Common.{◌∙◌, length, sym}
use Rattle.pi_store.proofs.NameLemmas.{keeps_itself}
use Rattle.pi_store.proofs.KeepLemmas.{keeps_all}
use Rattle.pi_store.proofs.DomainLemmas.{confines_none, sound_confined, confines_to}
use Rattle.pi_store.proofs.PartLemmas.{refused}
use Rattle.pi_store.proofs.store.RawStore.set_domain.Goals as goal

pub returns-in_err-confine-clause-err : goal.returns-in_err-confine-clause-err
returns-in_err-confine-clause-err c = rw (← c.self.view_is) (refused c.from_residual.result c.self.inside.names c.self.inside.words c.confine.new.words c.in_err-confine.ensures.err)

pub returns-in_default-clause-ok : goal.returns-in_default-clause-ok
returns-in_default-clause-ok c = rw (← c.self.view_is) (confines_none c.self.inside.names c.self.inside.words c.args.v c.args.d.now c.self.invariant (sym c.free_variable.ensures ∙ c.in_default.is))

pub invariant_of-self-2 : goal.invariant_of-self-2
invariant_of-self-2 c = sound_confined c.self.inside.names c.self.inside.words c.confine.new.words c.in-Some.n c.args.d.now c.self.invariant c.in_ok-confine.ensures.ok

pub returns-clause-keeps : goal.returns-clause-keeps
returns-clause-keeps c =
    let t = c.self.inside.names in
    let i = c.self.inside.words in
    rw (← c.self.view_is) (keeps_all t t i c.confine.new.words (keeps_itself t (length i.region)) c.in_ok-confine.ensures.ok.advances)

pub returns-clause-ok : goal.returns-clause-ok
returns-clause-ok c =
    rw (← c.self.view_is) (confines_to c.self.inside.names c.self.inside.words c.confine.new.words c.args.v c.in-Some.n c.args.d.now c.self.invariant (sym c.free_variable.ensures ∙ c.in-Some.is) c.in_ok-confine.ensures.ok)
