use Rattle.std.proofs.Common.{IsTrue, ◌∷◌, [], ◌++◌, false, length, refl}
use Rattle.pi_constraints.specs.State.{with_waiting}
use Rattle.pi_constraints.specs.Store.{Changes}
use Rattle.pi_store.specs.Waiting.{activation_of}
use Rattle.pi_store.specs.Holding.{view_of}
use Rattle.pi_store.proofs.NameLemmas.{keeps_itself}
use Rattle.pi_store.proofs.PartLemmas.{refused}
use Rattle.pi_store.proofs.KeepLemmas.{keeps_all}
use Rattle.pi_store.proofs.WaitLemmas.{sound_waits, waits_then, waits_none}
use Rattle.pi_store.proofs.store.RawStore.add_waiting.Goals as goal

pub returns-then-not-has-clause-ok : goal.returns-then-not-has-clause-ok
returns-then-not-has-clause-ok c =
    let v = view_of c.self.inside.names c.self.inside.words in
    let none = waits_none c.self.inside.names c.self.inside.words c.args.made (λ t. Changes v v (with_waiting v.now.state (v.now.state.waiting ++ activation_of t ∷ []))) c.self.invariant
    (λ is. let f : IsTrue false = (c.if-not-has.ensures c.self.invariant.cells).1 is in cc) in
    rw (← c.self.view_is) none

pub returns-in_err-push-clause-err : goal.returns-in_err-push-clause-err
returns-in_err-push-clause-err c = rw (← c.self.view_is) (refused c.from_residual.result c.self.inside.names c.self.inside.words c.push.new.self c.in_err-push.ensures.err)

pub invariant_of-self-2 : goal.invariant_of-self-2
invariant_of-self-2 c =
    sound_waits c.self.inside.names c.self.inside.words c.push.new.self c.args.made.number c.self.invariant ((c.if-not-has.ensures c.self.invariant.cells).0 refl) c.in_ok-push.ensures.advances c.in_ok-push.ensures.ok

pub returns-clause-keeps : goal.returns-clause-keeps
returns-clause-keeps c =
    let t = c.self.inside.names in
    let i = c.self.inside.words in
    rw (← c.self.view_is) (keeps_all t t i c.push.new.self (keeps_itself t (length i.region)) c.in_ok-push.ensures.advances)

pub returns-clause-ok : goal.returns-clause-ok
returns-clause-ok c =
    rw (← c.self.view_is) (λ t is. waits_then c.self.inside.names c.self.inside.words c.push.new.self c.args.made t c.self.invariant c.in_ok-push.ensures.advances c.in_ok-push.ensures.ok is)
