use Rattle.std.proofs.Common.{◌<◌, ◌^◌, ◌∙◌, IsTrue, false, length, refl, sym, arith}
use Rattle.pi_store.specs.Holding.{heap_of}
use Rattle.pi_store.proofs.NameLemmas.{keeps_itself}
use Rattle.pi_store.proofs.SoundLemmas.{ref_below}
use Rattle.pi_store.proofs.KeepLemmas.{keeps_all}
use Rattle.pi_store.proofs.BindLemmas.{followed_ref, binds_no_term, binds_no_variable, sound_bound, binds_to}
use Rattle.pi_store.proofs.PartLemmas.{refused}
use Rattle.pi_store.proofs.store.RawStore.bind.Goals as goal

pub returns-in_err-bind_variable-clause-err : goal.returns-in_err-bind_variable-clause-err
returns-in_err-bind_variable-clause-err c = rw (← c.self.view_is) (refused c.from_residual.result c.self.inside.names c.self.inside.words c.bind_variable.new.words c.in_err-bind_variable.ensures.err)

pub returns-then-not-has-clause-ok : goal.returns-then-not-has-clause-ok
returns-then-not-has-clause-ok c =
    let none = binds_no_term c.self.inside.names c.self.inside.words c.args.v c.args.t c.self.invariant (λ is. let f : IsTrue false = (c.if-not-has.ensures c.self.invariant.cells).1 is in cc) in
    rw (← c.self.view_is) none

pub returns-in_default-clause-ok : goal.returns-in_default-clause-ok
returns-in_default-clause-ok c = rw (← c.self.view_is) (binds_no_variable c.self.inside.names c.self.inside.words c.args.v c.args.t c.self.invariant (sym c.free_variable.ensures ∙ c.in_default.is))

pub bind_variable-requires : goal.bind_variable-requires
bind_variable-requires c =
    let t = c.self.inside.names in
    let i = c.self.inside.words in
    let is = followed_ref t i c.args.t c.followed-to.result c.self.invariant ((c.if-not-has.ensures c.self.invariant.cells).0 refl) c.followed-to.ensures in
    let below : c.followed-to.result.number < 2 ^ 64 = omega arith in
    ref_below (heap_of t i) c.followed-to.result.number is below

pub invariant_of-self-2 : goal.invariant_of-self-2
invariant_of-self-2 c =
    let t = c.self.inside.names in
    let i = c.self.inside.words in
    let is = followed_ref t i c.args.t c.followed-to.result c.self.invariant ((c.if-not-has.ensures c.self.invariant.cells).0 refl) c.followed-to.ensures in
    sound_bound t i c.bind_variable.new.words c.in-Some.n c.followed-to.result.number c.self.invariant is c.in_ok-bind_variable.ensures.ok

pub returns-clause-keeps : goal.returns-clause-keeps
returns-clause-keeps c =
    let t = c.self.inside.names in
    let i = c.self.inside.words in
    rw (← c.self.view_is) (keeps_all t t i c.bind_variable.new.words (keeps_itself t (length i.region)) c.in_ok-bind_variable.ensures.ok.advances)

pub returns-clause-ok : goal.returns-clause-ok
returns-clause-ok c =
    let t = c.self.inside.names in
    let i = c.self.inside.words in
    rw (← c.self.view_is) (binds_to t i c.bind_variable.new.words c.args.v c.args.t c.followed-to.result c.in-Some.n c.self.invariant (sym c.free_variable.ensures ∙ c.in-Some.is) c.followed-to.ensures c.in_ok-bind_variable.ensures.ok)
