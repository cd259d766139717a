use Rattle.std.proofs.Common.{◌∙◌, sym, ap, subst}
use Rattle.std.proofs.lemmas.Result.{IfOk-weaker}
use Rattle.pi_constraints.specs.State.{IsState, domain_of}
use Rattle.pi_unify.proofs.KeepsLemmas.{keeps_then}
use Rattle.pi_label.specs.Words.{alternative_of}
use Rattle.pi_lib_constraints.specs.Kept.{IsLeft}
use Rattle.pi_settling.specs.Choices.{left_by, narrowed_to}
use Rattle.pi_engine_settle.specs.Due.{SinceIs}
use Rattle.pi_engine_settle.proofs.MarkLemmas.{since-stays}
use Rattle.pi_engine_steps.proofs.NarrowedStands.{narrowed-next}
use Rattle.pi_engine_steps.proofs.labels.narrowed.Goals as goal

pub returns-clause-keeps : goal.returns-clause-keeps
returns-clause-keeps g c =
    keeps_then (g.S.StateStore.seen c.args.store.now) (g.S.StateStore.seen c.begin.new.store) (g.S.StateStore.seen c.narrow.new.s) c.begin.ensures.stays.keeps c.narrow.ensures.keeps

pub returns-clause-next : goal.returns-clause-next
returns-clause-next g c = IfOk-weaker c.next_after.result _ _ (λ now so d rests domain.
    let v = g.S.StateStore.seen c.args.store.now in
    let v1 = g.S.StateStore.seen c.begin.new.store in
    let u = g.S.StateStore.seen c.narrow.new.s in
    let n = c.args.variable in
    let a = alternative_of c.args.choice in
    let stays = c.begin.ensures.stays in
    let since : SinceIs u v.now.state c.in_ok-since.since = since-stays v1 u v.now.state c.in_ok-since.since c.narrow.ensures.keeps c.in_ok-since.ensures.since in
    let state : IsState v1.now.state = subst IsState (sym stays.state) rests.calm.state in
    let left = c.in_ok-some.ensures.left d state (ap (λ s. domain_of s n) stays.state ∙ domain) in
    narrowed-next v.now.state u.now.state n d a c.in_ok-some.some c.args.point now rests domain (subst (λ s. IsLeft c.in_ok-some.some u.now.state (narrowed_to s n (left_by a d))) stays.state left) (so v.now.state since)) c.next_after.ensures
