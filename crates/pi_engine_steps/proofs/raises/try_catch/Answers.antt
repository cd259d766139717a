use Rattle.std.proofs.Common.{◌≡◌, ◌∙◌, refl, sym, ap, subst}
use Rattle.std.specs.Prelude.{None, Some}
use Rattle.pi_engine_arenas.specs.declared.run.Now.{Now}
use Rattle.pi_engine_arenas.specs.Arenas.{view_of, newest}
use Rattle.pi_engine_stands.specs.Stands.{world}
use Rattle.pi_meaning.specs.Machine.Step.{raise_step}
use Rattle.pi_engine_stands.specs.Fails.{ComesTo}
use Rattle.pi_engine_stands.specs.Raises.{TellsCaught}
use Rattle.pi_engine_stands.proofs.BackStand.{CameBack, came-back, drops-newest}
use Rattle.pi_engine_stands.proofs.CaughtStand.{caught}
use Rattle.pi_terms.proofs.OptionLemmas.{none-some, one-some}
use Rattle.pi_engine_steps.proofs.raises.try_catch.Goals as goal
use Rattle.pi_engine_stands.specs.Changes.{change}

pub returns-in_default-into_ball : goal.returns-in_default-into_ball
returns-in_default-into_ball g c = λ l is_code x at named ball es raising stands balanced.
    absurd (none-some c.in_default-into_ball.is (c.into_ball.ensures.raised ball (c.replace-now.ensures.value ∙ c.come_back.ensures.now ∙ raising)))

pub returns-in_default-caught : goal.returns-in_default-caught
returns-in_default-caught g c = λ l is_code x at named ball es raising stands balanced.
    let seen = g.S.StateStore.seen in
    let order = g.S.StateStore.order in
    let back = c.in-Some.entry.now.back in
    let took = c.come_back.ensures.some c.in-Some.entry.now (ap newest (sym c.come_back.ensures.entries) ∙ c.in-Some.ensures.some) in
    let a1 = view_of c.come_back.new.run.arenas in
    let a2 = view_of c.pop.new.self in
    let v1 = seen c.come_back.new.run.store in
    let u = seen c.catch_ball.new.run.store in
    let d = view_of c.catch_ball.new.run.arenas in
    let w = world l (seen c.args.run.now.store) order (view_of c.args.run.now.arenas) in
    let came : CameBack (world l v1 order a1) back es = came-back w v1 a1 back es stands took in
    let kind = ap (λ r. r.kind) (sym took.back_is ∙ ap (λ r. r.back) (one-some _ took.entry x took.newest_is at)) ∙ named in
    let same : c.in-Some-into_ball.ball ≡ ball = one-some c.into_ball.result c.in-Some-into_ball.ball ball c.in-Some-into_ball.is (c.into_ball.ensures.raised ball (c.replace-now.ensures.value ∙ c.come_back.ensures.now ∙ raising)) in
    let tells = subst (λ t. TellsCaught back c.step.result t c.alone-handler.result c.in_ok-caught.caught (change (world l v1 order a2) (world l u order d) Now.Failing)) same (c.in_ok-caught.ensures l is_code) in
    let handler = subst (λ p. TellsCaught back c.step.result ball p c.in_ok-caught.caught (change (world l v1 order a2) (world l u order d) Now.Failing)) c.alone-handler.ensures tells in
    subst (λ r. ComesTo (world l u order d) (Now.Raising c.in-Some-into_ball.ball) (raise_step ball r)) (sym came.is)
    (caught (world l v1 order a1) a2 u d back c.args.place c.child.result c.args.code.now c.step.result ball None (Now.Raising c.in-Some-into_ball.ball) came.waits came.below kind is_code c.step.ensures.is c.child.ensures came.back_at
    (drops-newest a1 a2 c.pop.ensures.entries c.pop.ensures.kept c.pop.ensures.slots c.pop.ensures.keeps c.pop.ensures.collected c.pop.ensures.frames c.pop.ensures.level)
    (subst (λ o. TellsCaught back c.step.result ball (record { place = c.child.result; count = 1; base = back.base; frame = back.frame }) o (change (world l v1 order a2) (world l u order d) Now.Failing)) c.in_default-caught.is handler) (ap Now.Raising same))

pub returns : goal.returns
returns g c = λ l is_code x at named ball es raising stands balanced.
    let seen = g.S.StateStore.seen in
    let order = g.S.StateStore.order in
    let back = c.in-Some.entry.now.back in
    let took = c.come_back.ensures.some c.in-Some.entry.now (ap newest (sym c.come_back.ensures.entries) ∙ c.in-Some.ensures.some) in
    let a1 = view_of c.come_back.new.run.arenas in
    let a2 = view_of c.pop.new.self in
    let v1 = seen c.come_back.new.run.store in
    let u = seen c.catch_ball.new.run.store in
    let d = view_of c.catch_ball.new.run.arenas in
    let w = world l (seen c.args.run.now.store) order (view_of c.args.run.now.arenas) in
    let came : CameBack (world l v1 order a1) back es = came-back w v1 a1 back es stands took in
    let kind = ap (λ r. r.kind) (sym took.back_is ∙ ap (λ r. r.back) (one-some _ took.entry x took.newest_is at)) ∙ named in
    let same : c.in-Some-into_ball.ball ≡ ball = one-some c.into_ball.result c.in-Some-into_ball.ball ball c.in-Some-into_ball.is (c.into_ball.ensures.raised ball (c.replace-now.ensures.value ∙ c.come_back.ensures.now ∙ raising)) in
    let tells = subst (λ t. TellsCaught back c.step.result t c.alone-handler.result c.in_ok-caught.caught (change (world l v1 order a2) (world l u order d) Now.Failing)) same (c.in_ok-caught.ensures l is_code) in
    let handler = subst (λ p. TellsCaught back c.step.result ball p c.in_ok-caught.caught (change (world l v1 order a2) (world l u order d) Now.Failing)) c.alone-handler.ensures tells in
    subst (λ r. ComesTo (world l u order d) c.in-Some-caught.next (raise_step ball r)) (sym came.is)
    (caught (world l v1 order a1) a2 u d back c.args.place c.child.result c.args.code.now c.step.result ball (Some c.in-Some-caught.next) c.in-Some-caught.next came.waits came.below kind is_code c.step.ensures.is c.child.ensures came.back_at
    (drops-newest a1 a2 c.pop.ensures.entries c.pop.ensures.kept c.pop.ensures.slots c.pop.ensures.keeps c.pop.ensures.collected c.pop.ensures.frames c.pop.ensures.level)
    (subst (λ o. TellsCaught back c.step.result ball (record { place = c.child.result; count = 1; base = back.base; frame = back.frame }) o (change (world l v1 order a2) (world l u order d) Now.Failing)) c.in-Some-caught.is handler) refl)
