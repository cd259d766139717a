use Rattle.std.proofs.Common.{◌≡◌, ◌∙◌, refl, sym, ap, subst}
use Rattle.pi_terms.specs.Tree.{Tree}
use Rattle.pi_constraints.specs.State.{bindings}
use Rattle.pi_constraints.specs.Value.{value as value_of, IsAcyclic}
use Rattle.pi_constraints.specs.Store.{IsTerm}
use Rattle.pi_engine_arenas.specs.declared.run.Now.{Now}
use Rattle.pi_engine_arenas.specs.Arenas.{view_of, with_collected}
use Rattle.pi_engine_arenas.specs.Frames.{slot_number}
use Rattle.pi_engine_stands.specs.Stands.{world}
use Rattle.pi_engine_stands.specs.Makes.{IsRead}
use Rattle.pi_engine_stands.proofs.CatchAnswers.{LevelAt, level-at}
use Rattle.pi_engine_stands.proofs.CollectsStand.{CollectedAs, collect-answers, no-other-node, collected-fits, collected-not}
use Rattle.pi_engine_steps.proofs.lists.add_value.Goals as goal

pub returns-in_default : goal.returns-in_default
returns-in_default g c = λ l is_code first is named view names p e k es stands none last balanced.
    let w = world l (g.S.StateStore.seen c.args.run.now.store) g.S.StateStore.order (view_of c.args.run.now.arenas) in
    let it : LevelAt w w.arenas.level c.args.back = level-at w w.arenas.level c.args.back is in
    let node = no-other-node w it.i c.args.place first c.step-step.result c.args.code.now it.x es stands.entries balanced it.level it.at (ap (λ q. q.kind) it.back_is ∙ named) is_code c.step-step.ensures.is in
    absurd (c.in_default.not-Collect node.0 node.1 node.2)

pub returns : goal.returns
returns g c = λ l is_code first is named view names p e k es stands none last balanced.
    let v = g.S.StateStore.seen c.args.run.now.store in
    let u = g.S.StateStore.seen c.slot_value.new.run.store in
    let a = view_of c.args.run.now.arenas in
    let d = view_of c.slot_value.new.run.arenas in
    let w = world l v g.S.StateStore.order a in
    let b = with_collected d c.push.new.self.items in
    let it : LevelAt w a.level c.args.back = level-at w a.level c.args.back is in
    let step = c.step-step.result in
    let begins : c.first_slot.result ≡ slot_number it.x.back.base step.first_slot =
    c.first_slot.ensures ∙ ap (λ q. slot_number q.base step.first_slot) c.behind_level.ensures ∙ ap (λ q. slot_number q.base step.first_slot) (sym it.back_is) in
    let tells : (t : Tree) → IsTerm u c.in_ok-term.term t → IsAcyclic (bindings u.now.state) → CollectedAs (value_of (bindings u.now.state) t) d b Now.Failing =
    λ t here acyclic. collected-fits (value_of (bindings u.now.state) t) c.in-Some.copy d b Now.Failing (subst (λ o. IsRead (value_of (bindings u.now.state) t) o) c.in-Some.is (c.in_ok-copy.ensures t here acyclic)) (ap (with_collected d) c.in_ok-push.ensures.items) refl in
    collect-answers w u d b Now.Failing it.i c.args.place first c.first_slot.result c.slot_at-slot.result c.in-Collect.value c.in-Collect.field-1 step c.args.code.now c.in_ok-term.term it.x p es view names e k
    stands none last balanced it.level it.at (ap (λ q. q.kind) it.back_is ∙ named) is_code c.step-step.ensures.is c.in-Collect.is begins c.slot_at-slot.ensures c.in_ok-term.ensures.ok tells

pub returns-in_default-2 : goal.returns-in_default-2
returns-in_default-2 g c = λ l is_code first is named view names p e k es stands none last balanced.
    let v = g.S.StateStore.seen c.args.run.now.store in
    let u = g.S.StateStore.seen c.slot_value.new.run.store in
    let a = view_of c.args.run.now.arenas in
    let d = view_of c.slot_value.new.run.arenas in
    let w = world l v g.S.StateStore.order a in
    let now = Now.Raising c.in_ok-ball.ball in
    let it : LevelAt w a.level c.args.back = level-at w a.level c.args.back is in
    let step = c.step-step.result in
    let begins : c.first_slot.result ≡ slot_number it.x.back.base step.first_slot =
    c.first_slot.ensures ∙ ap (λ q. slot_number q.base step.first_slot) c.behind_level.ensures ∙ ap (λ q. slot_number q.base step.first_slot) (sym it.back_is) in
    let tells : (t : Tree) → IsTerm u c.in_ok-term.term t → IsAcyclic (bindings u.now.state) → CollectedAs (value_of (bindings u.now.state) t) d d now =
    λ t here acyclic. collected-not (value_of (bindings u.now.state) t) d d now (subst (λ o. IsRead (value_of (bindings u.now.state) t) o) c.in_default-2.is (c.in_ok-copy.ensures t here acyclic)) refl (ap Now.Raising c.in_ok-ball.ensures) in
    collect-answers w u d d now it.i c.args.place first c.first_slot.result c.slot_at-slot.result c.in-Collect.value c.in-Collect.field-1 step c.args.code.now c.in_ok-term.term it.x p es view names e k
    stands none last balanced it.level it.at (ap (λ q. q.kind) it.back_is ∙ named) is_code c.step-step.ensures.is c.in-Collect.is begins c.slot_at-slot.ensures c.in_ok-term.ensures.ok tells
