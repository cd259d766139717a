use Rattle.std.proofs.Common.{◌≡◌, ◌∙◌, ◌+◌, length, refl, sym, ap, subst}
use Rattle.pi_engine_arenas.specs.declared.run.Now.{Now}
use Rattle.pi_engine_arenas.specs.declared.frames.Point.{Point}
use Rattle.pi_engine_arenas.specs.Arenas.{view_of, opened, pushed}
use Rattle.pi_engine_stands.specs.Stands.{world, Stands}
use Rattle.pi_engine_stands.specs.Makes.{StandsAfter}
use Rattle.pi_meaning.specs.Machine.Step.{goal_step, inside, back_to, with_rest}
use Rattle.pi_engine_stands.proofs.FramesStand.{framed, arenas-framed}
use Rattle.pi_constraints.specs.Evaluation.{evaluated}
use Rattle.pi_core.specs.GoalTree.{catch}
use Rattle.pi_engine_arenas.specs.declared.arenas.Kind.{Kind}
use Rattle.pi_meaning.specs.Machine.Configuration.{catch_level, behind}
use Rattle.pi_engine_stands.proofs.LevelSteps.{level-step, first-point, first-point-of}
use Rattle.pi_engine_stands.proofs.CatchStands.{catch-step, catch-has-child}
use Rattle.pi_engine_stands.proofs.LevelStands.{arenas-opened}
use Rattle.pi_engine_steps.proofs.levels.enter_level.Goals as goal

pub returns-clause-levels : goal.returns-clause-levels
returns-clause-levels g c = λ level l is_code view goal gs e k es at stands.
    let v = g.S.StateStore.seen c.args.run.now.store in
    let u = g.S.StateStore.seen c.push_entry.new.run.store in
    let a = view_of c.args.run.now.arenas in
    let p = c.args.point in
    let n = c.in_ok-frame.frame in
    let fs = c.frame_behind.new.self.frames in
    let push = c.in_ok-push_entry.ensures in
    let q : Point = record { place = p.place + 1; count = 1; base = p.base; frame = 0 } in
    let b = view_of c.frame_behind.new.self in
    let opened_is : opened (pushed (framed a fs) push.mark (length a.blocks.slots) p.base n c.args.kind) ≡ view_of c.open.new.self =
    ap (λ r. opened (pushed r push.mark (length r.blocks.slots) p.base n c.args.kind))
    (arenas-framed a b c.frame_behind.ensures.blocks c.frame_behind.ensures.entries c.frame_behind.ensures.level c.frame_behind.ensures.collected)
    ∙ ap opened (sym push.arenas)
    ∙ arenas-opened (view_of c.push_entry.new.run.arenas) (view_of c.open.new.self) c.open.ensures.frames c.open.ensures.blocks c.open.ensures.entries c.open.ensures.level c.open.ensures.collected in
    let point : Now.Going q ≡ c.one_goal.result =
    first-point (world l v g.S.StateStore.order a) p c.args.step c.args.kind goal gs e k es c.args.code.now c.child.result c.one_goal.result is_code at stands level c.child.ensures c.one_goal.ensures in
    subst (λ r. StandsAfter (world l u g.S.StateStore.order (view_of c.open.new.self)) r (goal_step view l.preds goal e v.now.state (with_rest gs k es))) point
    (subst (λ r. StandsAfter (world l u g.S.StateStore.order r) (Now.Going q) (goal_step view l.preds goal e v.now.state (with_rest gs k es))) opened_is
    (level-step (world l v g.S.StateStore.order a) u push.mark p c.args.step fs n c.args.step.node c.args.kind view goal gs e k es (at, c.in_ok-frame.ensures.ok) push.marks refl level stands))

pub returns-clause-catches : goal.returns-clause-catches
returns-clause-catches g c = λ is_catch l is_code h other ball gs e k es at stands again.
    let v = g.S.StateStore.seen c.args.run.now.store in
    let u = g.S.StateStore.seen c.push_entry.new.run.store in
    let a = view_of c.args.run.now.arenas in
    let p = c.args.point in
    let n = c.in_ok-frame.frame in
    let fs = c.frame_behind.new.self.frames in
    let push = c.in_ok-push_entry.ensures in
    let q : Point = record { place = p.place + 1; count = 1; base = p.base; frame = 0 } in
    let b = view_of c.frame_behind.new.self in
    let opened_is : opened (pushed (framed a fs) push.mark (length a.blocks.slots) p.base n (Kind.Catch p.place)) ≡ view_of c.open.new.self =
    ap (λ r. opened (pushed r push.mark (length r.blocks.slots) p.base n (Kind.Catch p.place)))
    (arenas-framed a b c.frame_behind.ensures.blocks c.frame_behind.ensures.entries c.frame_behind.ensures.level c.frame_behind.ensures.collected)
    ∙ ap (λ r. opened (pushed b push.mark (length b.blocks.slots) p.base n r)) (sym is_catch)
    ∙ ap opened (sym push.arenas)
    ∙ arenas-opened (view_of c.push_entry.new.run.arenas) (view_of c.open.new.self) c.open.ensures.frames c.open.ensures.blocks c.open.ensures.entries c.open.ensures.level c.open.ensures.collected in
    let point : Now.Going q ≡ c.one_goal.result =
    first-point-of (world l v g.S.StateStore.order a) p c.args.step (catch h ball other) gs e k es c.args.code.now c.child.result c.one_goal.result is_code at stands (catch-has-child h other ball) c.child.ensures c.one_goal.ensures in
    let next = inside h e v.now.state (catch_level (evaluated ball e v.now.state).tree other (back_to e v.now.state (behind gs k))) es in
    subst (λ r. Stands (world l u g.S.StateStore.order (view_of c.open.new.self)) r next) point
    (subst (λ r. Stands (world l u g.S.StateStore.order r) (Now.Going q) next) opened_is
    (catch-step (world l v g.S.StateStore.order a) u push.mark p c.args.step fs n h other ball gs e k es (at, c.in_ok-frame.ensures.ok) push.marks stands again))
