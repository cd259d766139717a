use Rattle.std.proofs.Common.{refl, subst}
use Rattle.pi_engine_arenas.specs.declared.run.Now.{Now}
use Rattle.pi_engine_arenas.specs.declared.frames.Point.{Point}
use Rattle.pi_engine_arenas.specs.Arenas.{view_of}
use Rattle.pi_engine_stands.specs.Stands.{world}
use Rattle.pi_engine_stands.specs.Makes.{StandsAfter}
use Rattle.pi_meaning.specs.Machine.Step.{goal_step, with_rest}
use Rattle.pi_engine_stands.proofs.FramesStand.{arenas-framed}
use Rattle.pi_engine_stands.proofs.SequenceStands.{sequence-step}
use Rattle.pi_engine_steps.proofs.choices.enter_sequence.Goals as goal

pub returns : goal.returns
returns g c = λ node l view goal gs e k es at stands.
    let v = g.S.StateStore.seen c.args.run.now.store in
    let a = view_of c.args.run.now.arenas in
    let b = c.frame_behind.new.self in
    let q : Point = record { place = c.saturating_add.result; count = c.args.count; base = c.args.point.base; frame = c.in_ok-frame.frame } in
    subst (λ r. StandsAfter (world l v g.S.StateStore.order r) (Now.Going q) (goal_step view l.preds goal e v.now.state (with_rest gs k es)))
    (arenas-framed a (view_of b) c.frame_behind.ensures.blocks c.frame_behind.ensures.entries c.frame_behind.ensures.level c.frame_behind.ensures.collected)
    (sequence-step (world l v g.S.StateStore.order a) c.args.point q c.args.step c.saturating_add.result c.args.count c.in_ok-frame.frame b.frames view goal gs e k es
    node at c.in_ok-frame.ensures.ok c.saturating_add.ensures refl stands)
