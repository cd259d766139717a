use Rattle.std.proofs.Common.{◌≡◌, ◌∙◌, sym, ap, subst}
use Rattle.pi_engine_arenas.specs.declared.run.Now.{Now}
use Rattle.pi_engine_arenas.specs.Arenas.{ArenasView, view_of}
use Rattle.pi_engine_stands.specs.Stands.{world}
use Rattle.pi_engine_stands.proofs.OnceStand.{AnswersTo, LevelHere, level-here}
use Rattle.pi_core.specs.GoalTree.{no_goals}
use Rattle.pi_meaning.specs.Machine.Configuration.{config, going}
use Rattle.pi_engine_stands.proofs.CatchAnswers.{Reaches, alone-answers, exit-answers, exited, LevelAt, level-at}
use Rattle.pi_engine_steps.proofs.levels.leave_catch.Goals as goal

pub returns-then-count-level : goal.returns-then-count-level
returns-then-count-level g c = λ l place is named view names p e k es stands none last balanced.
    let w = world l (g.S.StateStore.seen c.args.run.now.store) g.S.StateStore.order (view_of c.args.run.now.arenas) in
    let b = view_of c.leave.new.self in
    let it : LevelHere w b c.args.level c.args.back = level-here w b c.args.level c.args.back is c.leave.ensures.leaves in
    subst (λ q. AnswersTo w b view names e k es q) (ap Now.Going (it.point ∙ sym c.leave.ensures.result))
    (alone-answers w b it.i place it.x p es view names e k stands none last balanced it.level it.at (ap (λ q. q.kind) it.back_is ∙ named) (sym c.count.ensures ∙ c.if-count-level.true ∙ sym is.is_open ∙ it.level) it.left)

pub returns : goal.returns
returns g c = λ l place is named view names p e k es stands none last balanced.
    let v = g.S.StateStore.seen c.args.run.now.store in
    let u = g.S.StateStore.seen c.push_entry.new.run.store in
    let a = view_of c.args.run.now.arenas in
    let back = c.args.back in
    let w = world l v g.S.StateStore.order a in
    let push = c.in_ok-push_entry.ensures in
    let it : LevelAt w c.args.level back = level-at w c.args.level back is in
    let b = view_of c.push_entry.new.run.arenas in
    let exit : exited a push.mark back ≡ record { frames = b.frames; blocks = b.blocks; entries = b.entries; level = back.level; collected = b.collected } =
    ap (λ (r : ArenasView _). record { frames = r.frames; blocks = r.blocks; entries = r.entries; level = back.level; collected = r.collected }) (sym push.arenas) in
    let done = config (going no_goals e v.now.state k) es in
    subst (λ r. Reaches view l.preds names done (world l u g.S.StateStore.order r) (Now.Going c.behind_level.result)) exit
    (subst (λ q. Reaches view l.preds names done (world l u g.S.StateStore.order (exited a push.mark back)) (Now.Going q)) (it.point ∙ sym c.behind_level.ensures)
    (subst (λ q. Reaches view l.preds names done (world l u g.S.StateStore.order (exited a push.mark q)) (Now.Going (record { place = 0; count = 0; base = it.x.back.base; frame = it.x.back.frame }))) it.back_is
    (exit-answers w u push.mark it.i place it.x p es view names e k stands none last balanced it.level it.at (ap (λ q. q.kind) it.back_is ∙ named)
    (λ all. c.if-count-level.false (c.count.ensures ∙ all ∙ sym it.is)) push.marks)))
