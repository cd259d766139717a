use Rattle.std.proofs.Common.{◌∙◌, sym, ap, subst}
use Rattle.pi_engine_arenas.specs.declared.run.Now.{Now}
use Rattle.pi_engine_arenas.specs.Arenas.{view_of}
use Rattle.pi_engine_stands.specs.Stands.{world}
use Rattle.pi_engine_stands.proofs.OnceStand.{if-answers, AnswersTo, LevelHere, level-here}
use Rattle.pi_engine_steps.proofs.levels.leave_if.Goals as goal

pub returns : goal.returns
returns g c = λ l is_code is named view names p e k es stands none last balanced.
    let w = world l (g.S.StateStore.seen c.args.run.now.store) g.S.StateStore.order (view_of c.args.run.now.arenas) in
    let b = view_of c.leave-next.new.self in
    let it : LevelHere w b c.args.level c.args.back = level-here w b c.args.level c.args.back is c.leave-next.ensures.leaves in
    subst (λ q. AnswersTo w b view names e k es q)
    (ap (λ q. Now.Going (record { place = c.child.result; count = 1; base = q.base; frame = q.frame })) (it.point ∙ sym c.leave-next.ensures.result) ∙ sym c.one_goal.ensures)
    (if-answers w b it.i c.args.place c.child.result c.args.code.now it.x p es view names e k is_code c.child.ensures stands none last balanced it.level it.at (ap (λ q. q.kind) it.back_is ∙ named) it.left)
