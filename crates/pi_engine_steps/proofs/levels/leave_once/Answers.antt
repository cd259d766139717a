use Rattle.std.proofs.Common.{◌∙◌, sym, ap, subst}
use Rattle.pi_engine_arenas.specs.declared.run.Now.{Now}
use Rattle.pi_engine_arenas.specs.Arenas.{view_of}
use Rattle.pi_engine_stands.specs.Stands.{world}
use Rattle.pi_engine_stands.proofs.OnceStand.{once-answers, AnswersTo, LevelHere, level-here}
use Rattle.pi_engine_steps.proofs.levels.leave_once.Goals as goal

pub returns : goal.returns
returns g c = λ l place is named view names p e k es stands none last balanced.
    let w = world l (g.S.StateStore.seen c.args.run.now.store) g.S.StateStore.order (view_of c.args.run.now.arenas) in
    let it : LevelHere w (view_of c.leave.new.self) c.args.level c.args.back = level-here w (view_of c.leave.new.self) c.args.level c.args.back is c.leave.ensures.leaves in
    subst (λ q. AnswersTo w (view_of c.leave.new.self) view names e k es q) (ap Now.Going (it.point ∙ sym c.leave.ensures.result))
    (once-answers w (view_of c.leave.new.self) it.i place it.x p es view names e k stands none last balanced it.level it.at (ap (λ b. b.kind) it.back_is ∙ named) it.left)
