use Rattle.std.proofs.Common.{◌∙◌, ap}
use Rattle.pi_engine_arenas.specs.Arenas.{view_of}
use Rattle.pi_engine_stands.specs.Stands.{world}
use Rattle.pi_engine_stands.proofs.OnceStand.{not-answers, LevelHere, level-here}
use Rattle.pi_engine_steps.proofs.levels.leave_not.Goals as goal

pub returns : goal.returns
returns g c = λ l place is named view names p e k es stands none last balanced.
    let w = world l (g.S.StateStore.seen c.args.run.now.store) g.S.StateStore.order (view_of c.args.run.now.arenas) in
    let it : LevelHere w (view_of c.leave.new.self) c.args.level c.args.back = level-here w (view_of c.leave.new.self) c.args.level c.args.back is c.leave.ensures.leaves in
    not-answers w (view_of c.leave.new.self) it.i place it.x p es view names e k stands none last balanced it.level it.at (ap (λ b. b.kind) it.back_is ∙ named) it.left
