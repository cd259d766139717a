use Rattle.std.proofs.Common.{sym, ap, subst}
use Rattle.pi_engine_arenas.specs.declared.run.Now.{Now}
use Rattle.pi_engine_arenas.specs.Arenas.{view_of}
use Rattle.pi_engine_stands.specs.Stands.{world}
use Rattle.pi_engine_stands.proofs.FollowStand.{frame-followed}
use Rattle.pi_engine_stands.proofs.OnceStand.{AnswersTo}
use Rattle.pi_engine.proofs.turns.follow.Goals as goal

pub returns : goal.returns
returns g c = λ l done at view names e k es stands.
    let w = world l (g.S.StateStore.seen c.args.run.now.store) g.S.StateStore.order (view_of c.args.run.now.arenas) in
    subst (λ q. AnswersTo w (view_of c.go_on.new.self) view names e k es q) (ap Now.Going (sym c.go_on.ensures.result))
    (frame-followed w (view_of c.go_on.new.self) c.args.point c.args.next view names e k es c.go_on.ensures.follows at done stands)
