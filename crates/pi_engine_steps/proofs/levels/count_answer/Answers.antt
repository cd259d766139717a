use Rattle.std.proofs.Common.{◌≡◌, ◌∙◌, suc, ap, arith}
use Rattle.pi_engine_arenas.specs.declared.arenas.Kind.{Kind}
use Rattle.pi_engine_arenas.specs.declared.arenas.Strict.{Strict}
use Rattle.pi_engine_arenas.specs.Arenas.{view_of, entry_at}
use Rattle.pi_engine_stands.specs.Stands.{world}
use Rattle.pi_engine_stands.proofs.CatchAnswers.{LevelAt, level-at}
use Rattle.pi_engine_stands.proofs.AltersStand.{altered}
use Rattle.pi_engine_stands.proofs.CountsStand.{count-answers, arenas-altered}
use Rattle.pi_engine_steps.proofs.levels.count_answer.Goals as goal

pub returns : goal.returns
returns g c = λ l back is named view names p e k es stands none last balanced.
    let v = g.S.StateStore.seen c.args.run.now.store in
    let a = view_of c.args.run.now.arenas in
    let b = view_of c.set_kind.new.self in
    let w = world l v g.S.StateStore.order a in
    let it : LevelAt w c.args.level back = level-at w c.args.level back is in
    let at : entry_at a.entries c.args.level ≡ _ = ap (entry_at a.entries) it.is ∙ it.at in
    let kind = Kind.Strict (Strict.Count c.args.place c.in-Some.more) in
    let more : c.in-Some.more ≡ suc c.args.count = c.in-Some.ensures.1 ∙ omega arith in
    count-answers w b it.i c.args.place c.args.count it.x p es view names e k stands none last balanced it.level it.at (ap (λ q. q.kind) it.back_is ∙ named)
    (arenas-altered a b it.i c.args.level it.x kind it.is (c.set_kind.ensures.entries it.x at) c.set_kind.ensures.blocks c.set_kind.ensures.frames c.set_kind.ensures.level c.set_kind.ensures.collected
    ∙ ap (λ m. altered a it.i it.x (Kind.Strict (Strict.Count c.args.place m)) a.collected) more)
