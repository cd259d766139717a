use Rattle.std.proofs.Common.{◌-◌, ◌∙◌, sym, ap, subst}
use Rattle.pi_core.specs.GoalTree.{no_goals}
use Rattle.pi_meaning.specs.Machine.Configuration.{config, going}
use Rattle.pi_engine_arenas.specs.Arenas.{view_of, LeavesLevel}
use Rattle.pi_engine_arenas.specs.declared.run.Now.{Now}
use Rattle.pi_engine_stands.specs.Stands.{world, Stands}
use Rattle.pi_engine_stands.proofs.SearchAnswers.{search-left}
use Rattle.pi_engine_steps.proofs.search.answer_by.Goals as goal

pub returns : goal.returns
returns g c = λ l x f d es it named.
    let v = g.S.StateStore.seen c.args.run.now.store in
    let a = view_of c.args.run.now.arenas in
    let b = view_of c.leave.new.self in
    let order = g.S.StateStore.order in
    subst (λ p. Stands (world l v order b) (Now.Going p) (config (going no_goals d.slots v.now.state d.frames) es))
    (sym (c.leave.ensures.result ∙ ap (λ q. record { place = 0; count = 0; base = q.base; frame = q.frame }) c.to_caller.ensures))
    (search-left (world l v order a) b c.args.level c.args.back c.args.site x _ f d es it named (subst (λ q. LeavesLevel a b (c.args.level - 1) q) c.to_caller.ensures c.leave.ensures.leaves))
