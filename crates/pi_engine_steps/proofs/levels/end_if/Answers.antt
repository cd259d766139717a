use Rattle.std.proofs.Common.{sym, subst}
use Rattle.pi_engine_arenas.specs.Arenas.{view_of}
use Rattle.pi_engine_stands.specs.Stands.{world, Stands}
use Rattle.pi_meaning.specs.Machine.Step.{end_step}
use Rattle.pi_engine_stands.proofs.BackStand.{drops-newest}
use Rattle.pi_engine_stands.proofs.EndsStand.{if-ends}
use Rattle.pi_engine_steps.proofs.levels.end_if.Goals as goal

pub returns : goal.returns
returns g c = λ l is_code named s b es it.
    let a = view_of c.args.run.now.arenas in
    let d = view_of c.pop.new.self in
    let pop = c.pop.ensures in
    let v = g.S.StateStore.seen c.args.run.now.store in
    subst (λ n. Stands (world l v g.S.StateStore.order d) n (end_step s b es)) (sym c.one_goal.ensures)
    (if-ends (world l v g.S.StateStore.order a) d c.args.back c.args.place c.child.result c.args.code.now s b es named is_code c.child.ensures it
    (drops-newest a d pop.entries pop.kept pop.slots pop.keeps pop.collected pop.frames pop.level))
