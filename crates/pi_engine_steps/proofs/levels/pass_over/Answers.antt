use Rattle.pi_engine_arenas.specs.Arenas.{view_of}
use Rattle.pi_engine_stands.specs.Stands.{world}
use Rattle.pi_engine_stands.proofs.BackStand.{drops-newest}
use Rattle.pi_engine_stands.proofs.EndsStand.{passed-over}
use Rattle.pi_engine_steps.proofs.levels.pass_over.Goals as goal

pub returns : goal.returns
returns g c = λ l passed y es it.
    let a = view_of c.args.run.now.arenas in
    let b = view_of c.pop.new.self in
    let pop = c.pop.ensures in
    passed-over (world l (g.S.StateStore.seen c.args.run.now.store) g.S.StateStore.order a) b c.args.back y es passed it
    (drops-newest a b pop.entries pop.kept pop.slots pop.keeps pop.collected pop.frames pop.level)
