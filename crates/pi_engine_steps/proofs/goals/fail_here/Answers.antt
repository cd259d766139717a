use Rattle.pi_engine_arenas.specs.Arenas.{view_of}
use Rattle.pi_engine_stands.specs.Stands.{world}
use Rattle.pi_engine_stands.proofs.GoalsGo.{fail-step}
use Rattle.pi_engine_steps.proofs.goals.fail_here.Goals as goal

pub returns : goal.returns
returns g c = λ node l view g' gs e k es at stands.
    fail-step (world l (g.S.StateStore.seen c.args.run.now.store) g.S.StateStore.order (view_of c.args.run.now.arenas)) c.args.point c.args.step view g' gs e k es node at stands
