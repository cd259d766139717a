use Rattle.pi_engine_arenas.specs.Arenas.{view_of}
use Rattle.pi_engine_stands.specs.Stands.{world}
use Rattle.pi_engine_stands.proofs.TruthStand.{truth-step}
use Rattle.pi_engine_steps.proofs.goals.pass.Goals as goal

pub returns : goal.returns
returns g c = λ node l view g' gs e k es at stands.
    truth-step (world l (g.S.StateStore.seen c.args.run.now.store) g.S.StateStore.order (view_of c.args.run.now.arenas)) c.args.point c.behind.result c.args.step view g' gs e k es node at c.behind.ensures stands
