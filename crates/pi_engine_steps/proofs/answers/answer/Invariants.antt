use Rattle.pi_engine_arenas.specs.Arenas.{view_of}
use Rattle.pi_engine_steps.proofs.NamesStand.{TellsSo}
use Rattle.pi_engine_steps.proofs.answers.answer.Given as goal

-- the first names are told
abbrev pub invariant-loop-named : goal.invariant-loop-named
invariant-loop-named g l = TellsSo (g.S.StateStore.seen l.fn.run.store) (g.S.StateStore.seen l.run.store) (view_of l.fn.run.arenas) (view_of l.run.arenas) l.names l.named-index l.values
