use Rattle.pi_engine_arenas.specs.Arenas.{view_of}
use Rattle.pi_engine_stands.specs.Stands.{world}
use Rattle.pi_engine.proofs.NextTurns.{SoFar}
use Rattle.pi_engine.proofs.turns.next_happening.Given as goal

-- the turns so far
abbrev pub invariant-loop-turn : goal.invariant-loop-turn
invariant-loop-turn g l =
    SoFar l.code l.names l.mode l.fn.budget l.budget l.fn.run l.run (λ x. world x (g.S.StateStore.seen l.fn.run.store) g.S.StateStore.order (view_of l.fn.run.arenas))
    (λ x. world x (g.S.StateStore.seen l.run.store) g.S.StateStore.order (view_of l.run.arenas)) l.fn.run.now l.run.now l.turn
