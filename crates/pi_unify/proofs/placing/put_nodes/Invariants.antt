use Rattle.pi_unify.proofs.BuildLemmas.{Putting}
use Rattle.pi_unify.proofs.placing.put_nodes.Given as goal

abbrev pub invariant-loop-i : goal.invariant-loop-i
invariant-loop-i g l = Putting (g.S.StateStore.seen l.initial.s) (g.S.StateStore.seen l.s) l.numbers l.t l.i l.built.items

abbrev pub decreases-loop-i : goal.decreases-loop-i
decreases-loop-i g l = l.i
