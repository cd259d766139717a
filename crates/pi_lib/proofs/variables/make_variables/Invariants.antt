use Rattle.pi_unify.specs.Copying.{Makes}
use Rattle.pi_lib.proofs.variables.make_variables.Given as goal

abbrev pub invariant-loop-k : goal.invariant-loop-k
invariant-loop-k g l = Makes (g.S.StateStore.seen l.initial.s) (g.S.StateStore.seen l.s) l._k
