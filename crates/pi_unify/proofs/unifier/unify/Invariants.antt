use Rattle.pi_constraints.specs.Store.{Keeps}
use Rattle.pi_unify.specs.Refs.{AreTerms}
use Rattle.pi_unify.proofs.StepLemmas.{Unifying}
use Rattle.pi_unify.proofs.unifier.unify.Given as goal

abbrev pub invariant-loop : goal.invariant-loop
invariant-loop g l =
    let v = g.S.StateStore.seen l.fn.s in
    let w = g.S.StateStore.seen l.s in
    record {
      keeps : Keeps v w;
      so_far : AreTerms v l.fn.a l.fn.b → Unifying v w l.fn.a l.fn.b l.left l.right l.ahead.items;
    }
