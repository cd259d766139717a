use Rattle.pi_constraints.specs.State.{IsState}
use Rattle.pi_unify.specs.Refs.{IsRef}
use Rattle.pi_unify.proofs.OccursLemmas.{Looking}
use Rattle.pi_unify.proofs.occurs.occurs.Given as goal

-- the variable occurs in what is left exactly where it occurs in the term
abbrev pub invariant-loop : goal.invariant-loop
invariant-loop g l =
    let v = g.S.StateStore.seen l.s in
    IsState v.now.state → IsRef v l.fn.r → Looking v l.v l.fn.r l.at l.ahead.items
