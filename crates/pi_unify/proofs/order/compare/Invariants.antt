use Rattle.pi_unify.specs.Terms.{HoldsNoCycle}
use Rattle.pi_unify.specs.Comparison.{IsPair}
use Rattle.pi_unify.specs.declared.ahead.RefPair.{RefPair}
use Rattle.pi_unify.proofs.ComparisonLemmas.{Goes}
use Rattle.pi_unify.proofs.order.compare.Given as goal

abbrev pub invariant-loop : goal.invariant-loop
invariant-loop g l =
    let v = g.S.StateStore.seen l.s in
    let whole : RefPair = record { left = l.fn.a; right = l.fn.b } in
    IsPair v whole → HoldsNoCycle v → Goes v l.rests.items l.pair whole
