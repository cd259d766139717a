use Rattle.std.proofs.Common.{arith, ℤ, sym, subst, to_z, of_z, w64}
use Rattle.pi_constraints.specs.Domain.{IsWithinBounds}
use Rattle.pi_prop_places.specs.Changes.{AreFiltered}
use Rattle.pi_prop_places.proofs.KeepLemmas.{kept_none, kept_more, kept_all}
use Rattle.pi_terms.proofs.TakenLemmas.{empty}
use Rattle.pi_prop_filters.specs.Intervals.{IsOutside}
use Rattle.pi_prop_filters.specs.Taken.{ends_at}
use Rattle.pi_prop_filters.proofs.TurnLemmas.{back64}
use Rattle.pi_prop_filters.proofs.DistinctLemmas.{none_taken}
use Rattle.pi_prop_filters.proofs.full.take_each.Goals as goal

pub returns-then-is_empty : goal.returns-then-is_empty
returns-then-is_empty g c = none_taken c.args.a c.args.ends.now c.args.full.now (g.P.Places.domains c.args.places.now) (empty c.args.full.now (grind (arith, c.is_empty.ensures, c.if-is_empty.true)))

pub loop-k-init : goal.loop-k-init
loop-k-init g c = kept_none _ (g.P.Places.domains c.args.places.now)

pub take_at-requires-clause-from : goal.take_at-requires-clause-from
take_at-requires-clause-from g c = subst IsWithinBounds (sym (back64 c.args.a c.requires.from)) c.requires.from

pub loop-k-preserved : goal.loop-k-preserved
loop-k-preserved g c =
    kept_more c.loop-k.k (λ k. IsOutside (to_z w64 (of_z w64 c.args.a)) c.args.full.now (ends_at c.args.ends.now k)) (g.P.Places.domains c.args.places.now) (g.P.Places.domains c.loop-k.places) _ c.loop-k.invariant c.in_ok-take_at.ensures

pub returns : goal.returns
returns g c =
    let ds = g.P.Places.domains c.args.places.now in
    let es = g.P.Places.domains c.loop-k.places in
    subst (λ (z : ℤ). AreFiltered (λ k. IsOutside z c.args.full.now (ends_at c.args.ends.now k)) ds es) (back64 c.args.a c.requires.from)
    (kept_all c.loop-k.k (λ k. IsOutside (to_z w64 (of_z w64 c.args.a)) c.args.full.now (ends_at c.args.ends.now k)) ds es (omega (arith, c.loop-k-test.false, c.requires.count)) c.loop-k.invariant)
