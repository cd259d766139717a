use Rattle.std.proofs.Common.{ℤ, List, All, sym, subst, refl, to_z, of_z, w64}
use Rattle.pi_constraints.specs.Domain.{IsWithinBounds}
use Rattle.pi_prop_places.specs.Changes.{AreFiltered}
use Rattle.pi_prop_filters.specs.Intervals.{IsOverfull, IsAscending, AreFullEnds, IsOutside}
use Rattle.pi_prop_filters.specs.Taken.{ends_at}
use Rattle.pi_prop_filters.proofs.TurnLemmas.{back64}
use Rattle.pi_prop_filters.proofs.DistinctLemmas.{taken_from}
use Rattle.pi_prop_filters.proofs.full.take_from.Goals as goal

pub full_ends-requires-clause-from : goal.full_ends-requires-clause-from
full_ends-requires-clause-from g c = subst IsWithinBounds (sym (back64 c.args.a c.requires.from)) c.requires.from

pub take_each-requires-clause-from : goal.take_each-requires-clause-from
take_each-requires-clause-from g c = subst IsWithinBounds (sym (back64 c.args.a c.requires.from)) c.requires.from

pub take_each-requires-clause-full : goal.take_each-requires-clause-full
take_each-requires-clause-full g c = let found = rw c.in-Some.is at c.in_ok-full_ends.ensures in subst (All IsWithinBounds) (sym c.as_slice.ensures.value) found.bounds

pub take_each-requires-clause-ascend : goal.take_each-requires-clause-ascend
take_each-requires-clause-ascend g c = let found = rw c.in-Some.is at c.in_ok-full_ends.ensures in subst IsAscending (sym c.as_slice.ensures.value) found.ascend

pub returns-in-None : goal.returns-in-None
returns-in-None g c =
    let found = rw c.in-None.is at c.in_ok-full_ends.ensures in
    (subst (λ (z : ℤ). IsOverfull z c.args.sorted.now) (back64 c.args.a c.requires.from) found, refl)

pub returns-in_ok-take_each-in-Some : goal.returns-in_ok-take_each-in-Some
returns-in_ok-take_each-in-Some g c =
    let found = rw c.in-Some.is at c.in_ok-full_ends.ensures in
    let ds = g.P.Places.domains c.args.places.now in
    let es = g.P.Places.domains c.take_each.new.places in
    let back = back64 c.args.a c.requires.from in
    taken_from c.args.a c.args.ends.now c.args.sorted.now c.in-Some.full.items ds es (subst (λ (z : ℤ). AreFullEnds z c.args.sorted.now c.in-Some.full.items) back found)
    (subst (λ (z : ℤ). AreFiltered (λ k. IsOutside z c.in-Some.full.items (ends_at c.args.ends.now k)) ds es) back
    (subst (λ (x : List ℤ). AreFiltered (λ k. IsOutside (to_z w64 (of_z w64 c.args.a)) x (ends_at c.args.ends.now k)) ds es) c.as_slice.ensures.value c.in_ok-take_each-in-Some.ensures))
