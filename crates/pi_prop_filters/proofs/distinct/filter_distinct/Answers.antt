use Rattle.std.proofs.Common.{◌≡◌, List, ℤ, All, length, sym, subst, true, false}
use Rattle.pi_prop_filters.specs.Intervals.{IsEnds, ByGreatest}
use Rattle.pi_prop_filters.specs.Taken.{AreTaken}
use Rattle.pi_prop_filters.proofs.DistinctLemmas.{are_ends, ends_count, all_sorted, distinct_filtered, distinct_emptied}
use Rattle.pi_prop_filters.proofs.distinct.filter_distinct.Goals as goal

pub take_full-requires-clause-count : goal.take_full-requires-clause-count
take_full-requires-clause-count g c =
    let es = g.P.Places.domains c.filter_different.new.places in
    subst (λ (x : List (ℤ × ℤ)). length es ≡ length x) (sym c.as_slice.ensures.value) (ends_count (g.P.Places.domains c.args.places.now) es c.in_ok-ends.ends.items c.in_ok-ends.ensures.all c.in_ok-filter_different.ensures.count)

pub take_full-requires-clause-ends : goal.take_full-requires-clause-ends
take_full-requires-clause-ends g c =
    let ds = g.P.Places.domains c.args.places.now in
    let ends = c.in_ok-ends.ends.items in
    let sorted = c.in_ok-sorted.sorted.items in
    subst (All IsEnds) (sym c.as_slice-2.ensures.value) (all_sorted ds ends sorted (are_ends ds ends sorted c.in_ok-ends.ensures.all c.in_ok-sorted.ensures.same c.in_ok-ends.ensures.ends))

pub take_full-requires-clause-sorted : goal.take_full-requires-clause-sorted
take_full-requires-clause-sorted g c = subst ByGreatest (sym c.as_slice-2.ensures.value) c.in_ok-sorted.ensures.sorted

pub returns-then-taken : goal.returns-then-taken
returns-then-taken g c =
    let ds = g.P.Places.domains c.args.places.now in
    let es = g.P.Places.domains c.filter_different.new.places in
    let fs = g.P.Places.domains c.take_full.new.places in
    let ends = c.in_ok-ends.ends.items in
    let sorted = c.in_ok-sorted.sorted.items in
    let taken = rw c.if-taken.true at c.in_ok-taken.ensures in
    let here : AreTaken true ends sorted es fs =
    subst (λ (x : List (ℤ × ℤ)). AreTaken true x sorted es fs) c.as_slice.ensures.value (subst (λ (x : List (ℤ × ℤ)). AreTaken true c.as_slice.result.now x es fs) c.as_slice-2.ensures.value taken) in
    distinct_filtered ds es fs ends sorted (are_ends ds ends sorted c.in_ok-ends.ensures.all c.in_ok-sorted.ensures.same c.in_ok-ends.ensures.ends) c.in_ok-filter_different.ensures here

pub returns : goal.returns
returns g c =
    let ds = g.P.Places.domains c.args.places.now in
    let es = g.P.Places.domains c.filter_different.new.places in
    let fs = g.P.Places.domains c.take_full.new.places in
    let ends = c.in_ok-ends.ends.items in
    let sorted = c.in_ok-sorted.sorted.items in
    let taken = rw c.if-taken.false at c.in_ok-taken.ensures in
    let here : AreTaken false ends sorted es fs =
    subst (λ (x : List (ℤ × ℤ)). AreTaken false x sorted es fs) c.as_slice.ensures.value (subst (λ (x : List (ℤ × ℤ)). AreTaken false c.as_slice.result.now x es fs) c.as_slice-2.ensures.value taken) in
    distinct_emptied ds es fs _ ends sorted (are_ends ds ends sorted c.in_ok-ends.ensures.all c.in_ok-sorted.ensures.same c.in_ok-ends.ensures.ends) c.in_ok-filter_different.ensures here c.in_ok-take_all.ensures
