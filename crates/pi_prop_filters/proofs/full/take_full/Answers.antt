use Rattle.std.proofs.Common.{arith, ◌∙◌, true, false, ℤ, pos, sym, subst}
use Rattle.pi_constraints.specs.Domain.{IsWithinBounds}
use Rattle.pi_prop_filters.specs.Taken.{least_at, AreTakenFrom}
use Rattle.pi_prop_filters.proofs.TurnLemmas.{back64}
use Rattle.pi_prop_filters.proofs.DistinctLemmas.{taken_none, taken_again, taken_over, taken_more, taken_all}
use Rattle.pi_prop_filters.proofs.full.take_full.Goals as goal

pub loop-i-init : goal.loop-i-init
loop-i-init g c = taken_none c.args.ends.now c.args.sorted.now (g.P.Places.domains c.args.places.now)

pub loop-i-preserved-then-repeats : goal.loop-i-preserved-then-repeats
loop-i-preserved-then-repeats g c =
    let same = c.repeats.ensures c.if-repeats.true in
    taken_again c.loop-i.i c.args.ends.now c.args.sorted.now (g.P.Places.domains c.args.places.now) (g.P.Places.domains c.loop-i.places) same.0 same.1 c.loop-i.invariant

pub take_from-requires-clause-count : goal.take_from-requires-clause-count
take_from-requires-clause-count g c = c.loop-i.invariant.taken.count ∙ c.requires.count

pub take_from-requires-clause-from : goal.take_from-requires-clause-from
take_from-requires-clause-from g c =
    let least = (c.requires.ends c.loop-i.i (pos 0, pos 0) c.loop-i-test.true).least in
    subst IsWithinBounds (sym (back64 (least_at c.args.sorted.now c.loop-i.i) least)) least

pub returns-then-not-taken : goal.returns-then-not-taken
returns-then-not-taken g c =
    let a = least_at c.args.sorted.now c.loop-i.i in
    let back = back64 a (c.requires.ends c.loop-i.i (pos 0, pos 0) c.loop-i-test.true).least in
    let ds = g.P.Places.domains c.loop-i.places in
    let taken = rw c.if-not-taken.true at c.in_ok-taken.ensures in
    taken_over c.loop-i.i c.args.ends.now c.args.sorted.now (g.P.Places.domains c.args.places.now) ds _ c.loop-i-test.true c.loop-i.invariant
    (subst (λ (z : ℤ). AreTakenFrom false z c.args.ends.now c.args.sorted.now ds (g.P.Places.domains c.take_from.new.places)) back taken)

pub loop-i-preserved : goal.loop-i-preserved
loop-i-preserved g c =
    let a = least_at c.args.sorted.now c.loop-i.i in
    let back = back64 a (c.requires.ends c.loop-i.i (pos 0, pos 0) c.loop-i-test.true).least in
    let ds = g.P.Places.domains c.loop-i.places in
    let taken = rw c.if-not-taken.false at c.in_ok-taken.ensures in
    taken_more c.loop-i.i c.args.ends.now c.args.sorted.now (g.P.Places.domains c.args.places.now) ds _ c.loop-i.invariant
    (subst (λ (z : ℤ). AreTakenFrom true z c.args.ends.now c.args.sorted.now ds (g.P.Places.domains c.take_from.new.places)) back taken)

pub returns : goal.returns
returns g c = taken_all c.loop-i.i c.args.ends.now c.args.sorted.now (g.P.Places.domains c.args.places.now) (g.P.Places.domains c.loop-i.places) (omega (arith, c.loop-i-test.false, c.loop-i.auto.i-end)) c.loop-i.invariant
