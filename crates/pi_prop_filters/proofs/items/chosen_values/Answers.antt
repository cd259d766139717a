use Rattle.std.proofs.Common.{arith, ◌≡◌, ◌+◌, ℕ, sym, ◌∙◌, subst}
use Rattle.std.proofs.lemmas.Int.{ints}
use Rattle.pi_prop_filters.specs.Choices.{AreValues}
use Rattle.pi_prop_filters.proofs.ItemLemmas.{values_none, values_passed, values_added}
use Rattle.pi_prop_filters.proofs.items.chosen_values.Goals as goal
use Rattle.pi_prop_filters.proofs.items.chosen_values.Goals.{then-has_number+in_ok-push_item, else-has_number}

pub loop-i-init : goal.loop-i-init
loop-i-init g c = subst (AreValues c.args.count 1 (g.P.Places.domains c.args.places.now)) (sym c.new-spans.ensures.items) (values_none c.args.count (g.P.Places.domains c.args.places.now))

pub loop-i-preserved : goal.loop-i-preserved
loop-i-preserved g c =
    let ds = g.P.Places.domains c.args.places.now in
    let low = c.least-lo.ensures.is in
    let high = c.greatest-hi.ensures.is in
    let low_within = c.least-lo.ensures.within in
    let high_within = c.greatest-hi.ensures.within in
    elim c.if-has_number.branch [
      | then-has_number+in_ok-push_item w ↦ rw w.spans-is (values_added c.args.count c.loop-i.i (c.args.count + 1) ds c.loop-i.spans.items _ _ _ w.in_ok-push_item.ensures (omega arith) c.least-lo.ensures.spans (omega (arith, ints)) (omega (arith, ints))
          (omega arith) (sym c.has_number.ensures ∙ w.if-has_number.true) c.loop-i.invariant)
      | else-has_number w ↦ rw w.spans-is (values_passed c.args.count c.loop-i.i ds c.loop-i.spans.items (sym c.has_number.ensures ∙ w.if-has_number.false) c.loop-i.invariant)
    ]

pub returns : goal.returns
returns g c =
    let all : c.loop-i.i ≡ c.args.count + 1 = omega (arith, c.loop-i-test.false, c.loop-i.auto.i-end) in
    subst (λ (m : ℕ). AreValues c.args.count m (g.P.Places.domains c.args.places.now) c.loop-i.spans.items) all c.loop-i.invariant
