use Rattle.std.proofs.Common.{◌≡◌, ℕ, ◌<◌, ap, ◌∙◌, subst, refl, to_z, of_z}
use Rattle.std.specs.Int.{w128}
use Rattle.std.proofs.lemmas.Int.{to_z-of_z}
use Rattle.pi_terms.specs.Tree.{Tree}
use Rattle.pi_constraints.specs.Store.{IsTerm}
use Rattle.pi_effects.specs.Exception.{range_too_long}
use Rattle.pi_effects.specs.Items.{list_of}
use Rattle.pi_effects.specs.Ranges.{most_items, count_by, values_by}
use Rattle.pi_lib.proofs.RangeLemmas.{counted_so, counted_too_long}
use Rattle.pi_lib.proofs.StoreLemmas.{stays_none}
use Rattle.pi_lib.proofs.StopLemmas.{memory_shown, of_three_bits}
use Rattle.pi_lib.proofs.ranges.put_range.Goals as goal

pub returns-in_err-made-in-Some-clause-stays : goal.returns-in_err-made-in-Some-clause-stays
returns-in_err-made-in-Some-clause-stays g c = c.in_err-made-in-Some.ensures.stays

pub returns-in_err-made-in-Some-clause-shows : goal.returns-in_err-made-in-Some-clause-shows
returns-in_err-made-in-Some-clause-shows g c = memory_shown (IsTerm (g.S.StateStore.seen c.put_values.new.s)) (g.S.StateStore.seen c.args.s.now) c.from_residual.result _ c.from_residual.ensures.1

pub returns-in_ok-made-in-Some-clause-stays : goal.returns-in_ok-made-in-Some-clause-stays
returns-in_ok-made-in-Some-clause-stays g c = c.in_ok-made-in-Some.ensures.stays

pub returns-in_ok-made-in-Some-clause-shows : goal.returns-in_ok-made-in-Some-clause-shows
returns-in_ok-made-in-Some-clause-shows g c =
    let x = g.S.StateStore.seen c.put_values.new.s in
    let low = c.args.low in
    let step = c.args.step in
    let high = c.args.high in
    let count = c.in-Some.count in
    let low_is = to_z-of_z w128 low c.ranges.low in
    let step_is = to_z-of_z w128 step c.ranges.step in
    let many : count ≡ count_by low step high = c.in-Some.ensures.0 ∙ of_three_bits count_by low step high low_is step_is (to_z-of_z w128 high c.ranges.high) in
    let listed : Tree → Type 0 = IsTerm x c.in_ok-made-in-Some.made in
    let bits : list_of (values_by count (to_z w128 (of_z w128 low)) (to_z w128 (of_z w128 step))) ≡ list_of (values_by count low step) =
    ap (λ a. list_of (values_by count a (to_z w128 (of_z w128 step)))) low_is ∙ ap (λ a. list_of (values_by count low a)) step_is in (
      list_of (values_by count low step),
      counted_so (λ k. list_of (values_by k low step)) low step high count c.ranges.low c.ranges.high many c.in-Some.ensures.1,
      subst listed bits c.in_ok-made-in-Some.ensures.ok,
    )

pub returns-in-None-clause-stays : goal.returns-in-None-clause-stays
returns-in-None-clause-stays g c = stays_none (g.S.StateStore.seen c.args.s.now)

pub returns-in-None-clause-shows : goal.returns-in-None-clause-shows
returns-in-None-clause-shows g c =
    let low = c.args.low in
    let step = c.args.step in
    let high = c.args.high in
    let many : count_by (to_z w128 (of_z w128 low)) (to_z w128 (of_z w128 step)) (to_z w128 (of_z w128 high)) ≡ count_by low step high =
    of_three_bits count_by low step high (to_z-of_z w128 low c.ranges.low) (to_z-of_z w128 step c.ranges.step) (to_z-of_z w128 high c.ranges.high) in
    (range_too_long, counted_too_long (λ k. list_of (values_by k low step)) low step high (subst (λ (k : ℕ). most_items < k) many c.in-None.ensures), refl)
