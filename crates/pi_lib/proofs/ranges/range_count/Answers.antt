use Rattle.std.proofs.Common.{◌≡◌, ap, sym, ◌∙◌, refl, subst, rules, codes, to_z, of_z}
use Rattle.std.specs.Int.{w128}
use Rattle.pi_effects.specs.Exception.{type_error}
use Rattle.pi_effects.specs.Ranges.{counted, counted_by}
use Rattle.pi_effects.specs.Inner.{range_count}
use Rattle.pi_effects.specs.Answer.{integer_then, integers_then}
use Rattle.pi_constraints.specs.Store.{IsTerm}
use Rattle.pi_effects.specs.Results.{Stops, ShowsTerm}
use Rattle.pi_effects.proofs.FaultLemmas.{integer-is, integer-stops, integers-are, integers-stop}
use Rattle.pi_lib.proofs.RangeLemmas.{number_of, step_counts, pair_counted, pair_then}
use Rattle.pi_lib.proofs.StoreLemmas.{stays_none}
use Rattle.pi_lib.proofs.StopLemmas.{stop_shown}
use Rattle.pi_lib.proofs.ranges.range_count.Goals as goal

pub returns-in_err-low-clause-stays : goal.returns-in_err-low-clause-stays
returns-in_err-low-clause-stays g c = stays_none (g.S.StateStore.seen c.args.s.now)

pub returns-in_default-clause-stays : goal.returns-in_default-clause-stays
returns-in_default-clause-stays g c = stays_none (g.S.StateStore.seen c.args.s.now)

pub returns-in_err-step-clause-stays : goal.returns-in_err-step-clause-stays
returns-in_err-step-clause-stays g c = stays_none (g.S.StateStore.seen c.args.s.now)

pub returns-in_err-high-clause-stays : goal.returns-in_err-high-clause-stays
returns-in_err-high-clause-stays g c = stays_none (g.S.StateStore.seen c.args.s.now)

pub returns-then-step-eq0-clause-stays : goal.returns-then-step-eq0-clause-stays
returns-then-step-eq0-clause-stays g c = stays_none (g.S.StateStore.seen c.args.s.now)

pub returns-clause-stays : goal.returns-clause-stays
returns-clause-stays g c = c.put_count.ensures.stays

pub returns-in_err-low-clause-shows : goal.returns-in_err-low-clause-shows
returns-in_err-low-clause-shows g c = λ t u a first second.
    let v = g.S.StateStore.seen c.args.s.now in
    stop_shown (IsTerm v) v c.from_residual.result _ _ c.from_residual.ensures.1 (integer-stops v _ t (pair_counted v.now.state u) (c.in_err-low.ensures t a first))

pub returns-in_err-step-clause-shows : goal.returns-in_err-step-clause-shows
returns-in_err-step-clause-shows g c = λ t u a first second.
    let v = g.S.StateStore.seen c.args.s.now in
    let s = v.now.state in
    let low = c.in_ok-low.low in
    let pair = c.in-Some.ensures u a second in
    let whole : range_count s t u ≡ integers_then s pair.0 pair.1 (λ n h. counted_by number_of low n h) = integer-is s t (pair_counted s u) low (c.in_ok-low.ensures t a first) ∙ ap (pair_then s u low) pair.2 in
    stop_shown (IsTerm v) v c.from_residual-in_err-step.result _ _ c.from_residual-in_err-step.ensures.1
    (subst (Stops v _) (sym whole) (integer-stops v _ pair.0 (λ n. integer_then s pair.1 (λ h. counted_by number_of low n h)) (c.in_err-step.ensures pair.0 a pair.3)))

pub returns-in_err-high-clause-shows : goal.returns-in_err-high-clause-shows
returns-in_err-high-clause-shows g c = λ t u a first second.
    let v = g.S.StateStore.seen c.args.s.now in
    let s = v.now.state in
    let low = c.in_ok-low.low in
    let pair = c.in-Some.ensures u a second in
    let whole : range_count s t u ≡ integers_then s pair.0 pair.1 (λ n h. counted_by number_of low n h) = integer-is s t (pair_counted s u) low (c.in_ok-low.ensures t a first) ∙ ap (pair_then s u low) pair.2 in
    stop_shown (IsTerm v) v c.from_residual-in_err-high.result _ _ c.from_residual-in_err-high.ensures.1
    (subst (Stops v _) (sym whole) (integers-stop v _ pair.0 pair.1 (λ n h. counted_by number_of low n h) c.in_ok-step.step (c.in_ok-step.ensures pair.0 a pair.3) (c.in_err-high.ensures pair.1 a pair.4)))

pub returns-in_default-clause-shows : goal.returns-in_default-clause-shows
returns-in_default-clause-shows g c = λ t u a first second.
    let s = (g.S.StateStore.seen c.args.s.now).now.state in
    let low = c.in_ok-low.low in (
      type_error (codes "array") u s,
      integer-is s t (pair_counted s u) low (c.in_ok-low.ensures t a first) ∙ ap (pair_then s u low) (c.in_default.ensures u a second),
      (u, second, refl),
    )

pub returns-clause-shows : goal.returns-clause-shows
returns-clause-shows g c = λ t u a first second.
    let v = g.S.StateStore.seen c.args.s.now in
    let x = g.S.StateStore.seen c.put_count.new.s in
    let s = v.now.state in
    let low = c.in_ok-low.low in
    let step = c.in_ok-step.step in
    let high = c.in_ok-high.high in
    let pair = c.in-Some.ensures u a second in
    let whole : range_count s t u ≡ counted number_of low step high =
    integer-is s t (pair_counted s u) low (c.in_ok-low.ensures t a first)
    ∙ (ap (pair_then s u low) pair.2
    ∙ (integers-are s pair.0 pair.1 (λ n h. counted_by number_of low n h) step high (c.in_ok-step.ensures pair.0 a pair.3) (c.in_ok-high.ensures pair.1 a pair.4)
    ∙ step_counts number_of low step high (λ e. c.if-step-eq0.false (ap (of_z w128) e)))) in
    let low_is : to_z w128 (of_z w128 low) ≡ low = search rules in
    let step_is : to_z w128 (of_z w128 step) ≡ step = search rules in
    let high_is : to_z w128 (of_z w128 high) ≡ high = search rules in
    let same : counted number_of (to_z w128 (of_z w128 low)) (to_z w128 (of_z w128 step)) (to_z w128 (of_z w128 high)) ≡ counted number_of low step high =
    ap (λ n. counted number_of n (to_z w128 (of_z w128 step)) (to_z w128 (of_z w128 high))) low_is ∙ (ap (λ n. counted number_of low n (to_z w128 (of_z w128 high))) step_is ∙ ap (counted number_of low step) high_is) in
    subst (ShowsTerm v x c.put_count.result) (same ∙ sym whole) c.put_count.ensures.shows
