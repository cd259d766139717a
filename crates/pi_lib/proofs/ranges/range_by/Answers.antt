use Rattle.std.proofs.Common.{◌≡◌, ap, sym, ◌∙◌, subst, rules, to_z, of_z}
use Rattle.std.specs.Int.{w128}
use Rattle.pi_effects.specs.Answer.{integer_then, integers_then}
use Rattle.pi_effects.specs.Items.{list_of}
use Rattle.pi_effects.specs.Ranges.{values_by, range, range_by}
use Rattle.pi_constraints.specs.Store.{IsTerm}
use Rattle.pi_effects.specs.Results.{Stops, ShowsTerm}
use Rattle.pi_effects.proofs.FaultLemmas.{integer-is, integer-stops, integers-stop}
use Rattle.pi_lib.proofs.RangeLemmas.{step_counts}
use Rattle.pi_lib.proofs.StoreLemmas.{stays_none}
use Rattle.pi_lib.proofs.StopLemmas.{stop_shown}
use Rattle.pi_lib.proofs.ranges.range_by.Goals as goal

pub returns-in_err-low-clause-stays : goal.returns-in_err-low-clause-stays
returns-in_err-low-clause-stays g c = stays_none (g.S.StateStore.seen c.args.s.now)

pub returns-in_err-step-clause-stays : goal.returns-in_err-step-clause-stays
returns-in_err-step-clause-stays g c = stays_none (g.S.StateStore.seen c.args.s.now)

pub returns-in_err-high-clause-stays : goal.returns-in_err-high-clause-stays
returns-in_err-high-clause-stays g c = stays_none (g.S.StateStore.seen c.args.s.now)

pub returns-then-step-eq0-clause-stays : goal.returns-then-step-eq0-clause-stays
returns-then-step-eq0-clause-stays g c = stays_none (g.S.StateStore.seen c.args.s.now)

pub returns-clause-stays : goal.returns-clause-stays
returns-clause-stays g c = c.put_range.ensures.stays

pub returns-in_err-low-clause-shows : goal.returns-in_err-low-clause-shows
returns-in_err-low-clause-shows g c = λ t u w a first second third.
    let v = g.S.StateStore.seen c.args.s.now in
    stop_shown (IsTerm v) v c.from_residual.result _ _ c.from_residual.ensures.1 (integer-stops v _ t (λ l. integers_then v.now.state u w (λ n h. range_by l n h)) (c.in_err-low.ensures t a first))

pub returns-in_err-step-clause-shows : goal.returns-in_err-step-clause-shows
returns-in_err-step-clause-shows g c = λ t u w a first second third.
    let v = g.S.StateStore.seen c.args.s.now in
    let s = v.now.state in
    let low = c.in_ok-low.low in
    let whole = integer-is s t (λ l. integers_then s u w (λ n h. range_by l n h)) low (c.in_ok-low.ensures t a first) in
    stop_shown (IsTerm v) v c.from_residual-in_err-step.result _ _ c.from_residual-in_err-step.ensures.1
    (subst (Stops v _) (sym whole) (integer-stops v _ u (λ n. integer_then s w (λ h. range_by low n h)) (c.in_err-step.ensures u a second)))

pub returns-in_err-high-clause-shows : goal.returns-in_err-high-clause-shows
returns-in_err-high-clause-shows g c = λ t u w a first second third.
    let v = g.S.StateStore.seen c.args.s.now in
    let s = v.now.state in
    let low = c.in_ok-low.low in
    let whole = integer-is s t (λ l. integers_then s u w (λ n h. range_by l n h)) low (c.in_ok-low.ensures t a first) in
    stop_shown (IsTerm v) v c.from_residual-in_err-high.result _ _ c.from_residual-in_err-high.ensures.1
    (subst (Stops v _) (sym whole) (integers-stop v _ u w (λ n h. range_by low n h) c.in_ok-step.step (c.in_ok-step.ensures u a second) (c.in_err-high.ensures w a third)))

pub returns-clause-shows : goal.returns-clause-shows
returns-clause-shows g c = λ t u w a first second third.
    let v = g.S.StateStore.seen c.args.s.now in
    let x = g.S.StateStore.seen c.put_range.new.s in
    let s = v.now.state in
    let low = c.in_ok-low.low in
    let step = c.in_ok-step.step in
    let high = c.in_ok-high.high in
    let whole : integer_then s t (λ l. integers_then s u w (λ n h. range_by l n h)) ≡ range low step high =
    integer-is s t (λ l. integers_then s u w (λ n h. range_by l n h)) low (c.in_ok-low.ensures t a first)
    ∙ (integer-is s u (λ n. integer_then s w (λ h. range_by low n h)) step (c.in_ok-step.ensures u a second)
    ∙ (integer-is s w (λ h. range_by low step h) high (c.in_ok-high.ensures w a third) ∙ step_counts (λ count. list_of (values_by count low step)) low step high (λ e. c.if-step-eq0.false (ap (of_z w128) e)))) in
    let low_is : to_z w128 (of_z w128 low) ≡ low = search rules in
    let step_is : to_z w128 (of_z w128 step) ≡ step = search rules in
    let high_is : to_z w128 (of_z w128 high) ≡ high = search rules in
    let same : range (to_z w128 (of_z w128 low)) (to_z w128 (of_z w128 step)) (to_z w128 (of_z w128 high)) ≡ range low step high =
    ap (λ n. range n (to_z w128 (of_z w128 step)) (to_z w128 (of_z w128 high))) low_is ∙ (ap (λ n. range low n (to_z w128 (of_z w128 high))) step_is ∙ ap (range low step) high_is) in
    subst (ShowsTerm v x c.put_range.result) (same ∙ sym whole) c.put_range.ensures.shows
