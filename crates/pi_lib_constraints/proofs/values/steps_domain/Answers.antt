use Rattle.std.proofs.Common.{◌≡◌, ◌∙◌, ap, sym, subst, of_z}
use Rattle.std.specs.Int.{w128}
use Rattle.std.proofs.lemmas.Int.{to_z-of_z}
use Rattle.pi_effects.specs.Ranges.{count_by}
use Rattle.pi_lib_constraints.specs.Sides.{ShowsJudged}
use Rattle.pi_lib_constraints.proofs.SideLemmas.{steps-few, numbers-at, of-three}
use Rattle.pi_lib_constraints.proofs.values.steps_domain.Goals as goal

pub returns-in_ok-numbers-in-Some : goal.returns-in_ok-numbers-in-Some
returns-in_ok-numbers-in-Some c =
    let low = c.args.low in
    let step = c.args.step in
    let high = c.args.high in
    let low_is = to_z-of_z w128 low c.ranges.low in
    let step_is = to_z-of_z w128 step c.ranges.step in
    let many : c.in-Some.count ≡ count_by low step high = c.in-Some.ensures.0 ∙ of-three count_by low step high _ _ _ low_is step_is (to_z-of_z w128 high c.ranges.high) in
    let made = numbers-at c.in-Some.count low step _ _ c.in_ok-numbers-in-Some.numbers.items low_is step_is c.in_ok-numbers-in-Some.ensures in
    subst (ShowsJudged c.values_domain.result) (sym (steps-few c.args.strict low step high c.in-Some.count c.deref.result.now (λ e. c.if-step-eq0.false (ap (of_z w128) e)) many c.in-Some.ensures.1 (c.deref.ensures.value ∙ made))) c.values_domain.ensures
