use Rattle.std.proofs.Common.{◌≡◌, suc, ◌/◌, sym, ◌∙◌, arith, to_z, of_z}
use Rattle.std.specs.Int.{w128}
use Rattle.std.proofs.lemmas.Int.{to_z-of_z}
use Rattle.pi_effects.specs.Ranges.{count_by}
use Rattle.pi_lib.proofs.RangeLemmas.{is_empty_range, empty_up, empty_down, none_counted, steps_counted}
use Rattle.pi_lib.proofs.StopLemmas.{of_three_bits}
use Rattle.pi_lib.proofs.ranges.count_by.Goals as goal
use Rattle.pi_lib.proofs.ranges.count_by.Goals.{then-step-gt0, else-step-gt0}

pub returns-then-is_empty : goal.returns-then-is_empty
returns-then-is_empty c =
    let low = to_z w128 (of_z w128 c.args.low) in
    let step = to_z w128 (of_z w128 c.args.step) in
    let high = to_z w128 (of_z w128 c.args.high) in
    let step_is = to_z-of_z w128 c.args.step c.ranges.step in
    let bits : count_by low step high ≡ count_by c.args.low c.args.step c.args.high = of_three_bits count_by c.args.low c.args.step c.args.high (to_z-of_z w128 c.args.low c.ranges.low) step_is (to_z-of_z w128 c.args.high c.ranges.high) in
    let tested : is_empty_range low step high ≡ c.if-step-gt0.is_empty = elim c.if-step-gt0.branch [
      | then-step-gt0 w ↦ empty_up low step high c.if-step-gt0.is_empty w.if-step-gt0.true w.is_empty-is
      | else-step-gt0 w ↦ empty_down low step high c.if-step-gt0.is_empty w.if-step-gt0.false w.is_empty-is
    ] in
    let none : count_by low step high ≡ 0 = none_counted low step high (λ e. c.requires (sym step_is ∙ e)) (tested ∙ c.if-is_empty.true) in
    (sym none ∙ bits, omega arith)

pub returns-then-steps-ge-MOST_ITEMS : goal.returns-then-steps-ge-MOST_ITEMS
returns-then-steps-ge-MOST_ITEMS c =
    let low = to_z w128 (of_z w128 c.args.low) in
    let step = to_z w128 (of_z w128 c.args.step) in
    let high = to_z w128 (of_z w128 c.args.high) in
    let step_is = to_z-of_z w128 c.args.step c.ranges.step in
    let bits : count_by low step high ≡ count_by c.args.low c.args.step c.args.high = of_three_bits count_by c.args.low c.args.step c.args.high (to_z-of_z w128 c.args.low c.ranges.low) step_is (to_z-of_z w128 c.args.high c.ranges.high) in
    let tested : is_empty_range low step high ≡ c.if-step-gt0.is_empty = elim c.if-step-gt0.branch [
      | then-step-gt0 w ↦ empty_up low step high c.if-step-gt0.is_empty w.if-step-gt0.true w.is_empty-is
      | else-step-gt0 w ↦ empty_down low step high c.if-step-gt0.is_empty w.if-step-gt0.false w.is_empty-is
    ] in
    let many : count_by c.args.low c.args.step c.args.high ≡ suc (c.abs_diff.result / c.unsigned_abs.result) =
    sym bits ∙ steps_counted low step high c.abs_diff.result c.unsigned_abs.result (λ e. c.requires (sym step_is ∙ e)) (tested ∙ c.if-is_empty.false) c.abs_diff.ensures c.unsigned_abs.ensures.value in
    omega (arith, many)

pub returns : goal.returns
returns c =
    let low = to_z w128 (of_z w128 c.args.low) in
    let step = to_z w128 (of_z w128 c.args.step) in
    let high = to_z w128 (of_z w128 c.args.high) in
    let step_is = to_z-of_z w128 c.args.step c.ranges.step in
    let bits : count_by low step high ≡ count_by c.args.low c.args.step c.args.high = of_three_bits count_by c.args.low c.args.step c.args.high (to_z-of_z w128 c.args.low c.ranges.low) step_is (to_z-of_z w128 c.args.high c.ranges.high) in
    let tested : is_empty_range low step high ≡ c.if-step-gt0.is_empty = elim c.if-step-gt0.branch [
      | then-step-gt0 w ↦ empty_up low step high c.if-step-gt0.is_empty w.if-step-gt0.true w.is_empty-is
      | else-step-gt0 w ↦ empty_down low step high c.if-step-gt0.is_empty w.if-step-gt0.false w.is_empty-is
    ] in
    let many : count_by c.args.low c.args.step c.args.high ≡ suc (c.abs_diff.result / c.unsigned_abs.result) =
    sym bits ∙ steps_counted low step high c.abs_diff.result c.unsigned_abs.result (λ e. c.requires (sym step_is ∙ e)) (tested ∙ c.if-is_empty.false) c.abs_diff.ensures c.unsigned_abs.ensures.value in
    (omega (arith, many), omega arith)
