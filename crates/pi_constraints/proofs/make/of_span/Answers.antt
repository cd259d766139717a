use Rattle.std.proofs.Common.{rules, ◌≡◌, ap, ◌∙◌, subst, to_z, of_z}
use Rattle.std.specs.Prelude.{ℤ, int_le, ◌&&◌, ◌≤ℤ◌}
use Rattle.std.specs.Int.{w128}
use Rattle.std.proofs.lemmas.Int.{to_z-of_z}
use Rattle.pi_constraints.specs.Domain.{IsWithinBounds}
use Rattle.pi_constraints.proofs.ClipLemmas.{has_value-span}
use Rattle.pi_constraints.proofs.FaultLemmas.{no_memory, made, no_span_too_wide}
use Rattle.std.proofs.lemmas.Result.{IfOk-from_err}
use Rattle.pi_constraints.proofs.make.of_span.Goals as goal

within_ends : (x y lo hi : ℤ) → x ≡ lo → y ≡ hi → (x ≤ℤ y → IsWithinBounds x × IsWithinBounds y) → lo ≤ℤ hi → IsWithinBounds lo × IsWithinBounds hi
within_ends x y lo hi first second h =
    subst (λ (l : ℤ). l ≤ℤ hi → IsWithinBounds l × IsWithinBounds hi) first (subst (λ (g : ℤ). x ≤ℤ g → IsWithinBounds x × IsWithinBounds g) second h)

pub returns-clause-values : goal.returns-clause-values
returns-clause-values c =
    let lo : to_z w128 (of_z w128 c.args.lo) ≡ c.args.lo = to_z-of_z w128 c.args.lo c.ranges.lo in
    let hi : to_z w128 (of_z w128 c.args.hi) ≡ c.args.hi = to_z-of_z w128 c.args.hi c.ranges.hi in
    has_value-span c.in_ok-clipped.field-0 c.args.lo c.args.hi c.in_ok-clipped.ensures.domain
    (λ n h. c.in_ok-clipped.ensures.values n h ∙ (ap (λ (x : ℤ). int_le x n && int_le n (to_z w128 (of_z w128 c.args.hi))) lo ∙ ap (λ (x : ℤ). int_le c.args.lo n && int_le n x) hi)) (within_ends _ _ c.args.lo c.args.hi lo hi (c.is_span_within_bounds.ensures.0 (search rules)))

pub returns-then-not-is_span_within_bounds-clause-values : goal.returns-then-not-is_span_within_bounds-clause-values
returns-then-not-is_span_within_bounds-clause-values c = tt

pub returns-in_err-clipped-clause-values : goal.returns-in_err-clipped-clause-values
returns-in_err-clipped-clause-values c = IfOk-from_err c.from_residual.result _ c.from_residual.ensures.0

pub returns-in_err-clipped-clause-too_wide : goal.returns-in_err-clipped-clause-too_wide
returns-in_err-clipped-clause-too_wide c =
    no_span_too_wide c.from_residual.result c.args.lo c.args.hi (within_ends _ _ c.args.lo c.args.hi (to_z-of_z w128 c.args.lo c.ranges.lo) (to_z-of_z w128 c.args.hi c.ranges.hi) (c.is_span_within_bounds.ensures.0 (search rules))) (no_memory c.from_residual.result c.from_residual.ensures.1)

pub returns-clause-too_wide : goal.returns-clause-too_wide
returns-clause-too_wide c =
    no_span_too_wide _ c.args.lo c.args.hi (within_ends _ _ c.args.lo c.args.hi (to_z-of_z w128 c.args.lo c.ranges.lo) (to_z-of_z w128 c.args.hi c.ranges.hi) (c.is_span_within_bounds.ensures.0 (search rules))) (made c.in_ok-clipped.field-0)
