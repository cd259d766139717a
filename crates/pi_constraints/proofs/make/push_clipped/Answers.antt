use Rattle.std.proofs.Common.{arith, ◌≡◌, List, ◌++◌, ap, ap₂, subst, sym, ◌∙◌, to_z, of_z, w64}
use Rattle.std.specs.Prelude.{ℤ, ◌≤ℤ◌, ◌<ℤ◌}
use Rattle.std.proofs.lemmas.Int.{ints, clamps, to_z-of_z}
use Rattle.std.proofs.lemmas.List.{append-nil}
use Rattle.std.specs.Int.{int_max, int_min, w128}
use Rattle.pi_constraints.specs.declared.domain.Span.{Span}
use Rattle.pi_constraints.specs.Domain.{IsWithinBounds}
use Rattle.pi_constraints.proofs.MeetLemmas.{overlap-some, overlap-none}
use Rattle.pi_constraints.proofs.ClipLemmas.{whole}
use Rattle.std.proofs.lemmas.Result.{IfOk-from_err}
use Rattle.pi_constraints.proofs.make.push_clipped.Goals as goal

within : (lo hi : ℤ) → int_max lo whole.lo ≤ℤ int_min hi whole.hi → IsWithinBounds (int_max lo whole.lo) × IsWithinBounds (int_min hi whole.hi)
within lo hi le = ((omega (arith, ints, clamps), omega (arith, ints, clamps)), (omega (arith, ints, clamps), omega (arith, ints, clamps)))

in_64_bits : (n wide narrow : ℤ) → IsWithinBounds n → wide ≡ n → narrow ≡ to_z w128 (of_z w128 wide) → to_z w64 (of_z w64 narrow) ≡ n
in_64_bits n wide narrow h is same = omega (arith, ints, h.0, h.1)

pub returns-in_ok-push : goal.returns-in_ok-push
returns-in_ok-push c =
    let lo : c.max-lo.result ≡ int_max c.args.lo whole.lo = c.max-lo.ensures.value ∙ ap₂ int_max (to_z-of_z w128 c.args.lo c.ranges.lo) (ap (λ x. to_z w128 (of_z w128 x)) c.from.ensures) in
    let hi : c.min-hi.result ≡ int_min c.args.hi whole.hi = c.min-hi.ensures.value ∙ ap₂ int_min (to_z-of_z w128 c.args.hi c.ranges.hi) (ap (λ x. to_z w128 (of_z w128 x)) c.from-2.ensures) in
    let le : c.max-lo.result ≤ℤ c.min-hi.result = grind (arith, ints, c.if-lo-hi.true) in
    let both = within c.args.lo c.args.hi (subst (λ (l : ℤ). l ≤ℤ int_min c.args.hi whole.hi) lo (subst (λ (h : ℤ). c.max-lo.result ≤ℤ h) hi le)) in
    let lo64 : to_z w64 (of_z w64 c.narrowed-lo.result) ≡ int_max c.args.lo whole.lo = in_64_bits _ c.max-lo.result c.narrowed-lo.result both.0 lo c.narrowed-lo.ensures in
    let hi64 : to_z w64 (of_z w64 c.narrowed-hi.result) ≡ int_min c.args.hi whole.hi = in_64_bits _ c.min-hi.result c.narrowed-hi.result both.1 hi c.narrowed-hi.ensures in
    record { ok = c.in_ok-push.ensures.items ∙ ap (λ (x : List Span). c.args.spans.now.items ++ x) (overlap-some (record { lo = c.args.lo; hi = c.args.hi }) whole _ _ lo64 hi64 (omega (arith, ints))) }

pub returns-else-lo-hi : goal.returns-else-lo-hi
returns-else-lo-hi c =
    let lo : c.max-lo.result ≡ int_max c.args.lo whole.lo = c.max-lo.ensures.value ∙ ap₂ int_max (to_z-of_z w128 c.args.lo c.ranges.lo) (ap (λ x. to_z w128 (of_z w128 x)) c.from.ensures) in
    let hi : c.min-hi.result ≡ int_min c.args.hi whole.hi = c.min-hi.ensures.value ∙ ap₂ int_min (to_z-of_z w128 c.args.hi c.ranges.hi) (ap (λ x. to_z w128 (of_z w128 x)) c.from-2.ensures) in
    let lt : c.min-hi.result <ℤ c.max-lo.result = grind (arith, ints, c.if-lo-hi.false) in
    record { ok = sym (append-nil c.args.spans.now.items) ∙ ap (λ (x : List Span). c.args.spans.now.items ++ x) (overlap-none (record { lo = c.args.lo; hi = c.args.hi }) whole _ _ lo hi lt) }

pub returns-in_err-push : goal.returns-in_err-push
returns-in_err-push c = record { ok = IfOk-from_err c.from_residual.result _ c.from_residual.ensures.0 }
