use Rattle.std.proofs.Common.{rules, arith, ◌≡◌, List, ◌++◌, ap, ap₂, sym, ◌∙◌, to_z, of_z, w64}
use Rattle.std.specs.Prelude.{ℤ, FitsSigned}
use Rattle.std.proofs.lemmas.Int.{ints, clamps, to_z-of_z}
use Rattle.std.proofs.lemmas.List.{append-nil}
use Rattle.std.specs.Int.{int_max, int_min}
use Rattle.pi_constraints.specs.declared.domain.Span.{Span}
use Rattle.pi_constraints.proofs.MeetLemmas.{overlap-some, overlap-none}
use Rattle.std.proofs.lemmas.Result.{IfOk-from_err}
use Rattle.pi_constraints.proofs.meets.push_overlap.Goals as goal

fits_max : (m n : ℤ) → FitsSigned w64 m → FitsSigned w64 n → to_z w64 (of_z w64 (int_max m n)) ≡ int_max m n
fits_max m n f g = omega (arith, ints, clamps)

fits_min : (m n : ℤ) → FitsSigned w64 m → FitsSigned w64 n → to_z w64 (of_z w64 (int_min m n)) ≡ int_min m n
fits_min m n f g = omega (arith, ints, clamps)

pub returns-in_ok-push : goal.returns-in_ok-push
returns-in_ok-push c =
    let al : FitsSigned w64 c.args.a.lo = search rules in
    let ah : FitsSigned w64 c.args.a.hi = search rules in
    let bl : FitsSigned w64 c.args.b.lo = search rules in
    let bh : FitsSigned w64 c.args.b.hi = search rules in
    let lo : to_z w64 (of_z w64 c.max-lo.result) ≡ int_max c.args.a.lo c.args.b.lo =
    ap (λ x. to_z w64 (of_z w64 x)) (c.max-lo.ensures.value ∙ ap₂ int_max (to_z-of_z w64 c.args.a.lo al) (to_z-of_z w64 c.args.b.lo bl)) ∙ fits_max c.args.a.lo c.args.b.lo al bl in
    let hi : to_z w64 (of_z w64 c.min-hi.result) ≡ int_min c.args.a.hi c.args.b.hi =
    ap (λ x. to_z w64 (of_z w64 x)) (c.min-hi.ensures.value ∙ ap₂ int_min (to_z-of_z w64 c.args.a.hi ah) (to_z-of_z w64 c.args.b.hi bh)) ∙ fits_min c.args.a.hi c.args.b.hi ah bh in
    record { ok = c.in_ok-push.ensures.items ∙ ap (λ (x : List Span). c.args.spans.now.items ++ x) (overlap-some c.args.a c.args.b _ _ lo hi (grind (arith, ints, c.if-lo-hi.true))) }

pub returns-else-lo-hi : goal.returns-else-lo-hi
returns-else-lo-hi c =
    let al : FitsSigned w64 c.args.a.lo = search rules in
    let ah : FitsSigned w64 c.args.a.hi = search rules in
    let bl : FitsSigned w64 c.args.b.lo = search rules in
    let bh : FitsSigned w64 c.args.b.hi = search rules in
    let lo : to_z w64 (of_z w64 c.max-lo.result) ≡ int_max c.args.a.lo c.args.b.lo =
    ap (λ x. to_z w64 (of_z w64 x)) (c.max-lo.ensures.value ∙ ap₂ int_max (to_z-of_z w64 c.args.a.lo al) (to_z-of_z w64 c.args.b.lo bl)) ∙ fits_max c.args.a.lo c.args.b.lo al bl in
    let hi : to_z w64 (of_z w64 c.min-hi.result) ≡ int_min c.args.a.hi c.args.b.hi =
    ap (λ x. to_z w64 (of_z w64 x)) (c.min-hi.ensures.value ∙ ap₂ int_min (to_z-of_z w64 c.args.a.hi ah) (to_z-of_z w64 c.args.b.hi bh)) ∙ fits_min c.args.a.hi c.args.b.hi ah bh in
    record { ok = sym (append-nil c.args.spans.now.items) ∙ ap (λ (x : List Span). c.args.spans.now.items ++ x) (overlap-none c.args.a c.args.b _ _ lo hi (grind (arith, ints, c.if-lo-hi.false))) }

pub returns-in_err-push : goal.returns-in_err-push
returns-in_err-push c = record { ok = IfOk-from_err c.from_residual.result _ c.from_residual.ensures.0 }
