use Rattle.std.proofs.Common.{◌≡◌, ap, sym, ◌∙◌}
use Rattle.std.specs.Bool.{Decides}
use Rattle.std.specs.Prelude.{◌&&◌}
use Rattle.std.specs.Ordering.{int_eq}
use Rattle.std.proofs.lemmas.Bool.Decides.{Decides-int_eq, Decides-and, Decides-like}
use Rattle.std.proofs.lemmas.Slice.Eq.{slice_eq-Decides}
use Rattle.pi_constraints.specs.declared.domain.Span.{Span}
use Rattle.pi_store.proofs.since.is_same.Goals as goal

same_ends : (a b : Span) → (a.lo ≡ b.lo) × (a.hi ≡ b.hi) → a ≡ b
same_ends a b h = ap (λ lo. record { lo = lo; hi = a.hi }) h.0 ∙ ap (λ hi. record { lo = b.lo; hi = hi }) h.1

span_decides : (a b : Span) → Decides (int_eq a.lo b.lo && int_eq a.hi b.hi) (a ≡ b)
span_decides a b = Decides-like (int_eq a.lo b.lo && int_eq a.hi b.hi) (same_ends a b) (λ e. (ap (λ s. s.lo) e, ap (λ s. s.hi) e))
    (Decides-and (int_eq a.lo b.lo) (int_eq a.hi b.hi) (Decides-int_eq a.lo b.lo) (Decides-int_eq a.hi b.hi))

pub returns : goal.returns
returns c =
    let d : Decides c.eq.result (c.spans.result.now ≡ c.spans-2.result.now) = slice_eq-Decides span_decides c.spans.result.now c.spans-2.result.now c.eq.result c.eq.ensures in
    let a = c.spans.ensures.all in
    let b = c.spans-2.ensures.all in
    (λ h. sym a ∙ (d.0 h ∙ b), λ e. d.1 (a ∙ (e ∙ sym b)))
