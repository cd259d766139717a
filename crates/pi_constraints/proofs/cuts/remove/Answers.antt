use Rattle.std.proofs.Common.{arith, List, ◌≡◌, ap, ◌∙◌, to_z, of_z}
use Rattle.std.specs.Prelude.{ℤ, not, ◌&&◌}
use Rattle.std.specs.Ordering.{int_eq}
use Rattle.std.specs.Int.{w128}
use Rattle.std.proofs.lemmas.Int.{ints}
use Rattle.std.proofs.lemmas.Result.{IfOk-weaker}
use Rattle.pi_constraints.specs.declared.domain.Span.{Span}
use Rattle.pi_constraints.specs.Domain.{has_value}
use Rattle.pi_constraints.proofs.ClipLemmas.{has_value-kept}
use Rattle.pi_constraints.proofs.cuts.remove.Goals as goal

pub returns : goal.returns
returns c = record {
  values =
      IfOk-weaker c.kept_values.result (λ (made : List Span). (m : ℤ) → has_value made m ≡ (has_value c.args.d.now m && has_value c.in_ok-kept.kept m)) (λ (made : List Span). (m : ℤ) → has_value made m ≡ (has_value c.args.d.now m && not (int_eq m c.args.n)))
      (λ made says m. says m ∙ has_value-kept c.args.d.now c.in_ok-kept.kept (λ m. not (int_eq m c.args.n)) c.kept_values.ensures.domain
      (λ k h. let n : to_z w128 (of_z w128 c.args.n) ≡ c.args.n = omega (arith, ints) in c.in_ok-kept.ensures.values k h ∙ ap (λ (x : ℤ). not (int_eq k x)) n) m) c.kept_values.ensures.values;
}
