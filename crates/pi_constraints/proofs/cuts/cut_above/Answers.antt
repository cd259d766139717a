use Rattle.std.proofs.Common.{arith, List, ◌≡◌, ◌∙◌}
use Rattle.std.specs.Prelude.{ℤ, int_le, ◌&&◌}
use Rattle.std.proofs.lemmas.Int.{ints}
use Rattle.std.proofs.lemmas.Result.{IfOk-weaker}
use Rattle.pi_constraints.specs.declared.domain.Span.{Span}
use Rattle.pi_constraints.specs.Domain.{has_value}
use Rattle.pi_constraints.proofs.ClipLemmas.{has_value-kept, high_part}
use Rattle.pi_constraints.proofs.cuts.cut_above.Goals as goal

pub returns : goal.returns
returns c = record {
  values =
      IfOk-weaker c.kept_values.result (λ (made : List Span). (m : ℤ) → has_value made m ≡ (has_value c.args.d.now m && has_value c.in_ok-kept.kept m)) (λ (made : List Span). (m : ℤ) → has_value made m ≡ (has_value c.args.d.now m && int_le m c.args.n))
      (λ made says m. says m ∙ has_value-kept c.args.d.now c.in_ok-kept.kept (λ m. int_le m c.args.n) c.kept_values.ensures.domain
      (λ k h. high_part (has_value c.in_ok-kept.kept k) c.args.n k _ _ h (c.in_ok-kept.ensures.values k h) (omega (arith, ints)) (omega (arith, ints))) m) c.kept_values.ensures.values;
}
