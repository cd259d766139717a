use Rattle.std.specs.Prelude.{◌≡◌, ℤ}
use Rattle.std.specs.Int.{w128}
use Rattle.std.proofs.Common.{rules, ◌∙◌, subst, to_z, of_z}
use Rattle.pi_prop_spec.specs.PostingSums.{scaled}
use Rattle.pi_prop_made.specs.Steps.{ShowsStep}
use Rattle.pi_prop_made.proofs.SumLemmas.{sum_at, scaled_step, times_shown}
use Rattle.pi_prop_made.proofs.sum.JoinedSum.scale.Goals as goal

pub returns : goal.returns
returns c =
    let own : to_z w128 (of_z w128 c.self.inside.constant) ≡ c.self.inside.constant = search rules in
    let bits : to_z w128 (of_z w128 c.args.factor) ≡ c.args.factor = search rules in
    subst (λ (m : ℤ). ShowsStep c.step.result (scaled m c.args.self)) bits
    (scaled_step (to_z w128 (of_z w128 c.args.factor)) c.self.inside.terms (to_z w128 (of_z w128 c.self.inside.constant)) c.args.self c.scale.result c.checked_mul-constant.result c.step.result
    ((λ i. sum_at c.self.inside.terms (own i)) ∙ c.self.view_is) c.self.invariant.0 c.scale.ensures
    (times_shown c.checked_mul-constant.result (to_z w128 (of_z w128 c.args.factor)) (to_z w128 (of_z w128 c.self.inside.constant)) c.checked_mul-constant.ensures) c.step.ensures)
