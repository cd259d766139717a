use Rattle.std.specs.Prelude.{◌≡◌}
use Rattle.std.specs.Int.{w128}
use Rattle.std.proofs.Common.{rules, ◌∙◌, to_z, of_z}
use Rattle.pi_prop_made.proofs.SumLemmas.{sum_at, added_step}
use Rattle.pi_prop_made.proofs.sum.JoinedSum.add.Goals as goal

pub returns : goal.returns
returns c =
    let own : to_z w128 (of_z w128 c.self.inside.constant) ≡ c.self.inside.constant = search rules in
    let others : to_z w128 (of_z w128 c.other.inside.constant) ≡ c.other.inside.constant = search rules in
    added_step c.self.inside.terms c.other.inside.terms (to_z w128 (of_z w128 c.self.inside.constant)) (to_z w128 (of_z w128 c.other.inside.constant)) c.args.self c.args.other c.add.result c.checked_add-constant.result c.step.result
    ((λ i. sum_at c.self.inside.terms (own i)) ∙ c.self.view_is) ((λ i. sum_at c.other.inside.terms (others i)) ∙ c.other.view_is) c.self.invariant.0 c.other.invariant.0 c.add.ensures c.checked_add-constant.ensures c.step.ensures
