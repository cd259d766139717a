use Rattle.std.specs.Prelude.{◌≡◌, Ok, negsuc}
use Rattle.std.specs.Int.{w128}
use Rattle.std.proofs.Common.{rules, ◌∙◌, to_z, of_z}
use Rattle.pi_prop_made.proofs.SumLemmas.{sum_at, scaled_step, opposite_shown}
use Rattle.pi_prop_made.proofs.sum.JoinedSum.negate.Goals as goal

pub returns : goal.returns
returns c =
    let own : to_z w128 (of_z w128 c.self.inside.constant) ≡ c.self.inside.constant = search rules in
    scaled_step (negsuc 0) c.self.inside.terms (to_z w128 (of_z w128 c.self.inside.constant)) c.args.self (Ok c.negate.new.self) c.checked_neg-constant.result c.step.result
    ((λ i. sum_at c.self.inside.terms (own i)) ∙ c.self.view_is) c.self.invariant.0 c.negate.ensures
    (opposite_shown c.checked_neg-constant.result (to_z w128 (of_z w128 c.self.inside.constant)) c.checked_neg-constant.ensures) c.step.ensures
