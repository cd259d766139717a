use Rattle.std.proofs.Common.{List, map, ap, ◌∙◌, Bor}
use Rattle.std.specs.Prelude.{reverse}
use Rattle.pi_terms.specs.Tree.{Tree}
use Rattle.pi_plan.specs.Plan.{plan_term}
use Rattle.pi_plan.proofs.advance.plan_of.Goals as goal

pub returns : goal.returns
returns c = λ given by_rest start whole w are at final. record {
  actions = reverse (map (λ (a : Bor Tree). a.now) c.in_ok-actions.actions.items);
  term = c.in_ok-plan.ensures ∙ ap (λ (xs : List (Bor Tree)). plan_term (reverse (map (λ (a : Bor Tree). a.now) xs))) c.deref.ensures.value;
  valid = c.in_ok-actions.ensures given by_rest start whole w are at final;
}
