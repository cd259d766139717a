use Rattle.std.proofs.Common.{◌∙◌, ap}
use Rattle.std.proofs.lemmas.Result.{IfOk-weaker}
use Rattle.pi_prog_clauses.specs.Calls.{first_unknown}
use Rattle.pi_prog_clauses.proofs.goal_names.first_unknown_of_goal.Goals as goal

pub returns : goal.returns
returns c = IfOk-weaker c.unknown_among.result _ _ (λ made so. so _ c.in_ok-all.ensures ∙ ap (first_unknown _) c.in_ok-calls.ensures) c.unknown_among.ensures
