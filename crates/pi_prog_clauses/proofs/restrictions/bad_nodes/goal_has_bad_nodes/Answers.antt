use Rattle.std.proofs.Common.{◌∙◌, ap, sym}
use Rattle.std.proofs.lemmas.Result.{IfOk-weaker}
use Rattle.std.specs.List.{list_any}
use Rattle.pi_prog_clauses.specs.Form.{is_bad_node}
use Rattle.pi_prog_clauses.proofs.nodes.FormLemmas.{bad_nodes}
use Rattle.pi_prog_clauses.proofs.restrictions.bad_nodes.goal_has_bad_nodes.Goals as goal

pub returns : goal.returns
returns c = IfOk-weaker c.any_is_bad.result _ _ (λ made so. so ∙ ap (list_any is_bad_node) c.in_ok-walk.ensures ∙ sym (bad_nodes _)) c.any_is_bad.ensures
