use Rattle.std.proofs.Common.{Some, ◌∙◌, ap}
use Rattle.std.proofs.lemmas.Result.{IfOk-weaker}
use Rattle.pi_syntax.specs.ExpLists.{exps_of}
use Rattle.pi_syntax.specs.ExpTree.{exp_tree}
use Rattle.pi_prog_clauses.specs.Items.{are_bad_events}
use Rattle.pi_prog_clauses.proofs.restrictions.ArrowLemmas.{action_events}
use Rattle.pi_prog_clauses.proofs.restrictions.has_bad_action.Goals as goal

pub returns : goal.returns
returns c =
    IfOk-weaker c.has_bad_events.result _ _
    (λ made so. so ∙ ap (λ xs. are_bad_events (exp_tree c.args.rule.now.head) (Some (exps_of xs))) c.events.ensures ∙ action_events _ _ _ c.if-not-has_events.false c.if-is_open.false) c.has_bad_events.ensures
