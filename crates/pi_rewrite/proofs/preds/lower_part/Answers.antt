-- The clause and the helpers of what stands in a box.
use Rattle.std.proofs.Common.{Some, map, ap, ◌∙◌}
use Rattle.std.proofs.lemmas.Result.{IfOk-weaker}
use Rattle.pi_core.specs.CoreTree.{pred_tree}
use Rattle.pi_rewrite_sites.specs.OwnNames.{own_name}
use Rattle.pi_rewrite.proofs.GroupLemmas.{rule-adds, function-adds, rule-helps, function-helps}
use Rattle.pi_rewrite.proofs.preds.lower_part.Goals as goal

pub returns-in-Some-Rule-clause-preds : goal.returns-in-Some-Rule-clause-preds
returns-in-Some-Rule-clause-preds c =
    IfOk-weaker c.add_rule.result _ _
    (λ made so. rule-adds (own_name c.args.from.naming.now.prefix) c.args.from.count c.args.part.now c.in-Some-Rule.rule _ (map pred_tree c.args.preds.now.items) _ (c.in-Some-Rule.is ∙ ap Some (rw c.in-Some-Rule.is at c.in-Some-Rule.field-0-is)) c.deref.ensures so) c.add_rule.ensures.preds

pub returns-in-Some-Rule-clause-helpers : goal.returns-in-Some-Rule-clause-helpers
returns-in-Some-Rule-clause-helpers c =
    IfOk-weaker c.add_rule.result _ _
    (λ made so. rule-helps (own_name c.args.from.naming.now.prefix) c.args.from.count c.args.part.now c.in-Some-Rule.rule _ (map pred_tree c.args.helpers.now.items) _ (c.in-Some-Rule.is ∙ ap Some (rw c.in-Some-Rule.is at c.in-Some-Rule.field-0-is)) c.deref.ensures so) c.add_rule.ensures.helpers

pub returns-in-Some-Function-clause-preds : goal.returns-in-Some-Function-clause-preds
returns-in-Some-Function-clause-preds c =
    IfOk-weaker c.add_function.result _ _
    (λ made so. function-adds (own_name c.args.from.naming.now.prefix) c.args.from.count c.args.part.now c.in-Some-Function.function _ (map pred_tree c.args.preds.now.items) _ (c.in-Some-Function.is ∙ ap Some (rw c.in-Some-Function.is at c.in-Some-Function.field-0-is)) c.deref-in-Some-Function.ensures so) c.add_function.ensures.preds

pub returns-in-Some-Function-clause-helpers : goal.returns-in-Some-Function-clause-helpers
returns-in-Some-Function-clause-helpers c =
    IfOk-weaker c.add_function.result _ _
    (λ made so. function-helps (own_name c.args.from.naming.now.prefix) c.args.from.count c.args.part.now c.in-Some-Function.function _ (map pred_tree c.args.helpers.now.items) _ (c.in-Some-Function.is ∙ ap Some (rw c.in-Some-Function.is at c.in-Some-Function.field-0-is)) c.deref-in-Some-Function.ensures so) c.add_function.ensures.helpers
