use Rattle.std.proofs.Common.{◌≡◌, ◌∙◌, ap, rules}
use Rattle.std.proofs.lemmas.Result.{IfOk-weaker}
use Rattle.pi_core.specs.GoalTree.{call}
use Rattle.pi_meaning.specs.Machine.NamedGoals.{catch_of_slots, call_of_slots}
use Rattle.pi_meaning.proofs.OverNames.NameLemmas.{catch-goal, call-goal, plain-goal}
use Rattle.pi_meaning.proofs.named_goals.goal_by_name.Goals as goal

pub returns-then-is_catch : goal.returns-then-is_catch
returns-then-is_catch c =
    IfOk-weaker c.catch_of_slots.result (λ made. made ≡ catch_of_slots) _ (λ made is preds g e. is ∙ catch-goal preds c.args.name.now c.args.arity g (search rules) e) c.catch_of_slots.ensures

pub returns-then-is_call : goal.returns-then-is_call
returns-then-is_call c =
    IfOk-weaker c.call_of_slots.result (λ made. made ≡ call_of_slots c.args.arity) _ (λ made is preds g e. is ∙ call-goal preds c.args.name.now c.args.arity g (search rules) (search rules) e) c.call_of_slots.ensures

pub returns : goal.returns
returns c =
    IfOk-weaker c.call.result (λ made. made ≡ call c.args.name.now c.deref.result.now) _
    (λ made is preds g e. is ∙ ap (call c.args.name.now) (search rules) ∙ plain-goal preds c.args.name.now c.args.arity g (search rules) (search rules) e) c.call.ensures.ok
