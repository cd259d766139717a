use Rattle.std.proofs.Common.{◌∙◌, ◌++◌, ap, sym, map, Bool}
use Rattle.std.proofs.lemmas.Result.{IfOk-weaker}
use Rattle.pi_core.specs.CoreTree.{pred_tree}
use Rattle.pi_rewrite_loops.specs.Helpers.{loop_of, lowered, own_by}
use Rattle.pi_rewrite_loops.proofs.iterators.push_own.Goals as goal

pub returns-then-is_range : goal.returns-then-is_range
returns-then-is_range c p is =
    c.in_ok-push_steps.ensures p is ∙ ap (λ (b : Bool). map pred_tree c.args.helpers.now.items ++ own_by b c.args.name.now (loop_of c.args.l.now) p (lowered c.args.turn.items c.args.slots.now)) (sym c.if-is_range.true)

pub returns : goal.returns
returns c =
    IfOk-weaker c.push_turns.result _ _ (λ _ so p is. so p is ∙ ap (λ (b : Bool). map pred_tree c.args.helpers.now.items ++ own_by b c.args.name.now (loop_of c.args.l.now) p (lowered c.args.turn.items c.args.slots.now)) (sym c.if-is_range.false)) c.push_turns.ensures
