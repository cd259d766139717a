use Rattle.std.proofs.lemmas.Result.{IfOk-weaker}
use Rattle.pi_core.specs.CoreTree.{pred_tree}
use Rattle.pi_rewrite_loops.specs.Helpers.{loop_of}
use Rattle.pi_rewrite_loops.proofs.ArrayLemmas.{element-is}
use Rattle.pi_rewrite_loops.proofs.walks.element_helper.Goals as goal

pub returns : goal.returns
returns c =
    IfOk-weaker c.helper.result _ _ (λ made so. element-is (loop_of c.args.l.now) c.args.turn.now c.as_str.result.now c.in_ok-count.count c.in_ok-cell.cell c.in_ok-nil.nil c.in_ok-array.array c.new-clauses.result.items c.push.new.self.items c.push-2.new.self.items c.push-3.new.self.items (pred_tree made) c.in_ok-cell.ensures c.in_ok-nil.ensures c.in_ok-array.ensures c.new-clauses.ensures.items c.in_ok-push.ensures.items c.in_ok-push-2.ensures.items c.in_ok-push-3.ensures.items c.in_ok-count.ensures c.as_str.ensures so) c.helper.ensures
