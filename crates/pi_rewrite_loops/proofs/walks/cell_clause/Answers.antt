use Rattle.std.proofs.lemmas.Result.{IfOk-weaker}
use Rattle.pi_core.specs.CoreTree.{clause_tree, pattern_trees}
use Rattle.pi_rewrite_loops.specs.Helpers.{loop_of}
use Rattle.pi_rewrite_loops.proofs.WalkLemmas.{cell-is}
use Rattle.pi_rewrite_loops.proofs.walks.cell_clause.Goals as goal

pub returns : goal.returns
returns c =
    IfOk-weaker c.clause.result _ _ (λ made so. cell-is (loop_of c.args.l.now) c.args.turn.now c.in_ok-slots.slots c.in_ok-body.body (pattern_trees c.in_ok-head.head.items) (clause_tree made) c.in_ok-slots.ensures c.in_ok-body.ensures c.in_ok-head.ensures so) c.clause.ensures
