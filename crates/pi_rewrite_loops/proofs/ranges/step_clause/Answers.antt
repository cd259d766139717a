use Rattle.std.proofs.lemmas.Result.{IfOk-weaker}
use Rattle.pi_core.specs.CoreTree.{clause_tree, pattern_tree, pattern_trees}
use Rattle.pi_rewrite_loops.specs.Helpers.{loop_of}
use Rattle.pi_rewrite_loops.proofs.StepLemmas.{step-clause}
use Rattle.pi_rewrite_loops.proofs.ranges.step_clause.Goals as goal

pub returns : goal.returns
returns c =
    IfOk-weaker c.clause.result _ _ (λ made so p is. step-clause (loop_of c.args.l.now) c.args.name.now p (pattern_tree c.args.element.form) c.args.element.width c.in_ok-free.free c.in_ok-size.size c.args.turn.items c.args.slots.now c.in_ok-body.body (pattern_trees c.in_ok-head.head.items) (clause_tree made) is.form is.width c.in_ok-free.ensures c.in_ok-size.ensures c.in_ok-body.ensures c.in_ok-head.ensures so) c.clause.ensures
