use Rattle.std.proofs.lemmas.Result.{IfOk-weaker}
use Rattle.pi_core.specs.CoreTree.{clause_tree, pattern_trees}
use Rattle.pi_rewrite_loops.specs.Helpers.{loop_of}
use Rattle.pi_rewrite_loops.proofs.StepLemmas.{step-passed}
use Rattle.pi_rewrite_loops.proofs.ranges.step_passed.Goals as goal

pub returns : goal.returns
returns c =
    IfOk-weaker c.clause.result _ _ (λ made so. step-passed (loop_of c.args.l.now) c.args.name.now c.in_ok-arity.arity c.in_ok-size.size _ c.in_ok-over.over (pattern_trees c.in_ok-head.head.items) (clause_tree made) c.in_ok-arity.ensures c.in_ok-size.ensures c.in_ok-over.ensures c.in_ok-head.ensures so) c.clause.ensures
