use Rattle.std.proofs.lemmas.Result.{IfOk-weaker}
use Rattle.pi_core.specs.CoreTree.{clause_tree, pred_tree}
use Rattle.pi_rewrite_loops.proofs.ClauseLemmas.{both-clauses}
use Rattle.pi_rewrite_loops.proofs.elements.turn_helper.Goals as goal

pub returns : goal.returns
returns c =
    IfOk-weaker c.matching_helper.result _ _ (λ made so p is. both-clauses (pred_tree made) c.args.name.now _ (clause_tree c.in_ok-matched.matched) (clause_tree c.in_ok-passed.passed) _ _ (c.in_ok-matched.ensures p is) c.in_ok-passed.ensures so) c.matching_helper.ensures
