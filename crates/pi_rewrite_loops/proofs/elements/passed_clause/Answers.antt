use Rattle.std.proofs.lemmas.Result.{IfOk-weaker}
use Rattle.pi_core.specs.CoreTree.{clause_tree, pattern_trees}
use Rattle.pi_rewrite_loops.proofs.WalkLemmas.{passed-is}
use Rattle.pi_rewrite_loops.proofs.elements.passed_clause.Goals as goal

pub returns : goal.returns
returns c =
    IfOk-weaker c.clause.result _ _ (λ made so. passed-is c.in_ok-arity.arity _ _ c.in_ok-over.over (pattern_trees c.in_ok-head.head.items) (clause_tree made) c.in_ok-arity.ensures c.in_ok-over.ensures c.in_ok-head.ensures so) c.clause.ensures
