use Rattle.std.proofs.lemmas.Result.{IfOk-weaker}
use Rattle.pi_core.specs.CoreTree.{pattern_tree, pattern_trees}
use Rattle.pi_rewrite_loops.specs.Helpers.{loop_of}
use Rattle.pi_rewrite_loops.proofs.WalkLemmas.{fewer-head}
use Rattle.pi_rewrite_loops.proofs.walks.nil_head.Goals as goal

pub returns : goal.returns
returns c =
    IfOk-weaker c.head_with.result _ _ (λ made so. fewer-head (loop_of c.args.l.now) (pattern_tree c.in_ok-nil.nil) _ 0 c.in_ok-count.count c.saturating_sub.result (pattern_trees made.items) c.in_ok-count.ensures c.saturating_sub.ensures c.in_ok-nil.ensures so) c.head_with.ensures
