use Rattle.std.proofs.lemmas.Result.{IfOk-weaker}
use Rattle.pi_core.specs.CoreTree.{clause_tree, pattern_tree, pattern_trees}
use Rattle.pi_rewrite_loops.specs.Helpers.{loop_of}
use Rattle.pi_rewrite_loops.proofs.WalkLemmas.{turn-is}
use Rattle.pi_rewrite_loops.proofs.elements.turn_clause.Goals as goal

pub returns : goal.returns
returns c =
    IfOk-weaker c.clause.result _ _ (λ made so p is. turn-is (loop_of c.args.l.now) p (pattern_tree c.args.element.form) c.args.element.width c.in_ok-size.size c.args.turn.items c.args.slots.now c.in_ok-body.body (pattern_trees c.in_ok-head.head.items) (clause_tree made) is.form is.width c.in_ok-size.ensures c.in_ok-body.ensures c.in_ok-head.ensures so) c.clause.ensures
