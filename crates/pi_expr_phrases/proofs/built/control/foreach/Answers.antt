use Rattle.pi_expr_phrases.proofs.TreeLemmas.{foreach-shown, levels-foreach, deep-over}
use Rattle.pi_syntax.specs.ExpTree.{foreach, exp_tree}
use Rattle.std.proofs.Common.{suc, ap, ◌∙◌}
use Rattle.pi_expr_phrases.proofs.built.control.foreach.Goals as goal

pub returns-in_ok-inner-in-Kept : goal.returns-in_ok-inner-in-Kept
returns-in_ok-inner-in-Kept c = λ es a i h. let k = c.in-Kept.ensures a es h i in c.over.ensures (foreach es a) (foreach-shown _ _ _ _ (ap exp_tree c.in_ok-inner-in-Kept.ensures.ok ∙ k.0) k.1) (levels-foreach a es ∙ ap suc k.2)

pub returns-in-Deep : goal.returns-in-Deep
returns-in-Deep c = λ es a i h. deep-over _ _ (levels-foreach a es) (c.in-Deep.ensures a es h i)
