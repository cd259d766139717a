use Rattle.pi_expr_phrases.proofs.TreeLemmas.{index-shown, levels-index, deep-over}
use Rattle.pi_syntax.specs.ExpTree.{index, one_exp, exp_tree}
use Rattle.std.proofs.Common.{suc, ap, ◌∙◌}
use Rattle.pi_expr_phrases.proofs.built.terms.index.Goals as goal

pub returns-in_ok-inner-in-Kept : goal.returns-in_ok-inner-in-Kept
returns-in_ok-inner-in-Kept c = λ a i h j. let k = c.in-Kept.ensures a (one_exp i) h (c.in-Ok.ensures i j) in c.over.ensures (index a (one_exp i)) (index-shown _ _ _ _ (ap exp_tree c.in_ok-inner-in-Kept.ensures.ok ∙ k.0) k.1) (levels-index a (one_exp i) ∙ ap suc k.2)

pub returns-in-Deep : goal.returns-in-Deep
returns-in-Deep c = λ a i h j. deep-over _ _ (levels-index a (one_exp i)) (c.in-Deep.ensures a (one_exp i) h (c.in-Ok.ensures i j))
