use Rattle.pi_expr_phrases.proofs.TreeLemmas.{while_do-shown, levels-while_do, deep-over}
use Rattle.pi_syntax.specs.ExpTree.{while_do}
use Rattle.std.proofs.Common.{suc, ap, ◌∙◌}
use Rattle.pi_expr_phrases.proofs.built.control.while_do.Goals as goal

pub returns-in_ok-boxes-in-Kept : goal.returns-in_ok-boxes-in-Kept
returns-in_ok-boxes-in-Kept c = λ a b h i. let k = c.in-Kept.ensures a b h i in c.over.ensures (while_do a b) (while_do-shown _ _ _ _ (c.in_ok-boxes-in-Kept.ensures.0 ∙ k.0) (c.in_ok-boxes-in-Kept.ensures.1 ∙ k.1)) (levels-while_do a b ∙ ap suc k.2)

pub returns-in-Deep : goal.returns-in-Deep
returns-in-Deep c = λ a b h i. deep-over _ _ (levels-while_do a b) (c.in-Deep.ensures a b h i)
