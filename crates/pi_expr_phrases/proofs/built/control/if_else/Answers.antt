use Rattle.pi_expr_phrases.proofs.TreeLemmas.{if_else-shown, levels-if_else, deep-left, deep-right}
use Rattle.std.proofs.Common.{refl, ap, ◌∙◌}
use Rattle.pi_syntax.specs.ExpTree.{if_else, exp_tree}
use Rattle.pi_expr_phrases.proofs.built.control.if_else.Goals as goal

pub returns-in_ok-inner-in-Tree : goal.returns-in_ok-inner-in-Tree
returns-in_ok-inner-in-Tree c = λ bs a h i. let k = rw c.in-Kept.is at h in let j = rw c.in-Tree.is at i in c.over.ensures (if_else bs a) (if_else-shown _ _ _ _ k.0 (ap exp_tree c.in_ok-inner-in-Tree.ensures.ok ∙ j.0)) (levels-if_else bs a ∙ rw (k.1, j.1, c.max.ensures) refl)

pub returns-in-Deep-last : goal.returns-in-Deep-last
returns-in-Deep-last c = λ bs a h i. deep-right _ _ _ (levels-if_else bs a) (rw c.in-Deep-last.is at i)

pub returns-in-Deep : goal.returns-in-Deep
returns-in-Deep c = λ bs a h i. deep-left _ _ _ (levels-if_else bs a) (rw c.in-Deep.is at h)
