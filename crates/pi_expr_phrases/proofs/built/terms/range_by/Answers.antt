use Rattle.pi_expr_phrases.proofs.TreeLemmas.{range_by-shown, levels-range_by, deep-left, deep-right}
use Rattle.std.proofs.Common.{refl, ap, ◌∙◌}
use Rattle.pi_syntax.specs.ExpTree.{range_by, exp_tree}
use Rattle.pi_expr_phrases.proofs.built.terms.range_by.Goals as goal

pub returns-in_ok-a-in-Ok : goal.returns-in_ok-a-in-Ok
returns-in_ok-a-in-Ok c = λ x y z h i j. let k = rw c.in-Tree.is at h in let l = c.in-Kept.ensures y z i j in c.over.ensures (range_by x y z) (range_by-shown _ _ _ _ _ _ (ap exp_tree c.in_ok-a-in-Ok.ensures.ok ∙ k.0) (c.in-Ok.ensures.0 ∙ l.0) (c.in-Ok.ensures.1 ∙ l.1)) (levels-range_by x y z ∙ rw (k.1, l.2, c.max.ensures) refl)

pub returns-in-Deep-both : goal.returns-in-Deep-both
returns-in-Deep-both c = λ x y z h i j. deep-right _ _ _ (levels-range_by x y z) (c.in-Deep-both.ensures y z i j)

pub returns-in-Deep : goal.returns-in-Deep
returns-in-Deep c = λ x y z h i j. deep-left _ _ _ (levels-range_by x y z) (rw c.in-Deep.is at h)
