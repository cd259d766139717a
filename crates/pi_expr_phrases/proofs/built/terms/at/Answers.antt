use Rattle.pi_expr_phrases.proofs.TreeLemmas.{at-shown, levels-at, deep-over}
use Rattle.pi_syntax.specs.ExpTree.{at, exp_tree}
use Rattle.std.proofs.Common.{suc, ap, ◌∙◌}
use Rattle.pi_expr_phrases.proofs.built.terms.at.Goals as goal

pub returns-in_ok-name-in-Tree : goal.returns-in_ok-name-in-Tree
returns-in_ok-name-in-Tree c = λ a h. let k = rw c.in-Tree.is at h in c.over.ensures (at c.args.name.now a) (at-shown _ _ _ _ c.in_ok-name-in-Tree.ensures.ok (ap exp_tree c.in_ok-inner-in-Tree.ensures.ok ∙ k.0)) (levels-at _ a ∙ ap suc k.1)

pub returns-in-Deep : goal.returns-in-Deep
returns-in-Deep c = λ a h. deep-over _ _ (levels-at _ a) (rw c.in-Deep.is at h)
