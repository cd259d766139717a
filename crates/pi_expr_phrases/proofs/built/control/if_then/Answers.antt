use Rattle.pi_expr_phrases.proofs.TreeLemmas.{if_then-shown, levels-if_then, deep-over}
use Rattle.pi_syntax.specs.ExpTree.{if_then}
use Rattle.std.proofs.Common.{suc, ap, ◌∙◌}
use Rattle.pi_expr_phrases.proofs.built.control.if_then.Goals as goal

pub returns-in-Kept : goal.returns-in-Kept
returns-in-Kept c = λ bs h. let k = rw c.in-Kept.is at h in c.over.ensures (if_then bs) (if_then-shown _ _ k.0) (levels-if_then bs ∙ ap suc k.1)

pub returns-in-Deep : goal.returns-in-Deep
returns-in-Deep c = λ bs h. deep-over _ _ (levels-if_then bs) (rw c.in-Deep.is at h)
