use Rattle.pi_expr_phrases.proofs.TreeLemmas.{list-shown, levels-list, deep-over}
use Rattle.pi_syntax.specs.ExpTree.{list}
use Rattle.std.proofs.Common.{suc, ap, ◌∙◌}
use Rattle.pi_expr_phrases.proofs.built.terms.list.Goals as goal

pub returns-in-Kept : goal.returns-in-Kept
returns-in-Kept c = λ es h. let k = rw c.in-Kept.is at h in c.over.ensures (list es) (list-shown _ _ k.0) (levels-list es ∙ ap suc k.1)

pub returns-in-Deep : goal.returns-in-Deep
returns-in-Deep c = λ es h. deep-over _ _ (levels-list es) (rw c.in-Deep.is at h)
