use Rattle.pi_expr_phrases.proofs.TreeLemmas.{array-shown, levels-array, deep-over}
use Rattle.pi_syntax.specs.ExpTree.{array}
use Rattle.std.proofs.Common.{suc, ap, ◌∙◌}
use Rattle.pi_expr_phrases.proofs.built.terms.array.Goals as goal

pub returns-in-Kept : goal.returns-in-Kept
returns-in-Kept c = λ es h. let k = rw c.in-Kept.is at h in c.over.ensures (array es) (array-shown _ _ k.0) (levels-array es ∙ ap suc k.1)

pub returns-in-Deep : goal.returns-in-Deep
returns-in-Deep c = λ es h. deep-over _ _ (levels-array es) (rw c.in-Deep.is at h)
