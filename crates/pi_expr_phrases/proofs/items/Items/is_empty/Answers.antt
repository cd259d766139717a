use Rattle.pi_expr_phrases.proofs.TreeLemmas.{empty_is, deep_is_not_none}
use Rattle.std.proofs.Common.{◌∙◌}
use Rattle.pi_expr_phrases.proofs.items.Items.is_empty.Goals as goal

pub returns-in-Kept : goal.returns-in-Kept
returns-in-Kept c = λ es h. let k = rw c.in-Kept.is at h in c.is_empty.ensures ∙ empty_is _ _ es c.in-Kept.exps.ok.0 k.0

pub returns-in-Deep : goal.returns-in-Deep
returns-in-Deep c = λ es h. deep_is_not_none es (rw c.in-Deep.is at h)
