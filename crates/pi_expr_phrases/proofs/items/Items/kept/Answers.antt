use Rattle.pi_expr_phrases.proofs.TreeLemmas.{items_with-shown, items_with-deep_last}
use Rattle.pi_expr_phrases.proofs.items.Items.kept.Goals as goal

pub returns-in_ok-push_exp-in-Tree : goal.returns-in_ok-push_exp-in-Tree
returns-in_ok-push_exp-in-Tree c = λ es e hs h. items_with-shown _ _ _ _ _ _ c.in_ok-push_exp-in-Tree.ensures c.max.ensures es e hs (rw c.in-Tree.is at h)

pub returns-in-Deep : goal.returns-in-Deep
returns-in-Deep c = λ es e hs h. items_with-deep_last es e (rw c.in-Deep.is at h)
