use Rattle.pi_expr_phrases.proofs.TreeLemmas.{items_with-deep}
use Rattle.pi_expr_phrases.proofs.items.Items.with.Goals as goal

pub returns-in-Deep : goal.returns-in-Deep
returns-in-Deep c = λ es e hs h. items_with-deep es e (rw c.in-Deep.is at hs)
