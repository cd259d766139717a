use Rattle.pi_expr_phrases.proofs.TreeLemmas.{choices_with-deep}
use Rattle.pi_expr_phrases.proofs.choices.Choices.with.Goals as goal

pub returns-in-Deep : goal.returns-in-Deep
returns-in-Deep c = λ bs a b hs h i. choices_with-deep bs a b (rw c.in-Deep.is at hs)
