use Rattle.pi_expr_phrases.proofs.TreeLemmas.{choices_with-shown, choices_with-deep_last}
use Rattle.pi_expr_phrases.proofs.choices.Choices.kept.Goals as goal

pub returns-in_ok-push-in-Kept : goal.returns-in_ok-push-in-Kept
returns-in_ok-push-in-Kept c = λ bs a b hs h i. choices_with-shown _ _ _ _ _ _ _ c.in_ok-push-in-Kept.ensures.items c.max.ensures bs a b hs (c.in-Kept.ensures a b h i)

pub returns-in-Deep : goal.returns-in-Deep
returns-in-Deep c = λ bs a b hs h i. choices_with-deep_last bs a b (c.in-Deep.ensures a b h i)
