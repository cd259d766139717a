use Rattle.pi_expr_phrases.proofs.TreeLemmas.{do_while-shown, levels-do_while, deep-over}
use Rattle.pi_syntax.specs.ExpTree.{do_while}
use Rattle.std.proofs.Common.{suc, ap, ◌∙◌}
use Rattle.pi_expr_phrases.proofs.built.control.do_while.Goals as goal

pub returns-in_ok-boxes-in-Kept : goal.returns-in_ok-boxes-in-Kept
returns-in_ok-boxes-in-Kept c = λ a b h i. let k = c.in-Kept.ensures a b h i in c.over.ensures (do_while a b) (do_while-shown _ _ _ _ (c.in_ok-boxes-in-Kept.ensures.0 ∙ k.0) (c.in_ok-boxes-in-Kept.ensures.1 ∙ k.1)) (levels-do_while a b ∙ ap suc k.2)

pub returns-in-Deep : goal.returns-in-Deep
returns-in-Deep c = λ a b h i. deep-over _ _ (levels-do_while a b) (c.in-Deep.ensures a b h i)
