use Rattle.pi_expr_phrases.proofs.TreeLemmas.{list_onto-shown, levels-list_onto, deep-over}
use Rattle.pi_syntax.specs.ExpTree.{list_onto, exp_tree}
use Rattle.std.proofs.Common.{suc, ap, ◌∙◌}
use Rattle.pi_expr_phrases.proofs.built.terms.list_onto.Goals as goal

pub returns-in_ok-inner-in-Kept : goal.returns-in_ok-inner-in-Kept
returns-in_ok-inner-in-Kept c = λ es a i h. let k = c.in-Kept.ensures a es h i in c.over.ensures (list_onto es a) (list_onto-shown _ _ _ _ (ap exp_tree c.in_ok-inner-in-Kept.ensures.ok ∙ k.0) k.1) (levels-list_onto a es ∙ ap suc k.2)

pub returns-in-Deep : goal.returns-in-Deep
returns-in-Deep c = λ es a i h. deep-over _ _ (levels-list_onto a es) (c.in-Deep.ensures a es h i)
