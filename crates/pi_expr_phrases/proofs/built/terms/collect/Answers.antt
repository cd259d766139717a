use Rattle.pi_expr_phrases.proofs.TreeLemmas.{collect-shown, levels-collect, deep-over}
use Rattle.pi_syntax.specs.ExpTree.{collect, exp_tree}
use Rattle.std.proofs.Common.{suc, ap, ◌∙◌}
use Rattle.pi_expr_phrases.proofs.built.terms.collect.Goals as goal

pub returns-in_ok-inner-in-Kept : goal.returns-in_ok-inner-in-Kept
returns-in_ok-inner-in-Kept c = λ a es h i. let k = c.in-Kept.ensures a es h i in c.over.ensures (collect c.args.is_array a es) (collect-shown _ _ _ _ _ (ap exp_tree c.in_ok-inner-in-Kept.ensures.ok ∙ k.0) k.1) (levels-collect _ a es ∙ ap suc k.2)

pub returns-in-Deep : goal.returns-in-Deep
returns-in-Deep c = λ a es h i. deep-over _ _ (levels-collect _ a es) (c.in-Deep.ensures a es h i)
