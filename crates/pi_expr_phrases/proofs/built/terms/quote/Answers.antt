use Rattle.pi_expr_phrases.proofs.TreeLemmas.{quote-shown, levels-quote, deep-over}
use Rattle.pi_syntax.specs.ExpTree.{quote, exp_tree}
use Rattle.std.proofs.Common.{suc, ap, ◌∙◌}
use Rattle.pi_expr_phrases.proofs.built.terms.quote.Goals as goal

pub returns-in_ok-inner-in-Tree : goal.returns-in_ok-inner-in-Tree
returns-in_ok-inner-in-Tree c = λ a h. let k = rw c.in-Tree.is at h in c.over.ensures (quote a) (quote-shown _ _ (ap exp_tree c.in_ok-inner-in-Tree.ensures.ok ∙ k.0)) (levels-quote a ∙ ap suc k.1)

pub returns-in-Deep : goal.returns-in-Deep
returns-in-Deep c = λ a h. deep-over _ _ (levels-quote a) (rw c.in-Deep.is at h)
