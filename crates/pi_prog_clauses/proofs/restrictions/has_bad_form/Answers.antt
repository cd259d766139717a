use Rattle.std.proofs.lemmas.Result.{IfOk-weaker}
use Rattle.pi_prog_clauses.proofs.restrictions.ArrowLemmas.{form_by_head, form_by_nodes}
use Rattle.pi_prog_clauses.proofs.restrictions.has_bad_form.Goals as goal

pub returns-then-branch-2 : goal.returns-then-branch-2
returns-then-branch-2 c = form_by_head _ _ _ c.head_of.ensures c.in_ok-has_bad_head.ensures c.if-branch-2.true

pub returns : goal.returns
returns c =
    IfOk-weaker c.has_bad_nodes.result _ _ (λ made so. form_by_nodes _ _ _ _ _ c.in_ok-has_bad_arrow.ensures c.if-branch.false c.head_of.ensures c.in_ok-has_bad_head.ensures c.if-branch-2.false so) c.has_bad_nodes.ensures
