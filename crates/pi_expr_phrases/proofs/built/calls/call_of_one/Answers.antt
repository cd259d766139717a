use Rattle.pi_syntax.specs.ExpTree.{one_exp}
use Rattle.pi_expr_phrases.proofs.built.calls.call_of_one.Goals as goal

pub returns : goal.returns
returns c = λ e h. c.in_ok-call.ensures (one_exp e) (c.in_ok-items.ensures e h)
