use Rattle.pi_syntax.specs.ExpTree.{one_exp, exp}
use Rattle.pi_expr_phrases.proofs.built.calls.call_of_two.Goals as goal

pub returns-in_ok-call-in-Ok : goal.returns-in_ok-call-in-Ok
returns-in_ok-call-in-Ok c = λ a b h i. c.in_ok-call-in-Ok.ensures (exp a (one_exp b)) (c.in_ok-items-in-Ok.ensures (one_exp a) b (c.in-Ok.ensures a h) i)
