use Rattle.std.proofs.Common.{refl}
use Rattle.pi_expr_phrases.specs.Machine as m
use Rattle.pi_syntax.specs.ExpTree.{one_exp}
use Rattle.pi_syntax.specs.Grammar.{call_one}
use Rattle.pi_expr.proofs.go_on.method.Goals as goal

pub returns-in-Some : goal.returns-in-Some
returns-in-Some c = λ fs e h. rw (c.in-Some.ensures.0, c.in-Some.ensures.1) (c.arguments.ensures fs (m.of_method c.args.name.now e) (e, (refl, c.in_ok-items.ensures e h)))

pub returns-in_ok-call-in-None : goal.returns-in_ok-call-in-None
returns-in_ok-call-in-None c = λ fs e h. rw c.in-None.ensures (call_one c.args.name.now e, (refl, c.in_ok-call-in-None.ensures (one_exp e) (c.in_ok-items.ensures e h)))
