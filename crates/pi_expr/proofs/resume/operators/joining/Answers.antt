use Rattle.std.proofs.lemmas.Result.{IfOk-weaker}
use Rattle.pi_syntax.specs.Grammar.{call_two}
use Rattle.pi_expr.proofs.resume.operators.joining.Goals as goal

pub returns : goal.returns
returns c = λ fs a e h i. c.read_as.ensures fs (call_two c.args.name.now a e) (IfOk-weaker c.call_of_two.result _ _ (λ made so. so a e h i) c.call_of_two.ensures)
