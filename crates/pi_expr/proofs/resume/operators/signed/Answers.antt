use Rattle.std.proofs.lemmas.Result.{IfOk-weaker}
use Rattle.pi_syntax.specs.Grammar.{call_one}
use Rattle.pi_expr.proofs.resume.operators.signed.Goals as goal

pub returns : goal.returns
returns c = λ fs e h. c.read_as.ensures fs (call_one c.args.name.now e) (IfOk-weaker c.call_of_one.result _ _ (λ made so. so e h) c.call_of_one.ensures)
