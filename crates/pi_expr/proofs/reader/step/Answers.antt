use Rattle.pi_expr.proofs.Steps.{entered}
use Rattle.pi_expr.proofs.reader.step.Goals as goal

pub returns-in-Operand : goal.returns-in-Operand
returns-in-Operand c = λ s h. let k = rw c.in-Operand.is at h in rw (k.1.0, entered k.0 _) (c.before_operand.ensures k.0 k.1.1)

pub returns-in-Value : goal.returns-in-Value
returns-in-Value c = λ s h. let k = rw c.in-Value.is at h in rw k.1.1.0 (c.behind_phrase.ensures k.0 k.1.0 k.1.1.1.1 k.1.1.1.0)
