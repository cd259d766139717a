use Rattle.std.proofs.Common.{sym}
use Rattle.pi_expr.proofs.reader.before_operand.Goals as goal

pub returns : goal.returns
returns c = λ fs h. c.take.ensures fs _ h (c.in_ok-turn.ensures fs (sym (c.wanted-wanted.ensures fs (rw c.deref.ensures.value h))))
