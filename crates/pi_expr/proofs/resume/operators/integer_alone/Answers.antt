use Rattle.std.proofs.Common.{refl}
use Rattle.pi_expr.proofs.OperandLemmas.{alone_no}
use Rattle.pi_expr.proofs.resume.operators.integer_alone.Goals as goal

pub returns-in-Integer : goal.returns-in-Integer
returns-in-Integer c = rw (c.in-Next.ensures, c.in-Integer.is) c.alone.ensures

pub returns-in_default : goal.returns-in_default
returns-in_default c = alone_no _ _ _ _ c.in-Next.ensures c.in_default.not-Integer

pub returns-in-End : goal.returns-in-End
returns-in-End c = rw c.in-End.ensures refl
