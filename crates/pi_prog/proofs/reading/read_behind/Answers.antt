use Rattle.pi_prog_clauses.specs.declared.parts.PartReading.TheVariants as part
use Rattle.pi_prog.proofs.reading.ReadingLemmas.{part_open, part_ended, part_deep, part_without}
use Rattle.pi_prog.proofs.reading.read_behind.Goals as goal

pub returns-then-not-ended : goal.returns-then-not-ended
returns-then-not-ended c = λ o of. part_open _ _ o c.if-not-ended.true of.few of.opens of.declared

pub returns-in-Err-TooDeep : goal.returns-in-Err-TooDeep
returns-in-Err-TooDeep c = λ o of.
    part_ended _ _ part.TooDeep c.if-not-ended.false (part_deep _ _ o _ of (rw c.in-Err-TooDeep.field-0-is at c.in-Err-TooDeep.ensures.fault))

pub returns-in-Err-NoExpression : goal.returns-in-Err-NoExpression
returns-in-Err-NoExpression c = λ o of.
    part_ended _ _ part.NoClause c.if-not-ended.false (part_without _ _ o _ of (rw c.in-Err-NoExpression.field-0-is at c.in-Err-NoExpression.ensures.fault))
