use Rattle.std.proofs.Common.{refl, rules}
use Rattle.pi_prog.proofs.reading.ShapeLemmas.{few_left, few_right, left_none, left_deep, shape_ruled, shape_deep_left, right_fault}
use Rattle.pi_prog.proofs.reading.shape.ruled.Goals as goal

pub read_uncrowded-requires-clause-uncrowded : goal.read_uncrowded-requires-clause-uncrowded
read_uncrowded-requires-clause-uncrowded c = few_left _ _ c.requires.arrow c.requires.uncrowded

pub read_uncrowded-requires-in-Ok-clause-uncrowded : goal.read_uncrowded-requires-in-Ok-clause-uncrowded
read_uncrowded-requires-in-Ok-clause-uncrowded c = few_right _ _ _ c.requires.arrow c.in-Ok.ensures.read.0 c.requires.uncrowded

pub returns-in_err-right-in-Ok-clause-fault : goal.returns-in_err-right-in-Ok-clause-fault
returns-in_err-right-in-Ok-clause-fault c =
    let fault = right_fault _ _ _ _ c.requires.arrow c.requires.uncrowded c.in-Ok.ensures.read.0 c.in_err-right-in-Ok.ensures.fault in search rules

pub returns-in_ok-right-in-Ok-clause-shape : goal.returns-in_ok-right-in-Ok-clause-shape
returns-in_ok-right-in-Ok-clause-shape c = shape_ruled _ _ _ _ _ c.requires.arrow refl c.in-Ok.ensures.read c.in_ok-right-in-Ok.ensures.read

pub read_uncrowded-requires-in-Err-TooDeep-clause-uncrowded : goal.read_uncrowded-requires-in-Err-TooDeep-clause-uncrowded
read_uncrowded-requires-in-Err-TooDeep-clause-uncrowded c =
    let (e, left, deep) = left_deep _ _ c.requires.arrow c.requires.uncrowded (rw c.in-Err-TooDeep.field-0-is at c.in-Err-TooDeep.ensures.fault) in
    few_right _ _ e c.requires.arrow left c.requires.uncrowded

pub returns-in_err-right-in-Err-TooDeep-clause-fault : goal.returns-in_err-right-in-Err-TooDeep-clause-fault
returns-in_err-right-in-Err-TooDeep-clause-fault c =
    let (e, left, deep) = left_deep _ _ c.requires.arrow c.requires.uncrowded (rw c.in-Err-TooDeep.field-0-is at c.in-Err-TooDeep.ensures.fault) in
    let fault = right_fault _ _ e _ c.requires.arrow c.requires.uncrowded left c.in_err-right-in-Err-TooDeep.ensures.fault in search rules

pub returns-in_ok-right-in-Err-TooDeep-clause-fault : goal.returns-in_ok-right-in-Err-TooDeep-clause-fault
returns-in_ok-right-in-Err-TooDeep-clause-fault c =
    shape_deep_left _ _ _ c.requires.arrow (left_deep _ _ c.requires.arrow c.requires.uncrowded (rw c.in-Err-TooDeep.field-0-is at c.in-Err-TooDeep.ensures.fault))
    c.in_ok-right-in-Err-TooDeep.ensures.read.0

pub returns-in-Err-NoExpression-clause-fault : goal.returns-in-Err-NoExpression-clause-fault
returns-in-Err-NoExpression-clause-fault c =
    let lacks = rw c.in-Err-NoExpression.field-0-is at c.in-Err-NoExpression.ensures.fault in
    left_none _ _ c.requires.arrow lacks.1
