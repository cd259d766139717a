use Rattle.std.proofs.Common.{rules}
use Rattle.pi_prog.proofs.reading.ShapeLemmas.{shape_bare, bare_fault}
use Rattle.pi_prog.proofs.reading.shape.bare.Goals as goal

pub returns-in_err-exp-clause-fault : goal.returns-in_err-exp-clause-fault
returns-in_err-exp-clause-fault c = let fault = bare_fault _ _ c.requires.uncrowded c.requires.no_arrow c.in_err-exp.ensures.fault in search rules

pub returns-clause-shape : goal.returns-clause-shape
returns-clause-shape c = shape_bare _ _ c.requires.no_arrow c.in_ok-exp.ensures.read
