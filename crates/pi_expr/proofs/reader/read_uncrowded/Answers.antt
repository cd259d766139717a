use Rattle.pi_expr.proofs.ExpLemmas.{read_is}
use Rattle.pi_expr.proofs.reader.read_uncrowded.Goals as goal

pub returns-clause-read : goal.returns-clause-read
returns-clause-read c = (read_is _ _ c.read.result c.new.ensures c.requires.uncrowded c.read.ensures).0

pub returns-clause-fault : goal.returns-clause-fault
returns-clause-fault c = (read_is _ _ c.read.result c.new.ensures c.requires.uncrowded c.read.ensures).1
