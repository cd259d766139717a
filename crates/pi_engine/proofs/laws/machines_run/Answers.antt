use Rattle.pi_engine.proofs.CountLemmas.{count-added}
use Rattle.pi_engine.proofs.RunsTold.{done-ends, raised-ends}
use Rattle.pi_engine.proofs.laws.machines_run.Goals as goal

pub returns-clause-done : goal.returns-clause-done
returns-clause-done g c = done-ends

pub returns-clause-raised : goal.returns-clause-raised
returns-clause-raised g c = raised-ends

pub returns-clause-ticks : goal.returns-clause-ticks
returns-clause-ticks g c = count-added
