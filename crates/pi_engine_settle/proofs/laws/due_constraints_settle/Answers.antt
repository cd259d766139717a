use Rattle.pi_engine_settle.proofs.EndLemmas.{may-propagate, some-load, settled-left}
use Rattle.pi_engine_settle.proofs.laws.due_constraints_settle.Goals as goal

pub returns-clause-propagate : goal.returns-clause-propagate
returns-clause-propagate c = may-propagate

pub returns-clause-load : goal.returns-clause-load
returns-clause-load c = some-load

pub returns-clause-none : goal.returns-clause-none
returns-clause-none c = settled-left
