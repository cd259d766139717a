use Rattle.pi_resume_spec.proofs.PathRunLemmas.{one-behind, way-loads, asked-on_way}
use Rattle.pi_resume_spec.proofs.laws.runs.resumed_work_is_counted.Goals as goal

pub returns-clause-one : goal.returns-clause-one
returns-clause-one c = one-behind

pub returns-clause-loads : goal.returns-clause-loads
returns-clause-loads c = way-loads

pub returns-clause-asked : goal.returns-clause-asked
returns-clause-asked c = asked-on_way
