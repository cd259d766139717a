use Rattle.pi_resume_spec.proofs.LongPaths.{told-short, short-told, first-long-ends}
use Rattle.pi_resume_spec.proofs.laws.runs.long_paths_end.Goals as goal

pub returns-clause-short : goal.returns-clause-short
returns-clause-short g c = told-short

pub returns-clause-told : goal.returns-clause-told
returns-clause-told g c = short-told

pub returns-clause-first : goal.returns-clause-first
returns-clause-first g c = first-long-ends
