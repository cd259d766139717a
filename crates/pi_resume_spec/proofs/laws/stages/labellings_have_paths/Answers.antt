use Rattle.pi_resume_spec.proofs.StageLemmas.{labelling-adds-nothing, labelling-is-guided, solving-adds-nothing, solving-is-guided}
use Rattle.pi_resume_spec.proofs.GuidedGoals.{one-settled}
use Rattle.pi_resume_spec.proofs.laws.stages.labellings_have_paths.Goals as goal

pub returns-clause-once : goal.returns-clause-once
returns-clause-once c = one-settled

pub returns-clause-plain : goal.returns-clause-plain
returns-clause-plain c = labelling-adds-nothing

pub returns-clause-guided : goal.returns-clause-guided
returns-clause-guided c = labelling-is-guided

pub returns-clause-solve : goal.returns-clause-solve
returns-clause-solve c = solving-adds-nothing

pub returns-clause-solve_guided : goal.returns-clause-solve_guided
returns-clause-solve_guided c = solving-is-guided
