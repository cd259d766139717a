use Rattle.pi_resume_spec.proofs.MoreStages.{labelling-more, solving-more, draining-more}
use Rattle.pi_resume_spec.proofs.laws.stages.stages_follow_more.Goals as goal

pub returns-clause-labelling : goal.returns-clause-labelling
returns-clause-labelling g c = labelling-more

pub returns-clause-solve : goal.returns-clause-solve
returns-clause-solve g c = solving-more

pub returns-clause-draining : goal.returns-clause-draining
returns-clause-draining g c = draining-more
