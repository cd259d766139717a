use Rattle.pi_resume_spec.proofs.MoreNames.{names-more, built-adds}
use Rattle.pi_resume_spec.proofs.PathRunLemmas.{paths-do_more, queries-follow_more}
use Rattle.pi_resume_spec.proofs.laws.runs.more_depth_follows_more.Goals as goal

pub returns-clause-names : goal.returns-clause-names
returns-clause-names c = names-more

pub returns-clause-nothing : goal.returns-clause-nothing
returns-clause-nothing c = built-adds

pub returns-clause-ways : goal.returns-clause-ways
returns-clause-ways c = paths-do_more

pub returns-clause-follows : goal.returns-clause-follows
returns-clause-follows c = queries-follow_more
