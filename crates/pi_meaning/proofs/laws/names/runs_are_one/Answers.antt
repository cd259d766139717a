use Rattle.pi_meaning.proofs.OverNames.GrowRules.{names-deeper, names-runs-are-one, names-runs-reach}
use Rattle.pi_meaning.proofs.laws.names.runs_are_one.Goals as goal

pub returns-clause-deeper : goal.returns-clause-deeper
returns-clause-deeper c = names-deeper

pub returns-clause-one : goal.returns-clause-one
returns-clause-one c = names-runs-are-one

pub returns-clause-reached : goal.returns-clause-reached
returns-clause-reached c = names-runs-reach
