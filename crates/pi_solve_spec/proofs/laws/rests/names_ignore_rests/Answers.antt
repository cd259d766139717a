use Rattle.pi_solve_spec.proofs.NameRules.{names_ignore_rests}
use Rattle.pi_solve_spec.proofs.laws.rests.names_ignore_rests.Goals as goal

pub returns : goal.returns
returns c = names_ignore_rests
