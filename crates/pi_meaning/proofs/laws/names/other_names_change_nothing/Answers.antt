use Rattle.pi_meaning.proofs.OverNames.OtherGoals.{other-names-change_nothing}
use Rattle.pi_meaning.proofs.laws.names.other_names_change_nothing.Goals as goal

pub returns : goal.returns
returns c = other-names-change_nothing
