use Rattle.pi_meaning.proofs.Shared.KnownLemmas.{whole-knows}
use Rattle.pi_meaning.proofs.laws.meaning.names_are_given.Goals as goal

pub returns : goal.returns
returns c = whole-knows
