use Rattle.pi_meaning.proofs.Shared.WholeLemmas.{tabled-is-whole}
use Rattle.pi_meaning.proofs.laws.meaning.tabled_is_whole.Goals as goal

pub returns : goal.returns
returns c = tabled-is-whole
