use Rattle.pi_where.proofs.LineLemmas.{parts_all}
use Rattle.pi_where.proofs.laws.parts_are_all.Goals as goal

pub returns : goal.returns
returns c = parts_all
