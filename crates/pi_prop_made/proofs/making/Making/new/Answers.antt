use Rattle.pi_prop_made.proofs.MakingLemmas.{nothing_shown}
use Rattle.pi_prop_made.proofs.making.Making.new.Goals as goal

pub returns : goal.returns
returns c = nothing_shown c.args.unused c.new.result c.new.ensures
