use Rattle.pi_prop_made.proofs.ItemLemmas.{none-judged}
use Rattle.pi_prop_made.proofs.items.JudgedItems.new.Goals as goal

pub returns : goal.returns
returns c = none-judged c.new.result c.new.ensures
