use Rattle.pi_effects.proofs.ItemLemmas.{items-by_root, items-by_value}
use Rattle.pi_effects.proofs.laws.lists_have_items.Goals as goal

pub returns-clause-by_root : goal.returns-clause-by_root
returns-clause-by_root c = items-by_root

pub returns-clause-by_value : goal.returns-clause-by_value
returns-clause-by_value c = items-by_value
