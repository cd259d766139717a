use Rattle.pi_effects.proofs.SortLemmas.{sorting-ascends, sorting-keeps_items, sorting-is_stable}
use Rattle.pi_effects.proofs.laws.sorting_sorts.Goals as goal

pub returns-clause-ascends : goal.returns-clause-ascends
returns-clause-ascends c = sorting-ascends

pub returns-clause-items : goal.returns-clause-items
returns-clause-items c = sorting-keeps_items

pub returns-clause-stable : goal.returns-clause-stable
returns-clause-stable c = sorting-is_stable
