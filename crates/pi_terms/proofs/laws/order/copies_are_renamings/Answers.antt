use Rattle.pi_terms.proofs.CopyLemmas.{copy_renames, copy_is_unique, copy_keeps_cells, ground_is_its_own_copy}
use Rattle.pi_terms.proofs.laws.order.copies_are_renamings.Goals as goal

pub returns-clause-renaming : goal.returns-clause-renaming
returns-clause-renaming c = copy_renames

pub returns-clause-unique : goal.returns-clause-unique
returns-clause-unique c = copy_is_unique

pub returns-clause-cells : goal.returns-clause-cells
returns-clause-cells c = copy_keeps_cells

pub returns-clause-ground : goal.returns-clause-ground
returns-clause-ground c = ground_is_its_own_copy
