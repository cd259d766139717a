use Rattle.std.proofs.Common.{◌∙◌, sym}
use Rattle.pi_print_terms.proofs.PrinterLemmas.{compound_list, compound_structure}
use Rattle.pi_print_terms.proofs.printer.Printer.compound.Goals as goal

pub returns-then-is_cell-clause-ok : goal.returns-then-is_cell-clause-ok
returns-then-is_cell-clause-ok c = compound_list _ _ _ _ _ _ _ _ c.requires (sym c.is_cell.ensures ∙ c.if-is_cell.true) c.in_ok-list.ensures.ok

pub returns-clause-ok : goal.returns-clause-ok
returns-clause-ok c = compound_structure _ _ _ _ _ _ _ _ c.requires (sym c.is_cell.ensures ∙ c.if-is_cell.false) c.in_ok-structure.ensures.ok
