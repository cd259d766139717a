use Rattle.pi_terms.specs.Tree.{arg_at}
use Rattle.pi_terms.proofs.TermLemmas.{Spelt, spelt_some}
use Rattle.pi_terms.proofs.term.Term.arg.Goals as goal

-- the cells that were pushed are the argument's
spelt : (c : goal.In_ok-push_cells) → Spelt c.push_cells.new.cells.items (arg_at c.args.self.now c.args.i)
spelt c = spelt_some _ _ (rw (c.in_ok-push_cells.ensures.ok, c.new-cells.ensures.items, ← c.self.view_is, ← c.deref.ensures.value) c.cells_of.ensures)

pub invariant_of-result : goal.invariant_of-result
invariant_of-result c = (spelt c).spells

pub returns : goal.returns
returns c = record { ok = (spelt c).is }
