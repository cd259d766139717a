use Rattle.std.proofs.Common.{◌≡◌, ◌∙◌, ap}
use Rattle.pi_terms.specs.TermCells.{flat, tree_of}
use Rattle.pi_terms.specs.Copy.{copy}
use Rattle.pi_terms.proofs.TermLemmas.{flat-spelt, tree_of-spelt}
use Rattle.pi_terms.proofs.term.Term.renumbered.Goals as goal

-- the cells that were made are those of the copy
spelt : (c : goal.In_ok-cells) → c.in_ok-cells.cells.items ≡ flat (copy 0 c.args.self.now)
spelt c = c.in_ok-cells.ensures.ok ∙ (ap (λ cs. flat (copy 0 (tree_of cs))) c.deref.ensures.value ∙ ap (λ t. flat (copy 0 t)) c.self.view_is)

pub invariant_of-result : goal.invariant_of-result
invariant_of-result c = flat-spelt _ _ (spelt c)

pub returns : goal.returns
returns c = record { ok = tree_of-spelt _ _ (spelt c) }
