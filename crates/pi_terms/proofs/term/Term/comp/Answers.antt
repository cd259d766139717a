use Rattle.std.proofs.Common.{◌≡◌}
use Rattle.pi_terms.specs.Tree.{comp, trees_of}
use Rattle.pi_terms.specs.TermCells.{flat}
use Rattle.pi_terms.proofs.TermLemmas.{flat-comp, flat-spelt, tree_of-spelt}
use Rattle.pi_terms.proofs.term.Term.comp.Goals as goal

-- the cells that were pushed are the compound's
spelt : (c : goal.In_ok-push_args) → c.push_args.new.cells.items ≡ flat (comp c.args.name.now (trees_of c.args.args.now))
spelt c =
    rw (c.in_ok-push_args.ensures.ok, c.in_ok-push.ensures.items, c.new-cells.ensures.items, c.in_ok-new.ensures.ok)
    (flat-comp c.args.name.now c.args.args.now c.in-Some.size c.in-Some.ensures.some)

pub invariant_of-result : goal.invariant_of-result
invariant_of-result c = flat-spelt _ _ (spelt c)

pub returns : goal.returns
returns c = record { ok = tree_of-spelt _ _ (spelt c) }
