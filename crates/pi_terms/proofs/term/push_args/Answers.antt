use Rattle.std.proofs.Common.{◌≡◌, ◌∙◌, ap, sym, take, append_assoc}
use Rattle.pi_terms.specs.Tree.{trees_of}
use Rattle.std.proofs.lemmas.List.{append-nil}
use Rattle.pi_terms.specs.TermCells.{flat, flat_all}
use Rattle.pi_terms.proofs.TermLemmas.{flat_all-take}
use Rattle.pi_terms.proofs.term.push_args.Goals as goal

pub loop-arg-init : goal.loop-arg-init
unfolding flat
loop-arg-init c = sym (append-nil c.args.cells.now.items)

-- the cells of this argument
pushed : (c : goal.In_ok-push_cells) → c.deref.result.now ≡ flat c.arg-item.result
pushed c = c.deref.ensures.value ∙ (c.arg.invariant ∙ ap flat c.arg.view_is)

pub loop-arg-preserved : goal.loop-arg-preserved
loop-arg-preserved c =
    rw (
      c.in_ok-push_cells.ensures.ok,
      c.loop-arg.invariant,
      pushed c,
      flat_all-take c.args.args.now c.loop-arg.arg-index c.arg-item.result c.loop-arg-test.true c.arg-item.is,
    )
    (append_assoc c.args.cells.now.items (flat_all (trees_of (take c.loop-arg.arg-index c.args.args.now))) (flat c.arg-item.result))
