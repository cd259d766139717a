use Rattle.std.proofs.Common.{◌≡◌, ◌∙◌, ap, arith, add-one, slice_index_or, drop}
use Rattle.pi_terms.specs.TermCells.{size_of, spelled}
use Rattle.pi_terms.proofs.TermLemmas.{ArgPlace, arg_place}
use Rattle.pi_terms.proofs.term.bare.end_of.Goals as goal

pub loop-k-init : goal.loop-k-init
loop-k-init c = (c.requires.spelt.spells, c.requires.within)

-- in the loop term _k begins at `at`
place : (c : goal.After-size-at) → ArgPlace c.args.cells.now c.loop-k.at c.loop-k._k (spelled (drop c.args.from c.args.cells.now))
place c = arg_place _ _ _ _ c.loop-k.invariant.0 (omega arith)

size : (c : goal.After-size-at) → c.size-at.result ≡ size_of (slice_index_or c.args.cells.now c.loop-k.at c.index-cells-at.result)
size c = c.size-at.ensures ∙ ap size_of c.index-cells-at.is

pub bounds-cells-at : goal.bounds-cells-at
bounds-cells-at c =
    let r = arg_place c.args.cells.now c.loop-k.at c.loop-k._k (spelled (drop c.args.from c.args.cells.now)) c.loop-k.invariant.0 (omega arith) in
    r.within

pub overflow_add-at : goal.overflow_add-at
overflow_add-at c = omega (arith, (place c).last c.index-cells-at.result, size c)

pub loop-k-preserved : goal.loop-k-preserved
loop-k-preserved c =
    let r = place c in
    let d = c.index-cells-at.result in
    (rw (size c, add-one) (r.next d), rw (size c) (r.last d))
