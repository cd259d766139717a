use Rattle.std.proofs.Common.{◌≡◌, ◌∙◌, ◌+◌, ◌-◌, ap, arith, slice_index_or}
use Rattle.pi_terms.specs.Tree.{args}
use Rattle.pi_terms.specs.TermCells.{tree_of, size_of}
use Rattle.pi_terms.proofs.TermLemmas.{ArgPlace, arg_place}
use Rattle.pi_terms.proofs.term.cells_of.Goals as goal

place : (c : goal.After-size) → ArgPlace c.args.cells.now c.place_of-from.result c.args.i (args (tree_of c.args.cells.now))
place c = arg_place _ _ _ _ c.place_of-from.ensures.place c.requires.has

size : (c : goal.After-size) → c.size.result ≡ size_of (slice_index_or c.args.cells.now c.place_of-from.result c.index-cells-from.result)
size c = c.size.ensures ∙ ap size_of c.index-cells-from.is

pub overflow_add-to : goal.overflow_add-to
overflow_add-to c = omega (arith, (place c).last c.index-cells-from.result, size c)

pub slice_bounds-result-end : goal.slice_bounds-result-end
slice_bounds-result-end c = omega (arith, (place c).last c.index-cells-from.result, size c)

pub returns : goal.returns
returns c =
    let r = arg_place c.args.cells.now c.place_of-from.result c.args.i (args (tree_of c.args.cells.now)) c.place_of-from.ensures.place c.requires.has in
    let n : c.place_of-from.result + c.size.result - c.place_of-from.result ≡ c.size.result = omega arith in
    rw (r.is, n, c.size.ensures ∙ ap size_of c.index-cells-from.is) (r.here c.index-cells-from.result)
