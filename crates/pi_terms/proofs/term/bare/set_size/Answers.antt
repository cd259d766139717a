use Rattle.std.proofs.Common.{sym, ◌∙◌, arith, drop, ◌+◌, ◌-◌, refl, ap}
use Rattle.std.specs.Prelude.{slice_set}
use Rattle.pi_terms.specs.TermCells.{spelled}
use Rattle.pi_terms.specs.BareCells.{count_of, with_size}
use Rattle.pi_terms.proofs.BareLemmas.{set_leaf, many_behind, end_is, set_comp, same_read}
use Rattle.pi_terms.proofs.term.bare.set_size.Goals as goal

pub returns-in_default : goal.returns-in_default
returns-in_default c = set_leaf c.args.cells.now c.args.at c.index-cells-at.result _ c.requires.within c.index-cells-at.is (ap count_of c.index-cells-at.is ∙ sym c.in_default.ensures)

pub end_of-end-requires-clause-behind : goal.end_of-end-requires-clause-behind
end_of-end-requires-clause-behind c = many_behind c.args.cells.now c.args.at c.index-cells-at.result _ c.in-Some.count c.requires.within c.index-cells-at.is c.requires.behind (ap count_of c.index-cells-at.is ∙ sym c.in-Some.ensures)

pub overflow_sub-end : goal.overflow_sub-end
overflow_sub-end c =
    let e = end_is c.args.cells.now c.args.at c.end_of-end.result c.in-Some.count (spelled (drop (c.args.at + 1) c.args.cells.now)) (omega arith) c.requires.spelt.spells c.end_of-end.ensures.within c.end_of-end.ensures.place in omega arith

pub returns : goal.returns
returns c =
    let cs = c.args.cells.now in
    let x = c.index-cells-at.result in
    let same = same_read c.args.cells.now c.args.at c.index-cells-at.result c.index-cells-at-2.result c.requires.within c.index-cells-at.is c.index-cells-at-2.is in
    let e = end_is c.args.cells.now c.args.at c.end_of-end.result c.in-Some.count (spelled (drop (c.args.at + 1) c.args.cells.now)) (omega arith) c.requires.spelt.spells c.end_of-end.ensures.within c.end_of-end.ensures.place in
    set_comp c.args.cells.now _ c.args.at c.index-cells-at.result (spelled (drop (c.args.at + 1) c.args.cells.now)) c.in-Some.count (c.end_of-end.result - c.args.at) c.end_of-end.result c.requires.within c.index-cells-at.is
    (ap count_of c.index-cells-at.is ∙ sym c.in-Some.ensures) e refl
    (ap (λ y. slice_set c.args.cells.now c.args.at y) (c.set_size.ensures ∙ ap (λ y. with_size y (c.end_of-end.result - c.args.at)) (sym c.index-cells-at-2.is ∙ sym same)))
