use Rattle.pi_constraints.specs.Store.{ShowsCell}
use Rattle.pi_constraints.specs.declared.store.Cell.{Cell}
use Rattle.pi_unify.specs.Terms.{value_of}
use Rattle.pi_unify.proofs.ComparisonLemmas.{shown}
use Rattle.pi_lib.proofs.WalkLemmas.{IsCell, cell_shown, no_cell, link_of_cell, nil_shown, no_nil, no_list}
use Rattle.pi_lib.proofs.characters.link_at.Goals as goal

pub returns-then-is_cell : goal.returns-then-is_cell
returns-then-is_cell g c = λ given a.
    let v = g.S.StateStore.seen c.args.s.now in
    let t = value_of v c.args.at in
    let shows : ShowsCell v t (Cell.Comp c.in-Comp.name c.in-Comp.count) = shown v c.args.at (Cell.Comp c.in-Comp.name c.in-Comp.count) a given c.in-Comp.ensures.shows in
    let cell : IsCell v t c.arg.result c.arg-then-is_cell.result =
    cell_shown v c.args.at c.arg.result c.arg-then-is_cell.result c.in-Comp.name c.in-Comp.count c.is_cell.result a given shows (c.is_cell.ensures shows.0 shows.1) c.if-is_cell.true c.arg.ensures c.arg-then-is_cell.ensures in
    link_of_cell v t c.arg.result c.arg-then-is_cell.result c.cell_link.result cell (c.cell_link.ensures cell.item_given cell.rest_given a)

pub returns-else-is_cell : goal.returns-else-is_cell
returns-else-is_cell g c = λ given a.
    let v = g.S.StateStore.seen c.args.s.now in
    let t = value_of v c.args.at in
    let shows : ShowsCell v t (Cell.Comp c.in-Comp.name c.in-Comp.count) = shown v c.args.at (Cell.Comp c.in-Comp.name c.in-Comp.count) a given c.in-Comp.ensures.shows in
    no_cell v t c.in-Comp.name c.in-Comp.count c.is_cell.result shows (c.is_cell.ensures shows.0 shows.1) c.if-is_cell.false

pub returns-then-is_nil : goal.returns-then-is_nil
returns-then-is_nil g c = λ given a.
    let v = g.S.StateStore.seen c.args.s.now in
    let t = value_of v c.args.at in
    let shows : ShowsCell v t (Cell.Atom c.in-Atom.name) = shown v c.args.at (Cell.Atom c.in-Atom.name) a given c.in-Atom.ensures.shows in
    nil_shown v t c.in-Atom.name c.is_nil.result shows (c.is_nil.ensures shows.0 shows.1) c.if-is_nil.true

pub returns-else-is_nil : goal.returns-else-is_nil
returns-else-is_nil g c = λ given a.
    let v = g.S.StateStore.seen c.args.s.now in
    let t = value_of v c.args.at in
    let shows : ShowsCell v t (Cell.Atom c.in-Atom.name) = shown v c.args.at (Cell.Atom c.in-Atom.name) a given c.in-Atom.ensures.shows in
    no_nil v t c.in-Atom.name c.is_nil.result shows (c.is_nil.ensures shows.0 shows.1) c.if-is_nil.false

pub returns-in_default : goal.returns-in_default
returns-in_default g c = λ given a.
    let v = g.S.StateStore.seen c.args.s.now in
    no_list v (value_of v c.args.at) c.look.result c.in_default.not-Atom c.in_default.not-Comp (shown v c.args.at c.look.result a given c.look.ensures.shows)
