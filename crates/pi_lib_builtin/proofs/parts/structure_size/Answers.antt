use Rattle.pi_constraints.specs.State.{bindings, followed}
use Rattle.pi_lib_builtin.proofs.PartLemmas.{no-structure, structure-size}
use Rattle.pi_lib_builtin.proofs.parts.structure_size.Goals as goal

pub returns-then-is_cell : goal.returns-then-is_cell
returns-then-is_cell g c = λ t a is.
    let v = g.S.StateStore.seen c.args.s.now in
    no-structure v (followed (bindings v.now.state) t) c.in-Comp.name c.in-Comp.count c.is_cell.result (c.in-Comp.ensures.shows t is a) c.is_cell.ensures c.if-is_cell.true

pub returns-else-is_cell : goal.returns-else-is_cell
returns-else-is_cell g c = λ t a is.
    let v = g.S.StateStore.seen c.args.s.now in
    structure-size v (followed (bindings v.now.state) t) c.in-Comp.name c.in-Comp.count c.is_cell.result (c.in-Comp.ensures.shows t is a) c.is_cell.ensures c.if-is_cell.false
