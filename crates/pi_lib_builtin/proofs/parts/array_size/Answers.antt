use Rattle.pi_constraints.specs.State.{bindings, followed}
use Rattle.pi_lib_builtin.proofs.PartLemmas.{array-size, no-array}
use Rattle.pi_lib_builtin.proofs.parts.array_size.Goals as goal

pub returns-then-is_array : goal.returns-then-is_array
returns-then-is_array g c = λ t a is.
    let v = g.S.StateStore.seen c.args.s.now in
    array-size v (followed (bindings v.now.state) t) c.in-Comp.name c.in-Comp.count c.is_array.result (c.in-Comp.ensures.shows t is a) c.is_array.ensures c.if-is_array.true

pub returns-else-is_array : goal.returns-else-is_array
returns-else-is_array g c = λ t a is.
    let v = g.S.StateStore.seen c.args.s.now in
    no-array v (followed (bindings v.now.state) t) c.in-Comp.name c.in-Comp.count c.is_array.result (c.in-Comp.ensures.shows t is a) c.is_array.ensures c.if-is_array.false
