use Rattle.std.proofs.Common.{arith, rules}
use Rattle.pi_constraints.specs.State.{bindings, followed}
use Rattle.pi_prop_spec.specs.Ends.{least_of}
use Rattle.pi_lib_constraints.proofs.FunctionLemmas.{stored-none, int-some, atom-none, comp-none}
use Rattle.pi_lib_constraints.proofs.functions.least_at.Goals as goal

pub returns-in-Int : goal.returns-in-Int
returns-in-Int g c = λ t is at.
    let s = (g.S.StateStore.seen c.args.s.now).now.state in
    int-some s (followed (bindings s) t) c.in-Int.i least_of _ (c.in-Int.ensures.shows t at is.acyclic) (search rules)

pub returns-in-Atom : goal.returns-in-Atom
returns-in-Atom g c = λ t is at.
    let v = g.S.StateStore.seen c.args.s.now in
    atom-none v v.now.state (followed (bindings v.now.state) t) c.in-Atom.field-0 least_of (c.in-Atom.ensures.shows t at is.acyclic)

pub returns-in-Comp : goal.returns-in-Comp
returns-in-Comp g c = λ t is at.
    let v = g.S.StateStore.seen c.args.s.now in
    comp-none v v.now.state (followed (bindings v.now.state) t) c.in-Comp.field-0 c.in-Comp.field-1 least_of (c.in-Comp.ensures.shows t at is.acyclic)

pub returns-else-count-gt0 : goal.returns-else-count-gt0
returns-else-count-gt0 g c = λ t is at.
    let s = (g.S.StateStore.seen c.args.s.now).now.state in
    stored-none s (followed (bindings s) t) c.in-Var.n least_of is (c.in-Var.ensures.shows t at is.acyclic) (omega (arith, c.span_count-count.ensures.count, c.if-count-gt0.false))
