use Rattle.std.proofs.Common.{◌≡◌, ◌∙◌, ◌<◌, ◌-◌, length, arith, rules, to_z, of_z}
use Rattle.std.specs.Int.{w128}
use Rattle.pi_constraints.specs.State.{bindings, followed}
use Rattle.pi_constraints.specs.Stored.{stored}
use Rattle.pi_prop_spec.specs.Ends.{greatest_of}
use Rattle.pi_lib_constraints.proofs.FunctionLemmas.{greatest-some, greatest-only, stored-none, int-some, atom-none, comp-none}
use Rattle.pi_lib_constraints.proofs.functions.greatest_at.Goals as goal

pub returns-in-Int : goal.returns-in-Int
returns-in-Int g c = λ t is at.
    let s = (g.S.StateStore.seen c.args.s.now).now.state in
    let bits : to_z w128 (of_z w128 c.in-Int.i) ≡ c.in-Int.i = search rules in
    int-some s (followed (bindings s) t) c.in-Int.i greatest_of _ (c.in-Int.ensures.shows t at is.acyclic) (bits ∙ greatest-only c.in-Int.i)

pub returns-in-Atom : goal.returns-in-Atom
returns-in-Atom g c = λ t is at.
    let v = g.S.StateStore.seen c.args.s.now in
    atom-none v v.now.state (followed (bindings v.now.state) t) c.in-Atom.field-0 greatest_of (c.in-Atom.ensures.shows t at is.acyclic)

pub returns-in-Comp : goal.returns-in-Comp
returns-in-Comp g c = λ t is at.
    let v = g.S.StateStore.seen c.args.s.now in
    comp-none v v.now.state (followed (bindings v.now.state) t) c.in-Comp.field-0 c.in-Comp.field-1 greatest_of (c.in-Comp.ensures.shows t at is.acyclic)

pub returns-else-count-gt0 : goal.returns-else-count-gt0
returns-else-count-gt0 g c = λ t is at.
    let s = (g.S.StateStore.seen c.args.s.now).now.state in
    stored-none s (followed (bindings s) t) c.in-Var.n greatest_of is (c.in-Var.ensures.shows t at is.acyclic) (omega (arith, c.span_count-count.ensures.count, c.if-count-gt0.false))

pub returns-then-count-gt0 : goal.returns-then-count-gt0
returns-then-count-gt0 g c = λ t is at.
    let s = (g.S.StateStore.seen c.args.s.now).now.state in
    let n = c.in-Var.n in
    let count = c.span_count-count.result in
    let some : 0 < length (stored s n) = omega (arith, c.span_count-count.ensures.count, c.if-count-gt0.true) in
    let place : count - 1 ≡ length (stored s n) - 1 = omega (arith, c.span_count-count.ensures.count) in
    let there : count - 1 < length (stored s n) = omega (arith, place, some) in
    let bits : to_z w128 (of_z w128 c.from.result) ≡ c.from.result = search rules in
    let high : c.from.result ≡ c.span.result.hi = search rules in
    greatest-some s (followed (bindings s) t) n (count - 1) c.span.result (to_z w128 (of_z w128 c.from.result)) (c.in-Var.ensures.shows t at is.acyclic) some place (c.span.ensures there) (bits ∙ high)
