use Rattle.std.proofs.Common.{rules}
use Rattle.pi_lib_solve.proofs.NarrowLemmas.{leads-to, none-kept, some-kept}
use Rattle.pi_lib_solve.proofs.narrowing.leave.Goals as goal

pub returns-in_default-clause-left : goal.returns-in_default-clause-left
returns-in_default-clause-left g c = λ a d is has values.
    none-kept (g.S.StateStore.seen c.args.s.now).now.state c.args.variable a d c.args.left.now is has c.spans-spans.ensures.domain values (search rules)

pub returns-clause-left : goal.returns-clause-left
returns-clause-left g c = λ a d is has values.
    let v = g.S.StateStore.seen c.args.s.now in
    let w = g.S.StateStore.seen c.leave_values.new.s in
    let leads = leads-to v c.var_ref-at.result c.args.variable d has c.var_ref-at.ensures in
    some-kept v.now.state w.now.state c.args.variable a d c.args.left.now c.in-Some.least _ is has c.spans-spans.ensures.domain values c.in-Some.ensures.some.is_value
    (c.in_ok-leave_values.ensures.one c.args.variable is leads) (c.in_ok-leave_values.ensures.more c.args.variable is leads) (search rules)
