use Rattle.std.proofs.Common.{rules}
use Rattle.pi_queue.proofs.StoreLemmas.{fixed}
use Rattle.pi_queue.proofs.leaving.fix.Goals as goal

pub returns-clause-ok : goal.returns-clause-ok
returns-clause-ok g c = λ d is has.
    let v = g.S.StateStore.seen c.args.s.now in
    let w = g.S.StateStore.seen c.put_int.new.self in
    let z = g.S.StateStore.seen c.bind.new.self in
    fixed v w z c.var_ref-at.result c.in_ok-value.value c.args.v _ c.args.n d is has c.in_ok-value.ensures.ok c.var_ref-at.ensures c.in_ok-bind.ensures.ok (search rules)
