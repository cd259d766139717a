use Rattle.std.proofs.Common.{rules}
use Rattle.pi_lib_constraints.proofs.KeepLemmas.{fixed}
use Rattle.pi_lib_constraints.proofs.keeping.bind_to_integer.Goals as goal

pub returns-clause-ok : goal.returns-clause-ok
returns-clause-ok g c = λ m is h.
    let v = g.S.StateStore.seen c.args.s.now in
    let w = g.S.StateStore.seen c.put_int.new.self in
    let z = g.S.StateStore.seen c.bind.new.self in
    fixed v w z c.args.at c.in_ok-value.value m _ c.args.n is c.look-root.ensures.below h c.in_ok-value.ensures.ok c.in_ok-bind.ensures.ok (search rules)
