use Rattle.std.proofs.Common.{◌≡◌}
use Rattle.pi_unify.specs.Terms.{HoldsNoCycle, IsGiven}
use Rattle.pi_lib_builtin.specs.Closed.{AreGiven, is_closed, are_closed}
use Rattle.pi_lib_builtin.proofs.closed.is_closed.Given as goal

-- what is left says what the term says
abbrev pub invariant-loop : goal.invariant-loop
invariant-loop g l =
    let v = g.S.StateStore.seen l.s in
    HoldsNoCycle v → IsGiven v l.fn.a → AreGiven v l.left.items × (are_closed v l.left.items ≡ is_closed v l.fn.a)
