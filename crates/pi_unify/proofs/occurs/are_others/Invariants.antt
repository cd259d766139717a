use Rattle.std.proofs.Common.{◌≡◌}
use Rattle.pi_terms.specs.Tree.{args, arity}
use Rattle.pi_constraints.specs.State.{bindings, IsState}
use Rattle.pi_unify.specs.Refs.{IsRef, root_of, args_from}
use Rattle.pi_unify.specs.Ahead.{some_hold, in_list}
use Rattle.pi_unify.proofs.occurs.are_others.Given as goal

-- the arguments from i on hold what all do
abbrev pub invariant-loop-i : goal.invariant-loop-i
invariant-loop-i g l =
    let v = g.S.StateStore.seen l.s in
    IsState v.now.state → IsRef v l.of → arity (root_of v l.of) ≡ l.count → some_hold (bindings v.now.state) l.v (in_list (args (root_of v l.of))) ≡ some_hold (bindings v.now.state) l.v (in_list (args_from v l.of l.i))
