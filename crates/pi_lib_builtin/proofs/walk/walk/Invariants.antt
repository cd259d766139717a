use Rattle.pi_terms.specs.Tree.{Tree}
use Rattle.pi_constraints.specs.Store.{IsTerm}
use Rattle.pi_unify.specs.Terms.{HoldsNoCycle}
use Rattle.pi_lib_builtin.specs.Items.{IsWalked}
use Rattle.pi_lib_builtin.proofs.walk.walk.Given as goal

-- the list is walked up to a Ref
abbrev pub invariant-loop : goal.invariant-loop
invariant-loop g l =
    let v = g.S.StateStore.seen l.s in
    (t : Tree) → HoldsNoCycle v → IsTerm v l.fn.list t → IsWalked v t l.items.items l.at
