use Rattle.std.proofs.Common.{◌≡◌, ◌≤◌}
use Rattle.pi_terms.specs.Tree.{arity}
use Rattle.pi_unify.specs.Terms.{HoldsNoCycle, IsGiven, value_of}
use Rattle.pi_lib_builtin.specs.Closed.{AreGiven}
use Rattle.pi_lib_builtin.proofs.ClosedLemmas.{LeavesFrom}
use Rattle.pi_lib_builtin.proofs.closed.leave_arguments.Given as goal

-- the arguments from one on are left
abbrev pub invariant-loop-i : goal.invariant-loop-i
invariant-loop-i g l =
    let v = g.S.StateStore.seen l.s in
    (l.i ≤ l.count) × (HoldsNoCycle v → IsGiven v l.at → l.count ≡ arity (value_of v l.at) → AreGiven v l.initial.left.items → LeavesFrom v l.at l.i l.initial.left.items l.left.items)
