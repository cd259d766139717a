use Rattle.std.proofs.Common.{◌≡◌}
use Rattle.pi_terms.specs.Tree.{Tree, args, arity}
use Rattle.pi_terms.specs.TermCells.{take_trees}
use Rattle.pi_constraints.specs.Value.{IsAcyclic}
use Rattle.pi_constraints.specs.State.{bindings, followed}
use Rattle.pi_constraints.specs.Store.{IsTerm, AreTerms}
use Rattle.pi_lib.proofs.runs.arguments.Given as goal

-- the first arguments are found
abbrev pub invariant-loop-i : goal.invariant-loop-i
invariant-loop-i g l =
    let v = g.S.StateStore.seen l.s in
    (t : Tree) → IsAcyclic (bindings v.now.state) → IsTerm v l.call t → l.count ≡ arity (followed (bindings v.now.state) t) → AreTerms v l.found.items (take_trees l.i (args (followed (bindings v.now.state) t)))
