use Rattle.std.proofs.Common.{◌≡◌, []}
use Rattle.pi_terms.specs.Tree.{Tree, args}
use Rattle.pi_constraints.specs.State.{bindings, followed}
use Rattle.pi_constraints.specs.Value.{IsAcyclic}
use Rattle.pi_constraints.specs.Store.{IsTerm}
use Rattle.pi_engine_facts.proofs.CalledLemmas.{AreFirst}
use Rattle.pi_engine_facts.proofs.called.take_root.Given as goal

-- so many arguments were pushed
abbrev pub invariant-loop-i : goal.invariant-loop-i
invariant-loop-i g l =
    (t : Tree) → l.fn.args.items ≡ [] → IsAcyclic (bindings (g.S.StateStore.seen l.store).now.state) → IsTerm (g.S.StateStore.seen l.store) l.called t →
    AreFirst (g.S.StateStore.seen l.store) l.args.items l.i (args (followed (bindings (g.S.StateStore.seen l.store).now.state) t))
