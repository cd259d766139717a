use Rattle.pi_terms.specs.Tree.{Trees, drop_trees}
use Rattle.pi_constraints.specs.Store.{Stays, IsTerm, AreTerms}
use Rattle.pi_engine_stands.specs.Lists.{list_of}
use Rattle.pi_engine_steps.proofs.lists.list_of_terms.Given as goal

-- the list of the terms from one on is made
abbrev pub invariant-loop-i : goal.invariant-loop-i
invariant-loop-i g l =
    (ts : Trees) → AreTerms (g.S.StateStore.seen l.fn.store) l.terms ts → Stays (g.S.StateStore.seen l.fn.store) (g.S.StateStore.seen l.store) × IsTerm (g.S.StateStore.seen l.store) l.list (list_of (drop_trees l.i ts))
