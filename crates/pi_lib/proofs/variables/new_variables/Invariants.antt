use Rattle.pi_terms.specs.Tree.{trees_of}
use Rattle.pi_constraints.specs.State.{next}
use Rattle.pi_constraints.specs.Store.{AreTerms}
use Rattle.pi_unify.specs.Copying.{Makes}
use Rattle.pi_effects.specs.Making.{new_from}
use Rattle.pi_lib.proofs.variables.new_variables.Given as goal

abbrev pub invariant-loop-k : goal.invariant-loop-k
invariant-loop-k g l =
    let v = g.S.StateStore.seen l.initial.s in
    let w = g.S.StateStore.seen l.s in
    record {
      makes : Makes v w l._k;
      terms : AreTerms w l.made.items (trees_of (new_from (next v.now.state) l._k));
    }
