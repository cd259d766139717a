use Rattle.std.proofs.Common.{◌*◌}
use Rattle.pi_terms.specs.Tree.{trees_of}
use Rattle.pi_constraints.specs.State.{next}
use Rattle.pi_constraints.specs.Store.{AreTerms}
use Rattle.pi_unify.specs.Copying.{Makes}
use Rattle.pi_effects.specs.Making.{new_rows}
use Rattle.pi_lib.proofs.grids.put_rows.Given as goal

abbrev pub invariant-loop-row : goal.invariant-loop-row
invariant-loop-row g l =
    let v = g.S.StateStore.seen l.initial.s in
    let w = g.S.StateStore.seen l.s in
    record {
      makes : Makes v w (l._row * l.columns);
      rows : AreTerms w l.made.items (trees_of (new_rows l._row l.columns (next v.now.state)));
    }
