use Rattle.std.proofs.Common.{◌≡◌, ℕ, ◌+◌, ◌-◌}
use Rattle.pi_constraints.specs.State.{next}
use Rattle.pi_constraints.specs.Store.{IsTerm, Stays}
use Rattle.pi_effects.specs.Items.{list_of}
use Rattle.pi_effects.specs.Making.{new_from}
use Rattle.pi_lib.proofs.variables.list_newest.Given as goal

abbrev pub invariant-loop-k : goal.invariant-loop-k
invariant-loop-k g l =
    let v = g.S.StateStore.seen l.fn.s in
    let w = g.S.StateStore.seen l.s in
    record {
      stays : Stays v w;
      list : (first : ℕ) → first + l.count ≡ next v.now.state → IsTerm w l.list (list_of (new_from (first + (l.count - l.k)) l.k));
    }
