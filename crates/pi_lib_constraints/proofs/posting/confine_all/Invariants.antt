use Rattle.std.proofs.Common.{◌≡◌, take}
use Rattle.pi_constraints.specs.State.{IsState, next}
use Rattle.pi_constraints.specs.Store.{Keeps}
use Rattle.pi_settling.specs.Confined.{confined}
use Rattle.pi_settling.specs.Posted.{places_of_all}
use Rattle.pi_settling.specs.Roots.{all_values}
use Rattle.pi_lib_constraints.specs.Posts.{MayPostAll}
use Rattle.pi_lib_constraints.proofs.posting.confine_all.Given as goal

abbrev pub invariant-loop-k : goal.invariant-loop-k
invariant-loop-k g l =
    let v = g.S.StateStore.seen l.fn.s in
    let w = g.S.StateStore.seen l.s in
    record {
      keeps : Keeps v w;
      state : IsState v.now.state → l.default ≡ all_values → MayPostAll (next v.now.state) l.constraints → w.now.state ≡ confined v.now.state (places_of_all (take l.k l.constraints));
    }
