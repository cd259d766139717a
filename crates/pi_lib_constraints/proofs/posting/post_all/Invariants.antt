use Rattle.std.proofs.Common.{◌≡◌, take}
use Rattle.pi_constraints.specs.State.{next}
use Rattle.pi_constraints.specs.Store.{Keeps}
use Rattle.pi_settling.specs.Posted.{with_constraints}
use Rattle.pi_lib_constraints.specs.Posts.{MayPostAll}
use Rattle.pi_lib_constraints.proofs.posting.post_all.Given as goal

abbrev pub invariant-loop-k : goal.invariant-loop-k
invariant-loop-k g l =
    let v = g.S.StateStore.seen l.fn.s in
    let w = g.S.StateStore.seen l.s in
    record { keeps : Keeps v w; state : MayPostAll (next v.now.state) l.constraints → w.now.state ≡ with_constraints (take l.k l.constraints) v.now.state }
