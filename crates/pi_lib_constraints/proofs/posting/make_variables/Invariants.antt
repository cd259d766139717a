use Rattle.std.proofs.Common.{◌≡◌}
use Rattle.pi_constraints.specs.Evaluation.{with_new_variables}
use Rattle.pi_constraints.specs.Store.{Keeps}
use Rattle.pi_lib_constraints.proofs.posting.make_variables.Given as goal

abbrev pub invariant-loop-k : goal.invariant-loop-k
invariant-loop-k g l =
    let v = g.S.StateStore.seen l.fn.s in
    let w = g.S.StateStore.seen l.s in
    record { keeps : Keeps v w; state : w.now.state ≡ with_new_variables l._k v.now.state }
