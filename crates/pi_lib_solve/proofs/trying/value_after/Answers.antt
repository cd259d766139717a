use Rattle.std.proofs.Common.{subst, w64}
use Rattle.std.proofs.lemmas.Int.{to_z-of_z}
use Rattle.pi_constraints.specs.Stored.{stored}
use Rattle.pi_label.specs.Beside.{IsNextAbove, IsNextBelow}
use Rattle.pi_lib_solve.proofs.ChoiceLemmas.{up-told, down-told}
use Rattle.pi_lib_solve.proofs.trying.value_after.Goals as goal

pub returns-in-Up : goal.returns-in-Up
returns-in-Up g c = λ d is has.
    let s = (g.S.StateStore.seen c.args.s.now).now.state in
    up-told s c.args.variable d c.args.word c.args.n c.value_above.result _ is has c.in-Up.is (subst (λ n. IsNextAbove (stored s c.args.variable) n c.value_above.result) (to_z-of_z w64 c.args.n c.ranges.n) c.value_above.ensures.next) c.value.ensures

pub returns-in-Down : goal.returns-in-Down
returns-in-Down g c = λ d is has.
    let s = (g.S.StateStore.seen c.args.s.now).now.state in
    down-told s c.args.variable d c.args.word c.args.n c.value_below.result _ is has c.in-Down.is (subst (λ n. IsNextBelow (stored s c.args.variable) n c.value_below.result) (to_z-of_z w64 c.args.n c.ranges.n) c.value_below.ensures.next) c.value-in-Down.ensures
