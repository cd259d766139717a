use Rattle.std.proofs.Common.{subst, sym}
use Rattle.pi_lib_builtin.specs.Items.{AreItems}
use Rattle.pi_lib_constraints.proofs.SideLemmas.{list-numbers, no-list}
use Rattle.pi_lib_constraints.proofs.sides.numbers_of.Goals as goal

pub returns-in_ok-found-in-Ok : goal.returns-in_ok-found-in-Ok
returns-in_ok-found-in-Ok g c = λ t a is.
    let v = g.S.StateStore.seen c.args.s.now in
    let had = c.in-Ok.ensures t a is in
    list-numbers v t had.0 c.in_ok-found-in-Ok.found a had.1 (c.in_ok-found-in-Ok.ensures had.0 a (subst (λ rs. AreItems v rs had.0) (sym c.deref.ensures.value) had.2))

pub returns-in-Err-Raised : goal.returns-in-Err-Raised
returns-in-Err-Raised g c = λ t a is. no-list (g.S.StateStore.seen c.args.s.now) t c.in-Err-Raised.field-0-0 a ((rw c.in-Err-Raised.field-0-is at c.in-Err-Raised.ensures) t a is)
