use Rattle.pi_constraints.specs.declared.store.Cell.{Cell}
use Rattle.pi_unify.specs.Terms.{term_of}
use Rattle.pi_unify.proofs.TermValues.{given_term}
use Rattle.pi_unify.proofs.ComparisonLemmas.{shown}
use Rattle.pi_lib_builtin.proofs.ClosedLemmas.{leaves-closed, ground-closed, variable-open, other-closed}
use Rattle.pi_lib_builtin.proofs.closed.look_at.Goals as goal

pub returns-then-is_ground : goal.returns-then-is_ground
returns-then-is_ground g c = λ a given gs.
    let v = g.S.StateStore.seen c.args.s.now in
    leaves-closed v c.args.at c.args.left.now.items (ground-closed v c.args.at ((c.is_ground.ensures (term_of v c.args.at) (given_term v c.args.at given)).0 c.if-is_ground.true)) gs

pub returns-in-Var : goal.returns-in-Var
returns-in-Var g c = λ a given gs.
    let v = g.S.StateStore.seen c.args.s.now in
    variable-open v c.args.at c.in-Var.field-0 (shown v c.args.at (Cell.Var c.in-Var.field-0) a given c.in-Var.ensures.shows)

pub returns-in_default : goal.returns-in_default
returns-in_default g c = λ a given gs.
    let v = g.S.StateStore.seen c.args.s.now in
    leaves-closed v c.args.at c.args.left.now.items (other-closed v c.args.at c.look.result c.in_default.not-Var c.in_default.not-Comp (shown v c.args.at c.look.result a given c.look.ensures.shows)) gs

pub returns-in_ok-leave_arguments-in-Comp : goal.returns-in_ok-leave_arguments-in-Comp
returns-in_ok-leave_arguments-in-Comp g c = λ a given gs.
    let v = g.S.StateStore.seen c.args.s.now in
    let it = shown v c.args.at (Cell.Comp c.in-Comp.field-0 c.in-Comp.count) a given c.in-Comp.ensures.shows in
    c.in_ok-leave_arguments-in-Comp.ensures it.0 a given it.2 it.3 gs
