use Rattle.pi_constraints.specs.State.{bindings}
use Rattle.pi_unify.specs.Refs.{term_of}
use Rattle.pi_unify.proofs.OccursLemmas.{ground_holds_none, variable_not_found}
use Rattle.pi_unify.proofs.occurs.is_another.Goals as goal

pub returns-then-is_ground : goal.returns-then-is_ground
returns-then-is_ground g c = λ yes is ref.
    let v = g.S.StateStore.seen c.args.s.now in
    ground_holds_none (bindings v.now.state) c.args.v (term_of v c.args.r) ((c.is_ground.ensures (term_of v c.args.r) ref.is).0 c.if-is_ground.true)

pub returns-else-n-v : goal.returns-else-n-v
returns-else-n-v g c = λ yes is ref.
    let v = g.S.StateStore.seen c.args.s.now in
    variable_not_found v c.args.r c.in-Var.n c.args.v is ref (c.in-Var.ensures.shows (term_of v c.args.r) ref.is is.acyclic) c.if-n-v.false
