use Rattle.std.proofs.Common.{sym}
use Rattle.pi_terms.specs.Tree.{args}
use Rattle.pi_constraints.specs.State.{bindings}
use Rattle.pi_unify.specs.Refs.{term_of, root_of}
use Rattle.pi_unify.proofs.OccursLemmas.{apart_by_args, compound_root, ground_holds_none}
use Rattle.pi_unify.proofs.occurs.is_apart.Goals as goal

pub returns-in-Comp : goal.returns-in-Comp
returns-in-Comp g c = λ yes is ref.
    let v = g.S.StateStore.seen c.args.s.now in
    let r = c.args.r in
    let root = c.in-Comp.ensures.shows (term_of v r) ref.is is.acyclic in
    apart_by_args v c.args.v r is (compound_root (root_of v r) root.0 (args (root_of v r)) root.2) (c.are_others.ensures yes is ref (sym root.3))

pub returns-then-is_ground : goal.returns-then-is_ground
returns-then-is_ground g c = λ yes is ref.
    let v = g.S.StateStore.seen c.args.s.now in
    ground_holds_none (bindings v.now.state) c.args.v (term_of v c.args.r) ((c.is_ground.ensures (term_of v c.args.r) ref.is).0 c.if-is_ground.true)
