use Rattle.pi_unify.specs.Terms.{term_of}
use Rattle.pi_unify.proofs.TermValues.{given_term}
use Rattle.pi_lib_constraints.proofs.LeafLemmas.{left-all}
use Rattle.pi_lib_constraints.proofs.flattening.leave_items.Goals as goal

pub returns-in_ok-push_reversed-in-Ok : goal.returns-in_ok-push_reversed-in-Ok
returns-in_ok-push_reversed-in-Ok g c = λ a given gs.
    let v = g.S.StateStore.seen c.args.s.now in
    let found = c.in-Ok.ensures (term_of v c.args.at) a (given_term v c.args.at given) in
    left-all v c.args.at c.args.left.now.items c.push_reversed.new.left.items c.in-Ok.items.items c.deref.result.now found.0 found.1 found.2 c.deref.ensures.value gs c.in_ok-push_reversed-in-Ok.ensures
