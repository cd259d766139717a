use Rattle.std.proofs.Common.{Ok, refl}
use Rattle.std.specs.Prelude.{is_none}
use Rattle.pi_constraints.specs.Unify.{unified}
use Rattle.pi_unify.proofs.KeepsLemmas.{keeps_none}
use Rattle.pi_unify.proofs.BindLemmas.{if_ok}
use Rattle.pi_constraints.specs.Store.{Stays}
use Rattle.pi_effects.specs.Answer.{integers_then}
use Rattle.pi_effects.specs.Comparing.{value_order}
use Rattle.pi_lib_builtin.specs.Relations.{holds}
use Rattle.pi_lib_builtin.specs.Ordered.{is_ordered}
use Rattle.pi_lib_builtin.specs.declared.predicates.PredicateOfTwo.{PredicateOfTwo}
use Rattle.pi_lib.proofs.PredicateBodies.{two-shown, test-shown, unify-shown}
use Rattle.pi_lib.proofs.predicates.call_of_two.Goals as goal

pub returns-in-Unify-clause-shows : goal.returns-in-Unify-clause-shows
returns-in-Unify-clause-shows g c = λ t u e state left right done.
    let v = g.S.StateStore.seen c.args.s.now in
    let w = g.S.StateStore.seen c.make_equal.new.s in
    two-shown v w c.tested.result c.args.predicate PredicateOfTwo.Unify t u e c.in-Unify.is
    (unify-shown v w c.make_equal.result c.tested.result (unified v.now.state t u) c.tested.ensures (if_ok c.make_equal.result _ _ c.make_equal.ensures.unifies (λ one h. h t u state left right)) c.make_equal.ensures.err) done

pub returns-in-Differ-clause-shows : goal.returns-in-Differ-clause-shows
returns-in-Differ-clause-shows g c = λ t u e state left right done.
    let v = g.S.StateStore.seen c.args.s.now in
    let w = g.S.StateStore.seen c.differ.new.s in
    two-shown v w c.tested-in-Differ.result c.args.predicate PredicateOfTwo.Differ t u e c.in-Differ.is
    (test-shown v w c.differ.result c.tested-in-Differ.result (Ok (is_none (unified v.now.state t u))) c.tested-in-Differ.ensures c.differ.ensures.stays (c.differ.ensures.shows t u state left right)) done

pub returns-in-Integers-clause-shows : goal.returns-in-Integers-clause-shows
returns-in-Integers-clause-shows g c = λ t u e state left right done.
    let v = g.S.StateStore.seen c.args.s.now in
    let stays : Stays v v = record { keeps = keeps_none v; state = refl } in
    two-shown v v c.tested-in-Integers.result c.args.predicate (PredicateOfTwo.Integers c.in-Integers.relation) t u e c.in-Integers.is
    (test-shown v v c.are_related.result c.tested-in-Integers.result (integers_then v.now.state t u (λ m n. Ok (holds c.in-Integers.relation m n))) c.tested-in-Integers.ensures stays (c.are_related.ensures t u state.acyclic left right)) done

pub returns-in-Terms-clause-shows : goal.returns-in-Terms-clause-shows
returns-in-Terms-clause-shows g c = λ t u e state left right done.
    let v = g.S.StateStore.seen c.args.s.now in
    let stays : Stays v v = record { keeps = keeps_none v; state = refl } in
    two-shown v v c.tested-in-Terms.result c.args.predicate (PredicateOfTwo.Terms c.in-Terms.relation) t u e c.in-Terms.is
    (test-shown v v c.are_ordered.result c.tested-in-Terms.result (Ok (is_ordered c.in-Terms.relation (value_order v.now.state t u))) c.tested-in-Terms.ensures stays (c.are_ordered.ensures t u state.acyclic left right)) done
