use Rattle.std.proofs.Common.{Ok, Err, [], refl, ap, sym}
use Rattle.pi_constraints.specs.State.{bindings, followed}
use Rattle.pi_unify.proofs.KeepsLemmas.{keeps_none}
use Rattle.pi_constraints.specs.Store.{Stays}
use Rattle.pi_effects.specs.Exception.{thrown}
use Rattle.pi_effects.specs.Kinds.{holds_no_variable}
use Rattle.pi_effects.specs.Texts.{text_before, line_feed, plain, quoted}
use Rattle.pi_lib_builtin.specs.Kinds.{passes}
use Rattle.pi_effects.specs.declared.fault.Fault.{Fault}
use Rattle.pi_effects.specs.declared.fault.Stop.{Stop}
use Rattle.pi_lib_builtin.specs.declared.predicates.PredicateOfOne.{PredicateOfOne}
use Rattle.pi_lib.proofs.PredicateBodies.{one-shown, test-shown, text-shown}
use Rattle.pi_lib.proofs.predicates.call_of_one.Goals as goal

pub returns-in-Kind : goal.returns-in-Kind
returns-in-Kind g c = λ t e a is done.
    let v = g.S.StateStore.seen c.args.s.now in
    let stays : Stays v v = record { keeps = keeps_none v; state = refl } in
    one-shown v v (Ok c.outcome_of.result) c.args.predicate (PredicateOfOne.Kind c.in-Kind.kind) t e c.in-Kind.is
    (test-shown v v (Ok c.is_of_kind.result) (Ok c.outcome_of.result) (Ok (passes c.in-Kind.kind (followed (bindings v.now.state) t))) (ap (λ o. Ok o) c.outcome_of.ensures) stays (ap (λ b. Ok b) (sym (c.is_of_kind.ensures t a is)))) done

pub returns-in-Ground : goal.returns-in-Ground
returns-in-Ground g c = λ t e a is done.
    let v = g.S.StateStore.seen c.args.s.now in
    let stays : Stays v v = record { keeps = keeps_none v; state = refl } in
    one-shown v v c.tested.result c.args.predicate PredicateOfOne.Ground t e c.in-Ground.is
    (test-shown v v c.is_closed.result c.tested.result (Ok (holds_no_variable (bindings v.now.state) t)) c.tested.ensures stays (c.is_closed.ensures t a is)) done

pub returns-in-Throw : goal.returns-in-Throw
returns-in-Throw g c = λ t e a is done.
    let v = g.S.StateStore.seen c.args.s.now in
    let stays : Stays v v = record { keeps = keeps_none v; state = refl } in
    one-shown v v (Err (Stop.Raised (Fault.Thrown c.args.a))) c.args.predicate PredicateOfOne.Throw t e c.in-Throw.is (thrown t v.now.state, refl, (t, is, refl), stays) done

pub returns-in-Print : goal.returns-in-Print
returns-in-Print g c = λ t e a is done.
    let v = g.S.StateStore.seen c.args.s.now in
    let stays : Stays v v = record { keeps = keeps_none v; state = refl } in
    one-shown v v c.written.result c.args.predicate PredicateOfOne.Print t e c.in-Print.is
    (text-shown v c.text_before.result c.written.result (text_before plain [] v.now.state t) c.written.ensures stays (c.text_before.ensures t a is)) done

pub returns-in-PrintLine : goal.returns-in-PrintLine
returns-in-PrintLine g c = λ t e a is done.
    let v = g.S.StateStore.seen c.args.s.now in
    let stays : Stays v v = record { keeps = keeps_none v; state = refl } in
    one-shown v v c.written-in-PrintLine.result c.args.predicate PredicateOfOne.PrintLine t e c.in-PrintLine.is
    (text-shown v c.text_before-in-PrintLine.result c.written-in-PrintLine.result (text_before plain line_feed v.now.state t) c.written-in-PrintLine.ensures stays (c.text_before-in-PrintLine.ensures t a is)) done

pub returns-in-Write : goal.returns-in-Write
returns-in-Write g c = λ t e a is done.
    let v = g.S.StateStore.seen c.args.s.now in
    let stays : Stays v v = record { keeps = keeps_none v; state = refl } in
    one-shown v v c.written-in-Write.result c.args.predicate PredicateOfOne.Write t e c.in-Write.is
    (text-shown v c.text_before-in-Write.result c.written-in-Write.result (text_before quoted [] v.now.state t) c.written-in-Write.ensures stays (c.text_before-in-Write.ensures t a is)) done

pub returns-in-WriteLine : goal.returns-in-WriteLine
returns-in-WriteLine g c = λ t e a is done.
    let v = g.S.StateStore.seen c.args.s.now in
    let stays : Stays v v = record { keeps = keeps_none v; state = refl } in
    one-shown v v c.written-in-WriteLine.result c.args.predicate PredicateOfOne.WriteLine t e c.in-WriteLine.is
    (text-shown v c.text_before-in-WriteLine.result c.written-in-WriteLine.result (text_before quoted line_feed v.now.state t) c.written-in-WriteLine.ensures stays (c.text_before-in-WriteLine.ensures t a is)) done
