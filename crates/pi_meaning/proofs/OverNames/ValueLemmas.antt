-- Calls go by the values of their arguments and the state.
use Rattle.std.proofs.Common.{◌≡◌, refl, sym, ◌∙◌, ap}
use Rattle.std.proofs.Math.Path.{fun_ext}
use Rattle.std.specs.Prelude.{Option}
use Rattle.pi_terms.specs.Tree.{Trees}
use Rattle.pi_constraints.specs.State.{State}
use Rattle.pi_syntax.specs.Signature.{exp_count}
use Rattle.pi_traces.specs.Trace.{Trace, one, then}
use Rattle.pi_traces.proofs.TraceLemmas.{alt-done, then-assoc}
use Rattle.pi_meaning.specs.Shared.Level.{Applied}
use Rattle.pi_meaning.specs.OverNames.Environment.{Valued, ValuedAll}
use Rattle.pi_meaning.specs.OverNames.Place.{Place}
use Rattle.pi_meaning.specs.OverNames.Texts.{places_behind, places_caught, behind, variable_first}
use Rattle.pi_meaning.specs.Shared.Calls.{predicate_called, function_called}
use Rattle.pi_meaning.specs.OverNames.Control.{draining, applied_to, called_with}
use Rattle.pi_meaning.specs.OverNames.Forms.{Form, readings, Parts, call_goal}
use Rattle.pi_meaning.specs.OverNames.Goals.{values_of, values_in, values_apart, goals_in, goal_of}
use Rattle.pi_meaning.specs.OverNames.Laws.{ArgumentsGiven, CallsGoByValues, FunctionsGoByValues, GoalsAreCalls}

then-of_one : {A B : Type 0} (x : A) (f : A → Trace B) → then (one x) f ≡ f x
unfolding then
then-of_one x f = alt-done (f x)

-- what follows arguments and tells no names goes by what they come to
behind-given : {A B : Type 0} (t : Trace ValuedAll) (f : Trees → State → Trace A) (g : ValuedAll → A → B) (tells : B → A) → ((all : ValuedAll) (x : A) → tells (g all x) ≡ x) →
    then (then t (λ all. then (f all.trees all.state) (λ x. one (g all x)))) (λ y. one (tells y))
    ≡ then (then t (λ all. one (record { trees = all.trees; state = all.state }))) (λ (u : ArgumentsGiven). then (f u.trees u.state) (λ x. one x))
behind-given t f g tells back =
    then-assoc t (λ all. then (f all.trees all.state) (λ x. one (g all x))) (λ y. one (tells y))
    ∙ ap (then t) (fun_ext each)
    ∙ sym (then-assoc t (λ all. one (record { trees = all.trees; state = all.state })) (λ (u : ArgumentsGiven). then (f u.trees u.state) (λ x. one x)))
  where
    each : (all : ValuedAll) → then (then (f all.trees all.state) (λ x. one (g all x))) (λ y. one (tells y)) ≡ then (one (record { trees = all.trees; state = all.state })) (λ (u : ArgumentsGiven). then (f u.trees u.state) (λ x. one x))
    each all =
        then-assoc (f all.trees all.state) (λ x. one (g all x)) (λ y. one (tells y))
        ∙ ap (then (f all.trees all.state)) (fun_ext (λ x. then-of_one (g all x) (λ y. one (tells y)) ∙ ap one (back all x)))
        ∙ sym (then-of_one (record { trees = all.trees; state = all.state }) (λ (u : ArgumentsGiven). then (f u.trees u.state) (λ x. one x)))

pub calls-go_by_values : CallsGoByValues
unfolding called_with
calls-go_by_values set l name vs ws p q same =
    let does : ArgumentsGiven → Trace State = λ u. then (predicate_called set l name u.trees u.state) (λ s. one s) in
    let told : ValuedAll → State → Place = λ all s. record { names = all.names; state = s } in
    behind-given (vs l p) (predicate_called set l name) told (λ r. r.state) (λ all s. refl)
    ∙ ap (λ (t : Trace ArgumentsGiven). then t does) same
    ∙ sym (behind-given (ws l q) (predicate_called set l name) told (λ r. r.state) (λ all s. refl))

pub functions-go_by_values : FunctionsGoByValues
unfolding applied_to
functions-go_by_values set l name vs ws p q same =
    let does : ArgumentsGiven → Trace Applied = λ u. then (function_called set l name u.trees u.state) (λ a. one a) in
    let told : ValuedAll → Applied → Valued = λ all a. record { tree = a.value; names = all.names; state = a.state } in
    let tells : Valued → Applied = λ x. record { value = x.tree; state = x.state } in
    behind-given (vs l p) (function_called set l name) told tells (λ all a. refl)
    ∙ ap (λ (t : Trace ArgumentsGiven). then t does) same
    ∙ sym (behind-given (ws l q) (function_called set l name) told tells (λ all a. refl))

pub goals-are_calls : GoalsAreCalls
unfolding goal_of
goals-are_calls set before name es l p none =
    let parts : Parts = record {
      variable = variable_first es;
      goals = goals_in set (behind before (places_caught name es)) es;
      values = values_in set before es;
      late = values_apart set (behind before (places_behind es)) es;
      all = values_of set (readings name (exp_count es)) before es;
    } in
    ap (λ (o : Option Form). draining (call_goal set name o parts) l p) none
