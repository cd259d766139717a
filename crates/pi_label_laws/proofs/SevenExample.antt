-- [X,Y,Z] :: 0..1, (X #/\ Y) #=> Z, solve([X,Y,Z]) has seven answers: what the goal leaves, settled, is labelled by computing.
use Rattle.std.specs.Prelude.{ℕ, ℤ, pos, List, [], ◌∷◌, None, refl}
use Rattle.pi_terms.specs.Tree.{int}
use Rattle.pi_constraints.specs.Domain.{has_value, numbers_from, values_of, overlap, shared, common}
use Rattle.pi_constraints.specs.State.{State, bound, followed_for, followed}
use Rattle.pi_traces.specs.Trace.{one, then, alt, answers}
use Rattle.pi_prop_spec.specs.Ends.{greatest_of}
use Rattle.pi_prop_spec.specs.Places.{sum_places}
use Rattle.pi_prop_spec.specs.Sums.{least_of_all, least_of_others, negated}
use Rattle.pi_prop_spec.specs.Rules.{count_within}
use Rattle.pi_prop_spec.specs.Decided.{each_below, some_below, leaves}
use Rattle.pi_settling.specs.Values.{ahead_of, with_value, domain_of_values}
use Rattle.pi_settling.specs.Events.{variable_events, events_from}
use Rattle.pi_settling.specs.Answers.{leads_for, first_answered, activations_from, activations}
use Rattle.pi_settling.specs.Load.{same_domain, count_due, roots_of}
use Rattle.pi_settling.specs.Settled.{loaded}
use Rattle.pi_settling.specs.Settle.{is_kept, integers_left, variables_left, run_of, runs_of, passes, stable_state, settlement, settled}
use Rattle.pi_settling.specs.Options.{Options, forward, up}
use Rattle.pi_settling.specs.Label.{all_tried, labelled_at}
use Rattle.pi_label_laws.specs.SolutionLaws.{AnswersTell}
use Rattle.pi_label_laws.proofs.ImpliedExample.{bit, three, posted}

abbrev settled_goal : State
settled_goal = record { variables = bit ∷ bit ∷ bit ∷ bit ∷ bound (int (pos 1)) ∷ []; constraints = posted.list; agents = []; waiting = [] }

abbrev upwards : Options
upwards = record { variable = forward; value = up; objective = None }

abbrev values : ℕ → ℕ → ℕ → List ℤ
values x y z = pos x ∷ pos y ∷ pos z ∷ []

-- all but X and Y without Z
seven : AnswersTell three (labelled_at settled (λ d r. one r) upwards three 3 settled_goal)
    (values 0 0 0 ∷ values 0 0 1 ∷ values 0 1 0 ∷ values 0 1 1 ∷ values 1 0 0 ∷ values 1 0 1 ∷ values 1 1 1 ∷ [])
unfolding labelled_at all_tried then alt answers each_below some_below leaves sum_places least_of_all least_of_others negated count_within has_value greatest_of numbers_from values_of overlap shared common ahead_of with_value domain_of_values is_kept integers_left variables_left run_of runs_of passes stable_state settlement settled loaded count_due roots_of same_domain variable_events events_from followed followed_for leads_for first_answered activations_from activations
seven = refl
