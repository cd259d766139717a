-- Calls of `solve`, run step by step: each alternative counts a Tick, and what it leaves labels on.
use Rattle.std.proofs.Common.{◌≡◌, ℕ, List, [], ◌∷◌, refl}
use Rattle.std.specs.Prelude.{Some, pos, codes}
use Rattle.pi_terms.specs.Tree.{Tree, var, int, atom, tree_count, cells}
use Rattle.pi_terms.specs.ListNames.{nil}
use Rattle.pi_terms.specs.Order.{order}
use Rattle.pi_terms.specs.Substitution.{instance}
use Rattle.pi_constraints.specs.Domain.{has_value, numbers_from, values_of, overlap, shared, common}
use Rattle.pi_constraints.specs.Evaluation.{evaluated, evaluated_all}
use Rattle.pi_constraints.specs.Value.{rounds, value}
use Rattle.pi_constraints.specs.State.{Variable, within, bound, followed_for, followed}
use Rattle.pi_core.specs.GoalTree.{GoalTree, call, no_goals, goal}
use Rattle.pi_effects.specs.BuiltIns.{built_in_predicate, is_predicate, tests, other_predicates}
use Rattle.pi_effects.specs.Comparing.{comparing_tests}
use Rattle.pi_effects.specs.Exception.{type_error}
use Rattle.pi_effects.specs.Items.{each_tree, list_onto, items_for, list_items}
use Rattle.pi_effects.specs.Kinds.{kind_tests}
use Rattle.pi_effects.specs.Rows.{done_by, has_line}
use Rattle.pi_effects.specs.Texts.{writing_predicates}
use Rattle.pi_prop_spec.specs.Ends.{greatest_of}
use Rattle.pi_settling.specs.Asked.{flat_for, flat_all}
use Rattle.pi_settling.specs.Confined.{confined}
use Rattle.pi_settling.specs.Goals.{constraint_goals}
use Rattle.pi_settling.specs.Options.{words_read}
use Rattle.pi_settling.specs.SolveCalls.{solve_calls}
use Rattle.pi_settling.specs.Settle.{settlement as settlement_of_goal, stable_state, passes, runs_of}
use Rattle.pi_settling.specs.Settled.{loaded}
use Rattle.pi_settling.specs.Load.{count_due, same_domain}
use Rattle.pi_settling.specs.Events.{events_from, variable_events}
use Rattle.pi_settling.specs.Answers.{activations, activations_from}
use Rattle.pi_traces.specs.Trace.{Tick, Emitted, noted, answered}
use Rattle.pi_meaning.specs.CoreMeaning.Run.{Solution}
use Rattle.pi_meaning.specs.Machine.Configuration.{going, failed, Config, config, in_places}
use Rattle.pi_meaning.specs.Machine.Filled.{is_filled, are_filled}
use Rattle.pi_meaning.specs.Machine.NamedGoals.{goal_by_name, slots_from}
use Rattle.pi_meaning.specs.Machine.Step.{goal_step, frame_step, newest_open, fits, answer_step, fail_step, raise_step, step, first_now, unknown_by}
use Rattle.pi_meaning.specs.Shared.Names.{is_later_predicate, later_predicates}
use Rattle.pi_meaning.specs.Shared.Settle.{settlement, is_unchanged, are_unchanged}
use Rattle.pi_meaning.proofs.Machine.MachineExamples.{ran, a_state}

abbrev up_to : ℕ → Variable
up_to n = within (record { lo = pos 1; hi = pos n } ∷ [])

-- a goal in a block whose one slot holds the variable 0, which has this domain
abbrev from : GoalTree → ℕ → Config
from g n = config (going (goal g no_goals) (Some (var 0) ∷ []) (a_state (up_to n ∷ [])) []) []

abbrev x_is : ℕ → Emitted Solution
x_is n = answered (record { slots = Some (var 0) ∷ []; state = a_state (bound (int (pos n)) ∷ []) })

abbrev solved : List Tree → GoalTree
solved args = call (codes "solve") args

abbrev words : Tree → Tree
words w = list_onto (w ∷ []) (atom nil)

-- solve(X) and solve([split], X), where X has three values; call(solve, X), where it has two
labelling-runs :
    (ran 30 [] (from (solved (var 0 ∷ [])) 3) ≡ record { events = noted Tick ∷ x_is 1 ∷ noted Tick ∷ x_is 2 ∷ noted Tick ∷ x_is 3 ∷ []; config = config failed [] })
    × (ran 30 [] (from (solved (words (atom (codes "split")) ∷ var 0 ∷ [])) 3)
    ≡ record { events = noted Tick ∷ noted Tick ∷ x_is 1 ∷ noted Tick ∷ x_is 2 ∷ noted Tick ∷ x_is 3 ∷ []; config = config failed [] })
    × (ran 30 [] (from (call (codes "call") (atom (codes "solve") ∷ var 0 ∷ [])) 2) ≡ record { events = noted Tick ∷ x_is 1 ∷ noted Tick ∷ x_is 2 ∷ []; config = config failed [] })
unfolding ran step goal_step frame_step newest_open answer_step fits fail_step raise_step first_now unknown_by goal_by_name slots_from in_places is_filled are_filled evaluated evaluated_all built_in_predicate is_predicate tests other_predicates comparing_tests kind_tests writing_predicates constraint_goals solve_calls done_by has_line is_later_predicate later_predicates type_error each_tree list_onto items_for list_items cells tree_count value rounds instance followed followed_for order flat_for flat_all words_read confined has_value numbers_from values_of overlap shared common greatest_of settlement is_unchanged are_unchanged settlement_of_goal stable_state passes runs_of loaded count_due same_domain events_from variable_events activations activations_from
labelling-runs = (refl, refl, refl)
