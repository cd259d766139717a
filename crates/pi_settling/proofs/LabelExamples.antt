-- Options, alternatives and labellings, worked through the definitions.
use Rattle.std.specs.Prelude.{◌≡◌, ℕ, ◌-◌, ◌^◌, ℤ, pos, negsuc, int_le, Bool, true, false, cond, List, [], ◌∷◌, Some, None, codes, refl}
use Rattle.std.specs.Str.{bytes_eq}
use Rattle.pi_terms.specs.Tree.{Tree, var, int, atom, comp, no_trees, tree}
use Rattle.pi_terms.specs.Variables.{firsts}
use Rattle.pi_constraints.specs.declared.constraint.Item.{Item}
use Rattle.pi_constraints.specs.declared.constraint.Constraint.{Constraint}
use Rattle.pi_constraints.specs.declared.domain.Span.{Span}
use Rattle.pi_constraints.specs.Domain.{numbers_from, values_of, overlap, shared, common}
use Rattle.pi_prop_spec.specs.Ends.{greatest_of}
use Rattle.pi_traces.specs.Trace.{Trace, end, note, ans, Done, Raise, Deep, Tick, Load, done, one, alt, then}
use Rattle.pi_traces.specs.Control.{chosen}
use Rattle.pi_constraints.specs.State.{State, Variable, free, within, bound, next, empty_state, with_new, followed_for, followed}
use Rattle.pi_effects.specs.Exception.{type_error}
use Rattle.pi_settling.specs.Roots.{all_values}
use Rattle.pi_settling.specs.Settled.{loaded}
use Rattle.pi_settling.specs.Options.{Objective, forward, backward, ff, ValueWord, up, down, split, reverse_split, options, bad_option, words_read, read_options}
use Rattle.pi_settling.specs.Confined.{confined}
use Rattle.pi_settling.specs.Choices.{Pending, pending, smallest, picked, is_value, at_most, above, alternatives}
use Rattle.pi_settling.specs.Label.{all_tried, labelled_at}
use Rattle.pi_settling.specs.Reading.{reads, Reading, Solving}
use Rattle.pi_settling.specs.Rounds.{better_sign, count_better, weighed, bettered, solved}
use Rattle.pi_settling.specs.SearchLoad.{way_for, squares, search_load}
use Rattle.pi_settling.specs.Assignments.{with_load}

-- [down,$max(X)] and [up,down] and [foo]
options-read :
    (read_options (atom (codes "down") ∷ comp (codes "max") (tree (var 0) no_trees) ∷ []) ≡ options (record { variable = forward; value = down; objective = Some (record { greatest = true; expression = var 0 }) }))
    × (read_options (atom (codes "up") ∷ atom (codes "down") ∷ []) ≡ bad_option (atom (codes "down")))
    × (read_options (atom (codes "ff") ∷ atom (codes "foo") ∷ atom (codes "ff") ∷ []) ≡ bad_option (atom (codes "foo")))
unfolding words_read
options-read = (refl, refl, refl)

abbrev span : ℤ → ℤ → List Span
span lo hi = record { lo = lo; hi = hi } ∷ []

abbrev waits : ℕ → ℕ → Pending
waits n hi = record { variable = n; domain = span (pos 1) (pos hi) }

-- what is picked of three variables with 3, 2 and 2 values
variables-picked :
    (picked (waits 0 3 ∷ waits 1 2 ∷ waits 2 2 ∷ []) forward ≡ Some (waits 0 3))
    × (picked (waits 0 3 ∷ waits 1 2 ∷ waits 2 2 ∷ []) backward ≡ Some (waits 2 2))
    × (picked (waits 0 3 ∷ waits 1 2 ∷ waits 2 2 ∷ []) ff ≡ Some (waits 1 2))
unfolding smallest values_of numbers_from
variables-picked = (refl, refl, refl)

-- 1..3 and -4..-1, whose middle is -2.5, rounded down
alternatives-in_order :
    (alternatives up (span (pos 1) (pos 3)) ≡ is_value (pos 1) ∷ is_value (pos 2) ∷ is_value (pos 3) ∷ [])
    × (alternatives down (span (pos 1) (pos 3)) ≡ is_value (pos 3) ∷ is_value (pos 2) ∷ is_value (pos 1) ∷ [])
    × (alternatives split (span (negsuc 3) (negsuc 0)) ≡ at_most (negsuc 2) ∷ above (negsuc 2) ∷ [])
    × (alternatives reverse_split (span (pos 1) (pos 4)) ≡ above (pos 2) ∷ at_most (pos 2) ∷ [])
unfolding values_of numbers_from greatest_of
alternatives-in_order = (refl, refl, refl, refl)

abbrev state : List Variable → State
state vs = record { variables = vs; constraints = []; agents = []; waiting = [] }

abbrev is : ℕ → Variable
is n = bound (int (pos n))

abbrev up_to : ℕ → Variable
up_to n = within (span (pos 1) (pos n))

abbrev trace_of : ValueWord → ℕ → State → Trace State
trace_of w d s = labelled_at (λ before r. one r) (λ d r. one r) (record { variable = forward; value = w; objective = None }) (Item.Var 0 ∷ Item.Int (pos 7) ∷ Item.Var 1 ∷ []) d s

-- Two variables with two values each, without constraints: every assignment, the left one slowest. A Tick and one of the depth for each alternative.
labellings :
    (trace_of down 2 (state (up_to 2 ∷ up_to 2 ∷ []))
    ≡ note Tick (note Tick (ans (state (is 2 ∷ is 2 ∷ [])) (note Tick (ans (state (is 2 ∷ is 1 ∷ []))
    (note Tick (note Tick (ans (state (is 1 ∷ is 2 ∷ [])) (note Tick (ans (state (is 1 ∷ is 1 ∷ [])) (end Done)))))))))))
    × (trace_of split 2 (state (up_to 3 ∷ is 4 ∷ []))
    ≡ note Tick (note Tick (ans (state (is 1 ∷ is 4 ∷ [])) (note Tick (ans (state (is 2 ∷ is 4 ∷ [])) (note Tick (ans (state (is 3 ∷ is 4 ∷ [])) (end Done))))))))
    × (trace_of up 1 (state (up_to 2 ∷ up_to 2 ∷ [])) ≡ note Tick (end Deep))
    × (trace_of up 0 (state (is 1 ∷ is 2 ∷ [])) ≡ one (state (is 1 ∷ is 2 ∷ [])))
unfolding labelled_at all_tried values_of numbers_from greatest_of overlap shared common followed followed_for then alt
labellings = (refl, refl, refl, refl)

-- A reading by which an operand stands for the number of variables and makes one; that it is to be above one makes two, above more is never so, and it is never below anything.
abbrev greater : Tree → State → Trace State
greater (int i) s = cond (int_le i (pos 1)) (one (with_new (with_new s))) done
greater t s = done

abbrev counting : Reading
counting = record {
  operand = λ t s. reads (with_new s) (record { terms = []; constant = pos (next s) });
  relation = λ sign t u s. cond (bytes_eq sign (codes "#>")) (greater u s) done;
}

abbrev solving : Bool → Solving
solving greatest = record {
  settle = λ before r. one r;
  drains = λ d r. one r;
  reading = counting;
  chosen_options = record { variable = forward; value = up; objective = Some (record { greatest = greatest; expression = var 0 }) };
  items = [];
}

-- The last answer that was found is the one answer; each round begins from the call's state; a later round takes one from the depth; `$max` asks for more and `$min` for less.
rounds :
    (solved (solving true) 2 empty_state ≡ one (with_new (with_new empty_state)))
    × (solved (solving true) 1 empty_state ≡ end Deep)
    × (solved (solving false) 1 empty_state ≡ one (with_new empty_state))
unfolding bettered labelled_at confined chosen then alt
rounds = (refl, refl, refl)

-- the state of an unbound variable without a domain, one with a domain and one that is bound
abbrev mixed : State
mixed = state (free ∷ up_to 2 ∷ is 5 ∷ [])

-- Before it is confined a variable without a domain isn't pending; confined it has all values. A domain and a binding stay.
default-domain :
    (confined mixed (Item.Var 0 ∷ Item.Int (pos 7) ∷ Item.Var 1 ∷ Item.Var 2 ∷ []) ≡ state (within all_values ∷ up_to 2 ∷ is 5 ∷ []))
    × (pending mixed (Item.Var 0 ∷ Item.Var 2 ∷ []) ≡ [])
unfolding confined followed followed_for
default-domain = (refl, refl)

abbrev posted_state : State
posted_state = record { variables = up_to 2 ∷ up_to 3 ∷ []; constraints = Constraint.Absolute (Item.Var 1) (Item.Var 0) ∷ []; agents = []; waiting = [] }

-- What a search adds to the load for X in 1..2, with Y bound to X: (1 + 2) * (3*3), and for Y too (1 + 4) * (3*3)*(3*3); for Y alone (1 + 2) * (3*3)*(3*3), since X is on its way.
-- A variable of a posted constraint counts in the product.
search-loads :
    (search_load (state (up_to 2 ∷ bound (var 0) ∷ [])) (Item.Var 0 ∷ []) ≡ 27)
    × (search_load (state (up_to 2 ∷ bound (var 0) ∷ [])) (Item.Var 0 ∷ Item.Int (pos 4) ∷ Item.Var 1 ∷ []) ≡ 405)
    × (search_load (state (up_to 2 ∷ bound (var 0) ∷ [])) (Item.Var 1 ∷ []) ≡ 243)
    × (search_load posted_state (Item.Var 0 ∷ []) ≡ 432)
    × (with_load {A = ℕ} 27 (loaded 3 (one 0)) ≡ note (Load 30) (one 0))
    × (with_load {A = ℕ} 27 (one 0) ≡ note (Load 27) (one 0))
unfolding search_load squares way_for firsts values_of numbers_from followed followed_for loaded
search-loads = (refl, refl, refl, refl, refl, refl)

abbrev first_of : (State → State → Trace State) → (ℕ → State → Trace State) → Trace State
first_of settle drains = labelled_at settle drains (record { variable = forward; value = up; objective = None }) (Item.Var 0 ∷ []) 1 (state (up_to 2 ∷ []))

-- An alternative is settled from the state in which it began, and what waits then runs before labelling goes on.
alternatives-are_goals :
    (first_of (λ before r. one before) (λ d r. one r) ≡ note Tick (end Deep))
    × (first_of (λ before r. one r) (λ d r. note (Load 1) (one r))
    ≡ note Tick (note (Load 1) (ans (state (is 1 ∷ [])) (note Tick (note (Load 1) (ans (state (is 2 ∷ [])) (end Done)))))))
unfolding labelled_at all_tried values_of numbers_from greatest_of overlap shared common followed followed_for then alt
alternatives-are_goals = (refl, refl)

-- a reading by which above one is made of two variables, above two of three more than there are, and above more of none
abbrev climbs : Tree → State → Trace State
climbs (int i) s = cond (int_le i (pos 1)) (one (with_new (with_new s))) (cond (int_le i (pos 2)) (one (with_new (with_new (with_new s)))) done)
climbs t s = done

abbrev climbing : Solving
climbing = record {
  settle = λ before r. one r;
  drains = λ d r. one r;
  reading = record { operand = counting.operand; relation = λ sign t u s. climbs u s };
  chosen_options = record { variable = forward; value = up; objective = Some (record { greatest = true; expression = var 0 }) };
  items = [];
}

-- the third round too begins from the call's state
third-round : solved climbing 3 empty_state ≡ one (with_new (with_new (with_new empty_state)))
unfolding bettered labelled_at confined chosen then alt
third-round = refl

-- at the ends of 128 bits no integer is better than one, or all others are
better-counts :
    (count_better false (negsuc (2 ^ 127 - 1)) ≡ 0)
    × (count_better false (negsuc (2 ^ 127 - 3)) ≡ 2)
    × (count_better false (pos 0) ≡ 2 ^ 127)
    × (count_better true (pos (2 ^ 127 - 1)) ≡ 0)
    × (count_better true (pos (2 ^ 127 - 4)) ≡ 3)
    × (count_better true (negsuc (2 ^ 127 - 1)) ≡ 2 ^ 128 - 1)
    × (count_better false (pos (2 ^ 127 - 1)) ≡ 2 ^ 128 - 1)
better-counts = (refl, refl, refl, refl, refl, refl, refl)

-- better is strictly so, and an expression that is no integer behind a round is told
better-signs : (better_sign false ≡ codes "#<") × (better_sign true ≡ codes "#>")
better-signs = (refl, refl)

unknown-worth : (o : Objective) (r : State) (next : ℤ → Trace State) → weighed o r None next ≡ end (Raise (type_error (codes "integer") o.expression r))
unknown-worth o r next = refl
