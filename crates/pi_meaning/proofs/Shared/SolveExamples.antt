-- Labellings in small queries, worked through the definitions: an alternative counts a Tick and takes one from the depth. Searches for the best, as calls in a state: no round takes one.
use Rattle.std.specs.Prelude.{◌≡◌, ℕ, suc, ◌+◌, ◌-◌, ◌^◌, ℤ, pos, negsuc, Bool, true, false, List, [], ◌∷◌, Some, None, codes, refl}
use Rattle.std.proofs.Common.{ap, ◌∙◌}
use Rattle.pi_terms.specs.Tree.{Tree, var, int, atom, comp, trees_of}
use Rattle.pi_terms.specs.Copy.{copy}
use Rattle.pi_terms.specs.Variables.{occurrences, firsts}
use Rattle.pi_constraints.specs.declared.constraint.Rel.{Rel}
use Rattle.pi_constraints.specs.declared.constraint.Item.{Item}
use Rattle.pi_constraints.specs.declared.constraint.Constraint.{Constraint}
use Rattle.pi_constraints.specs.State.{State, within, bound, empty_state}
use Rattle.pi_core.specs.GoalTree.{GoalTree, call}
use Rattle.pi_effects.specs.Exception.{exception_with, type_error}
use Rattle.pi_effects.specs.Items.{list_of}
use Rattle.pi_traces.specs.Trace.{Trace, end, note, ans, Done, Raise, Deep, Tick, Load, done, one}
use Rattle.pi_traces.specs.Control.{chosen}
use Rattle.pi_settling.specs.Options.{Objective, forward, up}
use Rattle.pi_meaning.specs.Shared.Level.{Calls, Level, lowest, over}
use Rattle.pi_meaning.specs.Shared.Solve.{bettered_in}
use Rattle.pi_meaning.specs.CoreMeaning.Instances.{solve_or_unknown}
use Rattle.pi_meaning.specs.CoreMeaning.Run.{Solution}
use Rattle.pi_meaning.proofs.Shared.ConstraintExamples.{run_at, state, one_to_three}

-- X :: 1..2
abbrev one_to_two : GoalTree
one_to_two = call (codes "::") (var 0 ∷ comp (codes "..") (trees_of (int (pos 1) ∷ int (pos 2) ∷ [])) ∷ [])

-- X is an integer
abbrev is : ℤ → Solution
is n = record { slots = Some (var 0) ∷ None ∷ []; state = state (bound (int n)) [] }

-- solve([X])
abbrev solve : GoalTree
solve = call (codes "solve") (list_of (var 0 ∷ []) ∷ [])

-- solve([Word],X)
abbrev solve_by : Tree → GoalTree
solve_by word = call (codes "solve") (list_of (word ∷ []) ∷ var 0 ∷ [])

-- the values in order, a Tick for each; at the lowest depth an alternative is too deep
values-tried :
    (run_at 1 (one_to_two ∷ solve ∷ []) ≡ note Tick (ans (is (pos 1)) (note Tick (ans (is (pos 2)) (end Done)))))
    × (run_at 0 (one_to_two ∷ solve ∷ []) ≡ end Deep)
unfolding run_at
values-tried = (refl, refl)

-- halves in order: a Tick for each, and of one with two values again
halves-tried :
    (run_at 1 (one_to_two ∷ solve_by (atom (codes "split")) ∷ []) ≡ note Tick (ans (is (pos 1)) (note Tick (ans (is (pos 2)) (end Done)))))
    × (run_at 2 (one_to_three ∷ solve_by (atom (codes "split")) ∷ [])
    ≡ note Tick (note Tick (ans (is (pos 1)) (note Tick (ans (is (pos 2)) (note Tick (ans (is (pos 3)) (end Done))))))))
unfolding run_at
halves-tried = (refl, refl)

-- where no variable is unbound labelling adds nothing; `call` finds it by its name
nothing-tried : run_at 1 (call (codes "call") (atom (codes "solve") ∷ int (pos 4) ∷ []) ∷ []) ≡ ans (record { slots = None ∷ None ∷ []; state = empty_state }) (end Done)
unfolding run_at
nothing-tried = refl

-- a wrong word is raised
words-told :
    run_at 1 (call (codes "solve") (list_of (atom (codes "foo") ∷ []) ∷ int (pos 4) ∷ []) ∷ [])
    ≡ end (Raise (comp (codes "bad_option") (trees_of (atom (codes "foo") ∷ []))))
unfolding run_at exception_with copy
words-told = refl

-- ---- with an objective

-- a level that counts one alternative, at which no call has an answer and nothing waits
abbrev quiet : Calls
quiet = record { called = λ name ts s. done; applied = λ name ts s. done; drained = λ s. one s }

abbrev level : Level
level = over quiet (lowest quiet)

-- [Word(X)]
abbrev best : List ℕ → Tree
best word = list_of (comp word (trees_of (var 0 ∷ [])) ∷ [])

-- solve([Word(X)],[X]) in a state
abbrev sought : List ℕ → State → Trace State
sought word s = solve_or_unknown level (codes "solve") (trees_of (best word ∷ list_of (var 0 ∷ []) ∷ [])) s

-- X is from 1 to 3
abbrev begin : State
begin = state (within (record { lo = pos 1; hi = pos 3 } ∷ [])) []

abbrev objective : Bool → Objective
objective greatest = record { greatest = greatest; expression = var 0 }

-- so many rounds that may follow the first one, which found 1
abbrev later : Bool → ℕ → Trace State
later greatest n =
    bettered_in (record { variable = forward; value = up; objective = Some (objective greatest) }) (Item.Var 0 ∷ []) (objective greatest) level begin n (state (bound (int (pos 1))) []) (pos 1)

first-rounds : (sought (codes "max") begin ≡ note Tick (later true (2 ^ 127 - 2))) × (sought (codes "min") begin ≡ note Tick (later false (2 ^ 127 + 1)))
unfolding run_at chosen
first-rounds = (refl, refl)

-- N - X =< 0
abbrev at_least : ℕ → Constraint
at_least n = Constraint.Linear Rel.AtMost ((negsuc 0, 0) ∷ []) (pos n)

later-rounds :
    ((n : ℕ) → later true (suc (suc (suc n))) ≡ note (Load 2) (note Tick (note (Load 1) (note (Load 3) (note (Load 4) (one (state (bound (int (pos 3))) (at_least 3 ∷ []))))))))
    × ((n : ℕ) → later false (suc n) ≡ note (Load 4) (one (state (bound (int (pos 1))) [])))
unfolding run_at chosen bettered_in
later-rounds = (λ n. refl, λ n. refl)

-- Of 1..3 the greatest value takes four rounds: 1, 2 and 3 are found, and no value is above 3. The least takes two.
best-found :
    (sought (codes "max") begin ≡ note Tick (note (Load 2) (note Tick (note (Load 1) (note (Load 3) (note (Load 4) (one (state (bound (int (pos 3))) (at_least 3 ∷ [])))))))))
    × (sought (codes "min") begin ≡ note Tick (note (Load 4) (one (state (bound (int (pos 1))) []))))
best-found = (first-rounds.0 ∙ ap (note Tick) (later-rounds.0 (2 ^ 127 - 5)), first-rounds.1 ∙ ap (note Tick) (later-rounds.1 (2 ^ 127)))

-- X is from 1 to 2, and X * X from 2 to 3
abbrev between_squares : State
between_squares = record {
  variables = within (record { lo = pos 1; hi = pos 2 } ∷ []) ∷ within (record { lo = pos 2; hi = pos 3 } ∷ []) ∷ [];
  constraints = Constraint.Product (Item.Var 1) (Item.Var 0) (Item.Var 0) ∷ [];
  agents = [];
  waiting = [];
}

-- where no value is a solution there is no answer
none-found : sought (codes "max") between_squares ≡ note Tick (note (Load 4) (note Tick (note (Load 4) (end Done))))
unfolding run_at chosen
none-found = refl

-- an expression without a value in the answer of a round is told
no-value : run_at 1 (one_to_three ∷ call (codes "solve") (best (codes "max") ∷ int (pos 4) ∷ []) ∷ []) ≡ end (Raise (comp (codes "type_error") (trees_of (atom (codes "integer") ∷ var 0 ∷ []))))
unfolding run_at chosen type_error copy firsts occurrences
no-value = refl
