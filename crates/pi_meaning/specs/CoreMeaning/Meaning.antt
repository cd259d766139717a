-- The core meaning: the trace of a goal of the core language, from a place in a run. An answer is a place
-- again. What a call of the program does is told by the level of the place (`Level`), and what any other name does is handed
-- in (`Builtins`), so that the trace of a goal goes by the goals in it alone. (A User's Guide to Picat, 'Predicates and Functions' and 'Exceptions'; slots, levels and strict
-- goals are own.)
use Rattle.pi_terms.specs.ListCopies.{new_in_all, list_of_copies}
use Rattle.std.specs.Prelude.{ℕ, pos, List, Some, slice_set}
use Rattle.pi_terms.specs.Tree.{Tree, var, int, trees_of}
use Rattle.pi_terms.specs.Places.{Places}
use Rattle.pi_constraints.specs.Value.{value}
use Rattle.pi_constraints.specs.State.{State, bindings, next}
use Rattle.pi_core.specs.GoalTree.{GoalTree, truth, fail, tick, call, apply, seq, alternatives, if_else, not, once, collect, count, catch, GoalTrees, no_goals, goal}
use Rattle.pi_traces.specs.Trace.{Trace, done, one, alt, then, first}
use Rattle.pi_traces.specs.Control.{negated, chosen, collected, counted, caught}
use Rattle.pi_constraints.specs.Evaluation.{Evaluated, evaluated, EvaluatedAll, evaluated_all, with_new_variables}
use Rattle.pi_meaning.specs.Shared.Raise.{within_limit}
use Rattle.pi_meaning.specs.Shared.Handling.{handling}
use Rattle.pi_meaning.specs.Shared.Level.{calls_at, lower, ticked, Point}
use Rattle.pi_meaning.specs.CoreMeaning.Builtins.{Builtins, predicate_by, function_by}

-- what a goal does, from a place
abbrev pub Action : Type 0
Action = Point → Trace Point

-- the place with another state, and with a slot filled
abbrev pub in_state : Point → State → Point
in_state p s = record { level = p.level; slots = p.slots; state = s }

abbrev pub with_slot : Point → ℕ → Tree → Point
with_slot p k t = record { level = p.level; slots = slice_set p.slots k (Some t); state = p.state }

-- each goal first drains the state
unfoldable pub draining : Action → Action
draining act p = then ((calls_at p.level).drained p.state) (λ s. act (in_state p s))

-- an answer of a goal at a strict place counts when nothing waits any more
unfoldable pub strictly : Action → Action
strictly act p = then (act p) (draining (λ q. one q))

-- `true` has one answer, `fail` has none
abbrev pub succeeding : Action
succeeding p = one p

abbrev pub failing : Action
failing p = done

-- a Tick, and what follows is at the lower level
abbrev pub ticking : Action
ticking p = ticked (lower p.level) (λ l. one (record { level = l; slots = p.slots; state = p.state }))

-- the place after arguments were evaluated
abbrev pub after_arguments : Point → EvaluatedAll → Point
after_arguments p all = record { level = p.level; slots = all.slots; state = all.state }

-- The call of a predicate: its arguments are evaluated from the left, and it is called by name. What is built in is settled from the state behind that.
unfoldable pub calling : Builtins → List ℕ → List Tree → Action
calling b name args p =
    let all : EvaluatedAll = evaluated_all (trees_of args) p.slots p.state in
    then (predicate_by b p.level name all.trees all.state) (λ s. one (in_state (after_arguments p all) s))

-- the call of a function, whose value goes into a slot
unfoldable pub applying : Builtins → List ℕ → List Tree → ℕ → Action
applying b name args into p =
    let all : EvaluatedAll = evaluated_all (trees_of args) p.slots p.state in
    then (function_by b p.level name all.trees all.state) (λ a. one (with_slot (in_state (after_arguments p all) a.state) into a.value))

-- Collecting: the value of a slot after each answer, as a list of copies. The copies have new variables, numbered on from
-- the state of the goal, in the order of the answers.

abbrev pub slot_value : ℕ → Places → State → Tree
slot_value k e s = let read : Evaluated = evaluated (var k) e s in value (bindings read.state) read.tree

abbrev pub copyable : Tree → Trace Tree
copyable t = within_limit t (one t)

abbrev pub with_list : Point → ℕ → List Tree → Point
with_list p into ts = with_slot (in_state p (with_new_variables (new_in_all ts) p.state)) into (list_of_copies (next p.state) ts)

unfoldable pub collecting : Action → ℕ → ℕ → Action
collecting act k into p = collected (then (strictly act p) (λ q. copyable (slot_value k q.slots q.state))) (λ t. t) (λ ts. one (with_list p into ts))

-- the number of answers goes into a slot
unfoldable pub counting : Action → ℕ → Action
counting act into p = counted (strictly act p) (λ n. one (with_slot p into (int (pos n))))

-- Catching: the pattern of what is caught is evaluated, and the goal runs from there. What it raises is
-- unified with the pattern there, and the handler runs (`Handling`).

abbrev pub after_term : Point → Evaluated → Point
after_term p e = record { level = p.level; slots = e.slots; state = e.state }

unfoldable pub catching : Action → Tree → Action → Action
catching act ball handler p =
    let e : Evaluated = evaluated ball p.slots p.state in
    caught (strictly act (after_term p e)) (handling e.state e.tree (λ s. handler (in_state (after_term p e) s)))

-- the trace of each kind of goal
unfoldable mutual
  pub meaning : Builtins → GoalTree → Action
  meaning b truth = draining succeeding
  meaning b fail = draining failing
  meaning b tick = draining ticking
  meaning b (call name args) = draining (calling b name args)
  meaning b (apply name args slot) = draining (applying b name args slot)
  meaning b (seq gs) = draining (meaning_of_all b gs)
  meaning b (alternatives gs) = draining (meaning_of_any b gs)
  meaning b (if_else test then_goal other) = draining (λ p. chosen (strictly (meaning b test) p) (meaning b then_goal) (meaning b other p))
  meaning b (not g) = draining (λ p. negated (strictly (meaning b g) p) p)
  meaning b (once g) = draining (λ p. first (strictly (meaning b g) p))
  meaning b (collect g k into) = draining (collecting (meaning b g) k into)
  meaning b (count g into) = draining (counting (meaning b g) into)
  meaning b (catch g ball handler) = draining (catching (meaning b g) ball (meaning b handler))

  -- one after the other, from each answer of the one before
  pub meaning_of_all : Builtins → GoalTrees → Action
  meaning_of_all b no_goals p = one p
  meaning_of_all b (goal g gs) p = then (meaning b g p) (meaning_of_all b gs)

  -- the answers of one, then those of the next, each from the same place
  pub meaning_of_any : Builtins → GoalTrees → Action
  meaning_of_any b no_goals p = done
  meaning_of_any b (goal g gs) p = alt (meaning b g p) (meaning_of_any b gs p)
