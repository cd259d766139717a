-- The paths of the core language: each goal of it as a search, from a place in a run. A branch of a disjunction, a side of a `catch`, and a rule or fact of a call
-- that isn't quiet are choices; conditions, `not`, `once`, `find_all`, `count_all` and function calls are strict places, whose choices are dropped. (Own.)
use Rattle.std.specs.Prelude.{ℕ, pos, List, [], ◌∷◌, Some, slice_set}
use Rattle.pi_terms.specs.Tree.{Tree, int, Trees, trees_of}
use Rattle.pi_terms.specs.ListCopies.{new_in_all, list_of_copies}
use Rattle.pi_constraints.specs.State.{State, next}
use Rattle.pi_constraints.specs.Evaluation.{Evaluated, evaluated, EvaluatedAll, evaluated_all, with_new_variables}
use Rattle.pi_core.specs.GoalTree.{GoalTree, truth, fail, tick, call, apply, seq, alternatives as any_of, if_else, not, once, collect, count, catch, GoalTrees, no_goals, goal}
use Rattle.pi_traces.specs.Trace.{Trace, done, one, then, first}
use Rattle.pi_traces.specs.Control.{negated, collected, counted}
use Rattle.pi_meaning.specs.CoreMeaning.Builtins.{function_by}
use Rattle.pi_meaning.specs.CoreMeaning.Meaning.{slot_value, copyable}
use Rattle.pi_resume_spec.specs.Resumed.{Search, simple, sequence, alternatives, caught_search, chosen_search}
use Rattle.pi_resume_spec.specs.Searches.{SearchLevel, Spot, Tries, below, plain_level, without_paths, only, ticked_at, in_state, draining, strictly}
use Rattle.pi_resume_spec.specs.ByName.{Offers, or_searched, handling}

abbrev pub with_slot : Spot → ℕ → Tree → Spot
with_slot p k t = record { level = p.level; slots = slice_set p.slots k (Some t); state = p.state }

abbrev pub after_arguments : Spot → EvaluatedAll → Spot
after_arguments p all = record { level = p.level; slots = all.slots; state = all.state }

abbrev pub after_term : Spot → Evaluated → Spot
after_term p e = record { level = p.level; slots = e.slots; state = e.state }

abbrev pub succeeding : Tries
succeeding p = only p

abbrev pub failing : Tries
failing p = simple done

-- a Tick, and what follows is at the lower level
abbrev pub ticking : Tries
ticking p = ticked_at (below p.level) (λ l. only (record { level = l; slots = p.slots; state = p.state }))

abbrev pub predicate_by : Offers → SearchLevel → List ℕ → Trees → State → Search State
predicate_by b l name ts s = or_searched (b.predicate l name ts s) l name ts s

unfoldable pub calling : Offers → List ℕ → List Tree → Tries
calling b name args p =
    let all : EvaluatedAll = evaluated_all (trees_of args) p.slots p.state in
    sequence (predicate_by b p.level name all.trees all.state) (λ s. only (in_state (after_arguments p all) s))

-- the call of a function, whose value goes into a slot
unfoldable pub applying : Offers → List ℕ → List Tree → ℕ → Tries
applying b name args into p =
    let all : EvaluatedAll = evaluated_all (trees_of args) p.slots p.state in
    simple (then (function_by b.plain (plain_level p.level) name all.trees all.state) (λ a. one (with_slot (in_state (after_arguments p all) a.state) into a.value)))

abbrev pub with_list : Spot → ℕ → List Tree → Spot
with_list p into ts = with_slot (in_state p (with_new_variables (new_in_all ts) p.state)) into (list_of_copies (next p.state) ts)

-- a goal at a strict place, without the choices in it
abbrev pub strict : Tries → Spot → Trace Spot
strict act p = without_paths (strictly act p)

unfoldable pub collecting : Tries → ℕ → ℕ → Tries
collecting act k into p =
    simple (collected (then (strict act p) (λ q. copyable (slot_value k q.slots q.state))) (λ t. t) (λ ts. one (with_list p into ts)))

unfoldable pub counting : Tries → ℕ → Tries
counting act into p = simple (counted (strict act p) (λ n. one (with_slot p into (int (pos n)))))

-- the goal of a `catch` keeps its choices
unfoldable pub catching : Tries → Tree → Tries → Tries
catching act ball handler p =
    let e : Evaluated = evaluated ball p.slots p.state in
    caught_search (strictly act (after_term p e)) (handling e.state e.tree (λ s. handler (in_state (after_term p e) s)))

unfoldable mutual
  pub search : Offers → GoalTree → Tries
  search b truth = draining succeeding
  search b fail = draining failing
  search b tick = draining ticking
  search b (call name args) = draining (calling b name args)
  search b (apply name args slot) = draining (applying b name args slot)
  search b (seq gs) = draining (search_all b gs)
  search b (any_of gs) = draining (λ p. alternatives (search_any b gs p))
  search b (if_else test then_goal other) = draining (λ p. chosen_search (strict (search b test) p) (search b then_goal) (search b other p))
  search b (not g) = draining (λ p. simple (negated (strict (search b g) p) p))
  search b (once g) = draining (λ p. simple (first (strict (search b g) p)))
  search b (collect g k into) = draining (collecting (search b g) k into)
  search b (count g into) = draining (counting (search b g) into)
  search b (catch g ball handler) = draining (catching (search b g) ball (search b handler))

  -- one after the other, from each answer of the one before
  pub search_all : Offers → GoalTrees → Tries
  search_all b no_goals p = only p
  search_all b (goal g gs) p = sequence (search b g p) (search_all b gs)

  -- the branches of a disjunction, each from the same place
  pub search_any : Offers → GoalTrees → Spot → List (Search Spot)
  search_any b no_goals p = []
  search_any b (goal g gs) p = search b g p ∷ search_any b gs p
