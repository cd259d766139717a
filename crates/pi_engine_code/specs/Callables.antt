-- The goals by which names are called, laid out in tables: each name that is called by a goal has its place, by the number that the store has for the name.
use Rattle.std.specs.Prelude.{◌≡◌, ℕ, ◌==◌, ◌&&◌, Bool, true, not, List, Option, Some, IsSome, map, filter, slice_get, AllPairs, Contains}
use Rattle.std.specs.HashMap.{get_by}
use Rattle.pi_constraints.specs.Store.{StoreView}
use Rattle.pi_core.specs.GoalTree.{GoalTree}
use Rattle.pi_core.specs.CoreTree.{pred_tree}
use Rattle.pi_core.specs.declared.core_program.CorePred.{CorePred}
use Rattle.pi_meaning.specs.CoreMeaning.Sound.{IsAnother}
use Rattle.pi_meaning.specs.Machine.NamedGoals.{goal_by_name}
use Rattle.pi_lib_builtin.specs.Resolved.{Named}
use Rattle.pi_engine_code.specs.declared.code.Step.{Step}
use Rattle.pi_engine_code.specs.declared.code.Code.{Code}
use Rattle.pi_engine_code.specs.declared.callables.Callable.{Callable}
use Rattle.pi_engine_code.specs.declared.callables.Callables.{Callables}
use Rattle.pi_engine_code.specs.Code.{Tables}
use Rattle.pi_engine_code.specs.Laid.{IsLaid, tables_for, layout}

abbrev pub is_callable : ℕ → ℕ → Callable → Bool
is_callable n k key = (n == key.name) && (k == key.arity)

-- the place that is found for the name with this number and so many arguments
abbrev pub place_in : Callables → ℕ → ℕ → Option ℕ
place_in m n k = get_by (is_callable n k) m.places

-- at a place stands the goal by which the name with this number is called with so many arguments; the arguments are all slots that it has
pub record IsPlaceOf (all : List CorePred) (t : Tables) (names : List (List ℕ)) (steps : List Step) (n k place : ℕ) : Type 0 where
  pub name : List ℕ
  pub it : GoalTree
  pub name_is : slice_get names n ≡ Some name
  pub goal_is : goal_by_name (map pred_tree all) name k ≡ Some it
  pub laid : IsLaid (layout all t steps 0 k) place it true

-- each place is that of a goal by which a name is called
abbrev pub ArePlaces : List CorePred → Tables → List (List ℕ) → List Step → Callables → Type 0
ArePlaces all t names steps m = (n k place : ℕ) → place_in m n k ≡ Some place → IsPlaceOf all t names steps n k place

-- a place is found for a name
pub record HasPlace (names : List (List ℕ)) (m : Callables) (name : List ℕ) (k : ℕ) : Type 0 where
  pub number : ℕ
  pub place : ℕ
  pub name_is : slice_get names number ≡ Some name
  pub place_is : place_in m number k ≡ Some place

-- places are those of the goals by which names are called, and no such goal is left out
pub record AreCallable (all : List CorePred) (t : Tables) (names : List (List ℕ)) (steps : List Step) (m : Callables) : Type 0 where
  pub right : ArePlaces all t names steps m
  pub each : (name : List ℕ) (k : ℕ) (g : GoalTree) → goal_by_name (map pred_tree all) name k ≡ Some g → HasPlace names m name k

-- ---- while they are built

-- a store, the code, and the places that names have so far
pub record Placing (M : Type 0) : Type 0 where
  pub store : StoreView M
  pub code : Code
  pub places : Callables

abbrev pub placing : {M : Type 0} → StoreView M → Code → Callables → Placing M
placing v c m = record { store = v; code = c; places = m }

-- the places are right
abbrev pub ArePlaced : {M : Type 0} → List CorePred → Placing M → Type 0
ArePlaced all p = ArePlaces all (tables_for all p.store.now.terms p.code) p.store.names p.code.steps.items p.places

-- a name gets a place: where it is called by a goal, places that were right stay so
abbrev pub AddsPlaces : {M : Type 0} → List CorePred → Placing M → Placing M → List ℕ → ℕ → Type 0
AddsPlaces all before after name k = (g : GoalTree) → goal_by_name (map pred_tree all) name k ≡ Some g → ArePlaced all before → ArePlaced all after

-- what had a place has one, and so has this name
pub record HasPlaces (before after : List (List ℕ)) (m n : Callables) (name : List ℕ) (k : ℕ) : Type 0 where
  pub still : (other : List ℕ) (j : ℕ) → HasPlace before m other j → HasPlace after n other j
  pub named : HasPlace after n name k

-- the names of predicates that aren't quiet, and of no functions
abbrev pub names_called : List CorePred → List (Named ℕ)
names_called preds = map (λ p. (p.name, p.arity)) (filter (λ p. not p.function && not p.quiet) preds)

-- these are just the names that are called by a goal, where no two predicates are alike
pub record AreNamed (all : List CorePred) (names : List (Named ℕ)) : Type 0 where
  pub right : AllPairs IsAnother (map pred_tree all) → (name : List ℕ) (k : ℕ) → Contains names (name, k) → IsSome (goal_by_name (map pred_tree all) name k)
  pub each : (name : List ℕ) (k : ℕ) (g : GoalTree) → goal_by_name (map pred_tree all) name k ≡ Some g → Contains names (name, k)
