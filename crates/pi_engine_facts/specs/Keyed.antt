-- Facts that are found by what they show in places.
use Rattle.std.specs.Prelude.{◌≡◌, ℕ, ◌+◌, ◌-◌, ◌≤◌, ◌<◌, List, Option, Some, None, slice_get, Contains, ⊤}
use Rattle.pi_terms.specs.Tree.{Trees}
use Rattle.pi_terms.specs.PatternTree.{PatternTree, exact_int, exact_atom}
use Rattle.pi_constraints.specs.State.{State}
use Rattle.pi_constraints.specs.declared.store.Cell.{Cell}
use Rattle.pi_core.specs.CoreTree.{clause_tree, pattern_tree}
use Rattle.pi_core.specs.declared.core_program.CoreClause.{CoreClause}
use Rattle.pi_core.specs.declared.core_program.Pattern.{Pattern}
use Rattle.pi_meaning.specs.Machine.Step.{with_fact}
use Rattle.pi_engine_code.specs.declared.fact_keys.FactKeys.{FactKeys}
use Rattle.pi_engine_code.specs.declared.key.FactPlace.{FactPlace}
use Rattle.pi_engine_code.specs.declared.key.FactValue.{FactValue}
use Rattle.pi_engine_code.specs.Keys.{Has, places_in}

-- a pattern shows this, where atoms are numbers of names
abbrev pub IsShown : List (List ℕ) → PatternTree → FactValue → Type 0
IsShown names p FactValue.Any = ⊤
IsShown names p (FactValue.Int n) = p ≡ exact_int n
IsShown names p (FactValue.Atom k) = (name : List ℕ) × (slice_get names k ≡ Some name) × (p ≡ exact_atom name)

abbrev pub at_place : ℕ → ℕ → FactValue → FactPlace
at_place predicate place value = record { predicate = predicate; place = place; value = value }

-- a fact with a number has its key in a place of its predicate
pub record HasKey (names : List (List ℕ)) (m : FactKeys) (predicate place number : ℕ) (d : CoreClause) : Type 0 where
  pub pattern : Pattern
  pub at : slice_get d.head.items place ≡ Some pattern
  pub value : FactValue
  pub shown : IsShown names (pattern_tree pattern) value
  pub key : Has m (at_place predicate place value) number

-- the facts of a predicate, which have numbers from `first` on, have their keys in the places by which they are found
abbrev pub HaveKeys : List (List ℕ) → FactKeys → ℕ → List CoreClause → ℕ → Type 0
HaveKeys names m predicate ds first = (place i : ℕ) (d : CoreClause) → Contains (places_in m predicate) place → slice_get ds i ≡ Some d → HasKey names m predicate place (first + i) d

-- none of the facts from one number on to before another unifies with a call
abbrev pub NoneBetween : Trees → State → List CoreClause → ℕ → ℕ → ℕ → Type 0
NoneBetween ts s ds first from to = (number : ℕ) (d : CoreClause) → from ≤ number → number < to → slice_get ds (number - first) ≡ Some d → with_fact ts s (clause_tree d) ≡ None

-- what a fact that unifies has in a place where a call shows this: that, or what has no key; nothing where anything may stand there
abbrev pub sought : Cell → Option FactValue
sought (Cell.Var n) = None
sought (Cell.Int n) = Some (FactValue.Int n)
sought (Cell.Atom k) = Some (FactValue.Atom k)
sought (Cell.Comp k count) = Some FactValue.Any
