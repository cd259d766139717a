-- The keys by which facts are found: what a fact's test says of its place, each fact of a predicate has as a key in the places by which the predicate's facts are found.
use Rattle.std.specs.Prelude.{◌≡◌, ℕ, ◌+◌, ◌≤◌, ◌<◌, List, Some, slice_get, Contains}
use Rattle.pi_engine_code.specs.declared.fact_keys.FactKeys.{FactKeys}
use Rattle.pi_engine_code.specs.declared.key.FactPlace.{FactPlace}
use Rattle.pi_engine_code.specs.declared.key.FactValue.{FactValue}
use Rattle.pi_engine_code.specs.Keys.{Has, places_in}
use Rattle.pi_engine_code.specs.declared.code.HeadTest.{HeadTest}
use Rattle.pi_engine_code.specs.declared.code.Rule.{Rule}
use Rattle.pi_engine_code.specs.declared.code.Predicate.{Predicate}

-- what stands in a place by its test; a pattern with patterns in it has no key of its own
abbrev pub shown_by : HeadTest → FactValue
shown_by (HeadTest.Slot k) = FactValue.Any
shown_by (HeadTest.Int n) = FactValue.Int n
shown_by (HeadTest.Atom k) = FactValue.Atom k
shown_by HeadTest.Deep = FactValue.Any

abbrev pub shown_at : ℕ → ℕ → HeadTest → FactPlace
shown_at n place t = record { predicate = n; place = place; value = shown_by t }

-- the fact with a number has its key in a place of its predicate
abbrev pub IsFactKeyed : List Rule → List HeadTest → FactKeys → ℕ → ℕ → ℕ → Type 0
IsFactKeyed rules tests m n place number = (r : Rule) (t : HeadTest) → slice_get rules number ≡ Some r → slice_get tests (r.tests + place) ≡ Some t → Has m (shown_at n place t) number

-- all facts of the predicate with a number have their keys in a place, which is that of an argument
abbrev pub IsPlaceKeyed : List Predicate → List Rule → List HeadTest → FactKeys → ℕ → ℕ → Type 0
IsPlaceKeyed predicates rules tests m n place =
    (p : Predicate) → slice_get predicates n ≡ Some p → (place < p.arity) × ((number : ℕ) → p.first ≤ number → number < p.end → IsFactKeyed rules tests m n place number)

-- so in each place by which facts are found
abbrev pub AreKeyed : List Predicate → List Rule → List HeadTest → FactKeys → Type 0
AreKeyed predicates rules tests m = (n place : ℕ) → Contains (places_in m n) place → IsPlaceKeyed predicates rules tests m n place

-- ---- while they are made

-- what was known is
abbrev pub StillHas : FactKeys → FactKeys → Type 0
StillHas m n = (at : FactPlace) (number : ℕ) → Has m at number → Has n at number

-- places of a predicate, by which its facts are to be found, are such places
abbrev pub ArePlaces : List Predicate → List Rule → List HeadTest → FactKeys → ℕ → List ℕ → Type 0
ArePlaces predicates rules tests m n places = (place : ℕ) → Contains places place → IsPlaceKeyed predicates rules tests m n place
