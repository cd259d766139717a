-- A search as its fields, and what each of its calls does.
use Rattle.std.specs.Prelude.{◌≡◌, ◌≢◌, ◌⊎◌, ℕ, ◌-◌, ◌≤◌, pos, Bool, true, false, not, nat_le, List, [], ◌∷◌, ◌++◌, length, Option, Some, None, slice_get, Contains}
use Rattle.std.specs.BTreeMap.{get, BTreeMap}
use Rattle.pi_terms.specs.Tree.{Tree, int}
use Rattle.pi_plan.specs.declared.given.Successor.{Successor}
use Rattle.pi_plan.specs.declared.given.GivenState.{GivenState}
use Rattle.pi_plan.specs.Place.{place_order, place_of}
use Rattle.pi_plan.specs.Searching.{Asked, asked_by, place_asked, weight, Covers, Improves, IsSearch}
use Rattle.pi_plan.specs.declared.place.Place.{Place}
use Rattle.pi_plan.specs.declared.search.Way.{Way}
use Rattle.pi_plan.specs.declared.search.Origin.{Origin}
use Rattle.pi_plan.specs.declared.due.Due.{Due}
use Rattle.pi_plan.specs.declared.search.Standing.{Standing}
use Rattle.pi_plan.specs.declared.search.Search.{Search}

-- what is known of a place
abbrev pub known_of : Search → Place → Option Standing
known_of s k = get place_order s.known k

-- whether a way that costs no more is known
abbrev pub covers : Option Standing → ℕ → Bool
covers None cost = false
covers (Some s) cost = nat_le s.cost cost

-- whether a way is known to a place that wasn't asked for
abbrev pub opens : Option Standing → Bool
opens None = false
opens (Some s) = not s.is_asked

abbrev pub start_way : Bool → Tree → ℕ → Way
start_way by_rest start whole = record { place = place_of by_rest start whole; rest = whole; origin = Origin.Start }

pub record Keeps (old new : Search) : Type 0 where
  pub by_rest : new.by_rest ≡ old.by_rest
  pub whole : new.whole ≡ old.whole

-- one more way, which is the best to its place and is due
pub record Puts (old new : Search) (k : Place) (w : Way) (cost : ℕ) : Type 0 where
  pub ways : new.ways.items ≡ old.ways.items ++ w ∷ []
  pub here : known_of new k ≡ Some (record { cost = cost; is_asked = false })
  pub elsewhere : (q : Place) → q ≢ k → known_of new q ≡ known_of old q
  pub due_new : Contains new.frontier.keys (record { cost = cost; way = length old.ways.items })
  pub due_old : (d : Due) → Contains old.frontier.keys d → Contains new.frontier.keys d
  pub due_cases : (d : Due) → Contains new.frontier.keys d → Contains old.frontier.keys d ⊎ (d ≡ record { cost = cost; way = length old.ways.items })

-- a way is put where none is known that costs no more
pub data Adds (old new : Search) (k : Place) (w : Way) (cost : ℕ) : Type 0 where
  known_before : Covers (known_of old k) cost → new ≡ old → Adds old new k w cost
  put_now : covers (known_of old k) cost ≡ false → Keeps old new → Puts old new k w cost → Adds old new k w cost

-- an answer of `action` adds the way that it leads on, where the rest is enough
pub record AddsStep (old new : Search) (parent rest : ℕ) (n : Successor) : Type 0 where
  pub adds : (c : ℕ) → n.cost ≡ int (pos c) → c ≤ rest →
      Adds old new (place_of old.by_rest n.state (rest - c)) (record { place = place_of old.by_rest n.state (rest - c); rest = rest - c; origin = Origin.Step parent n.action })
      (weight old.by_rest old.whole (rest - c))
  pub skips : ((c : ℕ) → n.cost ≡ int (pos c) → c ≤ rest → ⊥) → new ≡ old

-- a search whose state this is
abbrev pub IsSearchNow : Search → ℕ → List GivenState → List Asked → Type 0
IsSearchNow s level unfolded asked = IsSearch s.by_rest s.whole level unfolded asked s.ways.items (known_of s) s.frontier.keys

-- the start under the whole limit is known
pub record HasRoot (s : Search) (start : Tree) : Type 0 where
  pub covered : Covers (known_of s (place_of s.by_rest start s.whole)) 0

-- the place is one that was asked for, by a way of this cost
pub record Marks (old new : BTreeMap Place Standing) (k : Place) (cost : ℕ) : Type 0 where
  pub here : get place_order new k ≡ Some (record { cost = cost; is_asked = true })
  pub elsewhere : (q : Place) → q ≢ k → get place_order new q ≡ get place_order old q

-- a place is taken that was never asked for
pub record Takes (old new : Search) (unfolded : List GivenState) (asked : List Asked) (i : ℕ) : Type 0 where
  pub ways : new.ways.items ≡ old.ways.items
  pub improves : Improves (known_of old) (known_of new)
  pub way : Way
  pub at : slice_get new.ways.items i ≡ Some way
  pub within : way.rest ≤ new.whole
  pub place : way.place ≡ place_of new.by_rest way.place.state way.rest
  pub fresh : (p : Asked) → Contains asked p → place_asked new.by_rest p ≡ way.place → ⊥
  pub search : IsSearchNow new (weight new.by_rest new.whole way.rest) unfolded (asked ++ asked_by way ∷ [])

-- what is left of a search where ways were left out
pub record Skips (old new : Search) (level : ℕ) (unfolded : List GivenState) (asked : List Asked) : Type 0 where
  pub ways : new.ways.items ≡ old.ways.items
  pub improves : Improves (known_of old) (known_of new)
  pub search : IsSearchNow new level unfolded asked

-- a search from which the first way that was due is taken
pub record IsFirst (s : Search) (level : ℕ) (unfolded : List GivenState) (asked : List Asked) (d : Due) : Type 0 where
  pub search : IsSearch s.by_rest s.whole level unfolded asked s.ways.items (known_of s) (d ∷ s.frontier.keys)
  pub least : (x : Due) → Contains s.frontier.keys x → d.cost ≤ x.cost

-- how far a search has come: the level below which nothing is due, what was unfolded, and what was asked for
pub record SoFar : Type 0 where
  pub level : ℕ
  pub unfolded : List GivenState
  pub asked : List Asked

abbrev pub so_far : ℕ → List GivenState → List Asked → SoFar
so_far level unfolded asked = record { level = level; unfolded = unfolded; asked = asked }

abbrev pub Taken : Search → Search → SoFar → ℕ → Bool → Type 0
Taken old new h i true = Takes old new h.unfolded h.asked i
Taken old new h i false = Skips old new h.level h.unfolded h.asked

-- nothing is due any more
pub record IsDry (old new : Search) (level : ℕ) (unfolded : List GivenState) (asked : List Asked) : Type 0 where
  pub skips : Skips old new level unfolded asked
  pub dry : new.frontier.keys ≡ []

abbrev pub Pops : Search → Search → SoFar → Option ℕ → Type 0
Pops old new h None = IsDry old new h.level h.unfolded h.asked
Pops old new h (Some i) = Takes old new h.unfolded h.asked i
