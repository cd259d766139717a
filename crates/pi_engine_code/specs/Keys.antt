-- What is known of facts by their keys.
use Rattle.std.specs.Prelude.{ℕ, ◌==◌, List, [], Option, Some, None, IsTrue}
use Rattle.std.specs.BTreeSet.{contains}
use Rattle.std.specs.HashMap.{get_by}
use Rattle.std.specs.declared.vec.Vec.{Vec}
use Rattle.std.specs.declared.alloc.Global.{Global}
use Rattle.pi_engine_code.specs.declared.fact_keys.FactKeys.{FactKeys}
use Rattle.pi_engine_code.specs.declared.key.FactPlace.{FactPlace}
use Rattle.pi_engine_code.specs.Order.{key, key_order}

-- the fact with a number is known to show this in its place
abbrev pub Has : FactKeys → FactPlace → ℕ → Type 0
Has m at n = IsTrue (contains key_order m.keys (key at n))

-- the fact with a number is known to show this, and what was known is
pub record AddsKey (m n : FactKeys) (at : FactPlace) (number : ℕ) : Type 0 where
  pub there : Has n at number
  pub still : (p : FactPlace) (k : ℕ) → Has m p k → Has n p k

abbrev pub items_of : Option (Vec ℕ Global) → List ℕ
items_of None = []
items_of (Some places) = places.items

-- the places by which the facts of a predicate are found
abbrev pub places_in : FactKeys → ℕ → List ℕ
places_in m p = items_of (get_by (λ q. p == q) m.places)
