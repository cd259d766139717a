-- The places of a constraint, and the domains at them. The definitions are own.
use Rattle.std.specs.Prelude.{◌≡◌, ◌≢◌, ◌⊎◌, ℕ, ◌<◌, List, [], ◌∷◌, ◌++◌, length, slice_get, get_or, Some, ℤ}
use Rattle.pi_constraints.specs.declared.constraint.Item.{Item}
use Rattle.pi_constraints.specs.declared.constraint.Constraint.{Constraint}
use Rattle.pi_constraints.specs.declared.domain.Span.{Span}

-- the places of a sum: the variables of its terms
unfoldable pub sum_places : List (ℤ × ℕ) → List Item
sum_places [] = []
sum_places (t ∷ ts) = Item.Var t.1 ∷ sum_places ts

-- the places of a constraint, in order: of `element` the index, then the items, so that item i is at place i, and then the value
abbrev pub places_of : Constraint → List Item
places_of (Constraint.Linear rel terms constant) = sum_places terms
places_of (Constraint.Product z x y) = z ∷ x ∷ y ∷ []
places_of (Constraint.Absolute z x) = z ∷ x ∷ []
places_of (Constraint.Different items) = items
places_of (Constraint.Element index items value) = index ∷ (items ++ value ∷ [])
places_of (Constraint.Reified truth rel terms constant) = truth ∷ sum_places terms
places_of (Constraint.Distinct items) = items

-- the domain at a place, of the domains at all places
abbrev pub domain_at : List (List Span) → ℕ → List Span
domain_at ds k = get_or ds k []

-- each of the domains has a value
abbrev pub HaveValues : List (List Span) → Type 0
HaveValues ds = (k : ℕ) → k < length ds → domain_at ds k ≢ []

-- two places are one, or have one variable
abbrev pub HaveOneVariable : List Item → ℕ → ℕ → Type 0
HaveOneVariable items j k = (j ≡ k) ⊎ ((n : ℕ) × (slice_get items j ≡ Some (Item.Var n)) × (slice_get items k ≡ Some (Item.Var n)))
