-- The domains at the places of a constraint, among variables with domains.
use Rattle.std.specs.Prelude.{◌≡◌, ℕ, zero, suc, ◌<◌, IsTrue, List, [], ◌∷◌, ◌++◌, length, get_or, Contains, ℤ, pos}
use Rattle.std.proofs.Common.{arith}
use Rattle.std.proofs.lemmas.Int.{ints}
use Rattle.std.proofs.lemmas.List.{length-map, get_or-map, get_or_default}
use Rattle.pi_constraints.specs.declared.constraint.Constraint.{Constraint}
use Rattle.pi_constraints.specs.declared.constraint.Item.{Item}
use Rattle.pi_constraints.specs.declared.var_domain.VarDomain.{VarDomain}
use Rattle.pi_constraints.specs.Domain.{IsWithinBounds, IsDomain, AscendFrom, has_value}
use Rattle.pi_constraints.specs.Constraint.{IsItem, AreItems, IsWithinLimits}
use Rattle.pi_prop_spec.specs.Places.{sum_places, places_of, domain_at}
use Rattle.pi_prop_spec.specs.Solutions.{value_of, value_at}
use Rattle.pi_sat_spec.specs.Domains.{only, item_domain, at_places}

-- the item at a place
abbrev pub place_at : Constraint → ℕ → Item
place_at c k = get_or (places_of c) k (Item.Int (pos 0))

pub place-domain : (xs : List VarDomain) (c : Constraint) (k : ℕ) → k < length (places_of c) → domain_at (at_places xs c) k ≡ item_domain xs (place_at c k)
place-domain xs c k l = get_or-map (item_domain xs) (places_of c) k (Item.Int (pos 0)) [] l

pub place-value : (a : ℕ → ℤ) (c : Constraint) (k : ℕ) → k < length (places_of c) → value_at a c k ≡ value_of a (place_at c k)
place-value a c k l = get_or-map (value_of a) (places_of c) k (Item.Int (pos 0)) (pos 0) l

pub place-contained : (c : Constraint) (k : ℕ) → k < length (places_of c) → Contains (places_of c) (place_at c k)
place-contained c k l = (k, l, get_or_default (places_of c) k (place_at c k) (Item.Int (pos 0)) l)

pub count-places : (xs : List VarDomain) (c : Constraint) → length (at_places xs c) ≡ length (places_of c)
count-places xs c = length-map (places_of c) (item_domain xs)

-- ---- an integer at a place is one that a domain can have

sum-items : (ts : List (ℤ × ℕ)) → AreItems (sum_places ts)
unfolding AreItems sum_places
sum-items [] = tt
sum-items (t ∷ ts) = (tt, sum-items ts)

element-items : (items : List Item) (value : Item) → AreItems items → IsItem value → AreItems (items ++ value ∷ [])
unfolding AreItems
element-items [] value h v = (v, tt)
element-items (x ∷ items) value h v = (h.0, element-items items value h.1 v)

pub places-items : (c : Constraint) → IsWithinLimits c → AreItems (places_of c)
unfolding AreItems
places-items (Constraint.Linear rel terms constant) h = sum-items terms
places-items (Constraint.Product z x y) h = (h.0, (h.1, (h.2, tt)))
places-items (Constraint.Absolute z x) h = (h.0, (h.1, tt))
places-items (Constraint.Different items) h = h.1
places-items (Constraint.Element index items value) h = (h.1, element-items items value h.2 h.3)
places-items (Constraint.Reified truth rel terms constant) h = (h.0, sum-items terms)
places-items (Constraint.Distinct items) h = h.1

item-in : (xs : List Item) (k : ℕ) → k < length xs → AreItems xs → IsItem (get_or xs k (Item.Int (pos 0)))
unfolding AreItems
item-in [] k l h = absurd (omega arith)
item-in (x ∷ xs) zero l h = h.0
item-in (x ∷ xs) (suc k) l h = item-in xs k (omega arith) h.1

pub place-item : (c : Constraint) (k : ℕ) → IsWithinLimits c → k < length (places_of c) → IsItem (place_at c k)
place-item c k h l = item-in (places_of c) k l (places-items c h)

-- ---- a domain of one value

pub only-domain : (i : ℤ) → IsWithinBounds i → IsDomain (only i)
unfolding AscendFrom
only-domain i h = (h.0, omega (arith, ints), h.1, tt)

pub only-has : (i : ℤ) → IsTrue (has_value (only i) i)
unfolding has_value
only-has i = grind (arith, ints)
