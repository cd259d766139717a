-- What a constraint says of values: whether it holds where variable n has the value a n. The definitions are own.
use Rattle.std.specs.Prelude.{◌≡◌, ◌≢◌, ◌⊎◌, ℕ, suc, ◌<◌, List, [], ◌∷◌, length, get_or, map, ℤ, pos, ◌+ℤ◌, ◌*ℤ◌, ◌≤ℤ◌}
use Rattle.pi_constraints.specs.declared.constraint.Rel.{Rel}
use Rattle.pi_constraints.specs.declared.constraint.Item.{Item}
use Rattle.pi_constraints.specs.declared.constraint.Constraint.{Constraint}
use Rattle.pi_prop_spec.specs.Places.{places_of}
use Rattle.pi_prop_spec.specs.Rules.{magnitude}

abbrev pub value_of : (ℕ → ℤ) → Item → ℤ
value_of a (Item.Var n) = a n
value_of a (Item.Int i) = i

abbrev pub values_of_items : (ℕ → ℤ) → List Item → List ℤ
values_of_items a items = map (value_of a) items

-- the value at a place of a constraint
abbrev pub value_at : (ℕ → ℤ) → Constraint → ℕ → ℤ
value_at a c k = get_or (values_of_items a (places_of c)) k (pos 0)

-- the sum of the terms
unfoldable pub sum_of : (ℕ → ℤ) → List (ℤ × ℕ) → ℤ
sum_of a [] = pos 0
sum_of a (t ∷ ts) = t.0 *ℤ a t.1 +ℤ sum_of a ts

-- how a number stands to 0
abbrev pub Stands : Rel → ℤ → Type 0
Stands Rel.Equal x = x ≡ pos 0
Stands Rel.Unequal x = x ≢ pos 0
Stands Rel.AtMost x = x ≤ℤ pos 0

-- no two numbers of a list are the same
abbrev pub AreDifferent : List ℤ → Type 0
AreDifferent ns = (i j : ℕ) → i < j → j < length ns → get_or ns i (pos 0) ≢ get_or ns j (pos 0)

abbrev pub Holds : Constraint → (ℕ → ℤ) → Type 0
Holds (Constraint.Linear rel terms constant) a = Stands rel (constant +ℤ sum_of a terms)
Holds (Constraint.Product z x y) a = value_of a z ≡ value_of a x *ℤ value_of a y
Holds (Constraint.Absolute z x) a = value_of a z ≡ magnitude (value_of a x)
Holds (Constraint.Different items) a = AreDifferent (values_of_items a items)
Holds (Constraint.Element index items value) a = (i : ℕ) × (i < length items) × (value_of a index ≡ pos (suc i)) × (get_or (values_of_items a items) i (pos 0) ≡ value_of a value)
Holds (Constraint.Reified truth rel terms constant) a =
    ((value_of a truth ≡ pos 1) × Stands rel (constant +ℤ sum_of a terms)) ⊎ ((value_of a truth ≡ pos 0) × (Stands rel (constant +ℤ sum_of a terms) → ⊥))
Holds (Constraint.Distinct items) a = AreDifferent (values_of_items a items)
