-- Constraints: the variables that they speak of, and the limits that they keep. The limits are own.
use Rattle.std.specs.Prelude.{◌≡◌, ◌≢◌, ◌⊎◌, ℕ, suc, ◌≤◌, ◌^◌, ℤ, pos, nat_abs, List, [], ◌∷◌, length, ⊤}
use Rattle.pi_constraints.specs.Domain.{IsWithinBounds}
use Rattle.pi_constraints.specs.declared.constraint.Constraint.{Constraint}
use Rattle.pi_constraints.specs.declared.constraint.Item.{Item}

-- the most terms of a sum, items of `all_different`, of `all_distinct` or of `element`
abbrev pub most_items : ℕ
most_items = 1048576

-- a variable stands at a place
abbrev pub HoldsVariable : Item → ℕ → Type 0
HoldsVariable (Item.Var m) n = m ≡ n
HoldsVariable (Item.Int i) n = ⊥

unfoldable pub HoldVariable : List Item → ℕ → Type 0
HoldVariable [] n = ⊥
HoldVariable (i ∷ is) n = HoldsVariable i n ⊎ HoldVariable is n

unfoldable pub SumHasVariable : List (ℤ × ℕ) → ℕ → Type 0
SumHasVariable [] n = ⊥
SumHasVariable ((c, m) ∷ terms) n = (m ≡ n) ⊎ SumHasVariable terms n

-- a variable stands in a constraint
abbrev pub SpeaksOf : Constraint → ℕ → Type 0
SpeaksOf (Constraint.Linear rel terms constant) n = SumHasVariable terms n
SpeaksOf (Constraint.Product z x y) n = HoldsVariable z n ⊎ (HoldsVariable x n ⊎ HoldsVariable y n)
SpeaksOf (Constraint.Absolute z x) n = HoldsVariable z n ⊎ HoldsVariable x n
SpeaksOf (Constraint.Different items) n = HoldVariable items n
SpeaksOf (Constraint.Element index items value) n = HoldsVariable index n ⊎ (HoldVariable items n ⊎ HoldsVariable value n)
SpeaksOf (Constraint.Reified truth rel terms constant) n = HoldsVariable truth n ⊎ SumHasVariable terms n
SpeaksOf (Constraint.Distinct items) n = HoldVariable items n

-- an integer at a place is a value that a domain can have
abbrev pub IsItem : Item → Type 0
IsItem (Item.Var n) = ⊤
IsItem (Item.Int i) = IsWithinBounds i

unfoldable pub AreItems : List Item → Type 0
AreItems [] = ⊤
AreItems (i ∷ is) = IsItem i × AreItems is

-- the terms of a sum: no coefficient is 0 or wider than 2^40, and the variables ascend from `least` on
unfoldable pub IsSum : ℕ → List (ℤ × ℕ) → Type 0
IsSum least [] = ⊤
IsSum least ((c, n) ∷ terms) = (c ≢ pos 0) × (nat_abs c ≤ 2 ^ 40) × (least ≤ n) × IsSum (suc n) terms

-- the sum of a constraint
abbrev pub IsSumWithinLimits : List (ℤ × ℕ) → ℤ → Type 0
IsSumWithinLimits terms constant = (terms ≢ []) × (length terms ≤ most_items) × IsSum 0 terms × (nat_abs constant ≤ 2 ^ 100)

-- a constraint as it may be posted
abbrev pub IsWithinLimits : Constraint → Type 0
IsWithinLimits (Constraint.Linear rel terms constant) = IsSumWithinLimits terms constant
IsWithinLimits (Constraint.Product z x y) = IsItem z × IsItem x × IsItem y
IsWithinLimits (Constraint.Absolute z x) = IsItem z × IsItem x
IsWithinLimits (Constraint.Different items) = (length items ≤ most_items) × AreItems items
IsWithinLimits (Constraint.Element index items value) = (length items ≤ most_items) × IsItem index × AreItems items × IsItem value
IsWithinLimits (Constraint.Reified truth rel terms constant) = IsItem truth × IsSumWithinLimits terms constant
IsWithinLimits (Constraint.Distinct items) = (length items ≤ most_items) × AreItems items
