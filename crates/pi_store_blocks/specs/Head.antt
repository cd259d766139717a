-- What a constraint says beside its items and its terms, as six numbers: its kind, and five by the kind.
use Rattle.std.specs.Prelude.{ℕ, zero, suc, ◌<◌, ◌^◌, ℤ, List, [], ◌∷◌}
use Rattle.pi_constraints.specs.declared.constraint.Constraint.{Constraint}
use Rattle.pi_constraints.specs.declared.constraint.Rel.{Rel}
use Rattle.pi_store_blocks.specs.Form.{wide_top, wide_mid, wide_low}
use Rattle.pi_store_blocks.specs.declared.constraints.head.Head.{Head}
use Rattle.pi_store_blocks.specs.Items.{item_number}

abbrev pub rel_number : Rel → ℕ
rel_number Rel.Equal = 0
rel_number Rel.Unequal = 1
rel_number Rel.AtMost = 2

abbrev pub rel_of : ℕ → Rel
rel_of zero = Rel.Equal
rel_of (suc zero) = Rel.Unequal
rel_of (suc (suc n)) = Rel.AtMost

-- of a sum: how it stands to 0, its constant in three parts, and its truth
abbrev pub sum_head : ℕ → Rel → ℤ → ℕ → Head
sum_head kind rel constant truth = record { kind = kind; first = rel_number rel; second = wide_top constant; third = wide_mid constant; fourth = wide_low constant; fifth = truth }

-- of items
abbrev pub item_head : ℕ → ℕ → ℕ → ℕ → Head
item_head kind first second third = record { kind = kind; first = first; second = second; third = third; fourth = 0; fifth = 0 }

abbrev pub head_of : Constraint → Head
head_of (Constraint.Linear rel terms constant) = sum_head 0 rel constant 0
head_of (Constraint.Product z x y) = item_head 1 (item_number z) (item_number x) (item_number y)
head_of (Constraint.Absolute z x) = item_head 2 (item_number z) (item_number x) 0
head_of (Constraint.Different items) = item_head 3 0 0 0
head_of (Constraint.Element index items value) = item_head 4 (item_number index) (item_number value) 0
head_of (Constraint.Reified truth rel terms constant) = sum_head 5 rel constant (item_number truth)
head_of (Constraint.Distinct items) = item_head 6 0 0 0

abbrev pub head_numbers : Head → List ℕ
head_numbers h = h.kind ∷ h.first ∷ h.second ∷ h.third ∷ h.fourth ∷ h.fifth ∷ []

-- each fits a word that says nothing
pub record IsSmallHead (h : Head) : Type 0 where
  pub kind : h.kind < 2 ^ 59
  pub first : h.first < 2 ^ 59
  pub second : h.second < 2 ^ 59
  pub third : h.third < 2 ^ 59
  pub fourth : h.fourth < 2 ^ 59
  pub fifth : h.fifth < 2 ^ 59
