-- Constraints as the numbers of a block: six, and behind them their items or their terms.
use Rattle.std.specs.Prelude.{◌≡◌, ℕ, zero, suc, ◌<◌, ◌^◌, ℤ, List, [], ◌++◌, drop, slice_index}
use Rattle.pi_constraints.specs.Constraint.{SpeaksOf, IsWithinLimits}
use Rattle.pi_constraints.specs.declared.constraint.Constraint.{Constraint}
use Rattle.pi_constraints.specs.declared.constraint.Item.{Item}
use Rattle.pi_store_blocks.specs.Form.{wide_of}
use Rattle.pi_store_blocks.specs.Items.{item_numbers, item_of, items_of}
use Rattle.pi_store_blocks.specs.Terms.{term_numbers, terms_of}
use Rattle.pi_store_blocks.specs.Head.{rel_of, head_of, head_numbers}

abbrev pub tail_of : Constraint → List ℕ
tail_of (Constraint.Linear rel terms constant) = term_numbers terms
tail_of (Constraint.Product z x y) = []
tail_of (Constraint.Absolute z x) = []
tail_of (Constraint.Different items) = item_numbers items
tail_of (Constraint.Element index items value) = item_numbers items
tail_of (Constraint.Reified truth rel terms constant) = term_numbers terms
tail_of (Constraint.Distinct items) = item_numbers items

abbrev pub numbers_of : Constraint → List ℕ
numbers_of c = head_numbers (head_of c) ++ tail_of c

-- the constant of a sum
abbrev pub constant_in : List ℕ → ℤ
constant_in ns = wide_of (slice_index ns 2) (slice_index ns 3) (slice_index ns 4)

-- the item that the number at a place says
abbrev pub item_in : List ℕ → ℕ → Item
item_in ns k = item_of (slice_index ns k)

-- the constraint of a kind
abbrev pub of_kind : ℕ → List ℕ → Constraint
of_kind zero ns = Constraint.Linear (rel_of (slice_index ns 1)) (terms_of (drop 6 ns)) (constant_in ns)
of_kind (suc zero) ns = Constraint.Product (item_in ns 1) (item_in ns 2) (item_in ns 3)
of_kind (suc (suc zero)) ns = Constraint.Absolute (item_in ns 1) (item_in ns 2)
of_kind (suc (suc (suc zero))) ns = Constraint.Different (items_of (drop 6 ns))
of_kind (suc (suc (suc (suc zero)))) ns = Constraint.Element (item_in ns 1) (items_of (drop 6 ns)) (item_in ns 2)
of_kind (suc (suc (suc (suc (suc zero))))) ns = Constraint.Reified (item_in ns 5) (rel_of (slice_index ns 1)) (terms_of (drop 6 ns)) (constant_in ns)
of_kind (suc (suc (suc (suc (suc (suc k)))))) ns = Constraint.Distinct (items_of (drop 6 ns))

-- the constraint that numbers say
abbrev pub constraint_in : List ℕ → Constraint
constraint_in ns = of_kind (slice_index ns 0) ns

abbrev pub ConstraintsReadBack : Type 0
ConstraintsReadBack = (c : Constraint) → IsWithinLimits c → ((n : ℕ) → SpeaksOf c n → n < 2 ^ 58) → constraint_in (numbers_of c) ≡ c
