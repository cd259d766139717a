-- Items of constraints as numbers.
use Rattle.std.specs.Prelude.{ℕ, zero, suc, ◌+◌, ◌*◌, ◌/◌, ◌%◌, ◌^◌, List, map}
use Rattle.pi_constraints.specs.declared.constraint.Item.{Item}
use Rattle.pi_store_blocks.specs.Numbers.{moved_up, moved_down}

-- an even number is a variable's, an odd one an integer's
abbrev pub item_number : Item → ℕ
item_number (Item.Var n) = n % 2 ^ 58 * 2
item_number (Item.Int n) = moved_up n * 2 + 1

abbrev pub item_with : ℕ → ℕ → Item
item_with zero n = Item.Var n
item_with (suc k) n = Item.Int (moved_down n)

abbrev pub item_of : ℕ → Item
item_of number = item_with (number % 2) (number / 2)

abbrev pub item_numbers : List Item → List ℕ
item_numbers items = map item_number items

abbrev pub items_of : List ℕ → List Item
items_of numbers = map item_of numbers
