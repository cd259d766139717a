-- Items that were judged as they came: each that is too wide is left out. (Own.)
use Rattle.std.specs.Prelude.{◌≡◌, Bool, true, false, List, length, Option, Some, None}
use Rattle.std.specs.Option.{option_map}
use Rattle.pi_constraints.specs.declared.constraint.Item.{Item}
use Rattle.pi_prop_spec.specs.Limits.{is_value, are_values, refusal_by}
use Rattle.pi_prop_made.specs.declared.items.JudgedItems.{JudgedItems}
use Rattle.pi_prop_made.specs.declared.limits.Limit.{Limit}
use Rattle.pi_prop_made.specs.Making.{refusal_for}

-- an item, unless it is an integer that no domain can have
abbrev pub IsJudged : Option Item → Item → Type 0
IsJudged (Some y) x = (y ≡ x) × (is_value x ≡ true)
IsJudged None x = is_value x ≡ false

-- all items, unless one of them is too wide
pub record AreJudged (a : JudgedItems) (xs : List Item) : Type 0 where
  pub count : a.count ≡ length xs
  pub narrow : a.narrow ≡ are_values xs
  pub items : a.narrow ≡ true → a.items ≡ xs

-- the limit that a constraint over items doesn't keep
abbrev pub LimitIs : Option Limit → List Item → Type 0
LimitIs o xs = option_map refusal_for o ≡ refusal_by (length xs) (are_values xs)
