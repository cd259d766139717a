-- The least and the greatest items, as one. (Own.)
use Rattle.std.specs.Prelude.{Bool, List, Option}
use Rattle.std.specs.Ordering.{is_lt}
use Rattle.pi_terms.specs.Tree.{Tree}
use Rattle.pi_constraints.specs.State.{State}
use Rattle.pi_effects.specs.Comparing.{value_order}
use Rattle.pi_effects.specs.Sorting.{least, greatest}
use Rattle.pi_lib.specs.declared.extremes.End.{End}

-- the first of the least or of the greatest items
abbrev pub extreme_of : End → State → List Tree → Option Tree
extreme_of End.Least s ts = least s ts
extreme_of End.Greatest s ts = greatest s ts

-- the second of two items is taken and not the first
abbrev pub beats : End → State → Tree → Tree → Bool
beats End.Least s t u = is_lt (value_order s u t)
beats End.Greatest s t u = is_lt (value_order s t u)
