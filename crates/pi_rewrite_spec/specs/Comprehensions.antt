-- Comprehensions, of the loops that they are: a slot that no text names has the items so far, the last one first, and at last all in order. (Own.)
use Rattle.std.specs.Prelude.{ℕ, not, [], ◌∷◌, ◌++◌, length}
use Rattle.std.specs.Str.{bytes_eq}
use Rattle.pi_terms.specs.Tree.{Tree}
use Rattle.pi_terms.specs.ListNames.{nil}
use Rattle.pi_terms.specs.ListCopies.{list_cell}
use Rattle.pi_effects.specs.Inner.{itself_name}
use Rattle.pi_core.specs.GoalTree.{GoalTree}
use Rattle.pi_meaning.specs.OverNames.Texts.{Names}
use Rattle.pi_meaning.specs.OverNames.Loops.{hidden}
use Rattle.pi_rewrite_spec.specs.Slots.{SlotNames, slot_for, slots_for}
use Rattle.pi_rewrite_spec.specs.Values.{SlotValue}
use Rattle.pi_rewrite_spec.specs.Goals.{SlotGoals, put}
use Rattle.pi_rewrite_spec.specs.Loops.{started}
use Rattle.pi_rewrite_spec.specs.Iterators.{found_by, behind_collection}

-- one item more: `X := [E|X]`, with that slot for X
abbrev pub adding : SlotValue → SlotGoals
adding v = put hidden (record { goals = v.goals; tree = list_cell v.tree (Tree.var (slot_for hidden v.names)); names = slots_for hidden v.names })

-- The slot is new, so that of a comprehension around this one stays as it is.
abbrev pub begun : SlotNames → SlotGoals
begun ns = record { goals = GoalTree.apply itself_name (Tree.atom nil ∷ []) (length ns) ∷ []; names = found_by (λ name. not (bytes_eq name hidden)) ns ++ hidden ∷ [] }

-- The value stands in the slot where the loop ends. Behind it no name finds what the loop took.
abbrev pub comprehension : ℕ → Names → (SlotNames → SlotGoals) → SlotNames → SlotValue
comprehension h before loop ns =
    let start : SlotValue = started h before ns in
    let begins : SlotGoals = begun start.names in
    let ends : SlotGoals = loop begins.names in
    record { goals = start.goals ++ (begins.goals ++ ends.goals); tree = Tree.var (length start.names); names = behind_collection start.names ends.names }
