-- Slots of a clause or a query, by the names that they stand for, in the order in which lowering comes to them. Each `_` has a slot of its own, and so has each value that is made
-- before it is used; no name finds these. (Own.)
use Rattle.std.specs.Prelude.{ℕ, suc, cond, List, [], ◌∷◌, ◌++◌, length, option_map, Option, Some, None, codes}
use Rattle.std.specs.Str.{bytes_eq}
use Rattle.pi_meaning.specs.OverNames.Texts.{Names}
use Rattle.pi_core.specs.declared.core_program.NameSlot.{NameSlot}

-- the name of each slot
abbrev pub SlotNames : Type 0
SlotNames = List (List ℕ)

-- the name of a slot that no name finds
abbrev pub unnamed : List ℕ
unnamed = codes "_"

-- the slot of a name, where it has one
unfoldable pub slot_of : List ℕ → SlotNames → Option ℕ
slot_of name [] = None
slot_of name (n ∷ ns) = cond (bytes_eq name n) (Some 0) (option_map (λ k. suc k) (slot_of name ns))

-- the slot of an occurrence of a name; None for one that has none yet, as each `_`
abbrev pub slot_known : List ℕ → SlotNames → Option ℕ
slot_known name ns = cond (bytes_eq name unnamed) None (slot_of name ns)

-- the slot that it takes, and the slots after it
abbrev pub slot_or_next : Option ℕ → SlotNames → ℕ
slot_or_next None ns = length ns
slot_or_next (Some k) ns = k

abbrev pub slots_with : Option ℕ → List ℕ → SlotNames → SlotNames
slots_with None name ns = ns ++ name ∷ []
slots_with (Some k) name ns = ns

-- the slot of an occurrence, and the slots after it
abbrev pub slot_for : List ℕ → SlotNames → ℕ
slot_for name ns = slot_or_next (slot_known name ns) ns

abbrev pub slots_for : List ℕ → SlotNames → SlotNames
slots_for name ns = slots_with (slot_known name ns) name ns

-- one more slot, for a value
abbrev pub with_value : SlotNames → SlotNames
with_value ns = ns ++ unnamed ∷ []

-- names with their slots, one behind the other, and the slots after them
unfoldable pub named_slots : Names → SlotNames → List NameSlot
named_slots [] ns = []
named_slots (name ∷ names) ns = record { name = name; slot = slot_for name ns } ∷ named_slots names (slots_for name ns)

unfoldable pub slots_behind : Names → SlotNames → SlotNames
slots_behind [] ns = ns
slots_behind (name ∷ names) ns = slots_behind names (slots_for name ns)
