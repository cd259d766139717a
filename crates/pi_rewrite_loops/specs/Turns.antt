-- What turns of iterators do beside what stands in them.
use Rattle.std.specs.Prelude.{◌≡◌, ℕ, suc, ◌+◌, ◌-◌, Bool, true, false, pos, List, [], ◌∷◌, ◌++◌, length, codes}
use Rattle.pi_terms.specs.Tree.{Tree}
use Rattle.pi_effects.specs.Indexing.{index_name}
use Rattle.pi_core.specs.GoalTree.{GoalTree}
use Rattle.pi_core.specs.CoreTree.{PredTree}
use Rattle.pi_rewrite_spec.specs.Goals.{in_turn}
use Rattle.pi_rewrite_spec.specs.Slots.{SlotNames}
use Rattle.pi_rewrite_spec.specs.Loops.{Loop, slots_from, slots_head, slots_for_names, loop_slots, closing, closing_slots, clause_of, helper}
use Rattle.pi_rewrite_spec.specs.Iterators.{handed, tick_then}
use Rattle.pi_rewrite_spec.specs.Ranges.{number_goals, number_tree}

-- the call of a loop's helper, whose variables stand in slots from one on
abbrev pub entry_call : Loop → List Tree → ℕ → SlotNames → GoalTree
entry_call l first variable ns = GoalTree.call l.name ((first ++ slots_for_names l.shared ns) ++ slots_from variable (length l.kept))

-- where a loop ends that begins with no iterator, and its helper, by what it does and the slots behind that
abbrev pub ends_by : Loop → SlotNames → List GoalTree
ends_by l ns = closing l.ending l.kept (length l.shared) (length ns) (loop_slots l)

abbrev pub helped : Loop → GoalTree → SlotNames → PredTree
helped l does ns = helper l.name (length (loop_slots l)) (clause_of (slots_head 0 (length (loop_slots l))) does (closing_slots l.kept (length ns)) ∷ [])

-- where an iterator ends, in a clause that has so many slots in front of what is handed on, and others free from one on
abbrev pub walk_end : Loop → ℕ → ℕ → SlotNames → GoalTree
walk_end l first free ns = in_turn (closing l.ending l.kept (first + length l.shared) free ns)

-- what a turn of an array's item is handed
abbrev pub array_args : Loop → ℕ → List Tree
array_args l item = Tree.var item ∷ Tree.var 0 ∷ Tree.var (suc item) ∷ slots_from 2 (handed l - 2)

-- the item of an array with the next number, from `item` on slots are free
abbrev pub array_turn_by : List ℕ → Loop → ℕ → GoalTree
array_turn_by turn l item =
    tick_then (GoalTree.apply index_name (Tree.var 0 ∷ Tree.var 1 ∷ []) item ∷ GoalTree.apply (codes "+") (Tree.var 1 ∷ Tree.int (pos 1) ∷ []) (suc item)
    ∷ GoalTree.call turn (array_args l item) ∷ [])

-- what a turn of the next value is handed, and the end behind the last one
abbrev pub value_args : Loop → ℕ → ℕ → List Tree
value_args l first free = Tree.var free ∷ Tree.var free ∷ Tree.var (suc free) ∷ slots_from (suc (suc first)) (handed l - 2)

abbrev pub last_args : Loop → ℕ → List Tree
last_args l first = Tree.var first ∷ Tree.int (pos 0) ∷ slots_from (suc (suc first)) (handed l - 2)

-- the next value of a range
abbrev pub next_value_by : List ℕ → Loop → ℕ → ℕ → GoalTree
next_value_by turn l first free =
    in_turn (GoalTree.apply (codes "+") (Tree.var first ∷ Tree.var (suc (suc first)) ∷ []) free ∷ GoalTree.apply (codes "-") (Tree.var (suc first) ∷ Tree.int (pos 1) ∷ []) (suc free) ∷ GoalTree.tick
    ∷ GoalTree.call turn (value_args l first free) ∷ [])

-- whether a term is a number that is written
pub record IsNumber (t : Tree) (is_number : Bool) : Type 0 where
  pub written : is_number ≡ true → (k : ℕ) → (number_goals t k ≡ []) × (number_tree t k ≡ t)
  pub found : is_number ≡ false → (k : ℕ) → (number_goals t k ≡ GoalTree.apply (codes "min") (t ∷ t ∷ []) k ∷ []) × (number_tree t k ≡ Tree.var k)
