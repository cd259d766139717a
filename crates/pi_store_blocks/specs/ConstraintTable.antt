-- Constraints in their table: the word of one is the place where its block ends.
use Rattle.std.specs.Prelude.{ℕ, ◌≤◌, List, length}
use Rattle.pi_constraints.specs.declared.constraint.Constraint.{Constraint}
use Rattle.pi_store_blocks.specs.Heap.{Heap}
use Rattle.pi_store_blocks.specs.Block.{block_at}
use Rattle.pi_store_blocks.specs.Constraint.{constraint_in}

-- the constraint of a word; for one that is none of no items
abbrev pub constraint_at : List ℕ → ℕ → Constraint
constraint_at words end = constraint_in (block_at words end)

-- its block stands in the region
abbrev pub IsConstraintIn : Heap → ℕ → Type 0
IsConstraintIn h end = end ≤ length h.words
