-- The slots of all calls that are under way, and what a mark of them brings back.
use Rattle.std.specs.Prelude.{◌≡◌, ℕ, ◌≤◌, List, [], ◌∷◌, Option, length, take, drop, slice_set}
use Rattle.pi_constraints.specs.declared.store.Ref.{Ref}
use Rattle.pi_engine_arenas.specs.declared.blocks.Written.{Written}
use Rattle.pi_engine_arenas.specs.declared.blocks.BlocksMark.{BlocksMark}

-- what each slot holds; the writes that were noted, the oldest first; how many slots are protected
pub record BlocksView : Type 0 where
  pub slots : List (Option Ref)
  pub trail : List Written
  pub kept : ℕ

-- the slots as they were before these writes, of which the newest is taken back first
unfoldable pub slots_before : List Written → List (Option Ref) → List (Option Ref)
slots_before [] slots = slots
slots_before (w ∷ ws) slots = slice_set (slots_before ws slots) w.slot w.old

-- what a mark brings back
unfoldable pub brought_back : BlocksMark → BlocksView → List (Option Ref)
brought_back m b = slots_before (drop m.trail b.trail) (take m.slots b.slots)

-- a mark is good: the slots that it brings back are there and protected, and the writes to them since were noted
pub record IsKept (b : BlocksView) (m : BlocksMark) : Type 0 where
  pub within : m.slots ≤ length b.slots
  pub protected : m.slots ≤ b.kept
  pub noted : m.trail ≤ length b.trail

-- good marks stay good, and bring back the same
abbrev pub KeepsBlocks : BlocksView → BlocksView → Type 0
KeepsBlocks old new = (m : BlocksMark) → IsKept old m → IsKept new m × (brought_back m new ≡ brought_back m old)

-- a mark was made before another one
pub record IsOlder (m n : BlocksMark) : Type 0 where
  pub slots : m.slots ≤ n.slots
  pub trail : m.trail ≤ n.trail
