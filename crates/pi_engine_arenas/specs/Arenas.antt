-- The stack of entries: what the newest protects.
use Rattle.std.specs.Prelude.{◌≡◌, ◌-◌, ◌≤◌, max, take, [], ◌∷◌, ◌++◌, ℕ, zero, suc, List, Option, Some, None, slice_get, length}
pub use Rattle.pi_engine_arenas.specs.declared.arenas.Entry.{Entry}
use Rattle.pi_terms.specs.Tree.{Tree}
use Rattle.pi_constraints.specs.Store.{StoreView, Marks, IsGood, Returns}
use Rattle.pi_engine_arenas.specs.declared.arenas.Kind.{Kind}
use Rattle.pi_engine_arenas.specs.declared.arenas.Back.{Back}
use Rattle.pi_engine_arenas.specs.declared.arenas.Arenas.{Arenas}
use Rattle.pi_engine_arenas.specs.declared.frames.Point.{Point}
use Rattle.pi_engine_arenas.specs.Blocks.{BlocksView, KeepsBlocks, IsKept, IsOlder, brought_back}
use Rattle.pi_engine_arenas.specs.declared.blocks.BlocksMark.{BlocksMark}

-- the arenas, as contracts see them
pub record ArenasView (M : Type 0) : Type 0 where
  pub frames : List Point
  pub blocks : BlocksView
  pub entries : List (Entry M)
  pub level : ℕ
  pub collected : List Tree

abbrev pub view_of : {M : Type 0} → Arenas M → ArenasView M
view_of a = record { frames = a.frames; blocks = a.blocks; entries = a.entries.items; level = a.level; collected = a.collected.items }

-- the entry with a number, of which 0 is none
abbrev pub entry_at : {M : Type 0} → List (Entry M) → ℕ → Option (Entry M)
entry_at es zero = None
entry_at es (suc n) = slice_get es n

-- how many slots and frames an entry keeps
abbrev pub slots_kept_by : {M : Type 0} → Option (Entry M) → ℕ
slots_kept_by None = 0
slots_kept_by (Some e) = e.back.blocks.slots

abbrev pub frames_kept_by : {M : Type 0} → Option (Entry M) → ℕ
frames_kept_by None = 0
frames_kept_by (Some e) = e.back.frames

-- how many writes were noted when an entry was made
abbrev pub noted_by : {M : Type 0} → Option (Entry M) → ℕ
noted_by None = 0
noted_by (Some e) = e.back.blocks.trail

-- the newest entry
abbrev pub newest : {M : Type 0} → List (Entry M) → Option (Entry M)
newest es = entry_at es (length es)

-- the entry, but that it waits for something else
abbrev pub with_kind : {M : Type 0} → Entry M → Kind → Entry M
with_kind e kind = record {
  mark = e.mark;
  back = record { frames = e.back.frames; blocks = e.back.blocks; base = e.back.base; frame = e.back.frame; level = e.back.level; kind = kind };
}

-- ---- changes

-- the arenas with these values collected
abbrev pub with_collected : {M : Type 0} → ArenasView M → List Tree → ArenasView M
with_collected a c = record { frames = a.frames; blocks = a.blocks; entries = a.entries; level = a.level; collected = c }

-- the entry that comes back to what is there now, but for the slots from one on
abbrev pub new_back : {M : Type 0} → ArenasView M → ℕ → ℕ → ℕ → Kind → Back
new_back a slots base frame kind =
    record { frames = length a.frames; blocks = record { slots = slots; trail = length a.blocks.trail }; base = base; frame = frame; level = a.level; kind = kind }

abbrev pub new_entry : {M : Type 0} → ArenasView M → M → ℕ → ℕ → ℕ → Kind → Entry M
new_entry a mark slots base frame kind = record { mark = mark; back = new_back a slots base frame kind }

abbrev pub pushed : {M : Type 0} → ArenasView M → M → ℕ → ℕ → ℕ → Kind → ArenasView M
pushed a mark slots base frame kind = record {
  frames = a.frames;
  blocks = record { slots = a.blocks.slots; trail = a.blocks.trail; kept = slots };
  entries = a.entries ++ new_entry a mark slots base frame kind ∷ [];
  level = a.level;
  collected = a.collected;
}

-- the arenas with the newest entry as the newest open level
abbrev pub opened : {M : Type 0} → ArenasView M → ArenasView M
opened a = record { frames = a.frames; blocks = a.blocks; entries = a.entries; level = length a.entries; collected = a.collected }

-- what a step changes of a run: the store, as it is seen, and the arenas, each as it is before the step and then
pub record Between (M : Type 0) : Type 0 where
  pub store : StoreView M
  pub store_then : StoreView M
  pub arenas : ArenasView M
  pub arenas_then : ArenasView M

abbrev pub between : {M : Type 0} → StoreView M → StoreView M → ArenasView M → ArenasView M → Between M
between v w a b = record { store = v; store_then = w; arenas = a; arenas_then = b }

-- what an entry is to keep: the first so many slots, where the block begins, the frame behind it, and what it waits for
pub record Keeping : Type 0 where
  pub slots : ℕ
  pub base : ℕ
  pub frame : ℕ
  pub kind : Kind

abbrev pub keeping : ℕ → ℕ → ℕ → Kind → Keeping
keeping slots base frame kind = record { slots = slots; base = base; frame = frame; kind = kind }

-- a store and arenas with one more entry, which comes back to what they have
pub record PushesEntry {M : Type 0} (order : M → ℕ) (x : Between M) (k : Keeping) : Type 0 where
  pub mark : M
  pub marks : Marks order x.store x.store_then mark
  pub arenas : x.arenas_then ≡ pushed x.arenas mark k.slots k.base k.frame k.kind

-- The arenas after a point's frame is gone on with: that frame and those behind it are gone, as far as nothing keeps them, and
-- so is the point's block, where the frame has another one.
pub record FollowsFrame {M : Type 0} (a b : ArenasView M) (p next : Point) : Type 0 where
  pub frames : b.frames ≡ take (max (p.frame - 1) (frames_kept_by (newest a.entries))) a.frames
  pub entries : b.entries ≡ a.entries
  pub level : b.level ≡ a.level
  pub collected : b.collected ≡ a.collected
  pub kept : b.blocks.kept ≡ a.blocks.kept
  pub keeps : KeepsBlocks a.blocks b.blocks
  pub same : next.base ≡ p.base → b.blocks ≡ a.blocks
  pub front : (n : ℕ) → n ≤ max p.base a.blocks.kept → n ≤ length a.blocks.slots → (take n b.blocks.slots ≡ take n a.blocks.slots) × (n ≤ length b.blocks.slots)

-- The arenas with the first so many entries and frames alone. The newest of these entries says what is protected; marks that it
-- keeps stay good.
pub record Drops {M : Type 0} (a b : ArenasView M) (count frames : ℕ) : Type 0 where
  pub entries : b.entries ≡ take count a.entries
  pub frames_are : b.frames ≡ take frames a.frames
  pub collected : b.collected ≡ a.collected
  pub kept : b.blocks.kept ≡ slots_kept_by (newest (take count a.entries))
  pub keeps : (m : BlocksMark) → IsKept a.blocks m → m.slots ≤ b.blocks.kept → m.trail ≤ noted_by (newest (take count a.entries)) →
      IsKept b.blocks m × (brought_back m b.blocks ≡ brought_back m a.blocks)

-- The arenas after a level is left, whose entry has number i counted from 0 and comes back to this: it and what lies above it
-- are dropped, and the slots that were made for its goal.
pub record LeavesLevel {M : Type 0} (a b : ArenasView M) (i : ℕ) (back : Back) : Type 0 where
  pub drops : Drops a b i back.frames
  pub slots : b.blocks.slots ≡ take (max back.blocks.slots b.blocks.kept) a.blocks.slots
  pub level : b.level ≡ back.level

-- the newest open level is the entry with this number, which comes back to this
pub record IsLevel {M : Type 0} (a : ArenasView M) (level : ℕ) (back : Back) : Type 0 where
  pub entry : Entry M
  pub at : entry_at a.entries level ≡ Some entry
  pub back_is : entry.back ≡ back
  pub is_open : a.level ≡ level

-- The arenas after the newest entry is come back to, which stays: they have what it brings back.
pub record ComesBack {M : Type 0} (a b : ArenasView M) (back : Back) : Type 0 where
  pub entries : b.entries ≡ a.entries
  pub frames : b.frames ≡ take back.frames a.frames
  pub slots : IsKept a.blocks back.blocks → b.blocks.slots ≡ brought_back back.blocks a.blocks
  pub kept : b.blocks.kept ≡ a.blocks.kept
  pub keeps : (m : BlocksMark) → IsKept a.blocks back.blocks → IsKept a.blocks m → IsOlder m back.blocks → IsKept b.blocks m × (brought_back m b.blocks ≡ brought_back m a.blocks)
  pub level : b.level ≡ back.level
  pub collected : b.collected ≡ a.collected

-- A store and arenas after the newest entry is come back to.
pub record ReturnsToNewest {M : Type 0} (order : M → ℕ) (x : Between M) (back : Back) : Type 0 where
  pub entry : Entry M
  pub newest_is : newest x.arenas.entries ≡ Some entry
  pub back_is : entry.back ≡ back
  pub comes : ComesBack x.arenas x.arenas_then back
  pub returns : IsGood x.store entry.mark → Returns order x.store x.store_then entry.mark

-- The arenas without the newest entry. What is there stays, but for what the entries below don't keep of the writes that were
-- noted.
pub record DropsNewest {M : Type 0} (a b : ArenasView M) : Type 0 where
  pub drops : Drops a b (length a.entries - 1) (length a.frames)
  pub slots : b.blocks.slots ≡ a.blocks.slots
  pub level : b.level ≡ a.level

abbrev pub no_arenas : {M : Type 0} → ArenasView M
no_arenas = record { frames = []; blocks = record { slots = []; trail = []; kept = 0 }; entries = []; level = 0; collected = [] }
