-- What a block of words is.
use Rattle.std.specs.Prelude.{◌≡◌, ℕ, ◌*◌, ◌^◌, ◌<◌, List, Option, Some, None, length}
use Rattle.std.specs.declared.alloc.Global.{Global}
use Rattle.pi_region.specs.declared.raw.Start.{Start}
use Rattle.pi_region.specs.declared.raw.Lease.{Lease}
use Rattle.pi_region.specs.declared.block.Block.TheInside.{Inside}

-- the words, with None for each that is not written yet
abbrev pub words_of : Inside → List (Option ℕ)
words_of b = b.cells.words

-- the lease, if there is one, is the allocator's for the n words from the start on; without one there is no word
abbrev pub IsLeased : Option (Lease Global) → Start → ℕ → Global → Type 0
IsLeased (Some l) start n alloc = (0 < n) × (l.at ≡ start.address) × (l.len ≡ n) × (l.alloc ≡ alloc)
IsLeased None start n alloc = n ≡ 0

-- the fields speak of one block, which has as many words as a block can have
abbrev pub IsBlock : Inside → Type 0
IsBlock b = (b.start.address ≡ b.cells.at) × (b.capacity ≡ length b.cells.words) × (b.capacity * 8 < 2 ^ 63) × IsLeased b.lease b.start b.capacity b.alloc
