-- What the parts of a block own and lend.
use Rattle.std.specs.Prelude.{◌≡◌, ℕ, ◌+◌, ◌*◌, ◌^◌, List, [], ◌∷◌, length, get_or, Option, Some, None}
use base.Fraction.{full_share}
use base.Fml.{Lft, Fml, ftrue, fsep, flt, froom}
use mir.Syntax.{Ty, ty_int, ty_array, w64}
use denote.Builtin.{u64}
use denote.Memory.{part_at, shared_of}
use denote.Sharing.{nothing, said, beside}
use denote.RawPtr.{Ptr, block_ptr, null_ptr}

-- one cell, o bytes into the block b: a word, or room for one
abbrev pub cell : ℕ → ℕ → Option ℕ → Fml
cell b o (Some w) = part_at u64 full_share w b o
cell b o None = froom (ty_int w64) b o

-- cells side by side
abbrev pub cells : ℕ → ℕ → List (Option ℕ) → Fml
cells b o [] = ftrue
cells b o (c ∷ cs) = fsep (cell b o c) (cells b (o + 8) cs)

abbrev pub cell_lent : ℕ → ℕ → Option ℕ → Lft → Fml
cell_lent b o (Some w) = shared_of u64 w b o
cell_lent b o None = nothing

abbrev pub lent_cells : ℕ → ℕ → List (Option ℕ) → Lft → Fml
lent_cells b o [] = nothing
lent_cells b o (c ∷ cs) = beside (cell_lent b o c) (lent_cells b (o + 8) cs)

-- the cells take fewer than 2 ^ 63 bytes
abbrev pub fit : List (Option ℕ) → Fml
fit cs = flt (length cs * 8) (2 ^ 63)

-- there is no cell
abbrev pub none : List (Option ℕ) → Fml
none cs = flt (length cs) 1

abbrev pub cells_own : Ptr → List (Option ℕ) → Fml
cells_own (block_ptr b o) cs = fsep (fit cs) (cells b o cs)
cells_own null_ptr cs = none cs

abbrev pub cells_lent : Ptr → List (Option ℕ) → Lft → Fml
cells_lent (block_ptr b o) cs = beside (said (fit cs)) (lent_cells b o cs)
cells_lent null_ptr cs = said (none cs)

-- the allocator's token for a block of n words
abbrev pub lease_owns : (Ty → Ptr → Fml) → Ptr → ℕ → Fml
lease_owns token p n = token (ty_array (ty_int w64) n) p

-- the cell at the index holds a word
abbrev pub IsWritten : List (Option ℕ) → ℕ → Type 0
IsWritten cs i = (w : ℕ) × (get_or cs i None ≡ Some w)
