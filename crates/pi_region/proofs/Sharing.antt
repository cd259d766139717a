-- A `&` to the cells is made where one to a word is. Assumes `Logic`.
use Rattle.std.proofs.Common.{ℕ, ◌+◌, List, [], ◌∷◌, refl}
use Rattle.std.specs.Prelude.{Option, Some, None}
use seplogic.Ra.Ura.{Ura}
use base.Fml.{Lft, ftrue}
use contract.BorrowLft.{⊑_static}
use types.Logic.{Logic}
use denote.Builtin.{u64}
use denote.Param.Laws.{Laws, of_field}
use denote.Param.Shared.{copy_shared}
use denote.RawPtr.{Ptr, block_ptr, null_ptr}
use denote.Shares.{Shares-less}
use denote.Sharing.{ShrLaws, said}
use denote.SharingLaws.{beside_shr_laws, nothing_shr_laws, said_shr_laws}
use denote.Struct.Field.{u64-field}
use denote.Struct.Laws.{u64-laws, u64-copy}
use denote.Struct.Lending.{Lends, Lends-both, Lends-nothing, Lends-said}
use Rattle.pi_region.specs.Ownership.{cell, cells, cell_lent, lent_cells, fit, none, cells_own, cells_lent}

word_laws : Laws u64
word_laws = of_field u64-field u64-laws refl (copy_shared u64-field u64-copy)

cell_lent_laws : (b o : ℕ) (c : Option ℕ) → ShrLaws (cell_lent b o c)
cell_lent_laws b o (Some w) = word_laws.shr_laws w b o
cell_lent_laws b o None = nothing_shr_laws

lent_cells_laws : (b o : ℕ) (cs : List (Option ℕ)) → ShrLaws (lent_cells b o cs)
lent_cells_laws b o [] = nothing_shr_laws
lent_cells_laws b o (c ∷ cs) = beside_shr_laws _ _ (cell_lent_laws b o c) (lent_cells_laws b (o + 8) cs)

pub cells_lent_laws : (p : Ptr) (cs : List (Option ℕ)) → ShrLaws (cells_lent p cs)
cells_lent_laws (block_ptr b o) cs = beside_shr_laws _ _ (said_shr_laws (fit cs) tt) (lent_cells_laws b o cs)
cells_lent_laws null_ptr cs = said_shr_laws (none cs) tt

module _ {M : Type 1} {𝓤 : Ura M} (𝓛 : Logic 𝓤) (l : Lft) where
  Lends-cell : (b o : ℕ) (c : Option ℕ) → Lends 𝓛 (cell b o c) (cell_lent b o c) l
  Lends-cell b o (Some w) = λ κ ts. Shares-less 𝓛 u64 u64.lives l (⊑_static l) (word_laws.shares 𝓛) w κ ts b o
  Lends-cell b o None = Lends-nothing 𝓛 (cell b o None) l

  Lends-row : (b o : ℕ) (cs : List (Option ℕ)) → Lends 𝓛 (cells b o cs) (lent_cells b o cs) l
  Lends-row b o [] = Lends-nothing 𝓛 ftrue l
  Lends-row b o (c ∷ cs) = Lends-both 𝓛 (cell b o c) (cells b (o + 8) cs) (cell_lent b o c) (lent_cells b (o + 8) cs) l (Lends-cell b o c) (Lends-row b (o + 8) cs)

  pub Lends-cells : (p : Ptr) (cs : List (Option ℕ)) → Lends 𝓛 (cells_own p cs) (cells_lent p cs) l
  Lends-cells (block_ptr b o) cs = Lends-both 𝓛 (fit cs) (cells b o cs) (said (fit cs)) (lent_cells b o cs) l (Lends-said 𝓛 (fit cs) tt l) (Lends-row b o cs)
  Lends-cells null_ptr cs = Lends-said 𝓛 (none cs) tt l
