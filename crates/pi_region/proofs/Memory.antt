-- The cells of a block, one at a time and all of them as room. Assumes `Logic`.
--     cell_out, cell_in      one cell is taken out of the row, and a cell is put in its place
--     cell_seen              a `&` to the cells reaches one
--     cell_room              a cell is room for a word
--     cells_of_room, cells_to_room      room for an array is a row of empty cells, and any row is room
--     no_cells               a row of no cells is made of nothing, wherever it begins
use Rattle.std.proofs.Common.{◌≡◌, ℕ, zero, suc, ◌+◌, ◌*◌, ◌^◌, ◌<◌, List, [], ◌∷◌, refl, arith}
use Rattle.std.specs.Prelude.{Option, Some, None}
use lib.Dec.{lit<}
use lib.ListN.{length, get_or, set, replicate}
use seplogic.Ra.Ura.{Ura}
use base.Fraction.{full_share}
use base.Logic.{ent, sep, emp, id⊢}
use base.Fml.{Fml, Lft, ftrue, fsep, fat, froom}
use mir.Syntax.{ty_int, ty_array, w64}
use mir.Val.{vint}
use types.Logic.{Logic, sem}
use types.Kit.{‵, ◌⊛◌, ◌$◌, ◌∵◌, !, qed, by, move, keep, use1, use2, split, rewrite, fsplit, fjoin, flt_i, frame, done}
use types.Run.{forget}
use denote.Plain.{uint_out}
use denote.RawPtr.{Ptr, block_ptr, null_ptr}
use denote.Steps.{nothing}
use Rattle.pi_region.specs.Ownership.{cell, cells, cell_lent, lent_cells, cells_own}

module _ {M : Type 1} {𝓤 : Ura M} (𝓛 : Logic 𝓤) (b : ℕ) where
  open 𝓛 use {H}

  -- the cells but for the i-th
  abbrev pub besides : ℕ → List (Option ℕ) → ℕ → Fml
  besides o [] i = ftrue
  besides o (c ∷ cs) zero = cells b (o + 8) cs
  besides o (c ∷ cs) (suc i) = fsep (cell b o c) (besides (o + 8) cs i)

  pub cell_out : (o : ℕ) (cs : List (Option ℕ)) (i at : ℕ) → at ≡ i * 8 + o → i < length cs
      → ent 𝓤 (sem 𝓛 (cells b o cs)) (sep 𝓤 (sem 𝓛 (cell b at (get_or cs i None))) (sem 𝓛 (besides o cs i)))
  cell_out o [] i at e lt = absurd (omega arith)
  cell_out o (c ∷ cs) zero at e lt = qed 𝓛 (‵ (cells b o (c ∷ cs)) ∷ []) ∵ fsplit ! $
      rewrite ! 0 (λ (k : ℕ). ‵ (cell b k c)) {x = at} {y = o} (omega arith) refl $ done !
  cell_out o (c ∷ cs) (suc i) at e lt = qed 𝓛 (‵ (cells b o (c ∷ cs)) ∷ []) ∵ fsplit ! $ move ! (1 ∷ []) $
      use1 𝓛 (‵ (cell b at (get_or cs i None)) ⊛ ‵ (besides (o + 8) cs i)) (cell_out (o + 8) cs i at (omega arith) (omega arith)) $
      split ! $ move ! (2 ∷ 1 ∷ []) $ fjoin ! $ move ! (1 ∷ []) $ done !

  pub cell_in : (o : ℕ) (cs : List (Option ℕ)) (i at : ℕ) (c : Option ℕ) → at ≡ i * 8 + o → i < length cs
      → ent 𝓤 (sep 𝓤 (sem 𝓛 (cell b at c)) (sem 𝓛 (besides o cs i))) (sem 𝓛 (cells b o (set cs i c)))
  cell_in o [] i at c e lt = absurd (omega arith)
  cell_in o (d ∷ cs) zero at c e lt = qed 𝓛 (‵ (cell b at c) ∷ ‵ (cells b (o + 8) cs) ∷ []) ∵
      rewrite ! 0 (λ (k : ℕ). ‵ (cell b k c)) {x = o} {y = at} (omega arith) refl $ fjoin ! $ done !
  cell_in o (d ∷ cs) (suc i) at c e lt = qed 𝓛 (‵ (cell b at c) ∷ ‵ (besides o (d ∷ cs) (suc i)) ∷ []) ∵ move ! (1 ∷ []) $ fsplit ! $ move ! (2 ∷ 1 ∷ []) $
      use2 𝓛 (‵ (cells b (o + 8) (set cs i c))) (cell_in (o + 8) cs i at c (omega arith) (omega arith)) $ move ! (1 ∷ 0 ∷ []) $ fjoin ! $ done !

  pub cell_seen : (κ : Lft) (o : ℕ) (cs : List (Option ℕ)) (i at : ℕ) → at ≡ i * 8 + o → i < length cs
      → ent 𝓤 (sem 𝓛 (lent_cells b o cs κ)) (sem 𝓛 (cell_lent b at (get_or cs i None) κ))
  cell_seen κ o [] i at e lt = absurd (omega arith)
  cell_seen κ o (c ∷ cs) zero at e lt = qed 𝓛 (‵ (lent_cells b o (c ∷ cs) κ) ∷ []) ∵ fsplit ! $ keep ! (0 ∷ []) $
      rewrite ! 0 (λ (k : ℕ). ‵ (cell_lent b k c κ)) {x = at} {y = o} (omega arith) refl $ done !
  cell_seen κ o (c ∷ cs) (suc i) at e lt = qed 𝓛 (‵ (lent_cells b o (c ∷ cs) κ) ∷ []) ∵ fsplit ! $ keep ! (1 ∷ []) $
      by ! (cell_seen κ (o + 8) cs i at (omega arith) (omega arith))

  pub cell_room : (o : ℕ) (c : Option ℕ) → ent 𝓤 (sem 𝓛 (cell b o c)) (H.room (ty_int w64) b o)
  cell_room o (Some w) = qed 𝓛 (‵ (cell b o (Some w)) ∷ []) ∵
      use1 𝓛 (‵ (fat full_share (ty_int w64) b o (vint w64 w))) (uint_out 𝓛 full_share w64 w b o) $ forget ! 0 refl $ done !
  cell_room o None = id⊢ 𝓤 _

  pub cells_of_room : (n o : ℕ) → ent 𝓤 (H.room (ty_array (ty_int w64) n) b o) (sem 𝓛 (cells b o (replicate n None)))
  cells_of_room zero o = qed 𝓛 (‵ (froom (ty_array (ty_int w64) 0) b o) ∷ []) ∵ keep ! [] $ done !
  cells_of_room (suc n) o = qed 𝓛 (‵ (froom (ty_array (ty_int w64) (suc n)) b o) ∷ []) ∵
      use1 𝓛 (‵ (froom (ty_int w64) b o) ⊛ ‵ (froom (ty_array (ty_int w64) n) b (o + 8))) (𝓛.laws.room_uncons (ty_int w64) n b o) $ split ! $
      frame ! $ by ! (cells_of_room n (o + 8))

  pub cells_to_room : (cs : List (Option ℕ)) (o : ℕ) → ent 𝓤 (sem 𝓛 (cells b o cs)) (H.room (ty_array (ty_int w64) (length cs)) b o)
  cells_to_room [] o = 𝓛.laws.room_nil (ty_int w64) b o
  cells_to_room (c ∷ cs) o = qed 𝓛 (‵ (cells b o (c ∷ cs)) ∷ []) ∵ fsplit ! $
      use1 𝓛 (‵ (froom (ty_int w64) b o)) (cell_room o c) $ move ! (1 ∷ []) $
      use1 𝓛 (‵ (froom (ty_array (ty_int w64) (length cs)) b (o + 8))) (cells_to_room cs (o + 8)) $ move ! (1 ∷ []) $ by ! (𝓛.laws.room_cons (ty_int w64) (length cs) b o)

module _ {M : Type 1} {𝓤 : Ura M} (𝓛 : Logic 𝓤) where
  pub no_cells : (p : Ptr) → ent 𝓤 (emp 𝓤) (sem 𝓛 (cells_own p []))
  no_cells (block_ptr b o) = qed 𝓛 [] ∵ nothing ! $ flt_i ! (0 * 8) (2 ^ 63) (lit< tt) $ fjoin ! $ done !
  no_cells null_ptr = qed 𝓛 [] ∵ flt_i ! 0 1 (lit< tt) $ done !
