-- What calls of a store change of its names and words.
use Rattle.std.specs.Prelude.{◌≡◌, ◌⊎◌, ℕ, ◌≤◌, List, [], ◌∷◌, Some, length, slice_get}
use Rattle.pi_region.specs.Entry.{data_of}
use Rattle.pi_region.specs.Image.{Image, appended}
use Rattle.pi_atoms.specs.Names.{HasDistinct}
use Rattle.pi_store_blocks.specs.NameTable.{NameTable, names_of}

-- numbers keep their names, and terms of a region no longer than this may have just the names that they might have
pub record KeepsNames (old new : NameTable) (len : ℕ) : Type 0 where
  pub texts : (k : ℕ) (name : List ℕ) → slice_get old.texts k ≡ Some name → slice_get new.texts k ≡ Some name
  pub same : (n k : ℕ) → n ≤ len → names_of new n k ≡ names_of old n k

-- numbers keep their names, and terms of a region of any length may have the names that they might have
pub record NamesGrow (old new : NameTable) : Type 0 where
  pub texts : (k : ℕ) (name : List ℕ) → slice_get old.texts k ≡ Some name → slice_get new.texts k ≡ Some name
  pub given : (n k : ℕ) (name : List ℕ) → names_of old n k ≡ Some name → names_of new n k ≡ Some name

-- a name got a number, or a name and a number were there: with a word more that says nothing, or none
pub record IsNumbered (old new : NameTable) (i j : Image) (name : List ℕ) : Type 0 where
  pub keeps : KeepsNames old new (length i.region)
  pub grow : NamesGrow old new
  pub distinct : HasDistinct old.texts → HasDistinct new.texts
  pub words : (j ≡ i) ⊎ (j ≡ appended i (data_of 0 ∷ []))
