-- The names that terms of a region of each length may have.
use Rattle.std.specs.Prelude.{◌≡◌, ℕ, zero, suc, ◌≤◌, Bool, true, cond, ◌&&◌, nat_lt, nat_le, List, ◌∷◌, length, Option, Some, None, slice_get, slice_index}
use Rattle.pi_terms.specs.ListNames.{cell_name}
use Rattle.pi_atoms.specs.Names.{HasDistinct}

-- names by their numbers; and for each 0, or 1 more than the length of the region from which on terms may have it
pub record NameTable : Type 0 where
  pub texts : List (List ℕ)
  pub from : List ℕ

-- a word of these says that terms of a region of this length may have a name
abbrev pub is_from : ℕ → ℕ → Bool
is_from word len = nat_lt 0 word && nat_le word (suc len)

-- terms of a region of this length may have the name with this number; the first is that of list cells, which all may have
abbrev pub is_given : NameTable → ℕ → ℕ → Bool
is_given t len zero = true
is_given t len (suc k) = is_from (slice_index t.from (suc k)) len

-- the names that they may have
abbrev pub names_of : NameTable → ℕ → ℕ → Option (List ℕ)
names_of t len k = cond (is_given t len k) (slice_get t.texts k) None

-- the table of these names and words, behind the name of list cells
abbrev pub table_of : List (List ℕ) → List ℕ → NameTable
table_of names words = record { texts = cell_name ∷ names; from = 0 ∷ words }

-- no name has two numbers, there is a word for each, and those past the names are 0
pub record IsTable (names : List (List ℕ)) (words : List ℕ) : Type 0 where
  pub distinct : HasDistinct (cell_name ∷ names)
  pub room : length names ≤ length words
  pub fresh : (k : ℕ) → length names ≤ k → slice_index words k ≡ 0

-- a name that terms of a region may have, those of a longer one may have
abbrev pub NamesStay : Type 0
NamesStay = (t : NameTable) (m n k : ℕ) (name : List ℕ) → m ≤ n → names_of t m k ≡ Some name → names_of t n k ≡ Some name
