-- What a pool of regions is to its callers.
use Rattle.std.specs.Prelude.{◌≡◌, ℕ, ◌+◌, ◌<◌, List, [], ◌∷◌, ◌++◌, length, max}
use Rattle.pi_region.specs.Words.{Region, block_len}

-- a pool as its callers see it: the regions that it keeps, the last given back last, and how many are taken and not given back
pub record Regions : Type 0 where
  pub kept : List Region
  pub outstanding : ℕ

-- how many regions the pool made: they are kept or out
abbrev pub made_by : Regions → ℕ
made_by p = length p.kept + p.outstanding

-- one more region is out, and the pool has made one more only where all that it had made were out
pub record TakesOne (old new : Regions) : Type 0 where
  pub outstanding : new.outstanding ≡ old.outstanding + 1
  pub made : made_by new ≡ max (made_by old) new.outstanding

-- where the pool keeps a region, it gives the last one
abbrev pub GivesKept : Regions → Regions → Region → Type 0
GivesKept old new region = 0 < length old.kept → old.kept ≡ new.kept ++ region ∷ []

-- the region without its words, and with its whole block
abbrev pub emptied : Region → Region
emptied region = record { words = []; spare = block_len region }

-- one region less is out, and the pool keeps it, emptied
pub record Keeps (old new : Regions) (region : Region) : Type 0 where
  pub outstanding : new.outstanding + 1 ≡ old.outstanding
  pub kept : new.kept ≡ old.kept ++ emptied region ∷ []
