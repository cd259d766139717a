-- A region by its fields, and a pool by its fields.
use Rattle.std.specs.Prelude.{◌≡◌, ◌+◌, ◌-◌, ◌≤◌, [], length, All}
use Rattle.std.specs.Vec.{vec_len, vec_capacity}
use Rattle.pi_region.specs.Pool.{Regions}
use Rattle.pi_region.specs.Words.{Region, written, AreWritten, most_words}
use Rattle.pi_region.specs.declared.words.Words.TheInside as words
use Rattle.pi_region.specs.declared.pool.Pool.TheInside as pool

abbrev pub region_of : words.Inside → Region
region_of w = record { words = written w.len w.block; spare = length w.block - w.len }

abbrev pub IsRegion : words.Inside → Type 0
IsRegion w = AreWritten w.len w.block × (length w.block ≤ most_words)

abbrev pub regions_of : pool.Inside → Regions
regions_of p = record { kept = p.kept.items; outstanding = p.outstanding }

abbrev pub IsEmpty : Region → Type 0
IsEmpty r = r.words ≡ []

-- what it keeps is empty, and it has room for those that are out
abbrev pub IsPool : pool.Inside → Type 0
IsPool p = All IsEmpty p.kept.items × (vec_len p.kept + p.outstanding ≤ vec_capacity p.kept)
