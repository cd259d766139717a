-- What a store over raw words holds.
use Rattle.pi_region.specs.Image.{Image}
use Rattle.pi_store_blocks.specs.NameTable.{NameTable}

-- the names of atoms, and the words
pub record Holding : Type 0 where
  pub names : NameTable
  pub image : Image
