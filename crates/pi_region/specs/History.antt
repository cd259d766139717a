-- What the walk back along the trail holds of one variable.
use Rattle.std.specs.Prelude.{◌≡◌, ℕ, length, slice_index}
use Rattle.pi_region.specs.Image.{Image}
use Rattle.pi_region.specs.declared.history.Past.{Past}

-- it stands at an image on the way back from another one: where its newest entry ends, the word of the variable, and how many there are
pub record Stands (i j : Image) (n : ℕ) (p : Past) : Type 0 where
  pub region : j.region ≡ i.region
  pub end : p.end ≡ j.trail
  pub word : p.word ≡ slice_index j.variables n
  pub count : p.count ≡ length j.variables
