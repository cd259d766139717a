-- What variables' words were before the entries past a length, by the entries about them.
use Rattle.std.specs.Prelude.{◌≡◌, ℕ, suc, ◌<◌, ◌≤◌, ◌==◌, cond, List, [], ◌∷◌, length, slice_index, ⊤}
use Rattle.pi_region.specs.Image.{Image}
use Rattle.pi_region.specs.Back.{back}

-- the word that is noted for a place; where none is, the one that is given
unfoldable pub noted : List (ℕ × ℕ) → ℕ → ℕ → ℕ
noted [] n w = w
noted (e ∷ es) n w = cond (n == e.0) e.1 (noted es n w)

-- the places ascend
unfoldable pub AscendFrom : ℕ → List (ℕ × ℕ) → Type 0
AscendFrom least [] = ⊤
AscendFrom least (e ∷ es) = (least ≤ e.0) × AscendFrom (suc e.0) es

-- what is noted leads from words to those that were there before: how many they were, and each, where none is noted the present one
pub record LeadsBack (before now : List ℕ) (count : ℕ) (es : List (ℕ × ℕ)) : Type 0 where
  pub many : count ≡ length before
  pub ascend : AscendFrom 0 es
  pub word : (n : ℕ) → n < length before → slice_index before n ≡ noted es n (slice_index now n)

-- the walk back stands at an image on the way to a length, and has noted what leads back to it
pub record HasNoted (i : Image) (len end count : ℕ) (es : List (ℕ × ℕ)) : Type 0 where
  pub image : Image
  pub region : image.region ≡ i.region
  pub trail : end ≡ image.trail
  pub way : back len image ≡ back len i
  pub leads : LeadsBack image.variables i.variables count es
