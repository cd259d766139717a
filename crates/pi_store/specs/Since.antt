-- What changed of variables since the region had a length, by the words that they had and have.
use Rattle.std.specs.Prelude.{◌≡◌, ◌≢◌, ◌⊎◌, ℕ, ◌%◌, ◌<◌, List, [], ◌∷◌, slice_index}
use Rattle.pi_region.specs.Image.{Image}
use Rattle.pi_region.specs.Back.{at_length}
use Rattle.pi_region.specs.Changes.{LeadsBack}
use Rattle.pi_store.specs.Domains.{domain_by}

-- a variable among the first so many, which wasn't bound by the word that it had, is bound now or has another domain
abbrev pub IsChanged : Image → ℕ → ℕ → ℕ → Type 0
IsChanged i count n old = (n < count) × (old % 8 ≡ 0) × ((slice_index i.variables n % 8 ≢ 0) ⊎ (domain_by i.region (slice_index i.variables n) ≢ domain_by i.region old))

-- of what is noted, in its order, the places of those that changed
unfoldable pub Picks : Image → ℕ → List (ℕ × ℕ) → List ℕ → Type 0
Picks i count [] found = found ≡ []
Picks i count (e ∷ es) found = (IsChanged i count e.0 e.1 × ((rest : List ℕ) × (found ≡ e.0 ∷ rest) × Picks i count es rest)) ⊎ ((IsChanged i count e.0 e.1 → ⊥) × Picks i count es found)

-- these are picked of what leads back to a length
pub record AreSince (i : Image) (len : ℕ) (found : List ℕ) : Type 0 where
  pub count : ℕ
  pub notes : List (ℕ × ℕ)
  pub leads : LeadsBack (at_length len i).variables i.variables count notes
  pub picks : Picks i count notes found
