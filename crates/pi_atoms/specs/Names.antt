-- Names by their numbers.
use Rattle.std.specs.Prelude.{◌≡◌, ◌⊎◌, ℕ, List, [], ◌∷◌, ◌++◌, Some, slice_get}

-- no name has two numbers
pub record HasDistinct (names : List (List ℕ)) : Type 0 where
  pub same : (j k : ℕ) (name : List ℕ) → slice_get names j ≡ Some name → slice_get names k ≡ Some name → j ≡ k

-- more names at the end: none, or this one
abbrev pub Gains : List (List ℕ) → List (List ℕ) → List ℕ → Type 0
Gains old new name = (more : List (List ℕ)) × (new ≡ old ++ more) × ((more ≡ []) ⊎ (more ≡ name ∷ []))
