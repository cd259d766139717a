-- Patterns of the core language as trees: what an argument of a call has to look like. A slot takes whatever stands
-- there, and a named pattern has a slot for what it matches as a whole.
use Rattle.std.specs.Prelude.{◌≡◌, ◌⊎◌, ℕ, ℤ, List}

mutual
  pub data PatternTree : Type 0 where
    slot : ℕ → PatternTree
    exact_int : ℤ → PatternTree
    exact_atom : List ℕ → PatternTree
    compound : List ℕ → PatternTrees → PatternTree
    named : ℕ → PatternTree → PatternTree

  -- patterns from the left
  pub data PatternTrees : Type 0 where
    no_patterns : PatternTrees
    pattern : PatternTree → PatternTrees → PatternTrees

-- a slot stands in a pattern
unfoldable mutual
  pub HasSlot : PatternTree → ℕ → Type 0
  HasSlot (slot j) k = j ≡ k
  HasSlot (exact_int n) k = ⊥
  HasSlot (exact_atom name) k = ⊥
  HasSlot (compound name ps) k = HaveSlot ps k
  HasSlot (named j p) k = (j ≡ k) ⊎ HasSlot p k

  pub HaveSlot : PatternTrees → ℕ → Type 0
  HaveSlot no_patterns k = ⊥
  HaveSlot (pattern p ps) k = HasSlot p k ⊎ HaveSlot ps k
