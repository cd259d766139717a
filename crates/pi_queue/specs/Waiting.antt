-- Numbers that wait, the one that waits longest first. (Own.)
use Rattle.std.specs.Prelude.{◌≡◌, ◌≢◌, ◌↔◌, ℕ, Bool, IsTrue, List, ◌++◌, AllPairs, Contains}
use Rattle.pi_constraints.specs.State.{State}
use Rattle.pi_constraints.specs.Store.{IsPostedOn}

-- no number waits twice, and a set has just those that wait
pub record IsKept (queue : List ℕ) (has : ℕ → Bool) : Type 0 where
  pub different : AllPairs (λ i j. i ≢ j) queue
  pub same : (i : ℕ) → IsTrue (has i) ↔ Contains queue i

-- numbers of a kind were put behind those that wait: each that didn't wait yet, once
pub record AreAdded (Kind : ℕ → Type 0) (old new : List ℕ) : Type 0 where
  pub fresh : List ℕ
  pub behind : new ≡ old ++ fresh
  pub different : AllPairs (λ i j. i ≢ j) fresh
  pub has : (i : ℕ) → Contains fresh i ↔ (Kind i × (Contains old i → ⊥))

-- a constraint is posted on one of these variables
abbrev pub IsOnSome : State → List ℕ → ℕ → Type 0
IsOnSome s variables i = (n : ℕ) × Contains variables n × IsPostedOn s n i
