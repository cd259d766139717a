-- Sums of what was counted, if it was.
use Rattle.std.specs.Prelude.{◌≡◌, ℕ, ◌+◌, Result, Ok, Err}

-- both were counted, and this is the sum
abbrev pub IsSum : {E : Type 0} → Result ℕ E → Result ℕ E → ℕ → Type 0
IsSum (Ok m) (Ok n) all = all ≡ m + n
IsSum (Ok m) (Err e) all = ⊥
IsSum (Err e) more all = ⊥

-- one was counted, and this is so many more
abbrev pub IsMore : {E : Type 0} → Result ℕ E → ℕ → ℕ → Type 0
IsMore (Ok m) n all = all ≡ m + n
IsMore (Err e) n all = ⊥
