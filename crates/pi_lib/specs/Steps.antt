-- Values of a range by their numbers, for the private functions of this crate.
use Rattle.std.specs.Prelude.{ℕ, ◌<◌, ℤ, pos, ◌+ℤ◌, ◌*ℤ◌, FitsSigned}
use Rattle.std.specs.Int.{w128}

-- what a number becomes in so many steps
abbrev pub value_after : ℤ → ℤ → ℕ → ℤ
value_after low step k = low +ℤ (pos k *ℤ step)

-- so many of these values fit 128 bits
abbrev pub AllFit : ℤ → ℤ → ℕ → Type 0
AllFit low step count = (k : ℕ) → k < count → FitsSigned w128 (value_after low step k)
