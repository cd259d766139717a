-- Powers of whole numbers.
use Rattle.std.specs.Prelude.{ℕ, zero, suc, ℤ, pos, ◌*ℤ◌}

-- a to the power n; 0 to the power 0 is 1
unfoldable pub power : ℤ → ℕ → ℤ
power a zero = pos 1
power a (suc n) = power a n *ℤ a
