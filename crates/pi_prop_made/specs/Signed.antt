-- Numbers with a sign in front of them. (Own.)
use Rattle.std.specs.Prelude.{Bool, true, false, ℤ, neg_ℤ}

-- a number, or its opposite
abbrev pub signed : Bool → ℤ → ℤ
signed false z = z
signed true z = neg_ℤ z
