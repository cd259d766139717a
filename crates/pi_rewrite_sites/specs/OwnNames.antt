-- What the helpers of loops are called. (Own.)
use Rattle.std.specs.Prelude.{ℕ, suc, false, List, [], ◌++◌}
use Rattle.std.specs.Fmt.{digits_onto}

-- The decimal digits of a number, however many there are. (`decimal` has no more than 64 of them, so that some numbers past 64 bits have the same.)
abbrev pub own_digits : ℕ → List ℕ
own_digits n = digits_onto (suc n) 10 false n []

-- the helper with this number
abbrev pub own_name : List ℕ → ℕ → List ℕ
own_name prefix n = prefix ++ own_digits n
