-- Crowding as a walk from the left finds it.
use Rattle.std.specs.Prelude.{ℕ, ◌+◌, Bool, true, false, cond, nat_lt, if◌then◌else◌, List, [], ◌∷◌}
use Rattle.pi_syntax.specs.Tokens.{Token}
use Rattle.pi_syntax.specs.Crowding.{most_open, is_opening, is_closing}

abbrev pub one_if : Bool → ℕ
one_if b = cond b 1 0

-- a front of the tokens opens too many brackets, where so many stand open and closed before it
abbrev pub is_too_open : ℕ → ℕ → List Token → Bool
is_too_open opened closed [] = false
is_too_open opened closed (t ∷ ts) =
    let more = opened + one_if (is_opening t) in
    let less = closed + one_if (is_closing t) in
    if nat_lt (less + most_open) more then true else is_too_open more less ts
