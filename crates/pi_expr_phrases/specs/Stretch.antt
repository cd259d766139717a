-- A stretch of tokens.
use Rattle.std.specs.Prelude.{ℕ, ◌-◌, List, take, drop}
use Rattle.pi_syntax.specs.Tokens.{Token}

-- the tokens from one place up to another
abbrev pub stretch : List Token → ℕ → ℕ → List Token
stretch tokens from to = take (to - from) (drop from tokens)
