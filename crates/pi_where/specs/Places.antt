-- Places between the parts of tokens.
use Rattle.std.specs.Prelude.{◌≡◌, ◌<◌, ◌≤◌, ◌+◌, ◌-◌, ℕ, List, ◌∷◌, ◌++◌, length, take, drop}
use Rattle.pi_syntax.specs.Tokens.{Token}
use Rattle.pi_prog_clauses.specs.Stretch.{Stretch, stretches}
use Rattle.pi_where.specs.Where.{with_end, all_tokens}

-- the part of this number would begin at this place: the parts before it end there
pub record BeginsAt (ts : List Token) (number at : ℕ) : Type 0 where
  pub before : List Stretch
  pub parts : stretches ts ≡ before ++ stretches (drop at ts)
  pub counted : length before + 1 ≡ number
  pub earlier : take at ts ≡ all_tokens before

-- the part that begins at a place ends before another
pub record EndsAt (ts : List Token) (from to : ℕ) : Type 0 where
  pub this : Stretch
  pub part : stretches (drop from ts) ≡ this ∷ stretches (drop to ts)
  pub its_own : take (to - from) (drop from ts) ≡ with_end this
  pub some : from < to
  pub within : to ≤ length ts
