-- Where variables stand among those with domains, and domains without a value. The definitions are own.
use Rattle.std.specs.Prelude.{◌≡◌, ◌≢◌, ℕ, ◌<◌, IsTrue, List, length, get_or, ℤ}
use Rattle.pi_constraints.specs.declared.domain.Span.{Span}
use Rattle.pi_constraints.specs.declared.var_domain.VarDomain.{VarDomain}
use Rattle.pi_constraints.specs.Domain.{has_value}
use Rattle.pi_prop_spec.specs.Places.{domain_at}

-- the first with this variable stands at place i
pub record IsPlace (xs : List VarDomain) (n : ℕ) (i : ℕ) : Type 0 where
  pub within : i < length xs
  pub here : (other : VarDomain) → (get_or xs i other).var ≡ n
  pub before : (j : ℕ) (other : VarDomain) → j < i → (get_or xs j other).var ≢ n

-- none has it
abbrev pub IsNoPlace : List VarDomain → ℕ → Type 0
IsNoPlace xs n = (j : ℕ) (other : VarDomain) → j < length xs → (get_or xs j other).var ≢ n

-- one of the domains has no value
abbrev pub HaveNone : List (List Span) → Type 0
HaveNone ds = (k : ℕ) × (k < length ds) × ((n : ℤ) → IsTrue (has_value (domain_at ds k) n) → ⊥)
