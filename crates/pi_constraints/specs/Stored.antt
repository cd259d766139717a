-- The spans of a variable in a state. (Own.)
use Rattle.std.specs.Prelude.{ℕ, List, [], unwrap_or}
use Rattle.pi_constraints.specs.declared.domain.Span.{Span}
use Rattle.pi_constraints.specs.State.{State, domain_of}

-- the spans of the domain that a variable has; none where it has no domain
abbrev pub stored : State → ℕ → List Span
stored s n = unwrap_or (domain_of s n) []
