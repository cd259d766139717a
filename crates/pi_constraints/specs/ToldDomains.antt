-- The domains of variables in a state, as they are told.
use Rattle.std.specs.Prelude.{ℕ, List, [], ◌∷◌, Option, Some, None}
use Rattle.std.specs.List.{flat_map}
use Rattle.pi_constraints.specs.State.{State, domain_of}
use Rattle.pi_constraints.specs.declared.domain.Span.{Span}
use Rattle.pi_constraints.specs.declared.var_domain.VarDomain.{VarDomain}

-- a variable with its domain, if it has one
abbrev pub told_domain : ℕ → Option (List Span) → List VarDomain
told_domain n None = []
told_domain n (Some d) = record { var = n; domain = d } ∷ []

-- the domains that variables have in a state, in the order of the variables
unfoldable pub told_domains : State → List ℕ → List VarDomain
told_domains s ns = flat_map (λ n. told_domain n (domain_of s n)) ns
