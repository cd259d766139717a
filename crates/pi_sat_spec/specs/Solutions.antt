-- What a search is given, and solutions of it. The definitions are own.
use Rattle.std.specs.Prelude.{◌≢◌, ℕ, IsTrue, List, [], ℤ, All, Contains}
use Rattle.pi_constraints.specs.declared.constraint.Item.{Item}
use Rattle.pi_constraints.specs.declared.constraint.Constraint.{Constraint}
use Rattle.pi_constraints.specs.declared.var_domain.VarDomain.{VarDomain}
use Rattle.pi_constraints.specs.Domain.{has_value}
use Rattle.pi_constraints.specs.Constraint.{IsWithinLimits}
use Rattle.pi_prop_spec.specs.Places.{places_of}
use Rattle.pi_prop_spec.specs.Solutions.{Holds}
use Rattle.pi_sat_spec.specs.Domains.{domain_of}

-- constraints as they may be posted, each of whose variables has a domain that isn't empty
pub record MaySearch (xs : List VarDomain) (cs : List Constraint) : Type 0 where
  pub limits : All IsWithinLimits cs
  pub values : All (λ c. (n : ℕ) → Contains (places_of c) (Item.Var n) → domain_of xs n ≢ []) cs

-- each domain has the value of its variable
abbrev pub LiesWithin : List VarDomain → (ℕ → ℤ) → Type 0
LiesWithin xs a = All (λ x. IsTrue (has_value x.domain (a x.var))) xs

-- a solution of all constraints within the domains
pub record IsSolution (xs : List VarDomain) (cs : List Constraint) (a : ℕ → ℤ) : Type 0 where
  pub within : LiesWithin xs a
  pub holds : All (λ c. Holds c a) cs
