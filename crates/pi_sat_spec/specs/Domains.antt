-- Variables with their domains, and what literals leave of them. The definitions are own.
use Rattle.std.specs.Prelude.{ℕ, Bool, IsTrue, not, nat_eq, if◌then◌else◌, filter, true, false, List, [], ◌∷◌, map, All, ℤ}
use Rattle.std.specs.List.{list_any}
use Rattle.pi_constraints.specs.declared.constraint.Item.{Item}
use Rattle.pi_constraints.specs.declared.constraint.Constraint.{Constraint}
use Rattle.pi_constraints.specs.declared.domain.Span.{Span}
use Rattle.pi_constraints.specs.declared.var_domain.VarDomain.{VarDomain}
use Rattle.pi_constraints.specs.Domain.{IsDomain, has_value}
use Rattle.pi_prop_spec.specs.Places.{places_of}
use Rattle.pi_sat_spec.specs.declared.literal.Literal.{Literal}
use Rattle.pi_sat_spec.specs.Literals.{negated, left_by, Ascends}

-- the domain of a variable: the first that it has, and no value where it has none
unfoldable pub domain_of : List VarDomain → ℕ → List Span
domain_of [] n = []
domain_of (x ∷ xs) n = if nat_eq x.var n then x.domain else domain_of xs n

-- the domains cut by a literal: its variable is left the values that make it so
unfoldable pub cut : List VarDomain → Literal → List VarDomain
cut [] l = []
cut (x ∷ xs) l = if nat_eq x.var l.var then (record { var = x.var; domain = left_by l x.domain }) ∷ xs else x ∷ cut xs l

-- the domains cut by the negation of each literal of a lemma
unfoldable pub refuted : List VarDomain → List Literal → List VarDomain
refuted xs [] = xs
refuted xs (l ∷ ls) = refuted (cut xs (negated l)) ls

abbrev pub has_none : List Span → Bool
has_none [] = true
has_none (s ∷ ss) = false

-- a domain is empty
abbrev pub has_empty : List VarDomain → Bool
has_empty xs = list_any (λ x. has_none x.domain) xs

-- the domains have a value that makes the literal so
abbrev pub is_allowed : List VarDomain → Literal → Bool
is_allowed xs l = not (has_none (left_by l (domain_of xs l.var)))

-- the literals of a lemma that the domains allow
abbrev pub allowed : List VarDomain → List Literal → List Literal
allowed xs lemma = filter (is_allowed xs) lemma

-- literals that are a lemma over these domains: ascending, and each bound is a value of its variable's domain
pub record IsLemma (xs : List VarDomain) (lemma : List Literal) : Type 0 where
  pub ascends : Ascends lemma
  pub bounds : All (λ l. IsTrue (has_value (domain_of xs l.var) l.bound)) lemma

-- the domains of the items at a constraint's places
abbrev pub only : ℤ → List Span
only i = record { lo = i; hi = i } ∷ []

abbrev pub item_domain : List VarDomain → Item → List Span
item_domain xs (Item.Var n) = domain_of xs n
item_domain xs (Item.Int i) = only i

abbrev pub at_places : List VarDomain → Constraint → List (List Span)
at_places xs c = map (item_domain xs) (places_of c)

abbrev pub AreDomains : List VarDomain → Type 0
AreDomains xs = All (λ x. IsDomain x.domain) xs
