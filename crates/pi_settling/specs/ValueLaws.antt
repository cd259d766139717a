-- The laws of domains by their values.
use Rattle.std.specs.Prelude.{◌≡◌, not, ◌&&◌, List, ℤ}
use Rattle.std.specs.List.{list_any}
use Rattle.std.specs.Ordering.{int_eq}
use Rattle.pi_constraints.specs.declared.domain.Span.{Span}
use Rattle.pi_constraints.specs.Domain.{IsDomain, has_value}
use Rattle.pi_settling.specs.Values.{can_have, domain_of_values, all_but}

-- a domain of values has just those of them that a domain can have
abbrev pub ValuesAreADomain : Type 0
ValuesAreADomain = (is : List ℤ) → IsDomain (domain_of_values is)

abbrev pub ValuesAreItsOwn : Type 0
ValuesAreItsOwn = (is : List ℤ) (i : ℤ) → has_value (domain_of_values is) i ≡ (can_have i && list_any (int_eq i) is)

-- all but a domain is the domain of the values that it lacks
abbrev pub AllButIsADomain : Type 0
AllButIsADomain = (d : List Span) → IsDomain d → IsDomain (all_but d)

abbrev pub AllButHasTheOthers : Type 0
AllButHasTheOthers = (d : List Span) (i : ℤ) → IsDomain d → has_value (all_but d) i ≡ (can_have i && not (has_value d i))
