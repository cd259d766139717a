-- What items come to where a constraint may be run. (Own.)
use Rattle.std.specs.Prelude.{◌≡◌, List, Some, Contains}
use Rattle.pi_constraints.specs.declared.constraint.Item.{Item}
use Rattle.pi_constraints.specs.declared.domain.Span.{Span}
use Rattle.pi_constraints.specs.Domain.{IsWithinBounds}
use Rattle.pi_constraints.specs.State.{State, domain_of}
use Rattle.pi_settling.specs.Roots.{root_item}

-- an item whose bindings are followed: a variable with a domain, or an integer that a domain can have
abbrev pub IsRoot : State → Item → Type 0
IsRoot s (Item.Var n) = (d : List Span) × (domain_of s n ≡ Some d)
IsRoot s (Item.Int i) = IsWithinBounds i

abbrev pub AreRoots : State → List Item → Type 0
AreRoots s xs = (x : Item) → Contains xs x → IsRoot s x

-- items that come to such ones
abbrev pub AreRead : State → List Item → Type 0
AreRead s xs = (x : Item) → Contains xs x → IsRoot s (root_item s x)
