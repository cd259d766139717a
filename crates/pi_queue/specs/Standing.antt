-- What stands at the places of a constraint in a state. (Own.)
use Rattle.std.specs.Prelude.{ℤ, List, [], ◌∷◌, ⊤}
use Rattle.pi_constraints.specs.declared.constraint.Item.{Item}
use Rattle.pi_constraints.specs.declared.domain.Span.{Span}
use Rattle.pi_constraints.specs.Domain.{IsWithinBounds}
use Rattle.pi_constraints.specs.State.{State}
use Rattle.pi_constraints.specs.Stored.{stored}
use Rattle.pi_queue.specs.declared.stand.Stand.{Stand}

-- the one span of an integer
abbrev pub span_of : ℤ → List Span
span_of i = record { lo = i; hi = i } ∷ []

-- the spans that stand in a state
abbrev pub standing : State → Stand → List Span
standing s Stand.Nowhere = []
standing s (Stand.One i) = span_of i
standing s (Stand.Variable n) = stored s n

-- the spans of an item that is followed
abbrev pub standing_at : State → Item → List Span
standing_at s (Item.Var n) = stored s n
standing_at s (Item.Int i) = span_of i

-- an integer is one that a domain can have
abbrev pub IsStand : Stand → Type 0
IsStand Stand.Nowhere = ⊤
IsStand (Stand.One i) = IsWithinBounds i
IsStand (Stand.Variable n) = ⊤
