-- The law of picks by places.
use Rattle.std.specs.Prelude.{◌≡◌, ◌<◌, pos, List, map, get_or, Contains, Some, option_and_then, ⊤}
use Rattle.pi_constraints.specs.declared.constraint.Item.{Item}
use Rattle.pi_constraints.specs.declared.domain.Span.{Span}
use Rattle.pi_constraints.specs.Domain.{size_of}
use Rattle.pi_constraints.specs.State.{State, domain_of}
use Rattle.pi_settling.specs.Roots.{root_item, given}
use Rattle.pi_settling.specs.Options.{VariableWord}
use Rattle.pi_settling.specs.Choices.{pending_at, pending, picked}
use Rattle.pi_label.specs.Picks.{picked_place}

-- the domains of items in a state, at their places
abbrev pub domains_at : State → List Item → List (List Span)
domains_at s items = map (λ x. given s (root_item s x)) items

-- an item whose bindings are followed is an integer, or a variable with a domain of two or more values
abbrev pub HasDomain : State → Item → Type 0
HasDomain s (Item.Var n) = (d : List Span) × (domain_of s n ≡ Some d) × (1 < size_of d)
HasDomain s (Item.Int i) = ⊤

abbrev pub HaveDomains : State → List Item → Type 0
HaveDomains s items = (x : Item) → Contains items x → HasDomain s (root_item s x)

-- the place that is picked of the domains leads to the variable that labelling picks of the items
abbrev pub PlacesLeadToPicks : Type 0
PlacesLeadToPicks = (s : State) (items : List Item) (w : VariableWord) → HaveDomains s items →
    option_and_then (λ k. pending_at s (root_item s (get_or items k (Item.Int (pos 0))))) (picked_place w (domains_at s items)) ≡ picked (pending s items) w
