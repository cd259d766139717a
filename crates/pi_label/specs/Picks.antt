-- Which place is labelled next: what is picked of the places whose domain has more than one value, each as if it were a variable of its number. (A User's
-- Guide to Picat, 'Constraints'.)
use Rattle.std.specs.Prelude.{ℕ, suc, ◌<◌, cond, nat_lt, List, [], ◌∷◌, Option, Some, None, option_map}
use Rattle.pi_constraints.specs.declared.domain.Span.{Span}
use Rattle.pi_constraints.specs.Domain.{size_of}
use Rattle.pi_settling.specs.Options.{VariableWord}
use Rattle.pi_settling.specs.Choices.{Pending, picked}
use Rattle.pi_label.specs.declared.picking.Smallest.{Smallest}

-- a domain that is labelled still
abbrev pub IsOpen : List Span → Type 0
IsOpen d = 1 < size_of d

-- the places with such a domain, from this one on
unfoldable pub open_places : ℕ → List (List Span) → List Pending
open_places k [] = []
open_places k (d ∷ ds) = cond (nat_lt 1 (size_of d)) (record { variable = k; domain = d } ∷ open_places (suc k) ds) (open_places (suc k) ds)

abbrev pub place_of : Option Pending → Option ℕ
place_of p = option_map (λ (q : Pending). q.variable) p

unfoldable pub picked_place : VariableWord → List (List Span) → Option ℕ
picked_place w ds = place_of (picked (open_places 0 ds) w)

-- the one of two places whose domain has fewer values, and the first where they have as many
abbrev pub smaller_of : Option Smallest → Smallest → Smallest
smaller_of None s = s
smaller_of (Some found) s = cond (nat_lt s.size found.size) s found
