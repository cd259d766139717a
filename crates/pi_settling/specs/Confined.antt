-- The default domain: a variable of a labelling that has none gets all values that a domain can have. (A User's Guide to Picat, 'Constraints'; the bounds are own.)
use Rattle.std.specs.Prelude.{ℕ, List, [], ◌∷◌, slice_index_or}
use Rattle.pi_constraints.specs.declared.constraint.Item.{Item}
use Rattle.pi_constraints.specs.State.{State, Variable, free, within, bound, with_domain}
use Rattle.pi_settling.specs.Roots.{root_item, all_values}

-- a variable that is this in the state
abbrev pub with_default : State → ℕ → Variable → State
with_default s n free = with_domain s n all_values
with_default s n (within d) = s
with_default s n (bound t) = s

abbrev pub confined_at : State → Item → State
confined_at s (Item.Var n) = with_default s n (slice_index_or s.variables n free)
confined_at s (Item.Int i) = s

-- all of these
unfoldable pub confined : State → List Item → State
confined s [] = s
confined s (x ∷ xs) = confined (confined_at s (root_item s x)) xs
