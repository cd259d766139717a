-- Which variable labelling picks, and which alternatives that has. (A User's Guide to Picat, 'Constraints'.) Labelling begins where each of its variables has a domain or is
-- bound, and none loses that.
use Rattle.std.specs.Prelude.{ℕ, ◌/◌, ℤ, pos, negsuc, neg_ℤ, ◌+ℤ◌, int_le, Bool, cond, not, nat_lt, List, [], ◌∷◌, map, reverse, filter_map, Option, Some, None}
use Rattle.std.specs.Ordering.{is_eq, int_cmp}
use Rattle.std.specs.List.{last_or}
use Rattle.pi_terms.specs.Tree.{int}
use Rattle.pi_constraints.specs.declared.constraint.Item.{Item}
use Rattle.pi_constraints.specs.declared.domain.Span.{Span}
use Rattle.pi_constraints.specs.declared.domain.TheConstants.{MAX_VALUE}
use Rattle.pi_constraints.specs.Domain.{values_of, size_of, common}
use Rattle.pi_prop_spec.specs.Ends.{least_of, greatest_of}
use Rattle.pi_constraints.specs.State.{State, domain_of, with_binding, with_domain}
use Rattle.pi_settling.specs.Roots.{root_item}
use Rattle.pi_settling.specs.Options.{VariableWord, forward, backward, ff, ValueWord, up, down, split, reverse_split}

-- a variable that isn't bound yet, and its values
pub record Pending : Type 0 where
  pub variable : ℕ
  pub domain : List Span

abbrev pub pending_with : ℕ → Option (List Span) → Option Pending
pending_with n None = None
pending_with n (Some d) = Some (record { variable = n; domain = d })

-- an item whose bindings are followed
abbrev pub pending_at : State → Item → Option Pending
pending_at s (Item.Var n) = pending_with n (domain_of s n)
pending_at s (Item.Int i) = None

-- those of the items, in their order
abbrev pub pending : State → List Item → List Pending
pending s items = filter_map (λ x. pending_at s (root_item s x)) items

-- the leftmost of those with the smallest domain
unfoldable pub smallest : Pending → List Pending → Pending
smallest p [] = p
smallest p (q ∷ qs) = smallest (cond (nat_lt (size_of q.domain) (size_of p.domain)) q p) qs

-- None where there is none to pick
abbrev pub picked : List Pending → VariableWord → Option Pending
picked [] w = None
picked (p ∷ ps) forward = Some p
picked (p ∷ ps) backward = last_or (Some p) ps
picked (p ∷ ps) ff = Some (smallest p ps)

-- an alternative: the variable has this value, at most this value, or a greater one
pub data Alternative : Type 0 where
  is_value : ℤ → Alternative
  at_most : ℤ → Alternative
  above : ℤ → Alternative

abbrev pub allows : Alternative → ℤ → Bool
allows (is_value m) i = is_eq (int_cmp i m)
allows (at_most m) i = int_le i m
allows (above m) i = not (int_le i m)

-- a number halved and rounded down
abbrev pub halved : ℤ → ℤ
halved (pos n) = pos (n / 2)
halved (negsuc n) = negsuc (n / 2)

abbrev pub middle : List Span → ℤ
middle d = halved (least_of d +ℤ greatest_of d)

-- the alternatives of a variable with this domain, in their order
abbrev pub alternatives : ValueWord → List Span → List Alternative
alternatives up d = map is_value (values_of d)
alternatives down d = map is_value (reverse (values_of d))
alternatives split d = at_most (middle d) ∷ above (middle d) ∷ []
alternatives reverse_split d = above (middle d) ∷ at_most (middle d) ∷ []

abbrev pub from_to : ℤ → ℤ → List Span
from_to lo hi = record { lo = lo; hi = hi } ∷ []

-- the values of a domain that an alternative allows
abbrev pub left_by : Alternative → List Span → List Span
left_by (is_value m) d = common d (from_to m m)
left_by (at_most m) d = common d (from_to (neg_ℤ MAX_VALUE) m)
left_by (above m) d = common d (from_to (m +ℤ pos 1) MAX_VALUE)

-- a variable that is left these values: none, one, to which it is bound, or several
abbrev pub with_values : State → ℕ → List Span → List ℤ → Option State
with_values s n d [] = None
with_values s n d (i ∷ []) = Some (with_binding s n (int i))
with_values s n d (i ∷ j ∷ rest) = Some (with_domain s n d)

abbrev pub narrowed_to : State → ℕ → List Span → Option State
narrowed_to s n d = with_values s n d (values_of d)
