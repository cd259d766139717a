-- What the items of constraints come to in a state, and the values that they have there. An integer has one value, and so has a variable that is bound
-- to one. (A User's Guide to Picat, 'Constraints'; the values of a variable without a domain are own.)
use Rattle.std.specs.Prelude.{◌≡◌, ℕ, ℤ, neg_ℤ, List, [], ◌∷◌, Option, Some, None, Contains}
use Rattle.pi_terms.specs.Tree.{Tree, var, int, atom, comp}
use Rattle.pi_constraints.specs.declared.constraint.Constraint.{Constraint}
use Rattle.pi_constraints.specs.declared.constraint.Item.{Item}
use Rattle.pi_constraints.specs.declared.domain.Span.{Span}
use Rattle.pi_constraints.specs.declared.domain.TheConstants.{MAX_VALUE}
use Rattle.pi_prop_spec.specs.Places.{places_of}
use Rattle.pi_constraints.specs.State.{State, bindings, domain_of, followed}

-- A variable whose bindings lead to this term: the unbound variable or the integer that it comes to. One that leads to an atom or a compound is left as
-- it is, since no variable of a constraint does.
abbrev pub item_of : ℕ → Tree → Item
item_of n (var m) = Item.Var m
item_of n (int i) = Item.Int i
item_of n (atom name) = Item.Var n
item_of n (comp name ts) = Item.Var n

-- an item with its bindings followed
abbrev pub root_item : State → Item → Item
root_item s (Item.Var n) = item_of n (followed (bindings s) (var n))
root_item s (Item.Int i) = Item.Int i

-- a domain of one value
abbrev pub only : ℤ → List Span
only i = record { lo = i; hi = i } ∷ []

-- all values that a domain can have
abbrev pub all_values : List Span
all_values = record { lo = neg_ℤ MAX_VALUE; hi = MAX_VALUE } ∷ []

abbrev pub domain_or_all : Option (List Span) → List Span
domain_or_all None = all_values
domain_or_all (Some d) = d

-- the values of an item whose bindings are followed
abbrev pub given : State → Item → List Span
given s (Item.Var n) = domain_or_all (domain_of s n)
given s (Item.Int i) = only i

-- the items that settling speaks of: the variables with domains, and what the items of posted constraints come to
pub data Counts (s : State) (x : Item) : Type 0 where
  by_domain : (n : ℕ) (d : List Span) → x ≡ Item.Var n → domain_of s n ≡ Some d → Counts s x
  by_place : (c : Constraint) (y : Item) → Contains s.constraints c → Contains (places_of c) y → x ≡ root_item s y → Counts s x
