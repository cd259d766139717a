-- The stable domains of a state: the greatest below its own that no filter of a posted constraint changes. They are said as what they are: a value stays
-- in a variable's domain exactly where some domains have it there that lie below those of the state and that no filter changes. (Own; how far
-- propagation goes isn't said in A User's Guide to Picat, 'Constraints'.)
use Rattle.std.specs.Prelude.{◌≡◌, ◌↔◌, ℕ, ◌<◌, ◌≤◌, ℤ, IsTrue, List, length, map, Contains, slice_index_or}
use Rattle.pi_terms.specs.Tree.{Tree, int}
use Rattle.pi_constraints.specs.declared.constraint.Constraint.{Constraint}
use Rattle.pi_constraints.specs.declared.constraint.Item.{Item}
use Rattle.pi_constraints.specs.declared.domain.Span.{Span}
use Rattle.pi_constraints.specs.Domain.{IsDomain, has_value, size_of}
use Rattle.pi_prop_spec.specs.Places.{places_of, domain_at}
use Rattle.pi_prop_spec.specs.Filter.{Leaves}
use Rattle.pi_constraints.specs.State.{State, Variable, free, within, bound, next}
use Rattle.pi_settling.specs.Roots.{root_item, given, Counts}

-- a domain for each item whose bindings are followed
abbrev pub Domains : Type 0
Domains = Item → List Span

-- the domains at the places of a constraint
abbrev pub at_places : State → Domains → Constraint → List (List Span)
at_places s ds c = map (λ x. ds (root_item s x)) (places_of c)

-- domains that have no other values than those of the state
pub record LieBelow (s : State) (ds : Domains) : Type 0 where
  pub domains : (x : Item) → IsDomain (ds x)
  pub below : (x : Item) (i : ℤ) → IsTrue (has_value (ds x) i) → IsTrue (has_value (given s x) i)

-- the filter of each posted constraint leaves each value of the domains at its places
abbrev pub NoFilterChanges : State → Domains → Type 0
NoFilterChanges s ds = (c : Constraint) (k : ℕ) (i : ℤ) → Contains s.constraints c → k < length (places_of c) →
    IsTrue (has_value (domain_at (at_places s ds c) k) i) → Leaves c (at_places s ds c) k i

-- an item keeps a value: some such domains have it there
pub record Stays (s : State) (x : Item) (i : ℤ) : Type 0 where
  pub domains : Domains
  pub below : LieBelow s domains
  pub unchanged : NoFilterChanges s domains
  pub has : IsTrue (has_value (domains x) i)

-- some item keeps no value
pub record IsEmptied (s : State) : Type 0 where
  pub item : Item
  pub counts : Counts s item
  pub none : (i : ℤ) → Stays s item i → ⊥

-- What a variable is under the stable domains: one with a domain has the values that stay, and where one value stays it is bound to that integer. All
-- others are as they were.
pub data Narrows (s : State) (n : ℕ) : Variable → Variable → Type 0 where
  stays_free : Narrows s n free free
  stays_bound : (t : Tree) → Narrows s n (bound t) (bound t)
  some_stay : (d e : List Span) → IsDomain e → 2 ≤ size_of e → ((i : ℤ) → IsTrue (has_value e i) ↔ Stays s (Item.Var n) i) → Narrows s n (within d) (within e)
  one_stays : (d : List Span) (i : ℤ) → ((j : ℤ) → (j ≡ i) ↔ Stays s (Item.Var n) j) → Narrows s n (within d) (bound (int i))

-- the second state is the first with its stable domains, none of which is empty
pub record IsStable (s r : State) : Type 0 where
  pub kept : (x : Item) → Counts s x → (i : ℤ) × Stays s x i
  pub count : next r ≡ next s
  pub variables : (n : ℕ) → n < next s → Narrows s n (slice_index_or s.variables n free) (slice_index_or r.variables n free)
  pub constraints : r.constraints ≡ s.constraints
  pub agents : r.agents ≡ s.agents
  pub waiting : r.waiting ≡ s.waiting
