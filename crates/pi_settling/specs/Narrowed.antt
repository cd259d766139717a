-- A state whose variables are left some of their values, and that is else as it was. (A User's Guide to Picat, 'Constraints'; that a variable with one value
-- is bound to it is own.)
use Rattle.std.specs.Prelude.{◌≡◌, ◌↔◌, ℕ, ◌<◌, ◌≤◌, ℤ, IsTrue, List, slice_index_or}
use Rattle.pi_terms.specs.Tree.{Tree, int}
use Rattle.pi_constraints.specs.declared.domain.Span.{Span}
use Rattle.pi_constraints.specs.Domain.{IsDomain, has_value, size_of}
use Rattle.pi_constraints.specs.State.{State, Variable, free, within, bound, next}

-- What a variable is that is left the values that are kept: one with a domain has those of its values, and is bound where there is one alone. All others are
-- as they were.
pub data NarrowsTo (Kept : ℤ → Type 0) : Variable → Variable → Type 0 where
  left_free : NarrowsTo Kept free free
  left_bound : (t : Tree) → NarrowsTo Kept (bound t) (bound t)
  some_left : (d e : List Span) → IsDomain e → 2 ≤ size_of e → ((i : ℤ) → IsTrue (has_value e i) ↔ (IsTrue (has_value d i) × Kept i)) → NarrowsTo Kept (within d) (within e)
  one_left : (d : List Span) (i : ℤ) → ((j : ℤ) → (j ≡ i) ↔ (IsTrue (has_value d j) × Kept j)) → NarrowsTo Kept (within d) (bound (int i))

-- the second state is the first one, where each variable is left the values that are kept of it
pub record IsNarrowed (Kept : ℕ → ℤ → Type 0) (s r : State) : Type 0 where
  pub count : next r ≡ next s
  pub variables : (n : ℕ) → n < next s → NarrowsTo (Kept n) (slice_index_or s.variables n free) (slice_index_or r.variables n free)
  pub constraints : r.constraints ≡ s.constraints
  pub agents : r.agents ≡ s.agents
  pub waiting : r.waiting ≡ s.waiting
