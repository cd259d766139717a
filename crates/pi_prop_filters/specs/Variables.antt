-- Places of one variable. The definitions are own.
use Rattle.std.specs.Prelude.{◌≡◌, ◌↔◌, ℕ, ◌<◌, IsTrue, nat_eq, cond, Option, Some, unwrap_or, List, length, slice_get, get_or, ℤ}
use Rattle.pi_constraints.specs.declared.constraint.Item.{Item}
use Rattle.pi_constraints.specs.declared.domain.Span.{Span}
use Rattle.pi_constraints.specs.Domain.{has_value}
use Rattle.pi_prop_spec.specs.Places.{domain_at, HaveOneVariable}

-- the place that stands for a place
abbrev pub root_at : List ℕ → ℕ → ℕ
root_at roots k = get_or roots k 0

-- each of the first so many places has a place that stands for it: one of its variable, the same for all of them
pub record AreRoots (items : List Item) (many : ℕ) (roots : List ℕ) : Type 0 where
  pub count : length roots ≡ many
  pub inside : (k : ℕ) → k < many → root_at roots k < many
  pub one : (k : ℕ) → k < many → HaveOneVariable items (root_at roots k) k
  pub same : (j k : ℕ) → j < many → k < many → HaveOneVariable items j k → root_at roots j ≡ root_at roots k

-- a place that stands for others stands for itself
abbrev pub AreSettled : List ℕ → Type 0
AreSettled roots = (k : ℕ) → k < length roots → root_at roots (root_at roots k) ≡ root_at roots k

-- place k with an item gets this root: of a variable the one that it had before, and k itself where it had none, and from now on the variable has it; of an integer k itself
abbrev pub IsRootOf : Item → ℕ → ℕ → (ℕ → Option ℕ) → (ℕ → Option ℕ) → Type 0
IsRootOf (Item.Var v) k root before after = (root ≡ unwrap_or (before v) k) × ((w : ℕ) → after w ≡ cond (nat_eq v w) (Some root) (before w))
IsRootOf (Item.Int i) k root before after = (root ≡ k) × ((w : ℕ) → after w ≡ before w)

-- each place has the values that were at it and at those of the first so many places for which it stands
pub record AreGathered (many : ℕ) (roots : List ℕ) (old new : List (List Span)) : Type 0 where
  pub count : length new ≡ length old
  pub values : (k : ℕ) (n : ℤ) → IsTrue (has_value (domain_at new k) n) ↔ (IsTrue (has_value (domain_at old k) n) × ((j : ℕ) → j < many → root_at roots j ≡ k → IsTrue (has_value (domain_at old j) n)))

-- each of the first so many places has the values that were at it and at the place that stands for it
pub record AreSpread (many : ℕ) (roots : List ℕ) (old new : List (List Span)) : Type 0 where
  pub count : length new ≡ length old
  pub values : (k : ℕ) (n : ℤ) → IsTrue (has_value (domain_at new k) n) ↔ (IsTrue (has_value (domain_at old k) n) × (k < many → IsTrue (has_value (domain_at old (root_at roots k)) n)))

-- each place is left with the values that all places of its variable have
pub record AreMet (items : List Item) (old new : List (List Span)) : Type 0 where
  pub count : length new ≡ length old
  pub values : (k : ℕ) (n : ℤ) → k < length old → IsTrue (has_value (domain_at new k) n) ↔ ((j : ℕ) → j < length items → HaveOneVariable items j k → IsTrue (has_value (domain_at old j) n))

-- no two places have one variable
abbrev pub AreApart : List Item → Type 0
AreApart items = (j k : ℕ) → HaveOneVariable items j k → j ≡ k

-- no two of the first so many places have one variable, and `next` is above all their variables
pub record AreApartBelow (items : List Item) (many next : ℕ) : Type 0 where
  pub apart : (j k v : ℕ) → j < many → k < many → slice_get items j ≡ Some (Item.Var v) → slice_get items k ≡ Some (Item.Var v) → j ≡ k
  pub below : (k v : ℕ) → k < many → slice_get items k ≡ Some (Item.Var v) → v < next

-- one of the first so many places has a variable
abbrev pub StandsBefore : List Item → ℕ → ℕ → Type 0
StandsBefore items many v = (k : ℕ) × (k < many) × (slice_get items k ≡ Some (Item.Var v))

-- none of the places has the variable of an item
abbrev pub IsNew : List Item → Item → Type 0
IsNew items item = (k v : ℕ) → item ≡ Item.Var v → slice_get items k ≡ Some (Item.Var v) → ⊥
