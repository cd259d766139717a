-- What the filters of the other constraints keep: of the values n at place k, where the places have the domains ds. The rules are own.
use Rattle.std.specs.Prelude.{◌≡◌, ◌≢◌, ℕ, suc, ◌<◌, ◌≤◌, Bool, false, ◌&&◌, if◌then◌else◌, IsTrue, List, [], ◌∷◌, length, ℤ, pos, ◌+ℤ◌, ◌-ℤ◌, ◌*ℤ◌, neg_ℤ, ◌≤ℤ◌, int_le, nat_abs}
use Rattle.std.specs.Int.{int_min, int_max}
use Rattle.pi_constraints.specs.declared.domain.Span.{Span}
use Rattle.pi_constraints.specs.Domain.{has_value}
use Rattle.pi_prop_spec.specs.Ends.{least_of, greatest_of, IsBetween, IsFixed, IsFixedTo}
use Rattle.pi_prop_spec.specs.Places.{domain_at}

-- ---- Different

-- the value of each fixed place is removed from all other places
abbrev pub DifferentKeeps : List (List Span) → ℕ → ℤ → Type 0
DifferentKeeps ds k n = (j : ℕ) → j < length ds → j ≢ k → IsFixed (domain_at ds j) → n ≢ least_of (domain_at ds j)

-- ---- Distinct

-- a domain with values has values from a to b alone
abbrev pub lies_within : ℤ → ℤ → List Span → Bool
lies_within a b d = int_le a (least_of d) && int_le (greatest_of d) b

-- how many domains do
unfoldable pub count_within : ℤ → ℤ → List (List Span) → ℕ
count_within a b [] = 0
count_within a b (d ∷ ds) = if lies_within a b d then suc (count_within a b ds) else count_within a b ds

-- how many numbers there are from a to b, where b isn't below a
abbrev pub width : ℤ → ℤ → ℤ
width a b = b -ℤ a +ℤ pos 1

-- beside what Different keeps: where more domains lie within an interval than it has numbers, all are empty; where just as many do, each other place
-- loses its numbers
pub record IntervalKeeps (a b : ℤ) (ds : List (List Span)) (k : ℕ) (n : ℤ) : Type 0 where
  pub room : pos (count_within a b ds) ≤ℤ width a b
  pub taken : pos (count_within a b ds) ≡ width a b → lies_within a b (domain_at ds k) ≡ false → (a ≤ℤ n) × (n ≤ℤ b) → ⊥

abbrev pub DistinctKeeps : List (List Span) → ℕ → ℤ → Type 0
DistinctKeeps ds k n = DifferentKeeps ds k n × ((a b : ℤ) → a ≤ℤ b → IntervalKeeps a b ds k n)

-- ---- Element, with so many items: the index is at place 0, item i at place i, and the value behind them

-- two domains have a value in common
abbrev pub ShareAValue : List Span → List Span → Type 0
ShareAValue d e = (n : ℤ) × IsTrue (has_value d n) × IsTrue (has_value e n)

pub record ElementKeeps (count : ℕ) (ds : List (List Span)) (k : ℕ) (n : ℤ) : Type 0 where
  -- the index keeps the numbers, from 1 on, of the items that share a value with the value's place
  pub index : k ≡ 0 → (i : ℕ) × (1 ≤ i) × (i ≤ count) × (n ≡ pos i) × ShareAValue (domain_at ds i) (domain_at ds (suc count))
  -- where the index is fixed to the number of an item, that item keeps what the value's place has
  pub item : 1 ≤ k → k ≤ count → IsFixedTo (domain_at ds 0) (pos k) → IsTrue (has_value (domain_at ds (suc count)) n)
  -- the value keeps what some item has whose number the index has
  pub value : k ≡ suc count → (i : ℕ) × (1 ≤ i) × (i ≤ count) × IsTrue (has_value (domain_at ds 0) (pos i)) × IsTrue (has_value (domain_at ds i) n)

-- ---- Product: the product is at place 0, and its factors are at 1 and 2

-- the least and the greatest of the four products of the ends of two domains
abbrev pub least_corner : List Span → List Span → ℤ
least_corner d e = int_min (int_min (least_of d *ℤ least_of e) (least_of d *ℤ greatest_of e)) (int_min (greatest_of d *ℤ least_of e) (greatest_of d *ℤ greatest_of e))

abbrev pub greatest_corner : List Span → List Span → ℤ
greatest_corner d e = int_max (int_max (least_of d *ℤ least_of e) (least_of d *ℤ greatest_of e)) (int_max (greatest_of d *ℤ least_of e) (greatest_of d *ℤ greatest_of e))

-- where the other factor is fixed to c, and c isn't 0, a factor keeps the n for which c * n lies between the ends of the product
abbrev pub FactorKeeps : List Span → List Span → ℤ → Type 0
FactorKeeps product other n = (c : ℤ) → IsFixedTo other c → c ≢ pos 0 → IsBetween product (c *ℤ n)

pub record ProductKeeps (ds : List (List Span)) (k : ℕ) (n : ℤ) : Type 0 where
  pub product : k ≡ 0 → (least_corner (domain_at ds 1) (domain_at ds 2) ≤ℤ n) × (n ≤ℤ greatest_corner (domain_at ds 1) (domain_at ds 2))
  pub first : k ≡ 1 → FactorKeeps (domain_at ds 0) (domain_at ds 2) n
  pub second : k ≡ 2 → FactorKeeps (domain_at ds 0) (domain_at ds 1) n

-- ---- Absolute: the absolute value is at place 0, and its operand at 1

abbrev pub magnitude : ℤ → ℤ
magnitude n = pos (nat_abs n)

pub record AbsoluteKeeps (ds : List (List Span)) (k : ℕ) (n : ℤ) : Type 0 where
  -- the absolute value lies between the least and the greatest absolute value of the numbers between the operand's ends
  pub least : k ≡ 0 → (u : ℤ) × IsBetween (domain_at ds 1) u × (magnitude u ≤ℤ n)
  pub greatest : k ≡ 0 → (u : ℤ) × IsBetween (domain_at ds 1) u × (n ≤ℤ magnitude u)
  -- the operand lies between the greatest absolute value and its negative
  pub operand : k ≡ 1 → (neg_ℤ (greatest_of (domain_at ds 0)) ≤ℤ n) × (n ≤ℤ greatest_of (domain_at ds 0))
