-- Domains: finite sets of whole numbers, each as the spans that it consists of. The definitions are own.
use Rattle.std.specs.Prelude.{◌≡◌, ◌↔◌, ℕ, zero, suc, Bool, false, ◌&&◌, ◌||◌, List, [], ◌∷◌, ◌++◌, ℤ, pos, ◌+ℤ◌, neg_ℤ, ◌≤ℤ◌, ◌<ℤ◌, int_le, length, IsTrue, Contains, AllPairs, if◌then◌else◌}
use Rattle.std.specs.Int.{int_gap, int_max, int_min}
use Rattle.pi_constraints.specs.declared.domain.TheConstants.{MAX_VALUE}
use Rattle.pi_constraints.specs.declared.domain.Span.{Span}

-- the numbers that a domain can have
abbrev pub IsWithinBounds : ℤ → Type 0
IsWithinBounds n = (neg_ℤ MAX_VALUE ≤ℤ n) × (n ≤ℤ MAX_VALUE)

-- spans that ascend from `least` on: the first begins there or above, none is empty or goes past the bounds, and behind
-- each at least one number is left out
unfoldable pub AscendFrom : ℤ → List Span → Type 0
AscendFrom least [] = Unit {0}
AscendFrom least (s ∷ ss) = (least ≤ℤ s.lo) × (s.lo ≤ℤ s.hi) × (s.hi ≤ℤ MAX_VALUE) × AscendFrom (s.hi +ℤ pos 2) ss

-- spans that are a domain: within the bounds, ascending, and no two of them overlap or touch
abbrev pub IsDomain : List Span → Type 0
IsDomain ss = AscendFrom (neg_ℤ MAX_VALUE) ss

-- n lies in the span
abbrev pub span_has : Span → ℤ → Bool
span_has s n = int_le s.lo n && int_le n s.hi

-- n is a value of the domain: it lies in one of the spans
unfoldable pub has_value : List Span → ℤ → Bool
has_value [] n = false
has_value (s ∷ ss) n = span_has s n || has_value ss n

-- as many numbers as `count` says, ascending from n without a gap
unfoldable pub numbers_from : ℤ → ℕ → List ℤ
numbers_from n zero = []
numbers_from n (suc count) = n ∷ numbers_from (n +ℤ pos 1) count

-- the values of a domain, ascending
unfoldable pub values_of : List Span → List ℤ
values_of [] = []
values_of (s ∷ ss) = numbers_from s.lo (suc (int_gap s.lo s.hi)) ++ values_of ss

-- how many values a domain has
abbrev pub size_of : List Span → ℕ
size_of ss = length (values_of ss)

-- what two spans share, as a list of at most one span: from the greater start to the lesser end, where that end isn't
-- below that start
unfoldable pub overlap : Span → Span → List Span
overlap a b =
    let lo = int_max a.lo b.lo in
    let hi = int_min a.hi b.hi in
    if int_le lo hi then (record { lo = lo; hi = hi }) ∷ [] else []

-- what a span shares with each span of a domain
unfoldable pub shared : Span → List Span → List Span
shared a [] = []
shared a (b ∷ bs) = overlap a b ++ shared a bs

-- the values that two domains have in common
unfoldable pub common : List Span → List Span → List Span
common [] e = []
common (a ∷ d) e = shared a e ++ common d e

-- n is a value of the domain, and no value is below it
pub record IsLeastValue (ss : List Span) (n : ℤ) : Type 0 where
  pub is_value : IsTrue (has_value ss n)
  pub none_below : (m : ℤ) → IsTrue (has_value ss m) → n ≤ℤ m

-- n is a value of the domain, and no value is above it
pub record IsGreatestValue (ss : List Span) (n : ℤ) : Type 0 where
  pub is_value : IsTrue (has_value ss n)
  pub none_above : (m : ℤ) → IsTrue (has_value ss m) → m ≤ℤ n

-- the list of values has just the numbers that lie in the spans, ascending, and so each once
abbrev pub ValuesLieInSpans : Type 0
ValuesLieInSpans = (ss : List Span) → IsDomain ss → (n : ℤ) → IsTrue (has_value ss n) ↔ Contains (values_of ss) n

abbrev pub ValuesAscend : Type 0
ValuesAscend = (ss : List Span) → IsDomain ss → AllPairs (λ m n. m <ℤ n) (values_of ss)

abbrev pub ValuesAreWithinBounds : Type 0
ValuesAreWithinBounds = (ss : List Span) (n : ℤ) → IsDomain ss → IsTrue (has_value ss n) → IsWithinBounds n

-- a domain is the set of its values: one set has one list of spans
abbrev pub SameValuesSameDomain : Type 0
SameValuesSameDomain = (ss ts : List Span) → IsDomain ss → IsDomain ts → ((n : ℤ) → has_value ss n ≡ has_value ts n) → ss ≡ ts

abbrev pub FirstSpanHasLeast : Type 0
FirstSpanHasLeast = (s : Span) (ss : List Span) → IsDomain (s ∷ ss) → IsLeastValue (s ∷ ss) s.lo

abbrev pub LastSpanHasGreatest : Type 0
LastSpanHasGreatest = (ss : List Span) (s : Span) → IsDomain (ss ++ s ∷ []) → IsGreatestValue (ss ++ s ∷ []) s.hi

-- what two domains have in common is a domain, and has the values of both
abbrev pub CommonIsADomain : Type 0
CommonIsADomain = (d e : List Span) → IsDomain d → IsDomain e → IsDomain (common d e)

abbrev pub CommonHasTheValuesOfBoth : Type 0
CommonHasTheValuesOfBoth = (d e : List Span) (n : ℤ) → has_value (common d e) n ≡ (has_value d n && has_value e n)
