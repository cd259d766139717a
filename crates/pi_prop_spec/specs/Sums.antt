-- What the filter of a sum keeps: of the values n at place k, where the places have the domains ds. The rules are own.
use Rattle.std.specs.Prelude.{◌≢◌, ℕ, zero, suc, ◌<◌, List, [], ◌∷◌, length, get_or, ℤ, pos, ◌+ℤ◌, ◌-ℤ◌, ◌*ℤ◌, neg_ℤ, ◌≤ℤ◌}
use Rattle.std.specs.Int.{int_min}
use Rattle.pi_constraints.specs.declared.constraint.Rel.{Rel}
use Rattle.pi_constraints.specs.declared.domain.Span.{Span}
use Rattle.pi_prop_spec.specs.Ends.{least_of, greatest_of, IsFixed}
use Rattle.pi_prop_spec.specs.Places.{domain_at}

-- the coefficient at a place
abbrev pub coefficient_at : List (ℤ × ℕ) → ℕ → ℤ
coefficient_at terms k = (get_or terms k (pos 0, 0)).0

-- the least that a term with coefficient c adds: the least of c * lo and c * hi
abbrev pub least_part : ℤ → List Span → ℤ
least_part c d = int_min (c *ℤ least_of d) (c *ℤ greatest_of d)

-- the least that terms add
unfoldable pub least_of_all : List (ℤ × ℕ) → List (List Span) → ℤ
least_of_all [] ds = pos 0
least_of_all (t ∷ ts) [] = pos 0
least_of_all (t ∷ ts) (d ∷ ds) = least_part t.0 d +ℤ least_of_all ts ds

-- the least that the terms at all other places than k add
unfoldable pub least_of_others : List (ℤ × ℕ) → List (List Span) → ℕ → ℤ
least_of_others [] ds k = pos 0
least_of_others (t ∷ ts) [] k = pos 0
least_of_others (t ∷ ts) (d ∷ ds) zero = least_of_all ts ds
least_of_others (t ∷ ts) (d ∷ ds) (suc k) = least_part t.0 d +ℤ least_of_others ts ds k

-- the least that the sum with the constant is where the place k has the value n
abbrev pub least_with : List (ℤ × ℕ) → ℤ → List (List Span) → ℕ → ℤ → ℤ
least_with terms constant ds k n = coefficient_at terms k *ℤ n +ℤ (constant +ℤ least_of_others terms ds k)

-- AtMost: with c the coefficient of the place and m the constant plus the least of all other terms, the place has at most -m / c, rounded down, where
-- c is above 0, and at least -m / c, rounded up, where c is below 0. The whole numbers n that are so are those for which c * n + m isn't above 0
abbrev pub AtMostKeeps : List (ℤ × ℕ) → ℤ → List (List Span) → ℕ → ℤ → Type 0
AtMostKeeps terms constant ds k n = least_with terms constant ds k n ≤ℤ pos 0

-- the terms of the sum's negative
unfoldable pub negated : List (ℤ × ℕ) → List (ℤ × ℕ)
negated [] = []
negated (t ∷ ts) = (neg_ℤ t.0, t.1) ∷ negated ts

-- Equal: what AtMost keeps, of the sum and of its negative
abbrev pub EqualKeeps : List (ℤ × ℕ) → ℤ → List (List Span) → ℕ → ℤ → Type 0
EqualKeeps terms constant ds k n = AtMostKeeps terms constant ds k n × AtMostKeeps (negated terms) (neg_ℤ constant) ds k n

-- all other places than k are fixed
abbrev pub AreOthersFixed : List (List Span) → ℕ → Type 0
AreOthersFixed ds k = (j : ℕ) → j < length ds → j ≢ k → IsFixed (domain_at ds j)

-- Unequal: where all other places are fixed, the place loses the value that makes the sum 0. So nothing goes where two places aren't fixed; where one
-- isn't, it alone loses that value; and where all are fixed and the sum is 0, each loses its one value
abbrev pub UnequalKeeps : List (ℤ × ℕ) → ℤ → List (List Span) → ℕ → ℤ → Type 0
UnequalKeeps terms constant ds k n = AreOthersFixed ds k → least_with terms constant ds k n ≢ pos 0

abbrev pub SumKeeps : Rel → List (ℤ × ℕ) → ℤ → List (List Span) → ℕ → ℤ → Type 0
SumKeeps Rel.Equal terms constant ds k n = EqualKeeps terms constant ds k n
SumKeeps Rel.Unequal terms constant ds k n = UnequalKeeps terms constant ds k n
SumKeeps Rel.AtMost terms constant ds k n = AtMostKeeps terms constant ds k n

-- the same of the sum that says the opposite: of `sum <= 0` that is `1 - sum <= 0`, and Equal and Unequal are each other's
abbrev pub OppositeKeeps : Rel → List (ℤ × ℕ) → ℤ → List (List Span) → ℕ → ℤ → Type 0
OppositeKeeps Rel.Equal terms constant ds k n = UnequalKeeps terms constant ds k n
OppositeKeeps Rel.Unequal terms constant ds k n = EqualKeeps terms constant ds k n
OppositeKeeps Rel.AtMost terms constant ds k n = AtMostKeeps (negated terms) (pos 1 -ℤ constant) ds k n
