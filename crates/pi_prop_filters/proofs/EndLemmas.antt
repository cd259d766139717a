-- The ends of places as they are read, and sorted.
use Rattle.std.specs.Prelude.{◌≡◌, ℕ, ◌+◌, ◌<◌, ◌≤◌, false, List, [], ◌∷◌, ◌++◌, length, take, get_or, ℤ, ◌≤ℤ◌}
use Rattle.std.specs.Ordering.{int_cmp, ordering_then, is_lt}
use Rattle.std.specs.List.Sorted.{IsSorted}
use Rattle.std.proofs.Common.{arith, sym, ◌∙◌, ap, subst}
use Rattle.std.proofs.lemmas.Int.{ints, by_lt_z}
use Rattle.std.proofs.lemmas.List.{map_more, take_all}
use Rattle.pi_constraints.specs.declared.domain.Span.{Span}
use Rattle.pi_constraints.specs.Domain.{IsDomain, IsWithinBounds}
use Rattle.pi_prop_spec.specs.Ends.{least_of, greatest_of}
use Rattle.pi_prop_spec.specs.Places.{domain_at}
use Rattle.pi_prop_filters.proofs.FixedLemmas.{ascend_far}
use Rattle.pi_prop_places.proofs.OneLemmas.{ends_ordered}
use Rattle.pi_prop_filters.specs.Intervals.{ends_of, IsEnds, ByGreatest}

pub ends_are : (d : List Span) (x y a b : ℤ) → a ≡ x → b ≡ y → x ≡ greatest_of d → y ≡ least_of d → IsWithinBounds x → IsWithinBounds y → IsDomain d → IsEnds (a, b)
ends_are d x y a b e f g h p q up = record {
  greatest = subst IsWithinBounds (sym e) p;
  least = subst IsWithinBounds (sym f) q;
  ordered = let o = ends_ordered d up in omega (arith, ints);
}

pub ends_more : (ds : List (List Span)) (k : ℕ) (es : List (ℤ × ℤ)) (e : ℤ × ℤ) → k < length ds → es ≡ ends_of (take k ds) → e ≡ (greatest_of (domain_at ds k), least_of (domain_at ds k)) → es ++ e ∷ [] ≡ ends_of (take (k + 1) ds)
ends_more ds k es e l f h = (λ i. f i ++ h i ∷ []) ∙ sym (map_more (λ d. (greatest_of d, least_of d)) ds k [] l)

pub ends_all : (ds : List (List Span)) (k : ℕ) (es : List (ℤ × ℤ)) → length ds ≤ k → es ≡ ends_of (take k ds) → es ≡ ends_of ds
ends_all ds k es l f = f ∙ ap ends_of (take_all k ds l)

not_less : (x y u v : ℤ) → is_lt (ordering_then (int_cmp x y) (int_cmp u v)) ≡ false → y ≤ℤ x
not_less x y u v h = by_lt_z x y (λ l. absurd (grind (arith, ints))) (λ l. l)

pub sorted_by_greatest : (ends : List (ℤ × ℤ)) → IsSorted (λ x y. ordering_then (int_cmp x.0 y.0) (int_cmp x.1 y.1)) ends → ByGreatest ends
sorted_by_greatest ends up = ascend_far (λ (e : ℤ × ℤ). e.0) ends
    (λ k d l. not_less (get_or ends (k + 1) d).0 (get_or ends k d).0 (get_or ends (k + 1) d).1 (get_or ends k d).1 (up k d (omega arith) l))
