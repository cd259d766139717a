-- What terms add, one after another.
use Rattle.std.specs.Prelude.{◌≡◌, ℕ, ◌+◌, ◌*◌, ◌^◌, ◌<◌, ◌≤◌, List, [], ◌∷◌, length, drop, ℤ, pos, ◌+ℤ◌, neg_ℤ, nat_abs}
use Rattle.std.proofs.Common.{arith, sym, ◌∙◌, ap, subst, inl, inr}
use Rattle.std.proofs.lemmas.Bool.{cases_eq}
use Rattle.std.proofs.lemmas.Int.{ints}
use Rattle.std.proofs.lemmas.List.{drop_more, drop_all}
use Rattle.pi_constraints.specs.declared.domain.Span.{Span}
use Rattle.pi_constraints.specs.Domain.{IsDomain}
use Rattle.pi_prop_spec.specs.Places.{domain_at}
use Rattle.pi_prop_spec.specs.Sums.{coefficient_at, least_part, least_of_all, negated}
use Rattle.pi_prop_places.specs.Reads.{AreSpansFrom}
use Rattle.pi_prop_places.specs.Terms.{BothAreSmall}

next_domains : (ds : List (List Span)) (first i : ℕ) → first + i < length ds → drop (first + i) ds ≡ domain_at ds (first + i) ∷ drop (first + (i + 1)) ds
next_domains ds first i l = drop_more ds (first + i) [] l ∙ ap (λ (k : ℕ). domain_at ds (first + i) ∷ drop k ds) (omega arith)

next_least : (ts : List (ℤ × ℕ)) (ds : List (List Span)) (first i : ℕ) → i < length ts → first + i < length ds
    → least_of_all (drop i ts) (drop (first + i) ds) ≡ least_part (coefficient_at ts i) (domain_at ds (first + i)) +ℤ least_of_all (drop (i + 1) ts) (drop (first + (i + 1)) ds)
unfolding least_of_all
next_least ts ds first i l m = (λ j. least_of_all (drop_more ts i (pos 0, 0) l j) (next_domains ds first i m j))

next_negated : (ts : List (ℤ × ℕ)) (ds : List (List Span)) (first i : ℕ) → i < length ts → first + i < length ds
    → least_of_all (negated (drop i ts)) (drop (first + i) ds) ≡ least_part (neg_ℤ (coefficient_at ts i)) (domain_at ds (first + i)) +ℤ least_of_all (negated (drop (i + 1) ts)) (drop (first + (i + 1)) ds)
unfolding least_of_all negated
next_negated ts ds first i l m = (λ j. least_of_all (negated (drop_more ts i (pos 0, 0) l j)) (next_domains ds first i m j))

add_part : (x part rest whole all p : ℤ) → whole ≡ (part +ℤ rest) → (x +ℤ whole) ≡ all → p ≡ part → ((x +ℤ p) +ℤ rest) ≡ all
add_part x part rest whole all p e f g = omega (arith, ints)

pub added_least : (ts : List (ℤ × ℕ)) (ds : List (List Span)) (first i : ℕ) (x p all : ℤ) → i < length ts → first + i < length ds → p ≡ least_part (coefficient_at ts i) (domain_at ds (first + i))
    → (x +ℤ least_of_all (drop i ts) (drop (first + i) ds)) ≡ all → ((x +ℤ p) +ℤ least_of_all (drop (i + 1) ts) (drop (first + (i + 1)) ds)) ≡ all
added_least ts ds first i x p all l m e f =
    add_part x (least_part (coefficient_at ts i) (domain_at ds (first + i))) (least_of_all (drop (i + 1) ts) (drop (first + (i + 1)) ds)) (least_of_all (drop i ts) (drop (first + i) ds)) all p (next_least ts ds first i l m) f e

pub added_opposite : (ts : List (ℤ × ℕ)) (ds : List (List Span)) (first i : ℕ) (x p all : ℤ) → i < length ts → first + i < length ds → p ≡ least_part (neg_ℤ (coefficient_at ts i)) (domain_at ds (first + i))
    → (x +ℤ least_of_all (negated (drop i ts)) (drop (first + i) ds)) ≡ all → ((x +ℤ p) +ℤ least_of_all (negated (drop (i + 1) ts)) (drop (first + (i + 1)) ds)) ≡ all
added_opposite ts ds first i x p all l m e f =
    add_part x (least_part (neg_ℤ (coefficient_at ts i)) (domain_at ds (first + i))) (least_of_all (negated (drop (i + 1) ts)) (drop (first + (i + 1)) ds)) (least_of_all (negated (drop i ts)) (drop (first + i) ds)) all p (next_negated ts ds first i l m) f e

add_nothing : (x z all : ℤ) → z ≡ pos 0 → (x +ℤ z) ≡ all → x ≡ all
add_nothing x z all e f = omega (arith, ints)

pub all_least : (ts : List (ℤ × ℕ)) (ds : List (List Span)) (i : ℕ) (x all : ℤ) → length ts ≤ i → (x +ℤ least_of_all (drop i ts) ds) ≡ all → x ≡ all
unfolding least_of_all
all_least ts ds i x all l f = add_nothing x (least_of_all (drop i ts) ds) all (ap (λ (us : List (ℤ × ℕ)). least_of_all us ds) (drop_all i ts l)) f

pub all_opposite : (ts : List (ℤ × ℕ)) (ds : List (List Span)) (i : ℕ) (x all : ℤ) → length ts ≤ i → (x +ℤ least_of_all (negated (drop i ts)) ds) ≡ all → x ≡ all
unfolding least_of_all negated
all_opposite ts ds i x all l f = add_nothing x (least_of_all (negated (drop i ts)) ds) all (ap (λ (us : List (ℤ × ℕ)). least_of_all (negated us) ds) (drop_all i ts l)) f

abs_add : (x y : ℤ) → nat_abs (x +ℤ y) ≤ nat_abs x + nat_abs y
abs_add x y = omega (arith, ints)

pub small_added : (i : ℕ) (x y p q : ℤ) → BothAreSmall (i * 2 ^ 96) x y → BothAreSmall (2 ^ 96) p q → BothAreSmall ((i + 1) * 2 ^ 96) (x +ℤ p) (y +ℤ q)
small_added i x y p q s t = (omega (arith, abs_add x p, s.0, t.0), omega (arith, abs_add y q, s.1, t.1))

pub more_spans : (ds : List (List Span)) (first i : ℕ) → IsDomain (domain_at ds (first + i)) → AreSpansFrom first i ds → AreSpansFrom first (i + 1) ds
more_spans ds first i here before k l = elim (cases_eq k i) [ inl e ↦ subst (λ (j : ℕ). IsDomain (domain_at ds (first + j))) (sym e) here | inr o ↦ before k (omega arith) ]
