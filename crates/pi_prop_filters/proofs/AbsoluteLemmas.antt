-- What cuts by ends leave of an absolute value and its operand.
use Rattle.std.specs.Prelude.{◌≡◌, ◌↔◌, ◌≤◌, ◌^◌, nat_abs, ◌&&◌, IsTrue, List, length, ℤ, pos, ◌-ℤ◌, neg_ℤ, ◌≤ℤ◌, int_le, refl}
use Rattle.std.specs.Int.{int_max, w128}
use Rattle.std.proofs.Common.{arith, sym, ◌∙◌, ap, subst, to_z, of_z}
use Rattle.std.proofs.lemmas.Int.{ints}
use Rattle.pi_constraints.specs.declared.domain.Span.{Span}
use Rattle.pi_prop_spec.specs.Ends.{least_of, greatest_of}
use Rattle.pi_prop_spec.specs.Places.{domain_at}
use Rattle.pi_prop_spec.specs.Rules.{AbsoluteKeeps}
use Rattle.pi_prop_spec.proofs.MagnitudeLemmas.{least_size, greatest_size, least_from, greatest_from}
use Rattle.pi_prop_places.specs.Changes.{IsCutAt, IsKeptAt, AreFiltered}
use Rattle.pi_prop_places.proofs.KeepLemmas.{keep_cut, KeptBefore, kept_none, kept_more, kept_all}
use Rattle.pi_constraints.specs.Domain.{IsWithinBounds}
use Rattle.pi_prop_places.proofs.FitLemmas.{negative_back, max_small}
use Rattle.pi_prop_filters.proofs.BitLemmas.{back}
use Rattle.pi_prop_filters.proofs.CornerLemmas.{value_small, value_back}
use Rattle.pi_prop_filters.proofs.ProductLemmas.{between_test}

-- ---- by numbers of 128 bits

pub negative_end : (v : ℤ) → IsWithinBounds v → to_z w128 (of_z w128 (pos 0 -ℤ to_z w128 (of_z w128 v))) ≡ neg_ℤ v
negative_end v b = let small = value_small v b in negative_back v (omega (arith, small))

negative_small : (v : ℤ) → IsWithinBounds v → nat_abs (neg_ℤ v) ≤ 2 ^ 56
negative_small v b = let small = value_small v b in omega (arith, ints, small)

narrow_back : (x : ℤ) → nat_abs x ≤ 2 ^ 56 → to_z w128 (of_z w128 x) ≡ x
narrow_back x h = back x (omega (arith, h))

pub least_size_is : (first second lo hi : ℤ) → IsWithinBounds lo → IsWithinBounds hi → first ≡ int_max (to_z w128 (of_z w128 lo)) (to_z w128 (of_z w128 (pos 0 -ℤ to_z w128 (of_z w128 hi))))
    → second ≡ int_max (to_z w128 (of_z w128 first)) (pos 0) → to_z w128 (of_z w128 second) ≡ int_max (int_max lo (neg_ℤ hi)) (pos 0)
least_size_is first second lo hi l h e f =
    let small : nat_abs (int_max lo (neg_ℤ hi)) ≤ 2 ^ 56 = max_small lo (neg_ℤ hi) (2 ^ 56) (value_small lo l) (negative_small hi h) in
    let one : first ≡ int_max lo (neg_ℤ hi) = e ∙ (λ i. int_max (value_back lo l i) (negative_end hi h i)) in
    let two : second ≡ int_max (int_max lo (neg_ℤ hi)) (pos 0) = f ∙ ap (λ (z : ℤ). int_max z (pos 0)) (ap (λ (z : ℤ). to_z w128 (of_z w128 z)) one ∙ narrow_back (int_max lo (neg_ℤ hi)) small) in
    ap (λ (z : ℤ). to_z w128 (of_z w128 z)) two ∙ narrow_back (int_max (int_max lo (neg_ℤ hi)) (pos 0)) (max_small (int_max lo (neg_ℤ hi)) (pos 0) (2 ^ 56) small (omega arith))

pub least_size_back : (x lo hi : ℤ) → IsWithinBounds lo → IsWithinBounds hi → x ≡ int_max (int_max lo (neg_ℤ hi)) (pos 0) → to_z w128 (of_z w128 x) ≡ int_max (int_max lo (neg_ℤ hi)) (pos 0)
least_size_back x lo hi l h e =
    let small : nat_abs (int_max lo (neg_ℤ hi)) ≤ 2 ^ 56 = max_small lo (neg_ℤ hi) (2 ^ 56) (value_small lo l) (negative_small hi h) in
    ap (λ (z : ℤ). to_z w128 (of_z w128 z)) e ∙ narrow_back (int_max (int_max lo (neg_ℤ hi)) (pos 0)) (max_small (int_max lo (neg_ℤ hi)) (pos 0) (2 ^ 56) small (omega arith))

pub greatest_size_back : (x lo hi : ℤ) → IsWithinBounds lo → IsWithinBounds hi → x ≡ int_max (neg_ℤ lo) hi → to_z w128 (of_z w128 x) ≡ int_max (neg_ℤ lo) hi
greatest_size_back x lo hi l h e = ap (λ (z : ℤ). to_z w128 (of_z w128 z)) e ∙ narrow_back (int_max (neg_ℤ lo) hi) (max_small (neg_ℤ lo) hi (2 ^ 56) (negative_small lo l) (value_small hi h))

pub greatest_size_is : (most lo hi : ℤ) → IsWithinBounds lo → IsWithinBounds hi → most ≡ int_max (to_z w128 (of_z w128 (pos 0 -ℤ to_z w128 (of_z w128 lo)))) (to_z w128 (of_z w128 hi)) → to_z w128 (of_z w128 most) ≡ int_max (neg_ℤ lo) hi
greatest_size_is most lo hi l h e =
    let one : most ≡ int_max (neg_ℤ lo) hi = e ∙ (λ i. int_max (negative_end lo l i) (value_back hi h i)) in
    ap (λ (z : ℤ). to_z w128 (of_z w128 z)) one ∙ narrow_back (int_max (neg_ℤ lo) hi) (max_small (neg_ℤ lo) hi (2 ^ 56) (negative_small lo l) (value_small hi h))

-- ---- each place by the rule

value_says : (ds : List (List Span)) (lo hi n : ℤ) → least_of (domain_at ds 1) ≤ℤ greatest_of (domain_at ds 1) → lo ≡ int_max (int_max (least_of (domain_at ds 1)) (neg_ℤ (greatest_of (domain_at ds 1)))) (pos 0)
    → hi ≡ int_max (neg_ℤ (least_of (domain_at ds 1))) (greatest_of (domain_at ds 1)) → IsTrue (int_le lo n && int_le n hi) ↔ AbsoluteKeeps ds 0 n
value_says ds lo hi n o e f =
    let a : ℤ = least_of (domain_at ds 1) in
    let b : ℤ = greatest_of (domain_at ds 1) in (
      λ t. let p = (between_test lo hi n).0 t in record {
        least = λ at. least_from a b n o (subst (λ (z : ℤ). z ≤ℤ n) e p.0);
        greatest = λ at. greatest_from a b n o (subst (λ (z : ℤ). n ≤ℤ z) f p.1);
        operand = λ at. absurd (omega arith);
      },
      λ p.
          let l = p.least refl in
          let g = p.greatest refl in
          (between_test lo hi n).1 (
            subst (λ (z : ℤ). z ≤ℤ n) (sym e) (least_size a b l.0 n l.1.0 l.1.1 l.2),
            subst (λ (z : ℤ). n ≤ℤ z) (sym f) (greatest_size a b g.0 n g.1.0 g.1.1 g.2),
          ),
    )

operand_says : (ds : List (List Span)) (lo hi n : ℤ) → lo ≡ neg_ℤ (greatest_of (domain_at ds 0)) → hi ≡ greatest_of (domain_at ds 0) → IsTrue (int_le lo n && int_le n hi) ↔ AbsoluteKeeps ds 1 n
operand_says ds lo hi n e f = (
  λ t. let p = (between_test lo hi n).0 t in record {
    least = λ at. absurd (omega arith);
    greatest = λ at. absurd (omega arith);
    operand = λ at. (subst (λ (z : ℤ). z ≤ℤ n) e p.0, subst (λ (z : ℤ). n ≤ℤ z) f p.1);
  },
  λ p. let b = p.operand refl in (between_test lo hi n).1 (subst (λ (z : ℤ). z ≤ℤ n) (sym e) b.0, subst (λ (z : ℤ). n ≤ℤ z) (sym f) b.1),
)

pub absolute_filtered : (ds es fs : List (List Span)) (a b lo hi low high top : ℤ) → length ds ≡ 2 → IsCutAt 0 (λ n. int_le lo n && int_le n hi) ds es → IsCutAt 1 (λ n. int_le low n && int_le n high) es fs → a ≤ℤ b → a ≡ least_of (domain_at ds 1) → b ≡ greatest_of (domain_at ds 1) → lo ≡ int_max (int_max a (neg_ℤ b)) (pos 0) → hi ≡ int_max (neg_ℤ a) b
    → top ≡ greatest_of (domain_at ds 0) → low ≡ neg_ℤ top → high ≡ top → AreFiltered (AbsoluteKeeps ds) ds fs
absolute_filtered ds es fs a b lo hi low high top count at0 at1 o p q e f t u v =
    let ordered : least_of (domain_at ds 1) ≤ℤ greatest_of (domain_at ds 1) = omega (arith, ints) in
    let keep0 : IsKeptAt 0 (AbsoluteKeeps ds 0) ds es = keep_cut 0 (λ n. int_le lo n && int_le n hi) (AbsoluteKeeps ds 0) ds es
    (λ n h. value_says ds lo hi n ordered (e ∙ (λ i. int_max (int_max (p i) (neg_ℤ (q i))) (pos 0))) (f ∙ (λ i. int_max (neg_ℤ (p i)) (q i)))) at0 in
    let keep1 : IsKeptAt 1 (AbsoluteKeeps ds 1) es fs = keep_cut 1 (λ n. int_le low n && int_le n high) (AbsoluteKeeps ds 1) es fs (λ n h. operand_says ds low high n (u ∙ ap neg_ℤ t) (v ∙ t)) at1 in
    let one : KeptBefore 1 (AbsoluteKeeps ds) ds es = kept_more 0 (AbsoluteKeeps ds) ds ds es (kept_none (AbsoluteKeeps ds) ds) keep0 in
    kept_all 2 (AbsoluteKeeps ds) ds fs (omega arith) (kept_more 1 (AbsoluteKeeps ds) ds es fs one keep1)
