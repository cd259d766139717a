-- What a term's place is asked, by what all terms add and by what all others add.
use Rattle.std.specs.Prelude.{◌≡◌, ℕ, zero, suc, ◌+◌, ◌<◌, ◌&&◌, List, [], ◌∷◌, length, Option, Some, None, ℤ, pos, ◌+ℤ◌, ◌-ℤ◌, ◌*ℤ◌, neg_ℤ, int_le, refl}
use Rattle.std.proofs.Common.{arith, sym, ◌∙◌, ap, subst, drop, length-drop, get_or-drop}
use Rattle.std.proofs.lemmas.Int.{ints}
use Rattle.pi_constraints.specs.declared.domain.Span.{Span}
use Rattle.pi_constraints.specs.Constraint.{IsSum}
use Rattle.pi_prop_spec.specs.Places.{domain_at}
use Rattle.pi_prop_spec.specs.Sums.{coefficient_at, least_part, least_of_all, least_of_others, negated}
use Rattle.pi_prop_spec.proofs.SumLemmas.{length-negated}
use Rattle.pi_prop_places.specs.Changes.{IsCutAt, AreCutFrom}
use Rattle.pi_prop_places.specs.Terms.{passes, side_passes, side_keeps, sides_keep, rest_with, AreCoefficients}
use Rattle.pi_prop_places.proofs.CutLemmas.{cut_like, cut_from_more}

minus_first : (p o : ℤ) → o ≡ (p +ℤ o) -ℤ p
minus_first p o = omega (arith, ints)

minus_later : (p a q : ℤ) → (p +ℤ (a -ℤ q)) ≡ ((p +ℤ a) -ℤ q)
minus_later p a q = omega (arith, ints)

pub others_are : (ts : List (ℤ × ℕ)) (ds : List (List Span)) (k : ℕ) → length ds ≡ length ts → k < length ts → least_of_others ts ds k ≡ least_of_all ts ds -ℤ least_part (coefficient_at ts k) (domain_at ds k)
unfolding least_of_others least_of_all
others_are [] ds k c l = absurd (omega arith)
others_are (t ∷ ts) [] k c l = absurd (omega arith)
others_are (t ∷ ts) (d ∷ ds) zero c l = minus_first (least_part t.0 d) (least_of_all ts ds)
others_are (t ∷ ts) (d ∷ ds) (suc k) c l =
    ap (λ (x : ℤ). least_part t.0 d +ℤ x) (others_are ts ds k (omega arith) (omega arith)) ∙ minus_later (least_part t.0 d) (least_of_all ts ds) (least_part (coefficient_at ts k) (domain_at ds k))

pub side_is : (constant : Option ℤ) (ts : List (ℤ × ℕ)) (ds : List (List Span)) (k : ℕ) (n : ℤ) → length ds ≡ length ts → k < length ts
    → side_passes constant (least_of_all ts ds) (least_part (coefficient_at ts k) (domain_at ds k)) (coefficient_at ts k *ℤ n) ≡ side_keeps constant ts ds k n
side_is None ts ds k n c l = refl
side_is (Some m) ts ds k n c l = ap (λ (x : ℤ). int_le (coefficient_at ts k *ℤ n +ℤ (m +ℤ x)) (pos 0)) (sym (others_are ts ds k c l))

pub rest_is : (constant : Option ℤ) (m all part x : ℤ) → constant ≡ Some m → x ≡ m +ℤ (all -ℤ part) → Some x ≡ rest_with constant all part
rest_is constant m all part x e f = ap (λ (z : ℤ). Some z) f ∙ ap (λ (k : Option ℤ). rest_with k all part) (sym e)

pub passes_is : (constant : Option ℤ) (all part x : ℤ) → passes (rest_with constant all part) x ≡ side_passes constant all part x
passes_is None all part x = refl
passes_is (Some m) all part x = refl

pub coefficient_at-negated : (ts : List (ℤ × ℕ)) (k : ℕ) → coefficient_at (negated ts) k ≡ neg_ℤ (coefficient_at ts k)
unfolding negated
coefficient_at-negated [] k = refl
coefficient_at-negated (t ∷ ts) zero = refl
coefficient_at-negated (t ∷ ts) (suc k) = coefficient_at-negated ts k

-- the places of a sum's negative are asked by the negatives of its coefficients
pub opposite_is : (constant : Option ℤ) (ts : List (ℤ × ℕ)) (ds : List (List Span)) (k : ℕ) (n : ℤ) → length ds ≡ length ts → k < length ts
    → side_passes constant (least_of_all (negated ts) ds) (least_part (neg_ℤ (coefficient_at ts k)) (domain_at ds k)) (neg_ℤ (coefficient_at ts k) *ℤ n) ≡ side_keeps constant (negated ts) ds k n
opposite_is constant ts ds k n c l =
    let count : length (negated ts) ≡ length ts = length-negated ts in
    subst (λ (z : ℤ). side_passes constant (least_of_all (negated ts) ds) (least_part z (domain_at ds k)) (z *ℤ n) ≡ side_keeps constant (negated ts) ds k n) (coefficient_at-negated ts k)
    (side_is constant (negated ts) ds k n (c ∙ sym count) (omega arith))

-- a term's two cuts are those of its sides
pub one_cut : (ds es : List (List Span)) (k : ℕ) (c least opposite p q : ℤ) (above below r s : Option ℤ) → r ≡ rest_with above least p → s ≡ rest_with below opposite q → p ≡ least_part c (domain_at ds k) → q ≡ least_part (neg_ℤ c) (domain_at ds k)
    → IsCutAt k (λ n. passes r (c *ℤ n) && passes s (neg_ℤ c *ℤ n)) ds es
    → IsCutAt k (λ n. side_passes above least (least_part c (domain_at ds k)) (c *ℤ n) && side_passes below opposite (least_part (neg_ℤ c) (domain_at ds k)) (neg_ℤ c *ℤ n)) ds es
one_cut ds es k c least opposite p q above below r s e f u v h =
    cut_like ds es k (λ n. passes r (c *ℤ n) && passes s (neg_ℤ c *ℤ n)) (λ n. side_passes above least (least_part c (domain_at ds k)) (c *ℤ n) && side_passes below opposite (least_part (neg_ℤ c) (domain_at ds k)) (neg_ℤ c *ℤ n))
    (λ n. (λ i. passes (e i) (c *ℤ n) && passes (f i) (neg_ℤ c *ℤ n))
    ∙ ((λ i. passes_is above least p (c *ℤ n) i && passes_is below opposite q (neg_ℤ c *ℤ n) i) ∙ (λ i. side_passes above least (u i) (c *ℤ n) && side_passes below opposite (v i) (neg_ℤ c *ℤ n)))) h

domain_behind : (ds : List (List Span)) (first i : ℕ) → domain_at (drop first ds) i ≡ domain_at ds (first + i)
domain_behind ds first i = get_or-drop first ds i []

-- the term at place i of a sum, of places of which those before i were cut
pub next_cut : (first i : ℕ) (ts : List (ℤ × ℕ)) (above below : Option ℤ) (ds es fs : List (List Span)) (least opposite : ℤ) → length ds ≡ first + length ts → i < length ts → least ≡ least_of_all ts (drop first ds) → opposite ≡ least_of_all (negated ts) (drop first ds)
    → AreCutFrom first i (sides_keep above below ts (drop first ds)) ds es
    → IsCutAt (first + i) (λ n. side_passes above least (least_part (coefficient_at ts i) (domain_at es (first + i))) (coefficient_at ts i *ℤ n) && side_passes below opposite (least_part (neg_ℤ (coefficient_at ts i)) (domain_at es (first + i))) (neg_ℤ (coefficient_at ts i) *ℤ n)) es fs
    → AreCutFrom first (i + 1) (sides_keep above below ts (drop first ds)) ds fs
next_cut first i ts above below ds es fs least opposite c l u v f g =
    let count : length (drop first ds) ≡ length ts = length-drop first ds ∙ omega arith in
    let here : domain_at es (first + i) ≡ domain_at (drop first ds) i = f.behind i (omega arith) ∙ sym (domain_behind ds first i) in
    let co : ℤ = coefficient_at ts i in
    cut_from_more first i (sides_keep above below ts (drop first ds)) ds es fs f
    (cut_like es fs (first + i) (λ n. side_passes above least (least_part co (domain_at es (first + i))) (co *ℤ n) && side_passes below opposite (least_part (neg_ℤ co) (domain_at es (first + i))) (neg_ℤ co *ℤ n)) (sides_keep above below ts (drop first ds) i)
    (λ n. (λ j. side_passes above (u j) (least_part co (here j)) (co *ℤ n) && side_passes below (v j) (least_part (neg_ℤ co) (here j)) (neg_ℤ co *ℤ n))
    ∙ (λ j. side_is above ts (drop first ds) i n count l j && opposite_is below ts (drop first ds) i n count l j)) g)

-- the coefficients of a sum within its limits
pub coefficients_of : (least : ℕ) (ts : List (ℤ × ℕ)) → IsSum least ts → AreCoefficients ts
unfolding IsSum
coefficients_of least [] s k l = absurd (omega arith)
coefficients_of least ((c, n) ∷ ts) s zero l = (s.0, s.1)
coefficients_of least ((c, n) ∷ ts) s (suc k) l = coefficients_of (suc n) ts s.3 k (omega arith)
