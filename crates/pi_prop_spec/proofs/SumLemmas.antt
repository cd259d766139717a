-- What terms add at least, of domains and of values.
use Rattle.std.specs.Prelude.{◌≡◌, ◌≢◌, ℕ, zero, suc, ◌<◌, List, [], ◌∷◌, length, get_or, ℤ, pos, ◌+ℤ◌, ◌*ℤ◌, neg_ℤ, ◌≤ℤ◌, refl}
use Rattle.std.specs.Int.{int_min}
use Rattle.std.proofs.Common.{arith, ◌∙◌, ap}
use Rattle.std.proofs.lemmas.Int.{ints}
use Rattle.pi_constraints.specs.declared.domain.Span.{Span}
use Rattle.pi_prop_spec.specs.Ends.{least_of, greatest_of, IsBetween, IsFixedTo}
use Rattle.pi_prop_spec.specs.Places.{domain_at}
use Rattle.pi_prop_spec.specs.Sums.{coefficient_at, least_part, least_of_all, least_of_others, negated}
use Rattle.pi_prop_spec.specs.Solutions.{sum_of}
use Rattle.pi_prop_spec.proofs.NumberLemmas.{least_scaled, below_min, min_same, neg-*ℤ}
use Rattle.pi_prop_spec.proofs.EndLemmas.{EndsWithin}

-- the variable at a place
abbrev pub variable_at : List (ℤ × ℕ) → ℕ → ℕ
variable_at ts k = (get_or ts k (pos 0, 0)).1

add_le : (p q x y : ℤ) → p ≤ℤ q → x ≤ℤ y → (p +ℤ x) ≤ℤ (q +ℤ y)
add_le p q x y h k = omega (arith, ints)

put_first : (x p o q s : ℤ) → p ≤ℤ q → (x +ℤ o) ≤ℤ s → (x +ℤ (p +ℤ o)) ≤ℤ (q +ℤ s)
put_first x p o q s h k = omega (arith, ints)

put_first_same : (x p o q s : ℤ) → p ≡ q → (x +ℤ o) ≡ s → (x +ℤ (p +ℤ o)) ≡ (q +ℤ s)
put_first_same x p o q s h k = omega (arith, ints)

-- ---- values between the ends

pub least_of_all-below : (a : ℕ → ℤ) (ts : List (ℤ × ℕ)) (ds : List (List Span)) → length ds ≡ length ts → ((k : ℕ) → k < length ts → IsBetween (domain_at ds k) (a (variable_at ts k))) → least_of_all ts ds ≤ℤ sum_of a ts
unfolding least_of_all sum_of
least_of_all-below a [] ds e h = omega (arith, ints)
least_of_all-below a (t ∷ ts) [] e h = absurd (omega arith)
least_of_all-below a (t ∷ ts) (d ∷ ds) e h =
    let first : IsBetween d (a t.1) = h 0 (omega arith) in
    let rest : least_of_all ts ds ≤ℤ sum_of a ts = least_of_all-below a ts ds (omega arith) (λ k l. h (suc k) (omega arith)) in
    add_le (least_part t.0 d) (t.0 *ℤ a t.1) (least_of_all ts ds) (sum_of a ts) (least_scaled t.0 (least_of d) (a t.1) (greatest_of d) first.0 first.1) rest

pub least_of_others-below : (a : ℕ → ℤ) (ts : List (ℤ × ℕ)) (ds : List (List Span)) (k : ℕ) → length ds ≡ length ts → k < length ts → ((j : ℕ) → j < length ts → IsBetween (domain_at ds j) (a (variable_at ts j)))
    → (coefficient_at ts k *ℤ a (variable_at ts k) +ℤ least_of_others ts ds k) ≤ℤ sum_of a ts
unfolding least_of_others sum_of
least_of_others-below a [] ds k e l h = absurd (omega arith)
least_of_others-below a (t ∷ ts) [] k e l h = absurd (omega arith)
least_of_others-below a (t ∷ ts) (d ∷ ds) zero e l h =
    let x : ℤ = t.0 *ℤ a t.1 in
    add_le x x (least_of_all ts ds) (sum_of a ts) (omega (arith, ints)) (least_of_all-below a ts ds (omega arith) (λ k m. h (suc k) (omega arith)))
least_of_others-below a (t ∷ ts) (d ∷ ds) (suc k) e l h =
    let first : IsBetween d (a t.1) = h 0 (omega arith) in
    put_first (coefficient_at ts k *ℤ a (variable_at ts k)) (least_part t.0 d) (least_of_others ts ds k) (t.0 *ℤ a t.1) (sum_of a ts)
    (least_scaled t.0 (least_of d) (a t.1) (greatest_of d) first.0 first.1)
    (least_of_others-below a ts ds k (omega arith) (omega arith) (λ j m. h (suc j) (omega arith)))

-- ---- fixed values

pub least_part-fixed : (c : ℤ) (d : List Span) (v : ℤ) → IsFixedTo d v → least_part c d ≡ c *ℤ v
least_part-fixed c d v f = (λ i. int_min (c *ℤ f.0 i) (c *ℤ f.1 i)) ∙ min_same (c *ℤ v)

pub least_of_all-fixed : (a : ℕ → ℤ) (ts : List (ℤ × ℕ)) (ds : List (List Span)) → length ds ≡ length ts → ((k : ℕ) → k < length ts → IsFixedTo (domain_at ds k) (a (variable_at ts k))) → least_of_all ts ds ≡ sum_of a ts
unfolding least_of_all sum_of
least_of_all-fixed a [] ds e h = refl
least_of_all-fixed a (t ∷ ts) [] e h = absurd (omega arith)
least_of_all-fixed a (t ∷ ts) (d ∷ ds) e h =
    let here : least_part t.0 d ≡ t.0 *ℤ a t.1 = least_part-fixed t.0 d (a t.1) (h 0 (omega arith)) in
    let rest : least_of_all ts ds ≡ sum_of a ts = least_of_all-fixed a ts ds (omega arith) (λ k l. h (suc k) (omega arith)) in
    (λ i. here i +ℤ rest i)

pub least_of_others-fixed : (a : ℕ → ℤ) (ts : List (ℤ × ℕ)) (ds : List (List Span)) (k : ℕ) → length ds ≡ length ts → k < length ts → ((j : ℕ) → j < length ts → j ≢ k → IsFixedTo (domain_at ds j) (a (variable_at ts j)))
    → (coefficient_at ts k *ℤ a (variable_at ts k) +ℤ least_of_others ts ds k) ≡ sum_of a ts
unfolding least_of_others sum_of
least_of_others-fixed a [] ds k e l h = absurd (omega arith)
least_of_others-fixed a (t ∷ ts) [] k e l h = absurd (omega arith)
least_of_others-fixed a (t ∷ ts) (d ∷ ds) zero e l h =
    ap (λ (x : ℤ). t.0 *ℤ a t.1 +ℤ x) (least_of_all-fixed a ts ds (omega arith) (λ k m. h (suc k) (omega arith) (λ x. omega arith)))
least_of_others-fixed a (t ∷ ts) (d ∷ ds) (suc k) e l h =
    put_first_same (coefficient_at ts k *ℤ a (variable_at ts k)) (least_part t.0 d) (least_of_others ts ds k) (t.0 *ℤ a t.1) (sum_of a ts)
    (least_part-fixed t.0 d (a t.1) (h 0 (omega arith) (λ x. omega arith)))
    (least_of_others-fixed a ts ds k (omega arith) (omega arith) (λ j m o. h (suc j) (omega arith) (λ e. o (omega arith))))

-- ---- fewer values

least_part-within : (c : ℤ) (d e : List Span) → EndsWithin d e → least_part c d ≤ℤ least_part c e
least_part-within c d e w =
    let top : least_of e ≤ℤ greatest_of d = omega (arith, ints, w.ordered, w.high) in
    let bottom : least_of d ≤ℤ greatest_of e = omega (arith, ints, w.low, w.ordered) in
    below_min (c *ℤ least_of e) (c *ℤ greatest_of e) (least_part c d)
    (least_scaled c (least_of d) (least_of e) (greatest_of d) w.low top)
    (least_scaled c (least_of d) (greatest_of e) (greatest_of d) bottom w.high)

pub least_of_all-within : (ts : List (ℤ × ℕ)) (ds es : List (List Span)) → length ds ≡ length ts → length es ≡ length ts → ((k : ℕ) → k < length ts → EndsWithin (domain_at ds k) (domain_at es k)) → least_of_all ts ds ≤ℤ least_of_all ts es
unfolding least_of_all
least_of_all-within [] ds es p q h = omega (arith, ints)
least_of_all-within (t ∷ ts) [] es p q h = absurd (omega arith)
least_of_all-within (t ∷ ts) (d ∷ ds) [] p q h = absurd (omega arith)
least_of_all-within (t ∷ ts) (d ∷ ds) (e ∷ es) p q h =
    add_le (least_part t.0 d) (least_part t.0 e) (least_of_all ts ds) (least_of_all ts es) (least_part-within t.0 d e (h 0 (omega arith)))
    (least_of_all-within ts ds es (omega arith) (omega arith) (λ k l. h (suc k) (omega arith)))

pub least_of_others-within : (ts : List (ℤ × ℕ)) (ds es : List (List Span)) (k : ℕ) → length ds ≡ length ts → length es ≡ length ts → ((j : ℕ) → j < length ts → EndsWithin (domain_at ds j) (domain_at es j))
    → least_of_others ts ds k ≤ℤ least_of_others ts es k
unfolding least_of_others
least_of_others-within [] ds es k p q h = omega (arith, ints)
least_of_others-within (t ∷ ts) [] es k p q h = absurd (omega arith)
least_of_others-within (t ∷ ts) (d ∷ ds) [] k p q h = absurd (omega arith)
least_of_others-within (t ∷ ts) (d ∷ ds) (e ∷ es) zero p q h = least_of_all-within ts ds es (omega arith) (omega arith) (λ k l. h (suc k) (omega arith))
least_of_others-within (t ∷ ts) (d ∷ ds) (e ∷ es) (suc k) p q h =
    add_le (least_part t.0 d) (least_part t.0 e) (least_of_others ts ds k) (least_of_others ts es k) (least_part-within t.0 d e (h 0 (omega arith)))
    (least_of_others-within ts ds es k (omega arith) (omega arith) (λ j l. h (suc j) (omega arith)))

-- ---- the same ends

abbrev pub SameEnds : List Span → List Span → Type 0
SameEnds d e = (least_of e ≡ least_of d) × (greatest_of e ≡ greatest_of d)

least_part-same : (c : ℤ) (d e : List Span) → SameEnds d e → least_part c e ≡ least_part c d
least_part-same c d e h = (λ i. int_min (c *ℤ h.0 i) (c *ℤ h.1 i))

least_of_all-same : (ts : List (ℤ × ℕ)) (ds es : List (List Span)) → length ds ≡ length ts → length es ≡ length ts → ((k : ℕ) → k < length ts → SameEnds (domain_at ds k) (domain_at es k)) → least_of_all ts es ≡ least_of_all ts ds
unfolding least_of_all
least_of_all-same [] ds es p q h = refl
least_of_all-same (t ∷ ts) [] es p q h = absurd (omega arith)
least_of_all-same (t ∷ ts) (d ∷ ds) [] p q h = absurd (omega arith)
least_of_all-same (t ∷ ts) (d ∷ ds) (e ∷ es) p q h =
    let here : least_part t.0 e ≡ least_part t.0 d = least_part-same t.0 d e (h 0 (omega arith)) in
    let rest : least_of_all ts es ≡ least_of_all ts ds = least_of_all-same ts ds es (omega arith) (omega arith) (λ k l. h (suc k) (omega arith)) in
    (λ i. here i +ℤ rest i)

pub least_of_others-same : (ts : List (ℤ × ℕ)) (ds es : List (List Span)) (k : ℕ) → length ds ≡ length ts → length es ≡ length ts → ((j : ℕ) → j < length ts → j ≢ k → SameEnds (domain_at ds j) (domain_at es j))
    → least_of_others ts es k ≡ least_of_others ts ds k
unfolding least_of_others
least_of_others-same [] ds es k p q h = refl
least_of_others-same (t ∷ ts) [] es k p q h = absurd (omega arith)
least_of_others-same (t ∷ ts) (d ∷ ds) [] k p q h = absurd (omega arith)
least_of_others-same (t ∷ ts) (d ∷ ds) (e ∷ es) zero p q h = least_of_all-same ts ds es (omega arith) (omega arith) (λ k l. h (suc k) (omega arith) (λ x. omega arith))
least_of_others-same (t ∷ ts) (d ∷ ds) (e ∷ es) (suc k) p q h =
    let here : least_part t.0 e ≡ least_part t.0 d = least_part-same t.0 d e (h 0 (omega arith) (λ x. omega arith)) in
    let rest : least_of_others ts es k ≡ least_of_others ts ds k = least_of_others-same ts ds es k (omega arith) (omega arith) (λ j l o. h (suc j) (omega arith) (λ x. o (omega arith))) in
    (λ i. here i +ℤ rest i)

-- ---- the negative of a sum

pub length-negated : (ts : List (ℤ × ℕ)) → length (negated ts) ≡ length ts
unfolding negated
length-negated [] = refl
length-negated (t ∷ ts) = ap suc (length-negated ts)

pub variable_at-negated : (ts : List (ℤ × ℕ)) (k : ℕ) → variable_at (negated ts) k ≡ variable_at ts k
unfolding negated
variable_at-negated [] k = refl
variable_at-negated (t ∷ ts) zero = refl
variable_at-negated (t ∷ ts) (suc k) = variable_at-negated ts k

negative_sum : (x y s t : ℤ) → x ≡ neg_ℤ y → t ≡ neg_ℤ s → (x +ℤ t) ≡ neg_ℤ (y +ℤ s)
negative_sum x y s t e f = omega (arith, ints)

pub sum_of-negated : (a : ℕ → ℤ) (ts : List (ℤ × ℕ)) → sum_of a (negated ts) ≡ neg_ℤ (sum_of a ts)
unfolding negated sum_of
sum_of-negated a [] = refl
sum_of-negated a (t ∷ ts) = negative_sum (neg_ℤ t.0 *ℤ a t.1) (t.0 *ℤ a t.1) (sum_of a ts) (sum_of a (negated ts)) (neg-*ℤ t.0 (a t.1)) (sum_of-negated a ts)
