-- Whether the filter of a sum leaves each place a value, seen by what all terms add.
use Rattle.std.specs.Prelude.{◌≡◌, ◌≢◌, ◌↔◌, ◌⊎◌, ℕ, ◌+◌, ◌<◌, Bool, IsTrue, List, [], ◌∷◌, length, ℤ, pos, ◌+ℤ◌, ◌-ℤ◌, ◌*ℤ◌, neg_ℤ, ◌≤ℤ◌, refl}
use Rattle.std.specs.Int.{int_min, int_div_euclid}
use Rattle.std.specs.Ordering.{int_eq}
use Rattle.std.proofs.Common.{arith, sym, ◌∙◌, ap, subst, inl, inr, length-drop, get_or-drop}
use Rattle.std.proofs.lemmas.Bool.{cases_eq, cases_Bool, false≢true}
use Rattle.std.proofs.lemmas.Bool.Decides.{Decides-int_eq}
use Rattle.std.proofs.lemmas.Int.{ints, clamps, by_lt_z}
use Rattle.pi_constraints.specs.declared.domain.Span.{Span}
use Rattle.pi_constraints.specs.Domain.{IsDomain, has_value}
use Rattle.pi_constraints.specs.Constraint.{IsSumWithinLimits}
use Rattle.pi_prop_spec.specs.Ends.{least_of, greatest_of, IsFixed}
use Rattle.pi_prop_spec.specs.Places.{domain_at, HaveValues}
use Rattle.pi_prop_spec.specs.Sums.{coefficient_at, least_part, least_of_all, least_of_others, least_with, negated, AtMostKeeps, EqualKeeps, AreOthersFixed, UnequalKeeps}
use Rattle.pi_prop_spec.specs.Reified.{LeavesValues, of_terms}
use Rattle.pi_prop_spec.proofs.EndLemmas.{least-has, greatest-has, least-below, greatest-above, only_value}
use Rattle.pi_prop_spec.proofs.NumberLemmas.{least_scaled}
use Rattle.pi_prop_spec.proofs.SumLemmas.{length-negated, least_part-fixed}
use Rattle.pi_prop_places.specs.Reads.{HasValueWith, AreSpansFrom}
use Rattle.pi_prop_places.specs.Terms.{AreCoefficients}
use Rattle.pi_prop_places.proofs.RoundLemmas.{root_is}
use Rattle.pi_prop_places.proofs.SideLemmas.{others_are, coefficient_at-negated}

-- there is a domain with a value for each term of a sum
pub record AreTerms (ts : List (ℤ × ℕ)) (ds : List (List Span)) : Type 0 where
  pub some : 0 < length ts
  pub count : length ds ≡ length ts
  pub domains : (k : ℕ) → k < length ds → IsDomain (domain_at ds k)
  pub values : (k : ℕ) → k < length ds → domain_at ds k ≢ []

some_terms : (ts : List (ℤ × ℕ)) → ts ≢ [] → 0 < length ts
some_terms [] h = absurd (h refl)
some_terms (t ∷ ts) h = omega arith

pub behind : (ds : List (List Span)) (k : ℕ) → domain_at (of_terms ds) k ≡ domain_at ds (1 + k)
behind ds k = get_or-drop 1 ds k []

pub are_terms : (ts : List (ℤ × ℕ)) (m : ℤ) (ds : List (List Span)) → length ds ≡ 1 + length ts → IsSumWithinLimits ts m → HaveValues ds → AreSpansFrom 1 (length ts) ds → AreTerms ts (of_terms ds)
are_terms ts m ds c limits values spans =
    let count : length (of_terms ds) ≡ length ts = length-drop 1 ds ∙ omega arith in
    record {
      some = some_terms ts limits.0;
      count = count;
      domains = λ k l. subst IsDomain (sym (behind ds k)) (spans k (omega (arith, count)));
      values = λ k l. subst (λ (d : List Span). d ≢ []) (sym (behind ds k)) (values (1 + k) (omega (arith, count)));
    }

terms_negated : (ts : List (ℤ × ℕ)) (ds : List (List Span)) → AreTerms ts ds → AreTerms (negated ts) ds
terms_negated ts ds a = record {
  some = omega (arith, a.some, length-negated ts);
  count = a.count ∙ sym (length-negated ts);
  domains = a.domains;
  values = a.values;
}

-- where a place has the value n
with_is : (ts : List (ℤ × ℕ)) (m : ℤ) (ds : List (List Span)) (k : ℕ) (n : ℤ) → length ds ≡ length ts → k < length ts
    → least_with ts m ds k n ≡ coefficient_at ts k *ℤ n +ℤ (m +ℤ (least_of_all ts ds -ℤ least_part (coefficient_at ts k) (domain_at ds k)))
with_is ts m ds k n c l = ap (λ (x : ℤ). coefficient_at ts k *ℤ n +ℤ (m +ℤ x)) (others_are ts ds k c l)

-- ---- at most 0

min_is_one : (x y : ℤ) → (int_min x y ≡ x) ⊎ (int_min x y ≡ y)
min_is_one x y = by_lt_z x y (λ l. inl (omega (arith, ints, clamps))) (λ l. inr (omega (arith, ints, clamps)))

-- a value of a domain adds the least that its term adds
least_added : (c : ℤ) (d : List Span) → IsDomain d → d ≢ [] → (n : ℤ) × IsTrue (has_value d n) × (c *ℤ n ≡ least_part c d)
least_added c d up some = elim (min_is_one (c *ℤ least_of d) (c *ℤ greatest_of d)) [
  | inl e ↦ (least_of d, least-has d up some, sym e)
  | inr e ↦ (greatest_of d, greatest-has d up some, sym e)
]

none_added_below : (c : ℤ) (d : List Span) (n : ℤ) → IsDomain d → IsTrue (has_value d n) → least_part c d ≤ℤ (c *ℤ n)
none_added_below c d n up h = least_scaled c (least_of d) n (greatest_of d) (least-below d n up h) (greatest-above d n up h)

within : (x m all part : ℤ) → x ≡ part → (m +ℤ all) ≤ℤ pos 0 → (x +ℤ (m +ℤ (all -ℤ part))) ≤ℤ pos 0
within x m all part e h = omega (arith, ints)

within_all : (x m all part : ℤ) → part ≤ℤ x → (x +ℤ (m +ℤ (all -ℤ part))) ≤ℤ pos 0 → (m +ℤ all) ≤ℤ pos 0
within_all x m all part e h = omega (arith, ints)

pub at_most_leaves : (ts : List (ℤ × ℕ)) (m : ℤ) (ds : List (List Span)) → AreTerms ts ds → ((m +ℤ least_of_all ts ds) ≤ℤ pos 0) ↔ LeavesValues (AtMostKeeps ts m ds) ds
at_most_leaves ts m ds a =
    let all : ℤ = least_of_all ts ds in
    let part : ℕ → ℤ = λ k. least_part (coefficient_at ts k) (domain_at ds k) in (
      λ h k l.
          let v = least_added (coefficient_at ts k) (domain_at ds k) (a.domains k l) (a.values k l) in
          let e = with_is ts m ds k v.0 a.count (omega (arith, a.count)) in
          (v.0, v.1, subst (λ (x : ℤ). x ≤ℤ pos 0) (sym e) (within (coefficient_at ts k *ℤ v.0) m all (part k) v.2 h)),
      λ f.
          let l : 0 < length ds = omega (arith, a.some, a.count) in
          let v = f 0 l in
          let e = with_is ts m ds 0 v.0 a.count a.some in
          within_all (coefficient_at ts 0 *ℤ v.0) m all (part 0) (none_added_below (coefficient_at ts 0) (domain_at ds 0) v.0 (a.domains 0 l) v.1) (subst (λ (x : ℤ). x ≤ℤ pos 0) e v.2),
    )

pub above_zero_leaves : (ts : List (ℤ × ℕ)) (m : ℤ) (ds : List (List Span)) → AreTerms ts ds → ((m +ℤ least_of_all (negated ts) ds) ≤ℤ pos 0) ↔ LeavesValues (AtMostKeeps (negated ts) m ds) ds
above_zero_leaves ts m ds a = at_most_leaves (negated ts) m ds (terms_negated ts ds a)

-- ---- other than 0

only_part : (c : ℤ) (d : List Span) (n : ℤ) → IsDomain d → IsFixed d → IsTrue (has_value d n) → c *ℤ n ≡ least_part c d
only_part c d n up fixed h =
    let e : n ≡ least_of d = only_value d (least_of d) n up (refl, sym fixed) h in
    ap (λ (x : ℤ). c *ℤ x) e ∙ sym (least_part-fixed c d (least_of d) (refl, sym fixed))

put_in : (x m all part : ℤ) → x ≡ part → (x +ℤ (m +ℤ (all -ℤ part))) ≡ m +ℤ all
put_in x m all part e = omega (arith, ints)

-- where all places are fixed
all_fixed : (ts : List (ℤ × ℕ)) (m : ℤ) (ds : List (List Span)) (k : ℕ) (n : ℤ) → AreTerms ts ds → k < length ds → IsFixed (domain_at ds k) → IsTrue (has_value (domain_at ds k) n) → least_with ts m ds k n ≡ m +ℤ least_of_all ts ds
all_fixed ts m ds k n a l fixed h =
    with_is ts m ds k n a.count (omega (arith, a.count))
    ∙ put_in (coefficient_at ts k *ℤ n) m (least_of_all ts ds) (least_part (coefficient_at ts k) (domain_at ds k)) (only_part (coefficient_at ts k) (domain_at ds k) n (a.domains k l) fixed h)

pub unequal_leaves_none : (ts : List (ℤ × ℕ)) (m : ℤ) (ds : List (List Span)) → AreTerms ts ds → ((k : ℕ) → k < length ts → IsFixed (domain_at ds k)) → m +ℤ least_of_all ts ds ≡ pos 0 → LeavesValues (UnequalKeeps ts m ds) ds → ⊥
unequal_leaves_none ts m ds a fixed e f =
    let l : 0 < length ds = omega (arith, a.some, a.count) in
    let v = f 0 l in
    v.2 (λ j b o. fixed j (omega (arith, a.count))) (all_fixed ts m ds 0 v.0 a l (fixed 0 a.some) v.1 ∙ e)

product_of : (x r : ℤ) → (x +ℤ r) ≡ pos 0 → x ≡ neg_ℤ r
product_of x r e = omega (arith, ints)

-- a factor other than 0 tells two numbers apart
one_factor : (c x y r : ℤ) → c ≢ pos 0 → (c *ℤ x +ℤ r) ≡ pos 0 → (c *ℤ y +ℤ r) ≡ pos 0 → x ≡ y
one_factor c x y r o e f =
    let q : ℤ = int_div_euclid (neg_ℤ r) c in
    root_is c r x q o refl (product_of (c *ℤ x) r e) ∙ sym (root_is c r y q o refl (product_of (c *ℤ y) r f))

same_or_not : (x y : ℤ) → (x ≡ y) ⊎ (x ≢ y)
same_or_not x y = elim (cases_Bool (int_eq x y)) [ inl e ↦ inl ((Decides-int_eq x y).0 e) | inr e ↦ inr (λ f. false≢true (sym e ∙ (Decides-int_eq x y).1 f)) ]

-- one of the two ends doesn't make the sum 0
other_end : (ts : List (ℤ × ℕ)) (m : ℤ) (ds : List (List Span)) (k : ℕ) → AreTerms ts ds → coefficient_at ts k ≢ pos 0 → k < length ds → (IsFixed (domain_at ds k) → ⊥) → (n : ℤ) × IsTrue (has_value (domain_at ds k) n) × (least_with ts m ds k n ≢ pos 0)
other_end ts m ds k a o l open_ =
    let d : List Span = domain_at ds k in
    elim (same_or_not (least_with ts m ds k (least_of d)) (pos 0)) [
      | inl e ↦ (greatest_of d, greatest-has d (a.domains k l) (a.values k l), λ f. open_ (one_factor (coefficient_at ts k) (least_of d) (greatest_of d) (m +ℤ least_of_others ts ds k) o e f))
      | inr e ↦ (least_of d, least-has d (a.domains k l) (a.values k l), e)
    ]

pub unequal_leaves : (ts : List (ℤ × ℕ)) (m : ℤ) (ds : List (List Span)) → AreTerms ts ds → AreCoefficients ts → (((k : ℕ) → k < length ts → IsFixed (domain_at ds k)) → m +ℤ least_of_all ts ds ≢ pos 0) → LeavesValues (UnequalKeeps ts m ds) ds
unequal_leaves ts m ds a co h k l =
    let d : List Span = domain_at ds k in
    elim (same_or_not (least_of d) (greatest_of d)) [
      | inl here ↦
          let value : IsTrue (has_value d (least_of d)) = least-has d (a.domains k l) (a.values k l) in
          let all : AreOthersFixed ds k → (j : ℕ) → j < length ts → IsFixed (domain_at ds j) =
          λ others j b. elim (cases_eq j k) [ inl e ↦ subst (λ (i : ℕ). IsFixed (domain_at ds i)) (sym e) here | inr o ↦ others j (omega (arith, a.count)) o ] in
          (least_of d, value, λ others e. h (all others) (sym (all_fixed ts m ds k (least_of d) a l here value) ∙ e))
      | inr open_ ↦ let v = other_end ts m ds k a (co k (omega (arith, a.count))).0 l open_ in (v.0, v.1, λ others. v.2)
    ]

-- ---- equal to 0

pub equal_leaves_one : (ts : List (ℤ × ℕ)) (m : ℤ) (ds : List (List Span)) (k : ℕ) → length ds ≡ length ts → k < length ts
    → HasValueWith (domain_at ds k) (coefficient_at ts k) (m +ℤ (least_of_all ts ds -ℤ least_part (coefficient_at ts k) (domain_at ds k))) (neg_ℤ m +ℤ (least_of_all (negated ts) ds -ℤ least_part (neg_ℤ (coefficient_at ts k)) (domain_at ds k)))
    ↔ ((n : ℤ) × IsTrue (has_value (domain_at ds k) n) × EqualKeeps ts m ds k n)
equal_leaves_one ts m ds k c l =
    let up : (n : ℤ) → least_with ts m ds k n ≡ coefficient_at ts k *ℤ n +ℤ (m +ℤ (least_of_all ts ds -ℤ least_part (coefficient_at ts k) (domain_at ds k))) = λ n. with_is ts m ds k n c l in
    let down : (n : ℤ) → least_with (negated ts) (neg_ℤ m) ds k n ≡ neg_ℤ (coefficient_at ts k) *ℤ n +ℤ (neg_ℤ m +ℤ (least_of_all (negated ts) ds -ℤ least_part (neg_ℤ (coefficient_at ts k)) (domain_at ds k))) =
    λ n. with_is (negated ts) (neg_ℤ m) ds k n (c ∙ sym (length-negated ts)) (omega (arith, length-negated ts))
    ∙ ap (λ (x : ℤ). x *ℤ n +ℤ (neg_ℤ m +ℤ (least_of_all (negated ts) ds -ℤ least_part x (domain_at ds k)))) (coefficient_at-negated ts k) in (
      λ v. (v.0, v.1, (subst (λ (x : ℤ). x ≤ℤ pos 0) (sym (up v.0)) v.2, subst (λ (x : ℤ). x ≤ℤ pos 0) (sym (down v.0)) v.3)),
      λ v. (v.0, v.1, subst (λ (x : ℤ). x ≤ℤ pos 0) (up v.0) v.2.0, subst (λ (x : ℤ). x ≤ℤ pos 0) (down v.0) v.2.1),
    )

-- the same question, as the code asks it
pub with_same : (b : Bool) (d e : List Span) (p c q x r y : ℤ) → d ≡ e → p ≡ c → q ≡ x → r ≡ y → IsTrue b ↔ HasValueWith d p q r → IsTrue b ↔ HasValueWith e c x y
with_same b d e p c q x r y s t u v h =
    subst (λ (z : ℤ). IsTrue b ↔ HasValueWith e c x z) v (subst (λ (z : ℤ). IsTrue b ↔ HasValueWith e c z r) u (subst (λ (z : ℤ). IsTrue b ↔ HasValueWith e z q r) t (subst (λ (z : List Span). IsTrue b ↔ HasValueWith z p q r) s h)))

pub equal_turn : (b : Bool) (ts : List (ℤ × ℕ)) (m : ℤ) (ds : List (List Span)) (i : ℕ) (c n least opposite : ℤ) → length ds ≡ 1 + length ts → i < length ts → c ≡ coefficient_at ts i → n ≡ m → least ≡ least_of_all ts (of_terms ds) → opposite ≡ least_of_all (negated ts) (of_terms ds)
    → IsTrue b ↔ HasValueWith (domain_at ds (1 + i)) c (n +ℤ (least -ℤ least_part c (domain_at ds (1 + i)))) (neg_ℤ n +ℤ (opposite -ℤ least_part (neg_ℤ c) (domain_at ds (1 + i))))
    → IsTrue b ↔ ((v : ℤ) × IsTrue (has_value (domain_at (of_terms ds) i) v) × EqualKeeps ts m (of_terms ds) i v)
equal_turn b ts m ds i c n least opposite count l co con all neg h =
    let d : List Span = domain_at ds (1 + i) in
    let e : List Span = domain_at (of_terms ds) i in
    let here : d ≡ e = sym (behind ds i) in
    let asked = with_same b d e c (coefficient_at ts i) (n +ℤ (least -ℤ least_part c d)) (m +ℤ (least_of_all ts (of_terms ds) -ℤ least_part (coefficient_at ts i) e))
    (neg_ℤ n +ℤ (opposite -ℤ least_part (neg_ℤ c) d)) (neg_ℤ m +ℤ (least_of_all (negated ts) (of_terms ds) -ℤ least_part (neg_ℤ (coefficient_at ts i)) e))
    here co (λ j. con j +ℤ (all j -ℤ least_part (co j) (here j))) (λ j. neg_ℤ (con j) +ℤ (neg j -ℤ least_part (neg_ℤ (co j)) (here j))) h in
    let one = equal_leaves_one ts m (of_terms ds) i (length-drop 1 ds ∙ omega arith) l in
    (λ t. one.0 (asked.0 t), λ v. asked.1 (one.1 v))

-- one more place that is fixed, or has such a value
pub one_more : (P : ℕ → Type 0) (i : ℕ) → P i → ((k : ℕ) → k < i → P k) → (k : ℕ) → k < i + 1 → P k
one_more P i here before k l = elim (cases_eq k i) [ inl e ↦ subst P (sym e) here | inr o ↦ before k (omega arith) ]
