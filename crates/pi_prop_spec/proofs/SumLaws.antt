-- The filters of sums: they are monotone, lose no solution, and are decisive.
use Rattle.std.specs.Prelude.{◌≡◌, ◌≢◌, ℕ, ◌<◌, List, length, ℤ, pos, ◌+ℤ◌, ◌-ℤ◌, ◌*ℤ◌, neg_ℤ, ◌≤ℤ◌}
use Rattle.std.proofs.Common.{arith, sym, ◌∙◌, ap, subst}
use Rattle.std.proofs.lemmas.Int.{ints, by_lt_z}
use Rattle.pi_constraints.specs.declared.constraint.Rel.{Rel}
use Rattle.pi_constraints.specs.declared.domain.Span.{Span}
use Rattle.pi_prop_spec.specs.Ends.{IsBetween, IsFixed, IsFixedTo}
use Rattle.pi_prop_spec.specs.Places.{domain_at}
use Rattle.pi_prop_spec.specs.Sums.{coefficient_at, least_of_others, least_with, AtMostKeeps, negated, EqualKeeps, AreOthersFixed, UnequalKeeps, SumKeeps, OppositeKeeps}
use Rattle.pi_prop_spec.specs.Solutions.{sum_of, Stands}
use Rattle.pi_prop_spec.proofs.EndLemmas.{EndsWithin, fixed_within}
use Rattle.pi_prop_spec.proofs.SumLemmas.{variable_at, least_of_others-below, least_of_others-fixed, least_of_others-within, least_of_others-same, SameEnds, length-negated, variable_at-negated, sum_of-negated}

-- there is a domain for each term, and each has the term's value between its ends
pub record HasBetween (a : ℕ → ℤ) (ts : List (ℤ × ℕ)) (ds : List (List Span)) : Type 0 where
  pub count : length ds ≡ length ts
  pub all : (k : ℕ) → k < length ts → IsBetween (domain_at ds k) (a (variable_at ts k))

-- each is fixed to the term's value
pub record HasFixed (a : ℕ → ℤ) (ts : List (ℤ × ℕ)) (ds : List (List Span)) : Type 0 where
  pub count : length ds ≡ length ts
  pub all : (k : ℕ) → k < length ts → IsFixedTo (domain_at ds k) (a (variable_at ts k))

-- each of the second domains lies within the first
pub record HasWithin (ts : List (ℤ × ℕ)) (ds es : List (List Span)) : Type 0 where
  pub first : length ds ≡ length ts
  pub second : length es ≡ length ts
  pub all : (k : ℕ) → k < length ts → EndsWithin (domain_at ds k) (domain_at es k)

HasBetween-negated : (a : ℕ → ℤ) (ts : List (ℤ × ℕ)) (ds : List (List Span)) → HasBetween a ts ds → HasBetween a (negated ts) ds
HasBetween-negated a ts ds h = record {
  count = h.count ∙ sym (length-negated ts);
  all = λ k l. subst (λ (v : ℕ). IsBetween (domain_at ds k) (a v)) (sym (variable_at-negated ts k)) (h.all k (omega (arith, length-negated ts)));
}

HasFixed-negated : (a : ℕ → ℤ) (ts : List (ℤ × ℕ)) (ds : List (List Span)) → HasFixed a ts ds → HasFixed a (negated ts) ds
HasFixed-negated a ts ds h = record {
  count = h.count ∙ sym (length-negated ts);
  all = λ k l. subst (λ (v : ℕ). IsFixedTo (domain_at ds k) (a v)) (sym (variable_at-negated ts k)) (h.all k (omega (arith, length-negated ts)));
}

HasWithin-negated : (ts : List (ℤ × ℕ)) (ds es : List (List Span)) → HasWithin ts ds es → HasWithin (negated ts) ds es
HasWithin-negated ts ds es h = record {
  first = h.first ∙ sym (length-negated ts);
  second = h.second ∙ sym (length-negated ts);
  all = λ k l. h.all k (omega (arith, length-negated ts));
}

below_negated : (ts : List (ℤ × ℕ)) (k : ℕ) → k < length ts → k < length (negated ts)
below_negated ts k l = omega (arith, length-negated ts)

-- ---- no solution is lost

with_constant : (x o s m : ℤ) → (x +ℤ o) ≤ℤ s → (m +ℤ s) ≤ℤ pos 0 → (x +ℤ (m +ℤ o)) ≤ℤ pos 0
with_constant x o s m h k = omega (arith, ints)

at_most-solution : (a : ℕ → ℤ) (ts : List (ℤ × ℕ)) (m : ℤ) (ds : List (List Span)) (k : ℕ) → HasBetween a ts ds → k < length ts → (m +ℤ sum_of a ts) ≤ℤ pos 0 → AtMostKeeps ts m ds k (a (variable_at ts k))
at_most-solution a ts m ds k h l s =
    with_constant (coefficient_at ts k *ℤ a (variable_at ts k)) (least_of_others ts ds k) (sum_of a ts) m (least_of_others-below a ts ds k h.count l h.all) s

negative_at_most : (m n s t : ℤ) → t ≡ neg_ℤ s → n ≤ℤ (m +ℤ s) → (n -ℤ m +ℤ t) ≤ℤ pos 0
negative_at_most m n s t e h = omega (arith, ints)

-- the sum isn't below n
at_least-solution : (a : ℕ → ℤ) (ts : List (ℤ × ℕ)) (m n : ℤ) (ds : List (List Span)) (k : ℕ) → HasBetween a ts ds → k < length ts → n ≤ℤ (m +ℤ sum_of a ts) → AtMostKeeps (negated ts) (n -ℤ m) ds k (a (variable_at ts k))
at_least-solution a ts m n ds k h l s =
    subst (λ (v : ℕ). AtMostKeeps (negated ts) (n -ℤ m) ds k (a v)) (variable_at-negated ts k)
    (at_most-solution a (negated ts) (n -ℤ m) ds k (HasBetween-negated a ts ds h) (below_negated ts k l) (negative_at_most m n (sum_of a ts) (sum_of a (negated ts)) (sum_of-negated a ts) s))

zero_minus : (m : ℤ) → pos 0 -ℤ m ≡ neg_ℤ m
zero_minus m = omega (arith, ints)

at_most_zero : (x : ℤ) → x ≡ pos 0 → x ≤ℤ pos 0
at_most_zero x e = omega (arith, ints)

at_least_zero : (x : ℤ) → x ≡ pos 0 → pos 0 ≤ℤ x
at_least_zero x e = omega (arith, ints)

equal-solution : (a : ℕ → ℤ) (ts : List (ℤ × ℕ)) (m : ℤ) (ds : List (List Span)) (k : ℕ) → HasBetween a ts ds → k < length ts → (m +ℤ sum_of a ts) ≡ pos 0 → EqualKeeps ts m ds k (a (variable_at ts k))
equal-solution a ts m ds k h l s = (
  at_most-solution a ts m ds k h l (at_most_zero (m +ℤ sum_of a ts) s),
  subst (λ (n : ℤ). AtMostKeeps (negated ts) n ds k (a (variable_at ts k))) (zero_minus m) (at_least-solution a ts m (pos 0) ds k h l (at_least_zero (m +ℤ sum_of a ts) s)),
)

fixed_between : (d : List Span) (v : ℤ) → IsBetween d v → IsFixed d → IsFixedTo d v
fixed_between d v b f = (omega (arith, ints, b.0, b.1), omega (arith, ints, b.0, b.1))

constant_inside : (x o s m : ℤ) → (x +ℤ o) ≡ s → (x +ℤ (m +ℤ o)) ≡ (m +ℤ s)
constant_inside x o s m e = omega (arith, ints)

unequal-solution : (a : ℕ → ℤ) (ts : List (ℤ × ℕ)) (m : ℤ) (ds : List (List Span)) (k : ℕ) → HasBetween a ts ds → k < length ts → (m +ℤ sum_of a ts) ≢ pos 0 → UnequalKeeps ts m ds k (a (variable_at ts k))
unequal-solution a ts m ds k h l s = λ fixed zero_sum.
    let others : (coefficient_at ts k *ℤ a (variable_at ts k) +ℤ least_of_others ts ds k) ≡ sum_of a ts =
    least_of_others-fixed a ts ds k h.count l (λ j b o. fixed_between (domain_at ds j) (a (variable_at ts j)) (h.all j b) (fixed j (omega (arith, h.count)) o)) in
    s (sym (constant_inside (coefficient_at ts k *ℤ a (variable_at ts k)) (least_of_others ts ds k) (sum_of a ts) m others) ∙ zero_sum)

pub sum-solution : (rel : Rel) (a : ℕ → ℤ) (ts : List (ℤ × ℕ)) (m : ℤ) (ds : List (List Span)) (k : ℕ) → HasBetween a ts ds → k < length ts → Stands rel (m +ℤ sum_of a ts) → SumKeeps rel ts m ds k (a (variable_at ts k))
sum-solution Rel.Equal a ts m ds k h l s = equal-solution a ts m ds k h l s
sum-solution Rel.Unequal a ts m ds k h l s = unequal-solution a ts m ds k h l s
sum-solution Rel.AtMost a ts m ds k h l s = at_most-solution a ts m ds k h l s

is_zero : (x : ℤ) → (x ≢ pos 0 → ⊥) → x ≡ pos 0
is_zero x h = by_lt_z x (pos 0) (λ b. absurd (h (λ e. omega (arith, ints)))) (λ b. by_lt_z (pos 0) x (λ c. absurd (h (λ e. omega (arith, ints)))) (λ c. omega (arith, ints)))

is_above : (x : ℤ) → (x ≤ℤ pos 0 → ⊥) → pos 1 ≤ℤ x
is_above x h = by_lt_z (pos 0) x (λ b. omega (arith, ints)) (λ b. absurd (h b))

pub opposite-solution : (rel : Rel) (a : ℕ → ℤ) (ts : List (ℤ × ℕ)) (m : ℤ) (ds : List (List Span)) (k : ℕ) → HasBetween a ts ds → k < length ts → (Stands rel (m +ℤ sum_of a ts) → ⊥) → OppositeKeeps rel ts m ds k (a (variable_at ts k))
opposite-solution Rel.Equal a ts m ds k h l s = unequal-solution a ts m ds k h l s
opposite-solution Rel.Unequal a ts m ds k h l s = equal-solution a ts m ds k h l (is_zero (m +ℤ sum_of a ts) s)
opposite-solution Rel.AtMost a ts m ds k h l s = at_least-solution a ts m (pos 1) ds k h l (is_above (m +ℤ sum_of a ts) s)

-- ---- where all places are fixed

-- the least sum is then the sum
least_with-fixed : (a : ℕ → ℤ) (ts : List (ℤ × ℕ)) (m : ℤ) (ds : List (List Span)) (k : ℕ) → HasFixed a ts ds → k < length ts → least_with ts m ds k (a (variable_at ts k)) ≡ (m +ℤ sum_of a ts)
least_with-fixed a ts m ds k h l =
    constant_inside (coefficient_at ts k *ℤ a (variable_at ts k)) (least_of_others ts ds k) (sum_of a ts) m (least_of_others-fixed a ts ds k h.count l (λ j b o. h.all j b))

at_most-decided : (a : ℕ → ℤ) (ts : List (ℤ × ℕ)) (m : ℤ) (ds : List (List Span)) (k : ℕ) → HasFixed a ts ds → k < length ts → AtMostKeeps ts m ds k (a (variable_at ts k)) → (m +ℤ sum_of a ts) ≤ℤ pos 0
at_most-decided a ts m ds k h l s = subst (λ (x : ℤ). x ≤ℤ pos 0) (least_with-fixed a ts m ds k h l) s

negative_back : (m n s t : ℤ) → t ≡ neg_ℤ s → (n -ℤ m +ℤ t) ≤ℤ pos 0 → n ≤ℤ (m +ℤ s)
negative_back m n s t e h = omega (arith, ints)

at_least-decided : (a : ℕ → ℤ) (ts : List (ℤ × ℕ)) (m n : ℤ) (ds : List (List Span)) (k : ℕ) → HasFixed a ts ds → k < length ts → AtMostKeeps (negated ts) (n -ℤ m) ds k (a (variable_at ts k)) → n ≤ℤ (m +ℤ sum_of a ts)
at_least-decided a ts m n ds k h l s =
    negative_back m n (sum_of a ts) (sum_of a (negated ts)) (sum_of-negated a ts)
    (at_most-decided a (negated ts) (n -ℤ m) ds k (HasFixed-negated a ts ds h) (below_negated ts k l) (subst (λ (v : ℕ). AtMostKeeps (negated ts) (n -ℤ m) ds k (a v)) (sym (variable_at-negated ts k)) s))

between_zero : (x : ℤ) → x ≤ℤ pos 0 → pos 0 ≤ℤ x → x ≡ pos 0
between_zero x h k = omega (arith, ints)

equal-decided : (a : ℕ → ℤ) (ts : List (ℤ × ℕ)) (m : ℤ) (ds : List (List Span)) (k : ℕ) → HasFixed a ts ds → k < length ts → EqualKeeps ts m ds k (a (variable_at ts k)) → (m +ℤ sum_of a ts) ≡ pos 0
equal-decided a ts m ds k h l s =
    between_zero (m +ℤ sum_of a ts) (at_most-decided a ts m ds k h l s.0)
    (at_least-decided a ts m (pos 0) ds k h l (subst (λ (n : ℤ). AtMostKeeps (negated ts) n ds k (a (variable_at ts k))) (sym (zero_minus m)) s.1))

unequal-decided : (a : ℕ → ℤ) (ts : List (ℤ × ℕ)) (m : ℤ) (ds : List (List Span)) (k : ℕ) → HasFixed a ts ds → k < length ts → UnequalKeeps ts m ds k (a (variable_at ts k)) → (m +ℤ sum_of a ts) ≢ pos 0
unequal-decided a ts m ds k h l s = λ e.
    s (λ j b o. let f : IsFixedTo (domain_at ds j) (a (variable_at ts j)) = h.all j (omega (arith, h.count)) in f.0 ∙ sym f.1) (least_with-fixed a ts m ds k h l ∙ e)

pub sum-decided : (rel : Rel) (a : ℕ → ℤ) (ts : List (ℤ × ℕ)) (m : ℤ) (ds : List (List Span)) (k : ℕ) → HasFixed a ts ds → k < length ts → SumKeeps rel ts m ds k (a (variable_at ts k)) → Stands rel (m +ℤ sum_of a ts)
sum-decided Rel.Equal a ts m ds k h l s = equal-decided a ts m ds k h l s
sum-decided Rel.Unequal a ts m ds k h l s = unequal-decided a ts m ds k h l s
sum-decided Rel.AtMost a ts m ds k h l s = at_most-decided a ts m ds k h l s

above_not : (x : ℤ) → pos 1 ≤ℤ x → x ≤ℤ pos 0 → ⊥
above_not x h k = omega (arith, ints)

pub opposite-decided : (rel : Rel) (a : ℕ → ℤ) (ts : List (ℤ × ℕ)) (m : ℤ) (ds : List (List Span)) (k : ℕ) → HasFixed a ts ds → k < length ts → OppositeKeeps rel ts m ds k (a (variable_at ts k)) → Stands rel (m +ℤ sum_of a ts) → ⊥
opposite-decided Rel.Equal a ts m ds k h l s = unequal-decided a ts m ds k h l s
opposite-decided Rel.Unequal a ts m ds k h l s = λ other. other (equal-decided a ts m ds k h l s)
opposite-decided Rel.AtMost a ts m ds k h l s = above_not (m +ℤ sum_of a ts) (at_least-decided a ts m (pos 1) ds k h l s)

-- ---- fewer values

no_more : (x m o p : ℤ) → o ≤ℤ p → (x +ℤ (m +ℤ p)) ≤ℤ pos 0 → (x +ℤ (m +ℤ o)) ≤ℤ pos 0
no_more x m o p h k = omega (arith, ints)

at_most-monotone : (ts : List (ℤ × ℕ)) (m : ℤ) (ds es : List (List Span)) (k : ℕ) (n : ℤ) → HasWithin ts ds es → AtMostKeeps ts m es k n → AtMostKeeps ts m ds k n
at_most-monotone ts m ds es k n w h =
    no_more (coefficient_at ts k *ℤ n) m (least_of_others ts ds k) (least_of_others ts es k) (least_of_others-within ts ds es k w.first w.second w.all) h

equal-monotone : (ts : List (ℤ × ℕ)) (m : ℤ) (ds es : List (List Span)) (k : ℕ) (n : ℤ) → HasWithin ts ds es → EqualKeeps ts m es k n → EqualKeeps ts m ds k n
equal-monotone ts m ds es k n w h = (at_most-monotone ts m ds es k n w h.0, at_most-monotone (negated ts) (neg_ℤ m) ds es k n (HasWithin-negated ts ds es w) h.1)

unequal-monotone : (ts : List (ℤ × ℕ)) (m : ℤ) (ds es : List (List Span)) (k : ℕ) (n : ℤ) → HasWithin ts ds es → UnequalKeeps ts m es k n → UnequalKeeps ts m ds k n
unequal-monotone ts m ds es k n w h = λ fixed zero_sum.
    let same : (j : ℕ) → j < length ts → j ≢ k → SameEnds (domain_at ds j) (domain_at es j) =
    λ j b o. fixed_within (domain_at ds j) (domain_at es j) (w.all j b) (fixed j (omega (arith, w.first)) o) in
    let others : least_of_others ts es k ≡ least_of_others ts ds k = least_of_others-same ts ds es k w.first w.second same in
    let fixed_too : AreOthersFixed es k = λ j b o.
    let inside : j < length ts = omega (arith, w.second) in
    (same j inside o).0 ∙ (fixed j (omega (arith, w.first)) o ∙ sym ((same j inside o).1)) in
    h fixed_too (ap (λ (x : ℤ). coefficient_at ts k *ℤ n +ℤ (m +ℤ x)) others ∙ zero_sum)

pub sum-monotone : (rel : Rel) (ts : List (ℤ × ℕ)) (m : ℤ) (ds es : List (List Span)) (k : ℕ) (n : ℤ) → HasWithin ts ds es → SumKeeps rel ts m es k n → SumKeeps rel ts m ds k n
sum-monotone Rel.Equal ts m ds es k n w h = equal-monotone ts m ds es k n w h
sum-monotone Rel.Unequal ts m ds es k n w h = unequal-monotone ts m ds es k n w h
sum-monotone Rel.AtMost ts m ds es k n w h = at_most-monotone ts m ds es k n w h

pub opposite-monotone : (rel : Rel) (ts : List (ℤ × ℕ)) (m : ℤ) (ds es : List (List Span)) (k : ℕ) (n : ℤ) → HasWithin ts ds es → OppositeKeeps rel ts m es k n → OppositeKeeps rel ts m ds k n
opposite-monotone Rel.Equal ts m ds es k n w h = unequal-monotone ts m ds es k n w h
opposite-monotone Rel.Unequal ts m ds es k n w h = equal-monotone ts m ds es k n w h
opposite-monotone Rel.AtMost ts m ds es k n w h = at_most-monotone (negated ts) (pos 1 -ℤ m) ds es k n (HasWithin-negated ts ds es w) h
