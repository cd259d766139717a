-- Cuts of one place that are made of others.
use Rattle.std.specs.Prelude.{◌≡◌, ℕ, Bool, true, false, not, ◌&&◌, ◌||◌, IsTrue, List, [], ◌∷◌, ◌++◌, ℤ, pos, ◌+ℤ◌, ◌-ℤ◌, ◌*ℤ◌, neg_ℤ, ◌≤ℤ◌, ◌<ℤ◌, int_le, refl}
use Rattle.std.proofs.Common.{arith, sym, ◌∙◌, ap, subst}
use Rattle.std.proofs.lemmas.Int.{ints, by_lt_z}
use Rattle.pi_constraints.specs.declared.domain.Span.{Span}
use Rattle.pi_constraints.specs.declared.domain.TheConstants.{MAX_VALUE}
use Rattle.pi_constraints.specs.Domain.{AscendFrom, IsDomain, IsWithinBounds, has_value}
use Rattle.pi_constraints.proofs.DomainLemmas.{values_are_within_bounds}
use Rattle.pi_prop_spec.specs.Ends.{least_of, greatest_of}
use Rattle.pi_prop_spec.specs.Places.{domain_at}
use Rattle.pi_prop_spec.proofs.EndLemmas.{least-has, least-below, greatest-above}
use Rattle.pi_prop_spec.proofs.NumberLemmas.{neg-*ℤ}
use Rattle.pi_prop_places.specs.Changes.{IsCutAt}
use Rattle.pi_prop_places.specs.Reads.{HasValueBetween}
use Rattle.pi_prop_places.proofs.CutLemmas.{cut_like, cut_then}
use Rattle.pi_prop_places.proofs.RoundLemmas.{same_tests, le_test, test_le}

pub ends_ordered : (d : List Span) → IsDomain d → least_of d ≤ℤ greatest_of d
unfolding greatest_of
ends_ordered [] up = omega (arith, ints)
ends_ordered (s ∷ ss) up = greatest-above (s ∷ ss) s.lo up (least-has (s ∷ ss) up (λ e. absurd (cc)))

and_same : (a b c : Bool) → (IsTrue a → b ≡ c) → (a && b) ≡ (a && c)
and_same true b c h = h refl
and_same false b c h = refl

-- two tests that agree on the values that are there
pub cut_same : (ds es : List (List Span)) (k : ℕ) (p q : ℤ → Bool) → ((n : ℤ) → IsTrue (has_value (domain_at ds k) n) → p n ≡ q n) → IsCutAt k p ds es → IsCutAt k q ds es
cut_same ds es k p q same f = record {
  count = f.count;
  here = λ n. f.here n ∙ and_same (has_value (domain_at ds k) n) (p n) (q n) (same n);
  others = f.others;
}

all_pass : (a b : Bool) → (IsTrue a → IsTrue b) → a ≡ (a && b)
all_pass true b h = sym (h refl)
all_pass false b h = refl

-- where each value passes, nothing changes
pub cut_untouched : (ds : List (List Span)) (k : ℕ) (test : ℤ → Bool) → ((n : ℤ) → IsTrue (has_value (domain_at ds k) n) → IsTrue (test n)) → IsCutAt k test ds ds
cut_untouched ds k test all = record { count = refl; here = λ n. all_pass (has_value (domain_at ds k) n) (test n) (all n); others = λ j o. refl }

-- ---- an interval that goes

abbrev lies : ℤ → ℤ → ℤ → Bool
lies lo hi n = int_le lo n && int_le n hi

outside_below : (lo hi n : ℤ) → n <ℤ lo → not (lies lo hi n) ≡ true
outside_below lo hi n h = grind (arith, ints)

outside_above : (lo hi n : ℤ) → hi <ℤ n → not (lies lo hi n) ≡ true
outside_above lo hi n h = grind (arith, ints)

inside_not : (lo hi n : ℤ) → lo ≤ℤ n → n ≤ℤ hi → not (lies lo hi n) ≡ false
inside_not lo hi n h k = grind (arith, ints)

pub nothing_between : (ds : List (List Span)) (k : ℕ) (lo hi : ℤ) → (HasValueBetween (domain_at ds k) lo hi → ⊥) → IsCutAt k (λ n. not (int_le lo n && int_le n hi)) ds ds
nothing_between ds k lo hi none = cut_untouched ds k (λ n. not (lies lo hi n)) (λ n h.
    by_lt_z n lo (outside_below lo hi n) (λ l. by_lt_z hi n (outside_above lo hi n) (λ m. absurd (none (n, h, l, m)))))

-- the interval begins at the least value or below
pub only_above : (ds es : List (List Span)) (k : ℕ) (lo hi b : ℤ) → IsCutAt k (λ n. int_le b n) ds es → IsDomain (domain_at ds k) → lo ≤ℤ least_of (domain_at ds k) → b ≡ hi +ℤ pos 1
    → IsCutAt k (λ n. not (int_le lo n && int_le n hi)) ds es
only_above ds es k lo hi b f up l e = cut_same ds es k (λ n. int_le b n) (λ n. not (lies lo hi n)) (λ n h.
    let low : least_of (domain_at ds k) ≤ℤ n = least-below (domain_at ds k) n up h in
    by_lt_z hi n
    (λ m. let t : int_le b n ≡ true = le_test b n (omega (arith, ints)) in t ∙ sym (outside_above lo hi n m))
    (λ m. let t : int_le b n ≡ false = grind (arith, ints) in t ∙ sym (inside_not lo hi n (omega (arith, ints)) m))) f

-- the interval ends at the greatest value or above
pub only_below : (ds es : List (List Span)) (k : ℕ) (lo hi b : ℤ) → IsCutAt k (λ n. int_le n b) ds es → IsDomain (domain_at ds k) → greatest_of (domain_at ds k) ≤ℤ hi → b ≡ lo -ℤ pos 1
    → IsCutAt k (λ n. not (int_le lo n && int_le n hi)) ds es
only_below ds es k lo hi b f up l e = cut_same ds es k (λ n. int_le n b) (λ n. not (lies lo hi n)) (λ n h.
    let high : n ≤ℤ greatest_of (domain_at ds k) = greatest-above (domain_at ds k) n up h in
    by_lt_z n lo
    (λ m. let t : int_le n b ≡ true = le_test n b (omega (arith, ints)) in t ∙ sym (outside_below lo hi n m))
    (λ m. let t : int_le n b ≡ false = grind (arith, ints) in t ∙ sym (inside_not lo hi n m (omega (arith, ints))))) f

pub hole_taken : (ds es : List (List Span)) (k : ℕ) (lo hi : ℤ) (kept : List Span) → IsDomain (domain_at ds k) → ((n : ℤ) → IsWithinBounds n → has_value kept n ≡ not (int_le lo n && int_le n hi)) → IsCutAt k (λ n. has_value kept n) ds es
    → IsCutAt k (λ n. not (int_le lo n && int_le n hi)) ds es
hole_taken ds es k lo hi kept up says f = cut_same ds es k (λ n. has_value kept n) (λ n. not (lies lo hi n)) (λ n h. says n (values_are_within_bounds (domain_at ds k) n up h)) f

-- ---- multiples that lie between two numbers

at_least : (x lo : ℤ) → int_le (neg_ℤ x +ℤ lo) (pos 0) ≡ int_le lo x
at_least x lo = same_tests (int_le (neg_ℤ x +ℤ lo) (pos 0)) (int_le lo x)
    (λ t. le_test lo x (let h : (neg_ℤ x +ℤ lo) ≤ℤ pos 0 = test_le (neg_ℤ x +ℤ lo) (pos 0) t in omega (arith, ints)))
    (λ t. le_test (neg_ℤ x +ℤ lo) (pos 0) (let h : lo ≤ℤ x = test_le lo x t in omega (arith, ints)))

at_most : (x hi : ℤ) → int_le (x +ℤ neg_ℤ hi) (pos 0) ≡ int_le x hi
at_most x hi = same_tests (int_le (x +ℤ neg_ℤ hi) (pos 0)) (int_le x hi)
    (λ t. le_test x hi (let h : (x +ℤ neg_ℤ hi) ≤ℤ pos 0 = test_le (x +ℤ neg_ℤ hi) (pos 0) t in omega (arith, ints)))
    (λ t. le_test (x +ℤ neg_ℤ hi) (pos 0) (let h : x ≤ℤ hi = test_le x hi t in omega (arith, ints)))

pub scaled_low : (ds es : List (List Span)) (k : ℕ) (c lo : ℤ) → IsCutAt k (λ n. int_le (neg_ℤ c *ℤ n +ℤ lo) (pos 0)) ds es → IsCutAt k (λ n. int_le lo (c *ℤ n)) ds es
scaled_low ds es k c lo f = cut_like ds es k (λ n. int_le (neg_ℤ c *ℤ n +ℤ lo) (pos 0)) (λ n. int_le lo (c *ℤ n)) (λ n. ap (λ (z : ℤ). int_le (z +ℤ lo) (pos 0)) (neg-*ℤ c n) ∙ at_least (c *ℤ n) lo) f

pub scaled_high : (ds es : List (List Span)) (k : ℕ) (c hi : ℤ) → IsCutAt k (λ n. int_le (c *ℤ n +ℤ neg_ℤ hi) (pos 0)) ds es → IsCutAt k (λ n. int_le (c *ℤ n) hi) ds es
scaled_high ds es k c hi f = cut_like ds es k (λ n. int_le (c *ℤ n +ℤ neg_ℤ hi) (pos 0)) (λ n. int_le (c *ℤ n) hi) (λ n. at_most (c *ℤ n) hi) f

pub scaled_both : (ds es fs : List (List Span)) (k : ℕ) (c lo hi p q r s : ℤ) → p ≡ neg_ℤ c → q ≡ lo → r ≡ c → s ≡ neg_ℤ hi → IsCutAt k (λ n. int_le (p *ℤ n +ℤ q) (pos 0)) ds es → IsCutAt k (λ n. int_le (r *ℤ n +ℤ s) (pos 0)) es fs
    → IsCutAt k (λ n. int_le lo (c *ℤ n) && int_le (c *ℤ n) hi) ds fs
scaled_both ds es fs k c lo hi p q r s e f g h x y =
    cut_then ds es fs k (λ n. int_le lo (c *ℤ n)) (λ n. int_le (c *ℤ n) hi)
    (scaled_low ds es k c lo (subst (λ (z : ℤ). IsCutAt k (λ n. int_le (z *ℤ n +ℤ lo) (pos 0)) ds es) e (subst (λ (z : ℤ). IsCutAt k (λ n. int_le (p *ℤ n +ℤ z) (pos 0)) ds es) f x)))
    (scaled_high es fs k c hi (subst (λ (z : ℤ). IsCutAt k (λ n. int_le (z *ℤ n +ℤ neg_ℤ hi) (pos 0)) es fs) g (subst (λ (z : ℤ). IsCutAt k (λ n. int_le (r *ℤ n +ℤ z) (pos 0)) es fs) h y)))

-- ---- what lies outside of an interval

abbrev span : ℤ → ℤ → Span
span lo hi = record { lo = lo; hi = hi }

outside_is : (lo hi a b : ℤ) (ss : List Span) → neg_ℤ MAX_VALUE <ℤ lo → lo ≤ℤ hi → hi <ℤ MAX_VALUE → a ≡ lo -ℤ pos 1 → b ≡ hi +ℤ pos 1 → ss ≡ span (neg_ℤ MAX_VALUE) a ∷ span b MAX_VALUE ∷ [] → IsDomain ss
unfolding AscendFrom
outside_is lo hi a b ss l o h e f is = subst IsDomain (sym is) (omega (arith, ints), omega (arith, ints), omega (arith, ints), (omega (arith, ints), omega (arith, ints), omega (arith, ints), tt))

either_side : (lo hi a b n : ℤ) → lo ≤ℤ hi → a ≡ lo -ℤ pos 1 → b ≡ hi +ℤ pos 1 → IsWithinBounds n → ((int_le (neg_ℤ MAX_VALUE) n && int_le n a) || ((int_le b n && int_le n MAX_VALUE) || false)) ≡ not (lies lo hi n)
either_side lo hi a b n o e f w = by_lt_z n lo
    (λ l. let p : int_le (neg_ℤ MAX_VALUE) n ≡ true = le_test (neg_ℤ MAX_VALUE) n w.0 in let q : int_le n a ≡ true = le_test n a (omega (arith, ints)) in let r = outside_below lo hi n l in grind (arith, p, q, r))
    (λ l. by_lt_z hi n
    (λ m. let p : int_le b n ≡ true = le_test b n (omega (arith, ints)) in let q : int_le n MAX_VALUE ≡ true = le_test n MAX_VALUE w.1 in let r = outside_above lo hi n m in let s : int_le n a ≡ false = grind (arith, ints) in grind (arith, p, q, r, s))
    (λ m. let p : int_le n a ≡ false = grind (arith, ints) in let q : int_le b n ≡ false = grind (arith, ints) in let r = inside_not lo hi n l m in grind (arith, p, q, r)))

outside_has : (lo hi a b n : ℤ) (ss : List Span) → lo ≤ℤ hi → a ≡ lo -ℤ pos 1 → b ≡ hi +ℤ pos 1 → ss ≡ span (neg_ℤ MAX_VALUE) a ∷ span b MAX_VALUE ∷ [] → IsWithinBounds n → has_value ss n ≡ not (int_le lo n && int_le n hi)
unfolding has_value
outside_has lo hi a b n ss o e f is w = ap (λ (x : List Span). has_value x n) is ∙ either_side lo hi a b n o e f w

two_spans : (xs ys zs : List Span) (s t : Span) → xs ≡ [] → ys ≡ xs ++ s ∷ [] → zs ≡ ys ++ t ∷ [] → zs ≡ s ∷ t ∷ []
two_spans xs ys zs s t e f g = g ∙ (ap (λ (x : List Span). x ++ t ∷ []) (f ∙ ap (λ (x : List Span). x ++ s ∷ []) e) ∙ refl)

same_spans : (s t : Span) (a b : ℤ) → s.lo ≡ neg_ℤ MAX_VALUE → s.hi ≡ a → t.lo ≡ b → t.hi ≡ MAX_VALUE → s ∷ t ∷ [] ≡ span (neg_ℤ MAX_VALUE) a ∷ span b MAX_VALUE ∷ []
same_spans s t a b e f g h = (λ i. (record { lo = e i; hi = f i }) ∷ (record { lo = g i; hi = h i }) ∷ [])

-- the two spans outside of an interval, as they were put behind each other
pub record AreOutside (lo hi : ℤ) (zs : List Span) : Type 0 where
  pub low : neg_ℤ MAX_VALUE <ℤ lo
  pub ordered : lo ≤ℤ hi
  pub high : hi <ℤ MAX_VALUE
  pub are : zs ≡ span (neg_ℤ MAX_VALUE) (lo -ℤ pos 1) ∷ span (hi +ℤ pos 1) MAX_VALUE ∷ []

pub pushed_outside : (lo hi : ℤ) (xs ys zs : List Span) (s t : Span) → xs ≡ [] → ys ≡ xs ++ s ∷ [] → zs ≡ ys ++ t ∷ [] → neg_ℤ MAX_VALUE <ℤ lo → lo ≤ℤ hi → hi <ℤ MAX_VALUE
    → s.lo ≡ neg_ℤ MAX_VALUE → s.hi ≡ lo -ℤ pos 1 → t.lo ≡ hi +ℤ pos 1 → t.hi ≡ MAX_VALUE → AreOutside lo hi zs
pushed_outside lo hi xs ys zs s t e f g l o h a b c d = record { low = l; ordered = o; high = h; are = two_spans xs ys zs s t e f g ∙ same_spans s t (lo -ℤ pos 1) (hi +ℤ pos 1) a b c d }

pub outside_domain : (lo hi : ℤ) (zs : List Span) → AreOutside lo hi zs → IsDomain zs
outside_domain lo hi zs x = outside_is lo hi (lo -ℤ pos 1) (hi +ℤ pos 1) zs x.low x.ordered x.high refl refl x.are

pub outside_values : (lo hi n : ℤ) (zs : List Span) → AreOutside lo hi zs → IsWithinBounds n → has_value zs n ≡ not (int_le lo n && int_le n hi)
outside_values lo hi n zs x w = outside_has lo hi (lo -ℤ pos 1) (hi +ℤ pos 1) n zs x.ordered refl refl x.are w
