-- The filter of `all_distinct`: it is monotone and loses no solution.
use Rattle.std.specs.Prelude.{◌≡◌, ℕ, zero, suc, ◌<◌, ◌≤◌, Bool, true, false, cond, List, [], ◌∷◌, length, ℤ, pos, ◌+ℤ◌, ◌≤ℤ◌, ◌<ℤ◌, int_le, int_lt, refl}
use Rattle.std.specs.Int.{int_gap}
use Rattle.std.proofs.Common.{arith, subst, inl, inr}
use Rattle.std.proofs.lemmas.Int.{ints}
use Rattle.std.proofs.lemmas.Bool.{cases_Bool, and_parts, and_from}
use Rattle.pi_constraints.proofs.DomainLemmas.{gap_is}
use Rattle.pi_constraints.specs.declared.domain.Span.{Span}
use Rattle.pi_prop_spec.specs.Ends.{least_of, greatest_of, IsBetween}
use Rattle.pi_prop_spec.specs.Places.{domain_at}
use Rattle.pi_prop_spec.specs.Rules.{lies_within, count_within, width, IntervalKeeps, DistinctKeeps}
use Rattle.pi_prop_spec.specs.Solutions.{AreDifferent}
use Rattle.pi_prop_spec.proofs.EndLemmas.{EndsWithin}
use Rattle.pi_prop_spec.proofs.PlaceLemmas.{Given, Narrowed, given_between, narrowed_ends}
use Rattle.pi_prop_spec.proofs.DifferentLaws.{value_in, differences-keep_solutions, differences-are_monotone}
use Rattle.pi_prop_spec.proofs.CountLemmas.{count, is_among, count_at_most}

le_test : (x y : ℤ) → x ≤ℤ y → int_le x y ≡ true
le_test x y h = grind (arith, ints)

lt_test : (x y : ℤ) → x <ℤ y → int_lt x y ≡ true
lt_test x y h = grind (arith, ints)

-- ---- solutions

-- the interval from a to b has `suc (int_gap a b)` numbers
among_of : (a b x : ℤ) → a ≤ℤ b → a ≤ℤ x → x ≤ℤ b → is_among a (suc (int_gap a b)) x ≡ true
among_of a b x h l m =
    let gap : a +ℤ pos (int_gap a b) ≡ b = gap_is a b h in
    and_from (int_le a x) (int_lt x (a +ℤ pos (suc (int_gap a b)))) (le_test a x l) (lt_test x (a +ℤ pos (suc (int_gap a b))) (omega (arith, ints)))

width_is : (a b : ℤ) → a ≤ℤ b → width a b ≡ pos (suc (int_gap a b))
width_is a b h = let gap : a +ℤ pos (int_gap a b) ≡ b = gap_is a b h in omega (arith, ints)

within_value : (a b : ℤ) (d : List Span) (x : ℤ) → a ≤ℤ b → lies_within a b d ≡ true → IsBetween d x → is_among a (suc (int_gap a b)) x ≡ true
within_value a b d x h t m =
    let p = and_parts (int_le a (least_of d)) (int_le (greatest_of d) b) t in
    let low : int_le a (least_of d) ≡ true = p.0 in
    let high : int_le (greatest_of d) b ≡ true = p.1 in
    among_of a b x h (omega (arith, ints, m.0)) (omega (arith, ints, m.1))

pub cond_no_more : (b c : Bool) (m n : ℕ) → (b ≡ true → c ≡ true) → m ≤ n → cond b (suc m) m ≤ cond c (suc n) n
cond_no_more true true m n h l = omega arith
cond_no_more true false m n h l = let e : false ≡ true = h refl in absurd (cc)
cond_no_more false true m n h l = omega arith
cond_no_more false false m n h l = l

cond_grows : (b c : Bool) (m n : ℕ) → (b ≡ true → c ≡ true) → suc m ≤ n → suc (cond b (suc m) m) ≤ cond c (suc n) n
cond_grows true true m n h l = omega arith
cond_grows true false m n h l = let e : false ≡ true = h refl in absurd (cc)
cond_grows false true m n h l = omega arith
cond_grows false false m n h l = l

both_counts : (b c : Bool) (m n : ℕ) → b ≡ false → c ≡ true → m ≤ n → suc (cond b (suc m) m) ≤ cond c (suc n) n
both_counts true c m n f t l = absurd (cc)
both_counts false true m n f t l = omega arith
both_counts false false m n f t l = absurd (cc)

-- each place whose domain lies within has a value in the interval
count_values : (a b : ℤ) (ds : List (List Span)) (ns : List ℤ) → a ≤ℤ b → length ds ≡ length ns → ((k : ℕ) → k < length ds → IsBetween (domain_at ds k) (value_in ns k)) → count_within a b ds ≤ count (is_among a (suc (int_gap a b))) ns
unfolding count_within count
count_values a b [] ns h c g = omega arith
count_values a b (d ∷ ds) [] h c g = absurd (omega arith)
count_values a b (d ∷ ds) (x ∷ ns) h c g =
    cond_no_more (lies_within a b d) (is_among a (suc (int_gap a b)) x) (count_within a b ds) (count (is_among a (suc (int_gap a b))) ns)
    (λ t. within_value a b d x h t (g 0 (omega arith))) (count_values a b ds ns h (omega arith) (λ k l. g (suc k) (omega arith)))

-- and one more that doesn't lie within may have one too
count_one_more : (a b : ℤ) (ds : List (List Span)) (ns : List ℤ) (k : ℕ) → a ≤ℤ b → length ds ≡ length ns → k < length ds → ((j : ℕ) → j < length ds → IsBetween (domain_at ds j) (value_in ns j)) → lies_within a b (domain_at ds k) ≡ false → a ≤ℤ value_in ns k → value_in ns k ≤ℤ b
    → suc (count_within a b ds) ≤ count (is_among a (suc (int_gap a b))) ns
unfolding count_within count
count_one_more a b [] ns k h c l g f low high = absurd (omega arith)
count_one_more a b (d ∷ ds) [] k h c l g f low high = absurd (omega arith)
count_one_more a b (d ∷ ds) (x ∷ ns) zero h c l g f low high =
    let rest : count_within a b ds ≤ count (is_among a (suc (int_gap a b))) ns = count_values a b ds ns h (omega arith) (λ j m. g (suc j) (omega arith)) in
    let here : is_among a (suc (int_gap a b)) x ≡ true = among_of a b x h low high in
    both_counts (lies_within a b d) (is_among a (suc (int_gap a b)) x) (count_within a b ds) (count (is_among a (suc (int_gap a b))) ns) f here rest
count_one_more a b (d ∷ ds) (x ∷ ns) (suc k) h c l g f low high =
    cond_grows (lies_within a b d) (is_among a (suc (int_gap a b)) x) (count_within a b ds) (count (is_among a (suc (int_gap a b))) ns)
    (λ t. within_value a b d x h t (g 0 (omega arith))) (count_one_more a b ds ns k h (omega arith) (omega arith) (λ j m. g (suc j) (omega arith)) f low high)

interval-solution : (a b : ℤ) (ds : List (List Span)) (ns : List ℤ) (k : ℕ) (n : ℤ) → a ≤ℤ b → Given (value_in ns) ds → length ds ≡ length ns → k < length ds → AreDifferent ns → n ≡ value_in ns k → IntervalKeeps a b ds k n
interval-solution a b ds ns k n h g c l d e =
    let wide : width a b ≡ pos (suc (int_gap a b)) = width_is a b h in
    let most : count (is_among a (suc (int_gap a b))) ns ≤ suc (int_gap a b) = count_at_most a (suc (int_gap a b)) ns d in
    let all : (j : ℕ) → j < length ds → IsBetween (domain_at ds j) (value_in ns j) = λ j m. given_between (value_in ns) ds j g m in
    let few : count_within a b ds ≤ count (is_among a (suc (int_gap a b))) ns = count_values a b ds ns h c all in
    record {
      room = omega (arith, ints);
      taken = λ full outside inside.
          let more : suc (count_within a b ds) ≤ count (is_among a (suc (int_gap a b))) ns =
          count_one_more a b ds ns k h c l all outside (subst (λ (x : ℤ). a ≤ℤ x) e inside.0) (subst (λ (x : ℤ). x ≤ℤ b) e inside.1) in
          omega (arith, ints);
    }

pub distinct-keeps_solutions : (ds : List (List Span)) (ns : List ℤ) (k : ℕ) (n : ℤ) → Given (value_in ns) ds → length ds ≡ length ns → k < length ds → AreDifferent ns → n ≡ value_in ns k → DistinctKeeps ds k n
distinct-keeps_solutions ds ns k n g c l d e = (differences-keep_solutions ds ns k n g c l d e, λ a b h. interval-solution a b ds ns k n h g c l d e)

-- ---- fewer values

lies_narrower : (a b : ℤ) (d e : List Span) → EndsWithin d e → lies_within a b d ≡ true → lies_within a b e ≡ true
lies_narrower a b d e w t =
    let p = and_parts (int_le a (least_of d)) (int_le (greatest_of d) b) t in
    let low : int_le a (least_of d) ≡ true = p.0 in
    let high : int_le (greatest_of d) b ≡ true = p.1 in
    let first : least_of d ≤ℤ least_of e = w.low in
    let last : greatest_of e ≤ℤ greatest_of d = w.high in
    and_from (int_le a (least_of e)) (int_le (greatest_of e) b) (le_test a (least_of e) (omega (arith, ints))) (le_test (greatest_of e) b (omega (arith, ints)))

count_narrower : (a b : ℤ) (ds es : List (List Span)) → length es ≡ length ds → ((k : ℕ) → k < length ds → EndsWithin (domain_at ds k) (domain_at es k)) → count_within a b ds ≤ count_within a b es
unfolding count_within
count_narrower a b [] es c w = omega arith
count_narrower a b (d ∷ ds) [] c w = absurd (omega arith)
count_narrower a b (d ∷ ds) (e ∷ es) c w =
    cond_no_more (lies_within a b d) (lies_within a b e) (count_within a b ds) (count_within a b es) (λ t. lies_narrower a b d e (w 0 (omega arith)) t)
    (count_narrower a b ds es (omega arith) (λ k l. w (suc k) (omega arith)))

count_grown : (a b : ℤ) (ds es : List (List Span)) (k : ℕ) → length es ≡ length ds → k < length ds → ((j : ℕ) → j < length ds → EndsWithin (domain_at ds j) (domain_at es j)) → lies_within a b (domain_at ds k) ≡ false → lies_within a b (domain_at es k) ≡ true
    → suc (count_within a b ds) ≤ count_within a b es
unfolding count_within
count_grown a b [] es k c l w f t = absurd (omega arith)
count_grown a b (d ∷ ds) [] k c l w f t = absurd (omega arith)
count_grown a b (d ∷ ds) (e ∷ es) zero c l w f t =
    both_counts (lies_within a b d) (lies_within a b e) (count_within a b ds) (count_within a b es) f t (count_narrower a b ds es (omega arith) (λ j m. w (suc j) (omega arith)))
count_grown a b (d ∷ ds) (e ∷ es) (suc k) c l w f t =
    cond_grows (lies_within a b d) (lies_within a b e) (count_within a b ds) (count_within a b es) (λ s. lies_narrower a b d e (w 0 (omega arith)) s)
    (count_grown a b ds es k (omega arith) (omega arith) (λ j m. w (suc j) (omega arith)) f t)

interval-monotone : (a b : ℤ) (ds es : List (List Span)) (k : ℕ) (n : ℤ) → Narrowed ds es → k < length ds → IntervalKeeps a b es k n → IntervalKeeps a b ds k n
interval-monotone a b ds es k n w l h =
    let ends : (j : ℕ) → j < length ds → EndsWithin (domain_at ds j) (domain_at es j) = λ j m. narrowed_ends ds es j w m in
    let few : count_within a b ds ≤ count_within a b es = count_narrower a b ds es w.count ends in
    let room : pos (count_within a b es) ≤ℤ width a b = h.room in
    record {
      room = omega (arith, ints);
      taken = λ full outside inside. elim (cases_Bool (lies_within a b (domain_at es k))) [
        | inl t ↦ let more : suc (count_within a b ds) ≤ count_within a b es = count_grown a b ds es k w.count l ends outside t in omega (arith, ints)
        | inr f ↦ h.taken (omega (arith, ints)) f inside
      ];
    }

pub distinct-is_monotone : (ds es : List (List Span)) (k : ℕ) (n : ℤ) → Narrowed ds es → k < length ds → DistinctKeeps es k n → DistinctKeeps ds k n
distinct-is_monotone ds es k n w l h = (differences-are_monotone ds es k n w h.0, λ a b m. interval-monotone a b ds es k n w l (h.1 a b m))
