-- What full intervals take, and what the filter of `all_distinct` keeps.
use Rattle.std.specs.Prelude.{◌≡◌, ◌≢◌, ◌↔◌, ◌⊎◌, ℕ, zero, suc, ◌+◌, ◌-◌, ◌<◌, Bool, true, false, ◌&&◌, cond, List, [], ◌∷◌, length, All, Contains, ℤ, pos, ◌+ℤ◌, ◌≤ℤ◌, ◌<ℤ◌, int_le, refl}
use Rattle.std.specs.Int.{int_gap}
use Rattle.std.specs.List.Sorted.{IsPermutation}
use Rattle.std.proofs.Common.{arith, sym, ◌∙◌, ap, subst, inl, inr}
use Rattle.std.proofs.lemmas.Bool.{cases_Bool, cases_eq, and_parts}
use Rattle.std.proofs.lemmas.Int.{ints, by_lt_z}
use Rattle.std.proofs.lemmas.List.{length-map}
use Rattle.std.proofs.lemmas.List.Sums.{sum_by-cons}
use Rattle.std.proofs.lemmas.List.Sorted.{All-permutation, sum_by-IsPermutation}
use Rattle.pi_constraints.proofs.DomainLemmas.{gap_is}
use Rattle.pi_constraints.specs.declared.domain.Span.{Span}
use Rattle.pi_prop_spec.specs.Ends.{least_of, greatest_of}
use Rattle.pi_prop_spec.specs.Places.{domain_at}
use Rattle.pi_prop_spec.specs.Rules.{lies_within, count_within, width, IntervalKeeps, DifferentKeeps, DistinctKeeps}
use Rattle.pi_prop_places.specs.Changes.{AreFiltered, AreEmptied}
use Rattle.pi_prop_places.proofs.KeepLemmas.{filtered_like, filtered_then, filtered_out}
use Rattle.pi_prop_filters.specs.Intervals.{ends_of, IsEnds, is_inside, count_inside, HasRoom, IsFull, AreFullEnds, IsOutside, IsOutsideFull}
use Rattle.pi_prop_filters.proofs.CountLemmas.{one_if}
use Rattle.pi_prop_filters.proofs.FullLemmas.{not_in_none}
use Rattle.pi_prop_filters.specs.Taken.{ends_at, least_at, AreTakenFrom, AreTaken}

-- ---- the intervals that begin with a number

outside_full : (a : ℤ) (sorted : List (ℤ × ℤ)) (full : List ℤ) (e : ℤ × ℤ) (n : ℤ) → AreFullEnds a sorted full → IsOutside a full e n ↔ IsOutsideFull a sorted e n
outside_full a sorted full e n f = (λ p b g o i. p b ((f.are b).1 g) o i, λ p b c o i. p b ((f.are b).0 c) o i)

pub taken_from : (a : ℤ) (ends sorted : List (ℤ × ℤ)) (full : List ℤ) (ds es : List (List Span)) → AreFullEnds a sorted full → AreFiltered (λ k. IsOutside a full (ends_at ends k)) ds es → AreTakenFrom true a ends sorted ds es
taken_from a ends sorted full ds es f g =
    (f.room, filtered_like (λ k. IsOutside a full (ends_at ends k)) (λ k. IsOutsideFull a sorted (ends_at ends k)) ds es (λ k n l h. outside_full a sorted full (ends_at ends k) n f) g)

-- where there is none nothing goes
pub none_taken : (a : ℤ) (ends : List (ℤ × ℤ)) (full : List ℤ) (ds : List (List Span)) → full ≡ [] → AreFiltered (λ k. IsOutside a full (ends_at ends k)) ds ds
none_taken a ends full ds e = record { count = refl; kept = λ k n l. (λ t. (t, λ b c o i. not_in_none b (subst (λ (x : List ℤ). Contains x b) e c)), λ p. p.0) }

-- ---- one number after another

-- of the first so many of the sorted ends
pub record TakenBefore (many : ℕ) (ends sorted : List (ℤ × ℤ)) (old new : List (List Span)) : Type 0 where
  pub room : (i : ℕ) → i < many → HasRoom (least_at sorted i) sorted
  pub taken : AreFiltered (λ k n. (i : ℕ) → i < many → IsOutsideFull (least_at sorted i) sorted (ends_at ends k) n) old new

pub taken_none : (ends sorted : List (ℤ × ℤ)) (ds : List (List Span)) → TakenBefore 0 ends sorted ds ds
taken_none ends sorted ds = record {
  room = λ i l. absurd (omega arith);
  taken = record { count = refl; kept = λ k n l. (λ t. (t, λ i m. absurd (omega arith)), λ p. p.0) };
}

still : (j i : ℕ) → j < i + 1 → (j ≡ i → ⊥) → j < i
still j i l o = omega arith

pub taken_more : (i : ℕ) (ends sorted : List (ℤ × ℤ)) (ds es fs : List (List Span)) → TakenBefore i ends sorted ds es → AreTakenFrom true (least_at sorted i) ends sorted es fs → TakenBefore (i + 1) ends sorted ds fs
taken_more i ends sorted ds es fs f g = record {
  room = λ j l. elim (cases_eq j i) [
    | inl e ↦ subst (λ (x : ℕ). HasRoom (least_at sorted x) sorted) (sym e) g.0
    | inr o ↦ f.room j (still j i l o)
  ];
  taken = filtered_like
      (λ k n. ((j : ℕ) → j < i → IsOutsideFull (least_at sorted j) sorted (ends_at ends k) n) × IsOutsideFull (least_at sorted i) sorted (ends_at ends k) n)
      (λ k n. (j : ℕ) → j < i + 1 → IsOutsideFull (least_at sorted j) sorted (ends_at ends k) n) ds fs
      (λ k n l h. (
        λ p j m. elim (cases_eq j i) [
          | inl e ↦ subst (λ (x : ℕ). IsOutsideFull (least_at sorted x) sorted (ends_at ends k) n) (sym e) p.1
          | inr o ↦ p.0 j (still j i m o)
        ],
        λ p. (λ j m. p j (omega arith), p i (omega arith)),
      ))
      (filtered_then (λ k n. (j : ℕ) → j < i → IsOutsideFull (least_at sorted j) sorted (ends_at ends k) n) (λ k. IsOutsideFull (least_at sorted i) sorted (ends_at ends k)) ds es fs f.taken g.1);
}

-- where the ends before have the same least value nothing is new
pub taken_again : (i : ℕ) (ends sorted : List (ℤ × ℤ)) (ds es : List (List Span)) → 0 < i → least_at sorted (i - 1) ≡ least_at sorted i → TakenBefore i ends sorted ds es → TakenBefore (i + 1) ends sorted ds es
taken_again i ends sorted ds es l e f = record {
  room = λ j m. elim (cases_eq j i) [
    | inl s ↦ subst (λ (z : ℤ). HasRoom z sorted) (e ∙ ap (least_at sorted) (sym s)) (f.room (i - 1) (omega arith))
    | inr o ↦ f.room j (still j i m o)
  ];
  taken = filtered_like
      (λ k n. (j : ℕ) → j < i → IsOutsideFull (least_at sorted j) sorted (ends_at ends k) n)
      (λ k n. (j : ℕ) → j < i + 1 → IsOutsideFull (least_at sorted j) sorted (ends_at ends k) n) ds es
      (λ k n m h. (
        λ p j q. elim (cases_eq j i) [
          | inl s ↦ subst (λ (z : ℤ). IsOutsideFull z sorted (ends_at ends k) n) (e ∙ ap (least_at sorted) (sym s)) (p (i - 1) (omega arith))
          | inr o ↦ p j (still j i q o)
        ],
        λ p j q. p j (omega arith),
      )) f.taken;
}

-- one has more places than numbers
pub taken_over : (i : ℕ) (ends sorted : List (ℤ × ℤ)) (ds es fs : List (List Span)) → i < length sorted → TakenBefore i ends sorted ds es → AreTakenFrom false (least_at sorted i) ends sorted es fs → AreTaken false ends sorted ds fs
taken_over i ends sorted ds es fs l f g = ((i, l, g.0), g.1 ∙ f.taken.count)

pub taken_all : (many : ℕ) (ends sorted : List (ℤ × ℤ)) (ds es : List (List Span)) → many ≡ length sorted → TakenBefore many ends sorted ds es → AreTaken true ends sorted ds es
taken_all many ends sorted ds es e f = let g : TakenBefore (length sorted) ends sorted ds es = subst (λ (m : ℕ). TakenBefore m ends sorted ds es) e f in (g.room, g.taken)

-- ---- all intervals

-- a number is the least value of a place, or of none
abbrev HasLeast : ℤ → List (ℤ × ℤ) → Type 0
HasLeast a ends = (i : ℕ) × (i < length ends) × (least_at ends i ≡ a)

abbrev HasNoLeast : ℤ → List (ℤ × ℤ) → Type 0
HasNoLeast a ends = (i : ℕ) → i < length ends → least_at ends i ≢ a

other_first : (a : ℤ) (e : ℤ × ℤ) (es : List (ℤ × ℤ)) → e.1 ≢ a → HasNoLeast a es → HasNoLeast a (e ∷ es)
other_first a e es o none zero l = o
other_first a e es o none (suc i) l = none i (omega arith)

behind_other : (a : ℤ) (e : ℤ × ℤ) (es : List (ℤ × ℤ)) → e.1 ≢ a → HasLeast a es ⊎ HasNoLeast a es → HasLeast a (e ∷ es) ⊎ HasNoLeast a (e ∷ es)
behind_other a e es o (inl f) = inl (suc f.0, omega (arith, f.1), f.2)
behind_other a e es o (inr none) = inr (other_first a e es o none)

least_or_not : (a : ℤ) (ends : List (ℤ × ℤ)) → HasLeast a ends ⊎ HasNoLeast a ends
least_or_not a [] = inr (λ i l. absurd (omega arith))
least_or_not a (e ∷ es) = by_lt_z e.1 a
    (λ l. behind_other a e es (λ s. omega (arith, ints)) (least_or_not a es))
    (λ l. by_lt_z a e.1 (λ m. behind_other a e es (λ s. omega (arith, ints)) (least_or_not a es)) (λ m. inl (0, omega arith, omega (arith, ints))))

same_from : (a x : ℤ) → x ≢ a → int_le a x ≡ int_le (a +ℤ pos 1) x
same_from a x o = by_lt_z x a
    (λ l. let f : int_le a x ≡ false = grind (arith, ints) in let g : int_le (a +ℤ pos 1) x ≡ false = grind (arith, ints) in f ∙ sym g)
    (λ l. by_lt_z a x
    (λ m. let f : int_le a x ≡ true = grind (arith, ints) in let g : int_le (a +ℤ pos 1) x ≡ true = grind (arith, ints) in f ∙ sym g)
    (λ m. absurd (o (omega (arith, ints)))))

count_next : (a b : ℤ) (ends : List (ℤ × ℤ)) → HasNoLeast a ends → count_inside a b ends ≡ count_inside (a +ℤ pos 1) b ends
count_next a b [] none = refl
count_next a b (e ∷ es) none =
    let first : int_le a e.1 ≡ int_le (a +ℤ pos 1) e.1 = same_from a e.1 (none 0 (omega arith)) in
    let rest : count_inside a b es ≡ count_inside (a +ℤ pos 1) b es = count_next a b es (λ i l. none (suc i) (omega arith)) in
    sum_by-cons (λ x. cond (is_inside a b x) 1 0) e es ∙ ((λ j. one_if (first j && int_le e.0 b) + rest j) ∙ sym (sum_by-cons (λ x. cond (is_inside (a +ℤ pos 1) b x) 1 0) e es))

not_inside : (a : ℤ) (e : ℤ × ℤ) → e.1 ≢ a → e.1 ≤ℤ e.0 → is_inside a a e ≡ false
not_inside a e o l = elim (cases_Bool (is_inside a a e)) [
  | inl t ↦
      let p = and_parts (int_le a e.1) (int_le e.0 a) t in
      let low : int_le a e.1 ≡ true = p.0 in
      let high : int_le e.0 a ≡ true = p.1 in
      absurd (o (omega (arith, ints)))
  | inr f ↦ f
]

count_one : (a : ℤ) (ends : List (ℤ × ℤ)) → All IsEnds ends → HasNoLeast a ends → count_inside a a ends ≡ 0
count_one a [] all none = refl
count_one a (e ∷ es) all none =
    let first : is_inside a a e ≡ false = not_inside a e (none 0 (omega arith)) ((all 0 e (omega arith)).ordered) in
    let rest : count_inside a a es ≡ 0 = count_one a es (λ k d l. all (suc k) d (omega arith)) (λ i l. none (suc i) (omega arith)) in
    let both : one_if (is_inside a a e) + count_inside a a es ≡ 0 = (λ j. one_if (first j) + rest j) in
    sum_by-cons (λ x. cond (is_inside a a x) 1 0) e es ∙ both

-- each interval from the least value of a place on has room
abbrev HaveRoom : List (ℤ × ℤ) → Type 0
HaveRoom ends = (i : ℕ) → i < length ends → HasRoom (least_at ends i) ends

-- so has each interval, since one that begins elsewhere has no more places than the next shorter one
room_at : (g : ℕ) (a b : ℤ) (ends : List (ℤ × ℤ)) → All IsEnds ends → HaveRoom ends → a +ℤ pos g ≡ b → pos (count_inside a b ends) ≤ℤ width a b
room_at zero a b ends all room e = elim (least_or_not a ends) [
  | inl f ↦ subst (λ (z : ℤ). HasRoom z ends) f.2 (room f.0 f.1) b (omega (arith, ints))
  | inr none ↦
      let same : a ≡ b = omega (arith, ints) in
      let zero_count : count_inside a b ends ≡ 0 = subst (λ (z : ℤ). count_inside a z ends ≡ 0) same (count_one a ends all none) in
      omega (arith, ints)
]
room_at (suc g) a b ends all room e = elim (least_or_not a ends) [
  | inl f ↦ subst (λ (z : ℤ). HasRoom z ends) f.2 (room f.0 f.1) b (omega (arith, ints))
  | inr none ↦
      let same : count_inside a b ends ≡ count_inside (a +ℤ pos 1) b ends = count_next a b ends none in
      let rest : pos (count_inside (a +ℤ pos 1) b ends) ≤ℤ width (a +ℤ pos 1) b = room_at g (a +ℤ pos 1) b ends all room (omega (arith, ints)) in
      omega (arith, ints)
]

pub room_all : (a b : ℤ) (ends : List (ℤ × ℤ)) → All IsEnds ends → HaveRoom ends → a ≤ℤ b → pos (count_inside a b ends) ≤ℤ width a b
room_all a b ends all room l = room_at (int_gap a b) a b ends all room (gap_is a b l)

-- and isn't full where it begins elsewhere
room_left : (g : ℕ) (a b : ℤ) (ends : List (ℤ × ℤ)) → All IsEnds ends → HaveRoom ends → HasNoLeast a ends → a +ℤ pos g ≡ b → pos (count_inside a b ends) <ℤ width a b
room_left zero a b ends all room none e =
    let same : a ≡ b = omega (arith, ints) in
    let zero_count : count_inside a b ends ≡ 0 = subst (λ (z : ℤ). count_inside a z ends ≡ 0) same (count_one a ends all none) in
    omega (arith, ints)
room_left (suc g) a b ends all room none e =
    let same : count_inside a b ends ≡ count_inside (a +ℤ pos 1) b ends = count_next a b ends none in
    let rest : pos (count_inside (a +ℤ pos 1) b ends) ≤ℤ width (a +ℤ pos 1) b = room_at g (a +ℤ pos 1) b ends all room (omega (arith, ints)) in
    omega (arith, ints)

-- ---- places and their ends

count_step : (b : Bool) (m : ℕ) → cond b (suc m) m ≡ one_if b + m
count_step true m = omega arith
count_step false m = omega arith

count_is : (a b : ℤ) (ds : List (List Span)) → count_within a b ds ≡ count_inside a b (ends_of ds)
unfolding count_within
count_is a b [] = refl
count_is a b (d ∷ ds) =
    count_step (lies_within a b d) (count_within a b ds)
    ∙ (ap (λ (m : ℕ). one_if (lies_within a b d) + m) (count_is a b ds) ∙ sym (sum_by-cons (λ x. cond (is_inside a b x) 1 0) (greatest_of d, least_of d) (ends_of ds)))

ends_at_is : (ds : List (List Span)) (k : ℕ) → ends_at (ends_of ds) k ≡ (greatest_of (domain_at ds k), least_of (domain_at ds k))
unfolding greatest_of
ends_at_is [] k = refl
ends_at_is (d ∷ ds) zero = refl
ends_at_is (d ∷ ds) (suc k) = ends_at_is ds k

-- the ends of the places, and the same by ascending greatest values
pub record AreEnds (ds : List (List Span)) (ends sorted : List (ℤ × ℤ)) : Type 0 where
  pub is : ends ≡ ends_of ds
  pub same : IsPermutation ends sorted
  pub all : All IsEnds ends

pub are_ends : (ds : List (List Span)) (ends sorted : List (ℤ × ℤ)) → ends ≡ ends_of ds → IsPermutation (ends_of ds) sorted → All IsEnds ends → AreEnds ds ends sorted
are_ends ds ends sorted e p all = record { is = e; same = subst (λ (x : List (ℤ × ℤ)). IsPermutation x sorted) (sym e) p; all = all }

-- domains that were filtered are as many as the ends
pub ends_count : (ds es : List (List Span)) (ends : List (ℤ × ℤ)) → ends ≡ ends_of ds → length es ≡ length ds → length es ≡ length ends
ends_count ds es ends e c = c ∙ (sym (length-map ds (λ d. (greatest_of d, least_of d))) ∙ ap length (sym e))

sorted_count : (a b : ℤ) (ds : List (List Span)) (ends sorted : List (ℤ × ℤ)) → AreEnds ds ends sorted → count_within a b ds ≡ count_inside a b sorted
sorted_count a b ds ends sorted x =
    count_is a b ds ∙ (ap (count_inside a b) (sym x.is) ∙ sym (sum_by-IsPermutation (λ z. cond (is_inside a b z) 1 0) ends sorted x.same))

pub all_sorted : (ds : List (List Span)) (ends sorted : List (ℤ × ℤ)) → AreEnds ds ends sorted → All IsEnds sorted
all_sorted ds ends sorted x = All-permutation IsEnds ends sorted x.same x.all

inside_is : (a b : ℤ) (ds : List (List Span)) (ends sorted : List (ℤ × ℤ)) (k : ℕ) → AreEnds ds ends sorted → is_inside a b (ends_at ends k) ≡ lies_within a b (domain_at ds k)
inside_is a b ds ends sorted k x = ap (λ (z : List (ℤ × ℤ)). is_inside a b (ends_at z k)) x.is ∙ ap (is_inside a b) (ends_at_is ds k)

full_is : (a b : ℤ) (ds : List (List Span)) (ends sorted : List (ℤ × ℤ)) → AreEnds ds ends sorted → a ≤ℤ b → pos (count_within a b ds) ≡ width a b → IsFull a b sorted
full_is a b ds ends sorted x l e = (l, ap (λ (m : ℕ). pos m) (sym (sorted_count a b ds ends sorted x)) ∙ e)

-- what a place keeps of an interval, from what it keeps of those that begin with the least value of a place
interval_kept : (a b : ℤ) (ds : List (List Span)) (ends sorted : List (ℤ × ℤ)) (k : ℕ) (n : ℤ) → AreEnds ds ends sorted → HaveRoom sorted → ((i : ℕ) → i < length sorted → IsOutsideFull (least_at sorted i) sorted (ends_at ends k) n) → a ≤ℤ b
    → IntervalKeeps a b ds k n
interval_kept a b ds ends sorted k n x room p l =
    let all : All IsEnds sorted = all_sorted ds ends sorted x in
    record {
      room = subst (λ (m : ℕ). pos m ≤ℤ width a b) (sym (sorted_count a b ds ends sorted x)) (room_all a b sorted all room l);
      taken = λ e outside i.
          let full : IsFull a b sorted = full_is a b ds ends sorted x l e in
          let apart : is_inside a b (ends_at ends k) ≡ false = inside_is a b ds ends sorted k x ∙ outside in
          elim (least_or_not a sorted) [
            | inl f ↦ subst (λ (z : ℤ). IsOutsideFull z sorted (ends_at ends k) n) f.2 (p f.0 f.1) b full apart i
            | inr none ↦ let r : pos (count_inside a b sorted) <ℤ width a b = room_left (int_gap a b) a b sorted all room none (gap_is a b l) in let s : pos (count_inside a b sorted) ≡ width a b = full.1 in omega (arith, ints)
          ];
    }

interval_outside : (ds : List (List Span)) (ends sorted : List (ℤ × ℤ)) (k : ℕ) (n : ℤ) (i : ℕ) → AreEnds ds ends sorted → ((a b : ℤ) → a ≤ℤ b → IntervalKeeps a b ds k n) → IsOutsideFull (least_at sorted i) sorted (ends_at ends k) n
interval_outside ds ends sorted k n i x p b full apart inside =
    let a : ℤ = least_at sorted i in
    (p a b full.0).taken (ap (λ (m : ℕ). pos m) (sorted_count a b ds ends sorted x) ∙ full.1) (sym (inside_is a b ds ends sorted k x) ∙ apart) inside

pub distinct_filtered : (ds es fs : List (List Span)) (ends sorted : List (ℤ × ℤ)) → AreEnds ds ends sorted → AreFiltered (DifferentKeeps ds) ds es → AreTaken true ends sorted es fs → AreFiltered (DistinctKeeps ds) ds fs
distinct_filtered ds es fs ends sorted x f g =
    filtered_like (λ k n. DifferentKeeps ds k n × ((i : ℕ) → i < length sorted → IsOutsideFull (least_at sorted i) sorted (ends_at ends k) n)) (DistinctKeeps ds) ds fs
    (λ k n l h. (
      λ p. (p.0, λ a b m. interval_kept a b ds ends sorted k n x g.0 p.1 m),
      λ p. (p.0, λ i m. interval_outside ds ends sorted k n i x p.1),
    ))
    (filtered_then (DifferentKeeps ds) (λ k n. (i : ℕ) → i < length sorted → IsOutsideFull (least_at sorted i) sorted (ends_at ends k) n) ds es fs f g.1)

no_room : (a b : ℤ) (c w : ℕ) → c ≡ w → width a b <ℤ pos w → pos c ≤ℤ width a b → ⊥
no_room a b c w e l m = omega (arith, ints)

emptied_from : (ds es fs gs : List (List Span)) → length es ≡ length ds → length fs ≡ length es → AreEmptied fs gs → AreEmptied ds gs
emptied_from ds es fs gs e f h = record { count = h.count ∙ (f ∙ e); none = h.none }

pub distinct_emptied : (ds es fs gs : List (List Span)) (ends sorted : List (ℤ × ℤ)) → AreEnds ds ends sorted → AreFiltered (DifferentKeeps ds) ds es → AreTaken false ends sorted es fs → AreEmptied fs gs → AreFiltered (DistinctKeeps ds) ds gs
distinct_emptied ds es fs gs ends sorted x f g h =
    filtered_out (DistinctKeeps ds) ds gs
    (λ k n p. let over = g.0.2 in let a : ℤ = least_at sorted g.0.0 in
    no_room a over.0 (count_within a over.0 ds) (count_inside a over.0 sorted) (sorted_count a over.0 ds ends sorted x) over.2 ((p.1 a over.0 over.1).room))
    (emptied_from ds es fs gs f.count g.1 h)
