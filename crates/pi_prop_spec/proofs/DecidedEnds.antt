-- Of the intervals that `Distinct` speaks of, those from the least value of a place to the greatest of one are enough.
use Rattle.std.specs.Prelude.{◌≡◌, ◌⊎◌, ℕ, zero, suc, ◌<◌, ◌≤◌, Bool, true, false, not, ◌||◌, List, [], ◌∷◌, length, ℤ, pos, ◌≤ℤ◌, int_le, refl}
use Rattle.std.specs.Bool.{Decides}
use Rattle.std.specs.Ordering.{int_eq}
use Rattle.std.proofs.Common.{arith, subst, inl, inr}
use Rattle.std.proofs.lemmas.Bool.{cases_Bool, and_parts, and_from}
use Rattle.std.proofs.lemmas.Bool.Decides.{Decides-int_eq, Decides-like, Decides-not, Decides-and}
use Rattle.std.proofs.lemmas.Int.{ints, by_lt_z}
use Rattle.pi_constraints.specs.declared.domain.Span.{Span}
use Rattle.pi_prop_spec.specs.Ends.{least_of, greatest_of}
use Rattle.pi_prop_spec.specs.Places.{domain_at}
use Rattle.pi_prop_spec.specs.Rules.{lies_within, count_within, width, IntervalKeeps, DistinctKeeps}
use Rattle.pi_prop_spec.specs.Decided.{each_below, if_so, is_inside, interval_keeps, ends_keep, intervals_keep, different_keeps, distinct_keeps}
use Rattle.pi_prop_spec.proofs.DistinctLaws.{cond_no_more}
use Rattle.pi_prop_spec.proofs.DecidedTests.{le-decides, is-true, not_both, if_so-decides, unless-decides, each_below-decides}
use Rattle.pi_prop_spec.proofs.DecidedRules.{inside-decides, different-decides}

-- ---- one interval

interval-decides : (a b : ℤ) (ds : List (List Span)) (k : ℕ) (n : ℤ) → Decides (interval_keeps a b ds k n) (IntervalKeeps a b ds k n)
interval-decides a b ds k n =
    let many : ℤ = pos (count_within a b ds) in
    let lies : Bool = lies_within a b (domain_at ds k) in
    Decides-like (interval_keeps a b ds k n)
    (λ h. record { room = h.0; taken = λ full outside inside. h.1 full (λ t. not_both lies t outside) inside })
    (λ (h : IntervalKeeps a b ds k n). (h.room, λ full none inside. elim (cases_Bool lies) [ inl t ↦ absurd (none t) | inr f ↦ h.taken full f inside ]))
    (Decides-and (int_le many (width a b)) (if_so (int_eq many (width a b)) (lies || not (is_inside a b n))) (le-decides many (width a b))
    (if_so-decides (int_eq many (width a b)) (lies || not (is_inside a b n)) (Decides-int_eq many (width a b))
    (λ full. unless-decides lies (not (is_inside a b n)) (is-true lies) (Decides-not (is_inside a b n) (inside-decides a b n)))))

-- ---- the least interval between ends that has the places of another

-- of the places within a to b, one has the least value, and one the greatest
record Tight (a b : ℤ) (ds : List (List Span)) : Type 0 where
  first : ℕ
  last : ℕ
  first_there : first < length ds
  last_there : last < length ds
  first_lies : lies_within a b (domain_at ds first) ≡ true
  last_lies : lies_within a b (domain_at ds last) ≡ true
  all : (j : ℕ) → j < length ds → lies_within a b (domain_at ds j) ≡ true →
      (least_of (domain_at ds first) ≤ℤ least_of (domain_at ds j)) × (greatest_of (domain_at ds j) ≤ℤ greatest_of (domain_at ds last))

skipped : (a b : ℤ) (d : List Span) (ds : List (List Span)) → lies_within a b d ≡ false → Tight a b ds → Tight a b (d ∷ ds)
skipped a b d ds f t = record {
  first = suc t.first;
  last = suc t.last;
  first_there = omega (arith, t.first_there);
  last_there = omega (arith, t.last_there);
  first_lies = t.first_lies;
  last_lies = t.last_lies;
  all = by;
}
  where
    by : (j : ℕ) → j < length (d ∷ ds) → lies_within a b (domain_at (d ∷ ds) j) ≡ true →
        (least_of (domain_at ds t.first) ≤ℤ least_of (domain_at (d ∷ ds) j)) × (greatest_of (domain_at (d ∷ ds) j) ≤ℤ greatest_of (domain_at ds t.last))
    by zero l e = absurd (not_both (lies_within a b d) e f)
    by (suc j) l e = t.all j (omega (arith, l)) e

-- the lower of two, and the higher
record Lower (a b : ℤ) (ds : List (List Span)) (d e : List Span) : Type 0 where
  place : ℕ
  there : place < length ds
  lies : lies_within a b (domain_at ds place) ≡ true
  first : least_of (domain_at ds place) ≤ℤ least_of d
  second : least_of (domain_at ds place) ≤ℤ least_of e

record Higher (a b : ℤ) (ds : List (List Span)) (d e : List Span) : Type 0 where
  place : ℕ
  there : place < length ds
  lies : lies_within a b (domain_at ds place) ≡ true
  first : greatest_of d ≤ℤ greatest_of (domain_at ds place)
  second : greatest_of e ≤ℤ greatest_of (domain_at ds place)

lower : (a b : ℤ) (d : List Span) (ds : List (List Span)) (k : ℕ) → k < length ds → lies_within a b d ≡ true → lies_within a b (domain_at ds k) ≡ true → Lower a b (d ∷ ds) d (domain_at ds k)
lower a b d ds k l h e = by_lt_z (least_of d) (least_of (domain_at ds k))
    (λ less. record { place = 0; there = omega arith; lies = h; first = omega (arith, ints); second = omega (arith, ints, less) })
    (λ more. record { place = suc k; there = omega (arith, l); lies = e; first = more; second = omega (arith, ints) })

higher : (a b : ℤ) (d : List Span) (ds : List (List Span)) (k : ℕ) → k < length ds → lies_within a b d ≡ true → lies_within a b (domain_at ds k) ≡ true → Higher a b (d ∷ ds) d (domain_at ds k)
higher a b d ds k l h e = by_lt_z (greatest_of (domain_at ds k)) (greatest_of d)
    (λ less. record { place = 0; there = omega arith; lies = h; first = omega (arith, ints); second = omega (arith, ints, less) })
    (λ more. record { place = suc k; there = omega (arith, l); lies = e; first = more; second = omega (arith, ints) })

taken-in : (a b : ℤ) (d : List Span) (ds : List (List Span)) → lies_within a b d ≡ true → (t : Tight a b ds) → Lower a b (d ∷ ds) d (domain_at ds t.first) → Higher a b (d ∷ ds) d (domain_at ds t.last) → Tight a b (d ∷ ds)
taken-in a b d ds h t x y = record {
  first = x.place;
  last = y.place;
  first_there = x.there;
  last_there = y.there;
  first_lies = x.lies;
  last_lies = y.lies;
  all = by;
}
  where
    by : (j : ℕ) → j < length (d ∷ ds) → lies_within a b (domain_at (d ∷ ds) j) ≡ true →
        (least_of (domain_at (d ∷ ds) x.place) ≤ℤ least_of (domain_at (d ∷ ds) j)) × (greatest_of (domain_at (d ∷ ds) j) ≤ℤ greatest_of (domain_at (d ∷ ds) y.place))
    by zero l e = (x.first, y.first)
    by (suc j) l e =
        let w = t.all j (omega (arith, l)) e in
        let low : least_of (domain_at (d ∷ ds) x.place) ≤ℤ least_of (domain_at ds t.first) = x.second in
        let high : greatest_of (domain_at ds t.last) ≤ℤ greatest_of (domain_at (d ∷ ds) y.place) = y.second in
        (omega (arith, ints, w.0, low), omega (arith, ints, w.1, high))

alone-in : (a b : ℤ) (d : List Span) (ds : List (List Span)) → lies_within a b d ≡ true → ((j : ℕ) → j < length ds → lies_within a b (domain_at ds j) ≡ false) → Tight a b (d ∷ ds)
alone-in a b d ds h none = record {
  first = 0;
  last = 0;
  first_there = omega arith;
  last_there = omega arith;
  first_lies = h;
  last_lies = h;
  all = by;
}
  where
    by : (j : ℕ) → j < length (d ∷ ds) → lies_within a b (domain_at (d ∷ ds) j) ≡ true → (least_of d ≤ℤ least_of (domain_at (d ∷ ds) j)) × (greatest_of (domain_at (d ∷ ds) j) ≤ℤ greatest_of d)
    by zero l e = (omega (arith, ints), omega (arith, ints))
    by (suc j) l e = absurd (not_both (lies_within a b (domain_at ds j)) e (none j (omega (arith, l))))

abbrev NoneWithin : ℤ → ℤ → List (List Span) → Type 0
NoneWithin a b ds = (j : ℕ) → j < length ds → lies_within a b (domain_at ds j) ≡ false

none-further : (a b : ℤ) (d : List Span) (ds : List (List Span)) → lies_within a b d ≡ false → NoneWithin a b ds → NoneWithin a b (d ∷ ds)
none-further a b d ds f none zero l = f
none-further a b d ds f none (suc j) l = none j (omega (arith, l))

tight-or-none : (a b : ℤ) (ds : List (List Span)) → Tight a b ds ⊎ NoneWithin a b ds
tight-or-none a b [] = inr (λ j l. absurd (omega (arith, l)))
tight-or-none a b (d ∷ ds) = elim (tight-or-none a b ds) [
  | inl t ↦ elim (cases_Bool (lies_within a b d)) [
    | inl h ↦ inl (taken-in a b d ds h t (lower a b d ds t.first t.first_there h t.first_lies) (higher a b d ds t.last t.last_there h t.last_lies))
    | inr f ↦ inl (skipped a b d ds f t)
  ]
  | inr none ↦ elim (cases_Bool (lies_within a b d)) [
    | inl h ↦ inl (alone-in a b d ds h none)
    | inr f ↦ inr (none-further a b d ds f none)
  ]
]

-- ---- how many lie within

none-counted : (a b : ℤ) (ds : List (List Span)) → NoneWithin a b ds → count_within a b ds ≡ 0
unfolding count_within
none-counted a b [] none = refl
none-counted a b (d ∷ ds) none =
    let f : lies_within a b d ≡ false = none 0 (omega arith) in
    rw f (none-counted a b ds (λ j l. none (suc j) (omega (arith, l))))

no-fewer : (a b a' b' : ℤ) (ds : List (List Span)) → ((j : ℕ) → j < length ds → lies_within a b (domain_at ds j) ≡ true → lies_within a' b' (domain_at ds j) ≡ true) → count_within a b ds ≤ count_within a' b' ds
unfolding count_within
no-fewer a b a' b' [] all = omega arith
no-fewer a b a' b' (d ∷ ds) all = cond_no_more (lies_within a b d) (lies_within a' b' d) (count_within a b ds) (count_within a' b' ds) (λ t. all 0 (omega arith) t)
    (no-fewer a b a' b' ds (λ j l t. all (suc j) (omega (arith, l)) t))

le-true : (x y : ℤ) → x ≤ℤ y → int_le x y ≡ true
le-true x y h = (le-decides x y).1 h

lies-parts : (a b : ℤ) (d : List Span) → lies_within a b d ≡ true → (a ≤ℤ least_of d) × (greatest_of d ≤ℤ b)
lies-parts a b d t = let p = and_parts (int_le a (least_of d)) (int_le (greatest_of d) b) t in ((le-decides a (least_of d)).0 p.0, (le-decides (greatest_of d) b).0 p.1)

-- ---- what the tight interval keeps the wider one keeps

wider-keeps : (a b a' b' : ℤ) (ds : List (List Span)) (k : ℕ) (n : ℤ) → a ≤ℤ a' → b' ≤ℤ b → count_within a b ds ≤ count_within a' b' ds → IntervalKeeps a' b' ds k n → IntervalKeeps a b ds k n
wider-keeps a b a' b' ds k n low high few h =
    let room : pos (count_within a' b' ds) ≤ℤ width a' b' = h.room in
    record {
      room = omega (arith, ints, low, high, few, room);
      taken = λ full outside inside.
          let same : a ≡ a' = omega (arith, ints, low, high, few, room, full) in
          let same' : b ≡ b' = omega (arith, ints, low, high, few, room, full) in
          let full' : pos (count_within a' b' ds) ≡ width a' b' = omega (arith, ints, low, high, few, room, full) in
          h.taken full' (subst (λ (z : ℤ). lies_within a' z (domain_at ds k) ≡ false) same' (subst (λ (z : ℤ). lies_within z b (domain_at ds k) ≡ false) same outside))
          (subst (λ (z : ℤ). z ≤ℤ n) same inside.0, subst (λ (z : ℤ). n ≤ℤ z) same' inside.1);
    }

no-room-needed : (a b : ℤ) (ds : List (List Span)) (k : ℕ) (n : ℤ) → a ≤ℤ b → count_within a b ds ≡ 0 → IntervalKeeps a b ds k n
no-room-needed a b ds k n o none = record { room = omega (arith, ints, o, none); taken = λ full outside inside. omega (arith, ints, o, none, full) }

abbrev pub AreOrdered : List (List Span) → Type 0
AreOrdered ds = (j : ℕ) → j < length ds → least_of (domain_at ds j) ≤ℤ greatest_of (domain_at ds j)

abbrev EndsKeep : List Span → List Span → List (List Span) → ℕ → ℤ → Type 0
EndsKeep d e ds k n = least_of d ≤ℤ greatest_of e → IntervalKeeps (least_of d) (greatest_of e) ds k n

abbrev AllEndsKeep : List (List Span) → ℕ → ℤ → Type 0
AllEndsKeep ds k n = (i : ℕ) → i < length ds → (j : ℕ) → j < length ds → EndsKeep (domain_at ds i) (domain_at ds j) ds k n

tight-keeps : (a b : ℤ) (ds : List (List Span)) (k : ℕ) (n : ℤ) → AreOrdered ds → AllEndsKeep ds k n → Tight a b ds → IntervalKeeps a b ds k n
tight-keeps a b ds k n ordered all t =
    let d : List Span = domain_at ds t.first in
    let e : List Span = domain_at ds t.last in
    let first = lies-parts a b d t.first_lies in
    let last = lies-parts a b e t.last_lies in
    let here : greatest_of d ≤ℤ greatest_of e = (t.all t.first t.first_there t.first_lies).1 in
    let o : least_of d ≤ℤ greatest_of d = ordered t.first t.first_there in
    let inside : least_of d ≤ℤ greatest_of e = omega (arith, ints, here, o) in
    wider-keeps a b (least_of d) (greatest_of e) ds k n first.0 last.1
    (no-fewer a b (least_of d) (greatest_of e) ds (λ j l h.
    let w = t.all j l h in
    and_from (int_le (least_of d) (least_of (domain_at ds j))) (int_le (greatest_of (domain_at ds j)) (greatest_of e)) (le-true (least_of d) (least_of (domain_at ds j)) w.0) (le-true (greatest_of (domain_at ds j)) (greatest_of e) w.1)))
    (all t.first t.first_there t.last t.last_there inside)

ends-keep-all : (a b : ℤ) (ds : List (List Span)) (k : ℕ) (n : ℤ) → AreOrdered ds → AllEndsKeep ds k n → a ≤ℤ b → IntervalKeeps a b ds k n
ends-keep-all a b ds k n ordered all o = elim (tight-or-none a b ds) [
  | inl t ↦ tight-keeps a b ds k n ordered all t
  | inr none ↦ no-room-needed a b ds k n o (none-counted a b ds none)
]

-- ---- the rule

ends-decides : (d e : List Span) (ds : List (List Span)) (k : ℕ) (n : ℤ) → Decides (ends_keep d e ds k n) (EndsKeep d e ds k n)
ends-decides d e ds k n = if_so-decides (int_le (least_of d) (greatest_of e)) (interval_keeps (least_of d) (greatest_of e) ds k n) (le-decides (least_of d) (greatest_of e))
    (λ o. interval-decides (least_of d) (greatest_of e) ds k n)

intervals-decides : (ds : List (List Span)) (k : ℕ) (n : ℤ) → Decides (intervals_keep ds k n) (AllEndsKeep ds k n)
intervals-decides ds k n = each_below-decides (λ i. each_below (length ds) (λ j. ends_keep (domain_at ds i) (domain_at ds j) ds k n))
    (λ i. (j : ℕ) → j < length ds → EndsKeep (domain_at ds i) (domain_at ds j) ds k n) (length ds)
    (λ i l. each_below-decides (λ j. ends_keep (domain_at ds i) (domain_at ds j) ds k n) (λ j. EndsKeep (domain_at ds i) (domain_at ds j) ds k n) (length ds)
    (λ j m. ends-decides (domain_at ds i) (domain_at ds j) ds k n))

pub distinct-decides : (ds : List (List Span)) (k : ℕ) (n : ℤ) → AreOrdered ds → Decides (distinct_keeps ds k n) (DistinctKeeps ds k n)
distinct-decides ds k n ordered = Decides-like (distinct_keeps ds k n)
    (λ h. (h.0, λ a b o. ends-keep-all a b ds k n ordered h.1 o))
    (λ h. (h.0, λ i l j m o. h.1 (least_of (domain_at ds i)) (greatest_of (domain_at ds j)) o))
    (Decides-and (different_keeps ds k n) (intervals_keep ds k n) (different-decides ds k n) (intervals-decides ds k n))
