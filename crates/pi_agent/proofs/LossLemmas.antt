-- Values that are lost, from the least on.
use Rattle.std.specs.Prelude.{◌≡◌, ℕ, zero, suc, ◌+◌, ◌-◌, ◌<◌, ◌≤◌, ℤ, pos, negsuc, ◌+ℤ◌, neg_ℤ, ◌≤ℤ◌, ◌<ℤ◌, Bool, true, false, not, ◌&&◌, int_le, int_lt, List, [], ◌∷◌, ◌++◌, length, map, filter, slice_get, Some, None, refl}
use Rattle.std.specs.Int.{int_gap}
use Rattle.std.specs.List.Sorted.{IsPartitionPoint}
use Rattle.std.proofs.Common.{arith, sym, ◌∙◌, ap, subst, inl, inr, get_or, append_assoc, append-nil, drop}
use Rattle.std.proofs.lemmas.Bool.{cases_Bool}
use Rattle.std.proofs.lemmas.Int.{ints, by_lt_z}
use Rattle.std.proofs.lemmas.Option.{slice_get_within, get_or_from_slice_get}
use Rattle.pi_constraints.specs.declared.domain.Span.{Span}
use Rattle.pi_constraints.specs.declared.domain.TheConstants.{MAX_VALUE}
use Rattle.pi_constraints.specs.Domain.{IsWithinBounds, IsDomain, has_value, numbers_from, values_of}
use Rattle.pi_constraints.proofs.DomainLemmas.{gap_is}
use Rattle.pi_constraints.proofs.ExtremeLemmas.{ends_below, AscendFrom-get_or, has_value-found}
use Rattle.pi_prop_spec.specs.Ends.{greatest_of}
use Rattle.pi_constraints.specs.declared.event.Event.{Event}
use Rattle.pi_settling.specs.Events.{lost_values}
use Rattle.pi_agent.specs.Lost.{excluded, lost_from}

-- ---- where values end

pub value-end : (d : List Span) (at : ℕ) (n : ℤ) (s : Span) → IsDomain d → IsPartitionPoint (λ t. ends_below n t ≡ true) (λ t. ends_below n t ≡ false) d at → slice_get d at ≡ Some s → s.lo ≤ℤ n →
    (n ≤ℤ s.hi) × IsWithinBounds s.hi × ((m : ℤ) → n ≤ℤ m → m ≤ℤ s.hi → has_value d m ≡ true)
value-end d at n s up point there low =
    let inside : at < length d = slice_get_within d at s there in
    let here : get_or d at s ≡ s = get_or_from_slice_get d at s s there in
    let span = AscendFrom-get_or (neg_ℤ MAX_VALUE) d at s up inside in
    let reaches : int_lt (get_or d at s).hi n ≡ false = point.1 at s (omega arith) inside in
    let ordered : s.lo ≤ℤ s.hi = subst (λ (t : Span). t.lo ≤ℤ t.hi) here span.ordered in
    let from : neg_ℤ MAX_VALUE ≤ℤ s.lo = subst (λ (t : Span). neg_ℤ MAX_VALUE ≤ℤ t.lo) here span.from in
    let bounded : s.hi ≤ℤ MAX_VALUE = subst (λ (t : Span). t.hi ≤ℤ MAX_VALUE) here span.bounded in
    let high : n ≤ℤ s.hi = let f : int_lt s.hi n ≡ false = subst (λ (t : Span). int_lt t.hi n ≡ false) here reaches in grind (arith, ints) in (
      high,
      (omega (arith, ints, ordered, from), bounded),
      λ m a b.
          let is : has_value d m ≡ int_le (get_or d at s).lo m =
          has_value-found (neg_ℤ MAX_VALUE) d at m s up inside (λ k l. let t : int_lt (get_or d k s).hi n ≡ true = point.0 k s (omega arith) l in grind (arith, ints, a))
          (subst (λ (t : Span). m ≤ℤ t.hi) (sym here) b) in
          is ∙ (ap (λ (t : Span). int_le t.lo m) here ∙ (let h : s.lo ≤ℤ m = omega (arith, ints, low, a) in grind (arith, ints, h))),
    )

pub value-behind : (d : List Span) (at : ℕ) (n : ℤ) (s : Span) → IsDomain d → IsPartitionPoint (λ t. ends_below n t ≡ true) (λ t. ends_below n t ≡ false) d at → slice_get d at ≡ Some s → n <ℤ s.lo → has_value d n ≡ false
value-behind d at n s up point there low =
    let inside : at < length d = slice_get_within d at s there in
    let here : get_or d at s ≡ s = get_or_from_slice_get d at s s there in
    let is : has_value d n ≡ int_le (get_or d at s).lo n =
    has_value-found (neg_ℤ MAX_VALUE) d at n s up inside (λ k l. let t : int_lt (get_or d k s).hi n ≡ true = point.0 k s (omega arith) l in grind (arith, ints))
    (let f : int_lt (get_or d at s).hi n ≡ false = point.1 at s (omega arith) inside in grind (arith, ints)) in
    is ∙ (ap (λ (t : Span). int_le t.lo n) here ∙ grind (arith, ints, low))

-- ---- ends

pub greatest-at : (d : List Span) (s : Span) (k : ℕ) → suc k ≡ length d → slice_get d k ≡ Some s → s.hi ≡ greatest_of d
unfolding greatest_of
greatest-at [] s k count is = absurd (omega arith)
greatest-at (t ∷ []) s zero count is = let same : t ≡ s = cc in ap (λ (x : Span). x.hi) (sym same)
greatest-at (t ∷ []) s (suc k) count is = absurd (omega arith)
greatest-at (t ∷ u ∷ ss) s zero count is = absurd (omega arith)
greatest-at (t ∷ u ∷ ss) s (suc k) count is = greatest-at (u ∷ ss) s k (omega arith) is

pub greatest-none : (d : List Span) → slice_get d 0 ≡ None → pos 0 ≡ greatest_of d
unfolding greatest_of
greatest-none [] is = refl
greatest-none (s ∷ ss) is = absurd (cc)

-- ---- numbers that are values are passed over

pub lost-here : (e : List Span) (n : ℤ) (c : ℕ) → has_value e n ≡ false → lost_from e n (suc c) ≡ n ∷ lost_from e (n +ℤ pos 1) c
unfolding lost_from numbers_from
lost-here e n c none = rw none refl

kept-here : (e : List Span) (n : ℤ) (c : ℕ) → has_value e n ≡ true → lost_from e n (suc c) ≡ lost_from e (n +ℤ pos 1) c
unfolding lost_from numbers_from
kept-here e n c is = rw is refl

-- so many values
AreValues : List Span → ℤ → ℕ → Type 0
AreValues e n k = (m : ℤ) → n ≤ℤ m → m <ℤ (n +ℤ pos k) → has_value e m ≡ true

passed-over : (e : List Span) (n m : ℤ) (k c : ℕ) → AreValues e n k → m ≡ (n +ℤ pos k) → lost_from e n (k + c) ≡ lost_from e m c
unfolding AreValues
passed-over e n m zero c all is = ap (λ (k : ℕ). lost_from e n k) (let none : 0 + c ≡ c = omega arith in none) ∙ ap (λ (i : ℤ). lost_from e i c) (let same : n ≡ m = omega (arith, ints, is) in same)
passed-over e n m (suc k) c all is =
    ap (λ (j : ℕ). lost_from e n j) (let one : suc k + c ≡ suc (k + c) = omega arith in one)
    ∙ (kept-here e n (k + c) (all n (omega (arith, ints)) (omega (arith, ints)))
    ∙ passed-over e (n +ℤ pos 1) m k c (λ i a b. all i (omega (arith, ints, a)) (omega (arith, ints, b))) (omega (arith, ints, is)))

pub gap-none : (i j : ℤ) → j ≤ℤ i → int_gap i j ≡ 0
gap-none (pos a) (pos b) h = omega (arith, ints)
gap-none (pos a) (negsuc b) h = refl
gap-none (negsuc a) (pos b) h = absurd (omega (arith, ints))
gap-none (negsuc a) (negsuc b) h = omega (arith, ints)

none-from : (e : List Span) (n : ℤ) → lost_from e n 0 ≡ []
unfolding lost_from numbers_from
none-from e n = refl

are-values : (e : List Span) (n end : ℤ) (k : ℕ) → n +ℤ pos k ≡ (end +ℤ pos 1) → ((m : ℤ) → n ≤ℤ m → m ≤ℤ end → has_value e m ≡ true) → AreValues e n k
unfolding AreValues
are-values e n end k is all m a b = all m a (omega (arith, ints, is, b))

are-values-to : (e : List Span) (n end hi : ℤ) (k : ℕ) → n +ℤ pos k ≡ (hi +ℤ pos 1) → hi ≤ℤ end → ((m : ℤ) → n ≤ℤ m → m ≤ℤ end → has_value e m ≡ true) → AreValues e n k
unfolding AreValues
are-values-to e n end hi k is reach all m a b = all m a (omega (arith, ints, is, b, reach))

-- from a number on whose values reach to an end
pub lost-jump : (e : List Span) (n end hi : ℤ) → n ≤ℤ end → n ≤ℤ hi → ((m : ℤ) → n ≤ℤ m → m ≤ℤ end → has_value e m ≡ true) →
    lost_from e n (int_gap n (hi +ℤ pos 1)) ≡ lost_from e (end +ℤ pos 1) (int_gap (end +ℤ pos 1) (hi +ℤ pos 1))
lost-jump e n end hi low high all = by_lt_z end hi
    (λ b.
    let whole = gap_is n (hi +ℤ pos 1) (omega (arith, ints, high)) in
    let first = gap_is n (end +ℤ pos 1) (omega (arith, ints, low)) in
    let rest = gap_is (end +ℤ pos 1) (hi +ℤ pos 1) (omega (arith, ints, b)) in
    let count : int_gap n (hi +ℤ pos 1) ≡ int_gap n (end +ℤ pos 1) + int_gap (end +ℤ pos 1) (hi +ℤ pos 1) = omega (arith, ints, whole, first, rest) in
    ap (λ (c : ℕ). lost_from e n c) count
    ∙ passed-over e n (end +ℤ pos 1) (int_gap n (end +ℤ pos 1)) (int_gap (end +ℤ pos 1) (hi +ℤ pos 1)) (are-values e n end (int_gap n (end +ℤ pos 1)) first all) (sym first))
    (λ b.
    let whole = gap_is n (hi +ℤ pos 1) (omega (arith, ints, high)) in
    let none : int_gap (end +ℤ pos 1) (hi +ℤ pos 1) ≡ 0 = gap-none (end +ℤ pos 1) (hi +ℤ pos 1) (omega (arith, ints, b)) in
    let count : int_gap n (hi +ℤ pos 1) ≡ int_gap n (hi +ℤ pos 1) + 0 = omega arith in
    ap (λ (c : ℕ). lost_from e n c) count
    ∙ (passed-over e n (hi +ℤ pos 1) (int_gap n (hi +ℤ pos 1)) 0 (are-values-to e n end hi (int_gap n (hi +ℤ pos 1)) whole b all) (sym whole)
    ∙ (none-from e (hi +ℤ pos 1) ∙ sym (ap (λ (c : ℕ). lost_from e (end +ℤ pos 1) c) none ∙ none-from e (end +ℤ pos 1)))))

pub lost-step : (e : List Span) (n hi : ℤ) → n ≤ℤ hi → has_value e n ≡ false → lost_from e n (int_gap n (hi +ℤ pos 1)) ≡ n ∷ lost_from e (n +ℤ pos 1) (int_gap (n +ℤ pos 1) (hi +ℤ pos 1))
lost-step e n hi high none =
    let whole = gap_is n (hi +ℤ pos 1) (omega (arith, ints, high)) in
    let rest = gap_is (n +ℤ pos 1) (hi +ℤ pos 1) (omega (arith, ints, high)) in
    let count : int_gap n (hi +ℤ pos 1) ≡ suc (int_gap (n +ℤ pos 1) (hi +ℤ pos 1)) = omega (arith, ints, whole, rest) in
    ap (λ (c : ℕ). lost_from e n c) count ∙ lost-here e n (int_gap (n +ℤ pos 1) (hi +ℤ pos 1)) none

pub lost-start : (e : List Span) (lo hi : ℤ) → lo ≤ℤ hi → lost_from e lo (int_gap lo (hi +ℤ pos 1)) ≡ lost_from e lo (suc (int_gap lo hi))
lost-start e lo hi high =
    let whole = gap_is lo (hi +ℤ pos 1) (omega (arith, ints, high)) in
    let part = gap_is lo hi high in
    ap (λ (c : ℕ). lost_from e lo c) (let count : int_gap lo (hi +ℤ pos 1) ≡ suc (int_gap lo hi) = omega (arith, ints, whole, part) in count)

pub gap-less : (n m hi : ℤ) → n ≤ℤ hi → n <ℤ m → int_gap m (hi +ℤ pos 1) < int_gap n (hi +ℤ pos 1)
gap-less n m hi high more = by_lt_z m (hi +ℤ pos 1)
    (λ b. let whole = gap_is n (hi +ℤ pos 1) (omega (arith, ints, high)) in let rest = gap_is m (hi +ℤ pos 1) (omega (arith, ints, b)) in omega (arith, ints, whole, rest, more))
    (λ b. let whole = gap_is n (hi +ℤ pos 1) (omega (arith, ints, high)) in let none = gap-none m (hi +ℤ pos 1) b in omega (arith, ints, whole, none))

-- ---- span by span

filter-append : (p : ℤ → Bool) (xs ys : List ℤ) → filter p (xs ++ ys) ≡ filter p xs ++ filter p ys
filter-append p [] ys = refl
filter-append p (x ∷ xs) ys = elim (cases_Bool (p x)) [
  | inl e ↦ rw e (ap (λ (zs : List ℤ). x ∷ zs) (filter-append p xs ys))
  | inr e ↦ rw e (filter-append p xs ys)
]

map-append : {X Y : Type 0} (f : X → Y) (xs ys : List X) → map f (xs ++ ys) ≡ map f xs ++ map f ys
map-append f [] ys = refl
map-append f (x ∷ xs) ys = ap (λ zs. f x ∷ zs) (map-append f xs ys)

pub lost-span : (v : ℕ) (ends s : Span) (ss e : List Span) → excluded v ends (lost_values (s ∷ ss) e) ≡ excluded v ends (lost_from e s.lo (suc (int_gap s.lo s.hi))) ++ excluded v ends (lost_values ss e)
unfolding values_of lost_from
lost-span v ends s ss e =
    let f : ℤ → Event = λ i. Event.Excluded v i (int_lt ends.lo i && int_lt i ends.hi) in
    let p : ℤ → Bool = λ i. not (has_value e i) in
    ap (map f) (filter-append p (numbers_from s.lo (suc (int_gap s.lo s.hi))) (values_of ss)) ∙ map-append f (filter p (numbers_from s.lo (suc (int_gap s.lo s.hi)))) (filter p (values_of ss))

pub slice-past : (d : List Span) (k : ℕ) → slice_get d k ≡ None → length d ≤ k
slice-past [] k is = omega arith
slice-past (s ∷ ss) zero is = absurd (cc)
slice-past (s ∷ ss) (suc k) is = let rest : length ss ≤ k = slice-past ss k is in omega (arith, rest)

pub last-within : (d : List Span) (s : Span) → IsDomain d → slice_get d (length d - 1) ≡ Some s → (s.hi ≡ greatest_of d) × IsWithinBounds s.hi
last-within d s up is =
    let inside : length d - 1 < length d = slice_get_within d (length d - 1) s is in
    let span = AscendFrom-get_or (neg_ℤ MAX_VALUE) d (length d - 1) s up inside in
    let here : get_or d (length d - 1) s ≡ s = get_or_from_slice_get d (length d - 1) s s is in
    let ordered : s.lo ≤ℤ s.hi = subst (λ (t : Span). t.lo ≤ℤ t.hi) here span.ordered in
    let from : neg_ℤ MAX_VALUE ≤ℤ s.lo = subst (λ (t : Span). neg_ℤ MAX_VALUE ≤ℤ t.lo) here span.from in
    let bounded : s.hi ≤ℤ MAX_VALUE = subst (λ (t : Span). t.hi ≤ℤ MAX_VALUE) here span.bounded in
    (greatest-at d s (length d - 1) (omega (arith, inside)) is, (omega (arith, ints, ordered, from), bounded))

pub span-within : (d : List Span) (k : ℕ) → IsDomain d → k < length d → (e : Span) → IsWithinBounds (get_or d k e).lo × IsWithinBounds (get_or d k e).hi
span-within d k up inside e =
    let span = AscendFrom-get_or (neg_ℤ MAX_VALUE) d k e up inside in
    ((span.from, omega (arith, ints, span.ordered, span.bounded)), (omega (arith, ints, span.from, span.ordered), span.bounded))

pub at-most : (x y a b : ℤ) → int_le x y ≡ true → x ≡ a → y ≡ b → a ≤ℤ b
at-most x y a b h e f = grind (arith, ints, h, e, f)

pub below : (x y a b : ℤ) → int_le x y ≡ false → x ≡ a → y ≡ b → b <ℤ a
below x y a b h e f = grind (arith, ints, h, e, f)

-- ---- turns of the loop over values

-- the events so far, and those of the values from a number on that are told still
abbrev pub ToldFrom : ℕ → Span → List Span → ℤ → ℤ → List Event → List Event → ℤ → Type 0
ToldFrom v ends e lo hi old events from = events ++ excluded v ends (lost_from e from (int_gap from (hi +ℤ pos 1))) ≡ old ++ excluded v ends (lost_from e lo (suc (int_gap lo hi)))

pub told-jump : (v : ℕ) (ends : Span) (e : List Span) (lo hi : ℤ) (old events : List Event) (from end next : ℤ) → next ≡ (end +ℤ pos 1) → from ≤ℤ hi → from ≤ℤ end → ((m : ℤ) → from ≤ℤ m → m ≤ℤ end → has_value e m ≡ true) →
    ToldFrom v ends e lo hi old events from → ToldFrom v ends e lo hi old events next
told-jump v ends e lo hi old events from end next is high low all h =
    subst (λ (z : ℤ). ToldFrom v ends e lo hi old events z) (sym is) (ap (λ (xs : List ℤ). events ++ excluded v ends xs) (sym (lost-jump e from end hi low high all)) ∙ h)

pub told-lost : (v : ℕ) (ends : Span) (e : List Span) (lo hi : ℤ) (old events pushed : List Event) (from next : ℤ) (inner : Bool) → next ≡ (from +ℤ pos 1) → from ≤ℤ hi → has_value e from ≡ false → inner ≡ (int_lt ends.lo from && int_lt from ends.hi) →
    pushed ≡ events ++ Event.Excluded v from inner ∷ [] → ToldFrom v ends e lo hi old events from → ToldFrom v ends e lo hi old pushed next
told-lost v ends e lo hi old events pushed from next inner is high none between push h =
    let event : Event = Event.Excluded v from (int_lt ends.lo from && int_lt from ends.hi) in
    let rest : List Event = excluded v ends (lost_from e (from +ℤ pos 1) (int_gap (from +ℤ pos 1) (hi +ℤ pos 1))) in
    let here : excluded v ends (lost_from e from (int_gap from (hi +ℤ pos 1))) ≡ event ∷ rest = ap (excluded v ends) (lost-step e from hi high none) in
    let so-far : pushed ≡ events ++ event ∷ [] = push ∙ ap (λ (b : Bool). events ++ Event.Excluded v from b ∷ []) between in
    subst (λ (z : ℤ). ToldFrom v ends e lo hi old pushed z) (sym is)
    (ap (λ (xs : List Event). xs ++ rest) so-far ∙ (append_assoc events (event ∷ []) rest ∙ (ap (λ (xs : List Event). events ++ xs) (sym here) ∙ h)))

pub told-start : (v : ℕ) (ends : Span) (e : List Span) (lo hi from : ℤ) (old : List Event) → from ≡ lo → lo ≤ℤ hi → ToldFrom v ends e lo hi old old from
told-start v ends e lo hi from old is high = subst (λ (z : ℤ). ToldFrom v ends e lo hi old old z) (sym is) (ap (λ (xs : List ℤ). old ++ excluded v ends xs) (lost-start e lo hi high))

pub told-end : (v : ℕ) (ends : Span) (e : List Span) (lo hi : ℤ) (old events : List Event) (from : ℤ) → hi <ℤ from → ToldFrom v ends e lo hi old events from → events ≡ old ++ excluded v ends (lost_from e lo (suc (int_gap lo hi)))
told-end v ends e lo hi old events from past h =
    let none : int_gap from (hi +ℤ pos 1) ≡ 0 = gap-none from (hi +ℤ pos 1) (omega (arith, ints, past)) in
    let nothing : lost_from e from (int_gap from (hi +ℤ pos 1)) ≡ [] = ap (λ (c : ℕ). lost_from e from c) none ∙ none-from e from in
    sym (append-nil events) ∙ (ap (λ (xs : List ℤ). events ++ excluded v ends xs) (sym nothing) ∙ h)

pub gap-falls : (from next hi : ℤ) → from ≤ℤ hi → from <ℤ next → int_gap next (hi +ℤ pos 1) < int_gap from (hi +ℤ pos 1)
gap-falls from next hi high more = gap-less from next hi high more

-- ---- turns of the loop over spans

drop_cons_at : (d : List Span) (k : ℕ) (e : Span) → k < length d → drop k d ≡ get_or d k e ∷ drop (suc k) d
drop_cons_at [] k e inside = absurd (omega arith)
drop_cons_at (t ∷ ts) zero e inside = refl
drop_cons_at (t ∷ ts) (suc k) e inside = drop_cons_at ts k e (omega arith)

pub span-ordered : (d : List Span) (k : ℕ) → IsDomain d → k < length d → (e : Span) → (get_or d k e).lo ≤ℤ (get_or d k e).hi
span-ordered d k up inside e = (AscendFrom-get_or (neg_ℤ MAX_VALUE) d k e up inside).ordered

pub lost-turn : (v : ℕ) (ends : Span) (d ss e : List Span) (k : ℕ) (blank : Span) (old events pushed : List Event) → ss ≡ d → k < length ss → events ++ excluded v ends (lost_values (drop k d) e) ≡ old →
    pushed ≡ events ++ excluded v ends (lost_from e (get_or ss k blank).lo (suc (int_gap (get_or ss k blank).lo (get_or ss k blank).hi))) → pushed ++ excluded v ends (lost_values (drop (k + 1) d) e) ≡ old
lost-turn v ends d ss e k blank old events pushed same inside h push =
    let s : Span = get_or ss k blank in
    let first : List Event = excluded v ends (lost_from e s.lo (suc (int_gap s.lo s.hi))) in
    let rest : List Event = excluded v ends (lost_values (drop (k + 1) d) e) in
    let one : suc k ≡ k + 1 = omega arith in
    let split : drop k d ≡ s ∷ drop (k + 1) d = ap (drop k) (sym same) ∙ (drop_cons_at ss k blank inside ∙ (ap (λ (j : ℕ). s ∷ drop j ss) one ∙ ap (λ (xs : List Span). s ∷ drop (k + 1) xs) same)) in
    let whole : excluded v ends (lost_values (drop k d) e) ≡ first ++ rest = ap (λ (xs : List Span). excluded v ends (lost_values xs e)) split ∙ lost-span v ends s (drop (k + 1) d) e in
    ap (λ (xs : List Event). xs ++ rest) push ∙ (append_assoc events first rest ∙ (ap (λ (xs : List Event). events ++ xs) (sym whole) ∙ h))

drop_past : (k : ℕ) (d : List Span) → length d ≤ k → drop k d ≡ []
drop_past zero [] h = refl
drop_past (suc k) [] h = refl
drop_past zero (s ∷ ss) h = absurd (omega arith)
drop_past (suc k) (s ∷ ss) h = drop_past k ss (omega arith)

none-lost : (v : ℕ) (ends : Span) (e : List Span) → excluded v ends (lost_values [] e) ≡ []
unfolding values_of
none-lost v ends e = refl

pub lost-done : (v : ℕ) (ends : Span) (d ss e : List Span) (k : ℕ) (events whole : List Event) → ss ≡ d → length ss ≤ k → events ++ excluded v ends (lost_values (drop k d) e) ≡ whole → events ≡ whole
lost-done v ends d ss e k events whole same past h =
    let end : drop k d ≡ [] = ap (drop k) (sym same) ∙ drop_past k ss past in
    sym (append-nil events) ∙ (ap (λ (xs : List Event). events ++ xs) (sym (ap (λ (xs : List Span). excluded v ends (lost_values xs e)) end ∙ none-lost v ends e)) ∙ h)
