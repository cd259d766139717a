-- Which place is picked, seen while the places are gone through.
use Rattle.std.proofs.Common.{◌≡◌, ℕ, zero, suc, ◌+◌, ◌<◌, ◌≤◌, Bool, true, false, cond, List, [], ◌∷◌, ◌++◌, length, drop, get_or, refl, sym, ap, ◌∙◌, subst, arith, add-one, true≢false}
use Rattle.std.specs.Prelude.{nat_lt, Option, Some, None, option_map, slice_get, IsTrue, ℤ, pos, ◌+ℤ◌, ◌≤ℤ◌, ◌<ℤ◌}
use Rattle.std.specs.Int.{int_gap}
use Rattle.std.proofs.lemmas.Int.{ints}
use Rattle.std.proofs.lemmas.List.{length-append, get_or_default}
use Rattle.pi_constraints.proofs.DomainLemmas.{gap_is, length-numbers_from}
use Rattle.std.specs.List.{last_or}
use Rattle.pi_constraints.specs.declared.domain.Span.{Span}
use Rattle.pi_constraints.specs.Domain.{IsWithinBounds, AscendFrom, IsDomain, numbers_from, values_of, size_of}
use Rattle.pi_settling.specs.Options.{VariableWord, forward, backward, ff}
use Rattle.pi_settling.specs.Choices.{Pending, smallest, picked}
use Rattle.pi_label.specs.Picks.{IsOpen, open_places, place_of, picked_place, smaller_of}
use Rattle.pi_label.specs.declared.picking.Smallest.{Smallest}

-- a place, with its domain
abbrev pub open_at : List (List Span) → ℕ → Pending
open_at ds k = record { variable = k; domain = get_or ds k [] }

-- what is picked where this one was the best so far and these are ahead
abbrev pub picked_from : VariableWord → Option Pending → List Pending → Option Pending
picked_from w None ps = picked ps w
picked_from forward (Some p) ps = Some p
picked_from backward (Some p) ps = last_or (Some p) ps
picked_from ff (Some p) ps = Some (smallest p ps)

-- what is picked of all is what is picked from this place on
abbrev pub IsPickedFrom : VariableWord → List (List Span) → Option Pending → ℕ → Type 0
IsPickedFrom w ds best i = picked_place w ds ≡ place_of (picked_from w best (open_places i (drop i ds)))

pub picked-at_first : (w : VariableWord) (ds : List (List Span)) → IsPickedFrom w ds None 0
unfolding picked_place
picked-at_first w ds = refl

-- ---- a domain with more values than one

wide-by_spans : (s t : Span) (ss : List Span) → IsOpen (s ∷ t ∷ ss)
unfolding values_of
wide-by_spans s t ss =
    let first : length (numbers_from s.lo (suc (int_gap s.lo s.hi))) ≡ suc (int_gap s.lo s.hi) = length-numbers_from s.lo (suc (int_gap s.lo s.hi)) in
    let second : length (numbers_from t.lo (suc (int_gap t.lo t.hi))) ≡ suc (int_gap t.lo t.hi) = length-numbers_from t.lo (suc (int_gap t.lo t.hi)) in
    let inner = length-append (numbers_from t.lo (suc (int_gap t.lo t.hi))) (values_of ss) in
    let outer = length-append (numbers_from s.lo (suc (int_gap s.lo s.hi))) (numbers_from t.lo (suc (int_gap t.lo t.hi)) ++ values_of ss) in
    omega arith

pub many-wide : (d : List Span) → 1 < length d → IsOpen d
many-wide [] h = absurd (omega arith)
many-wide (s ∷ []) h = absurd (omega arith)
many-wide (s ∷ t ∷ ss) h = wide-by_spans s t ss

pub size-one : (s : Span) → size_of (s ∷ []) ≡ suc (int_gap s.lo s.hi)
unfolding values_of
size-one s =
    let all = length-append (numbers_from s.lo (suc (int_gap s.lo s.hi))) [] in
    let first : length (numbers_from s.lo (suc (int_gap s.lo s.hi))) ≡ suc (int_gap s.lo s.hi) = length-numbers_from s.lo (suc (int_gap s.lo s.hi)) in
    all ∙ omega arith

start-end : (least : ℤ) (s : Span) (ss : List Span) → AscendFrom least (s ∷ ss) → s.lo ≤ℤ s.hi
unfolding AscendFrom
start-end least s ss up = up.1

pub one-wide : (d : List Span) (s : Span) (lo hi : ℤ) (test : Bool) → IsDomain d → slice_get d 0 ≡ Some s → (1 < length d → ⊥) → lo ≡ s.lo → hi ≡ s.hi → (test ≡ true → lo <ℤ hi) → (lo <ℤ hi → test ≡ true) → (IsTrue test → IsOpen d) × (IsOpen d → IsTrue test)
one-wide [] s lo hi test is e few a b f g = cc
one-wide (x ∷ y ∷ ss) s lo hi test is e few a b f g = absurd (few (omega arith))
one-wide (x ∷ []) s lo hi test is e few a b f g =
    let same : x ≡ s = cc in
    let low : x.lo ≡ lo = ap (λ (z : Span). z.lo) same ∙ sym a in
    let high : x.hi ≡ hi = ap (λ (z : Span). z.hi) same ∙ sym b in
    let up : x.lo ≤ℤ x.hi = start-end _ x [] is in
    let gap : x.lo +ℤ pos (int_gap x.lo x.hi) ≡ x.hi = gap_is x.lo x.hi up in
    let size = size-one x in
    (λ t. let l : lo <ℤ hi = f t in wide-when x lo hi low high gap size l, λ w. g (when-wide x lo hi low high gap size w))
  where
    wide-when : (x : Span) (lo hi : ℤ) → x.lo ≡ lo → x.hi ≡ hi → x.lo +ℤ pos (int_gap x.lo x.hi) ≡ x.hi → size_of (x ∷ []) ≡ suc (int_gap x.lo x.hi) → lo <ℤ hi → 1 < size_of (x ∷ [])
    wide-when x lo hi low high gap size l = omega (arith, ints)

    when-wide : (x : Span) (lo hi : ℤ) → x.lo ≡ lo → x.hi ≡ hi → x.lo +ℤ pos (int_gap x.lo x.hi) ≡ x.hi → size_of (x ∷ []) ≡ suc (int_gap x.lo x.hi) → 1 < size_of (x ∷ []) → lo <ℤ hi
    when-wide x lo hi low high gap size w = omega (arith, ints)

pub within-first : (d : List Span) (s : Span) → IsDomain d → slice_get d 0 ≡ Some s → IsWithinBounds s.lo × IsWithinBounds s.hi
unfolding AscendFrom
within-first [] s up e = cc
within-first (x ∷ ss) s up e =
    let same : x ≡ s = cc in
    let low : IsWithinBounds x.lo = (omega (arith, ints, up.0), omega (arith, ints, up.1, up.2)) in
    let high : IsWithinBounds x.hi = (omega (arith, ints, up.0, up.1), omega (arith, ints, up.2)) in
    subst (λ (z : Span). IsWithinBounds z.lo × IsWithinBounds z.hi) same (low, high)

pub none-wide : (d : List Span) → slice_get d 0 ≡ None → IsOpen d → ⊥
unfolding values_of
none-wide [] e w = omega arith
none-wide (x ∷ ss) e w = cc

-- ---- a place that is open, and one that isn't

open-ahead : (ds : List (List Span)) (at i : ℕ) → i < length ds → IsOpen (get_or ds i []) → open_places at (drop i ds) ≡ record { variable = at; domain = get_or ds i [] } ∷ open_places (suc at) (drop (suc i) ds)
unfolding open_places
open-ahead [] at i low wide = absurd (omega arith)
open-ahead (d ∷ ds) at zero low wide = let test : nat_lt 1 (size_of d) ≡ true = grind arith in rw test refl
open-ahead (d ∷ ds) at (suc i) low wide = open-ahead ds at i (omega arith) wide

closed-ahead : (ds : List (List Span)) (at i : ℕ) → i < length ds → (IsOpen (get_or ds i []) → ⊥) → open_places at (drop i ds) ≡ open_places (suc at) (drop (suc i) ds)
unfolding open_places
closed-ahead [] at i low closed = absurd (omega arith)
closed-ahead (d ∷ ds) at zero low closed = let test : nat_lt 1 (size_of d) ≡ false = grind arith in rw test refl
closed-ahead (d ∷ ds) at (suc i) low closed = closed-ahead ds at i (omega arith) closed

open-here : (ds : List (List Span)) (i : ℕ) → i < length ds → IsOpen (get_or ds i []) → open_places i (drop i ds) ≡ open_at ds i ∷ open_places (i + 1) (drop (i + 1) ds)
open-here ds i low wide = open-ahead ds i i low wide ∙ ap (λ k. open_at ds i ∷ open_places k (drop k ds)) (sym (add-one i))

none-ahead : (ds : List (List Span)) (i at : ℕ) → length ds ≤ i → open_places at (drop i ds) ≡ []
unfolding open_places
none-ahead [] zero at h = refl
none-ahead [] (suc i) at h = refl
none-ahead (d ∷ ds) zero at h = absurd (omega arith)
none-ahead (d ∷ ds) (suc i) at h = none-ahead ds i at (omega arith)

-- ---- turns

-- the element of a slice, as the code names it
pub element : (ds : List (List Span)) (i : ℕ) (x : List Span) → i < length ds → x ≡ get_or ds i x → get_or ds i [] ≡ x
element ds i x low e = get_or_default ds i [] x low ∙ sym e

pub wide-here : (ds : List (List Span)) (i : ℕ) (x : List Span) → i < length ds → x ≡ get_or ds i x → IsOpen x → IsOpen (get_or ds i [])
wide-here ds i x low e wide = subst IsOpen (sym (element ds i x low e)) wide

pub closed-here : (ds : List (List Span)) (i : ℕ) (x : List Span) (test : Bool) → i < length ds → x ≡ get_or ds i x → (IsOpen x → IsTrue test) → test ≡ false → IsOpen (get_or ds i []) → ⊥
closed-here ds i x test low e tests is wide = true≢false (sym (tests (subst IsOpen (element ds i x low e) wide)) ∙ is)

pub passed : (w : VariableWord) (ds : List (List Span)) (best : Option Pending) (i : ℕ) → i < length ds → (IsOpen (get_or ds i []) → ⊥) → IsPickedFrom w ds best i → IsPickedFrom w ds best (i + 1)
passed w ds best i low closed before =
    before ∙ ap (λ ps. place_of (picked_from w best ps)) (closed-ahead ds i i low closed ∙ ap (λ k. open_places k (drop k ds)) (sym (add-one i)))

taken-by : (w : VariableWord) (ds : List (List Span)) (best : Option Pending) (i : ℕ) → i < length ds → IsOpen (get_or ds i []) → IsPickedFrom w ds best i → picked_place w ds ≡ place_of (picked_from w best (open_at ds i ∷ open_places (i + 1) (drop (i + 1) ds)))
taken-by w ds best i low wide before = before ∙ ap (λ ps. place_of (picked_from w best ps)) (open-here ds i low wide)

pub first-taken : (ds : List (List Span)) (i : ℕ) → i < length ds → IsOpen (get_or ds i []) → IsPickedFrom forward ds None i → Some i ≡ picked_place forward ds
first-taken ds i low wide before = sym (taken-by forward ds None i low wide before)

pub last-taken : (ds : List (List Span)) (best : Option ℕ) (i : ℕ) → i < length ds → IsOpen (get_or ds i []) → IsPickedFrom backward ds (option_map (open_at ds) best) i → IsPickedFrom backward ds (option_map (open_at ds) (Some i)) (i + 1)
last-taken ds best i low wide before = taken-by backward ds (option_map (open_at ds) best) i low wide before ∙ same best
  where
    same : (o : Option ℕ) → place_of (picked_from backward (option_map (open_at ds) o) (open_at ds i ∷ open_places (i + 1) (drop (i + 1) ds))) ≡ place_of (last_or (Some (open_at ds i)) (open_places (i + 1) (drop (i + 1) ds)))
    same None = refl
    same (Some k) = refl

-- a place is told, with the size of its domain
abbrev pub HasSize : List (List Span) → Option Smallest → Type 0
HasSize ds None = Unit {0}
HasSize ds (Some s) = s.size ≡ size_of (get_or ds s.place [])

abbrev pub smallest_at : List (List Span) → Option Smallest → Option Pending
smallest_at ds o = option_map (λ (s : Smallest). open_at ds s.place) o

-- what is known of the smallest one
pub record IsSmallestTo (ds : List (List Span)) (best : Option Smallest) (i : ℕ) : Type 0 where
  pub goes : IsPickedFrom ff ds (smallest_at ds best) i
  pub size : HasSize ds best

pub smallest-at_first : (ds : List (List Span)) → IsSmallestTo ds None 0
smallest-at_first ds = record { goes = picked-at_first ff ds; size = tt }

pub smallest-passed : (ds : List (List Span)) (best : Option Smallest) (i : ℕ) → i < length ds → (IsOpen (get_or ds i []) → ⊥) → IsSmallestTo ds best i → IsSmallestTo ds best (i + 1)
smallest-passed ds best i low closed before = record { goes = passed ff ds (smallest_at ds best) i low closed before.goes; size = before.size }

one-smaller : (ds : List (List Span)) (s : Smallest) (i size : ℕ) (test : Bool) → size ≡ size_of (get_or ds i []) → s.size ≡ size_of (get_or ds s.place [])
    → picked_place ff ds ≡ place_of (Some (smallest (cond test (open_at ds i) (open_at ds s.place)) (open_places (i + 1) (drop (i + 1) ds)))) → IsSmallestTo ds (Some (cond test (record { place = i; size = size }) s)) (i + 1)
one-smaller ds s i size true is was goes = record { goes = goes; size = is }
one-smaller ds s i size false is was goes = record { goes = goes; size = was }

turn-goes : (ds : List (List Span)) (k i : ℕ) → i < length ds → IsOpen (get_or ds i []) → IsPickedFrom ff ds (Some (open_at ds k)) i
    → picked_place ff ds ≡ place_of (Some (smallest (cond (nat_lt (size_of (get_or ds i [])) (size_of (get_or ds k []))) (open_at ds i) (open_at ds k)) (open_places (i + 1) (drop (i + 1) ds))))
unfolding smallest
turn-goes ds k i low wide before = taken-by ff ds (Some (open_at ds k)) i low wide before

pub smallest-taken : (ds : List (List Span)) (best : Option Smallest) (i size : ℕ) (found : Smallest) → i < length ds → IsOpen (get_or ds i []) → size ≡ size_of (get_or ds i []) → found ≡ smaller_of best (record { place = i; size = size }) → IsSmallestTo ds best i → IsSmallestTo ds (Some found) (i + 1)
smallest-taken ds None i size found low wide is e before =
    subst (λ (s : Smallest). IsSmallestTo ds (Some s) (i + 1)) (sym e) (record { goes = taken-by ff ds None i low wide before.goes; size = is })
smallest-taken ds (Some s) i size found low wide is e before =
    let tests : nat_lt (size_of (get_or ds i [])) (size_of (get_or ds s.place [])) ≡ nat_lt size s.size = ap (λ n. nat_lt n (size_of (get_or ds s.place []))) (sym is) ∙ ap (nat_lt size) (sym before.size) in
    subst (λ (t : Smallest). IsSmallestTo ds (Some t) (i + 1)) (sym e) (one-smaller ds s i size (nat_lt size s.size) is before.size
    (turn-goes ds s.place i low wide before.goes ∙ ap (λ test. place_of (Some (smallest (cond test (open_at ds i) (open_at ds s.place)) (open_places (i + 1) (drop (i + 1) ds))))) tests))

-- ---- the end

ended : (p : Pending) → smallest p [] ≡ p
unfolding smallest
ended p = refl

best-is : (w : VariableWord) (best : Option Pending) → picked_from w best [] ≡ best
best-is forward None = refl
best-is forward (Some p) = refl
best-is backward None = refl
best-is backward (Some p) = refl
best-is ff None = refl
best-is ff (Some p) = ap Some (ended p)

pub picked-at_last : (w : VariableWord) (ds : List (List Span)) (best : Option Pending) (i : ℕ) → length ds ≤ i → IsPickedFrom w ds best i → place_of best ≡ picked_place w ds
picked-at_last w ds best i past before = sym (before ∙ ap place_of (ap (picked_from w best) (none-ahead ds i i past) ∙ best-is w best))

pub last-is : (ds : List (List Span)) (best : Option ℕ) (i : ℕ) → length ds ≤ i → IsPickedFrom backward ds (option_map (open_at ds) best) i → best ≡ picked_place backward ds
last-is ds best i past before = same best ∙ picked-at_last backward ds (option_map (open_at ds) best) i past before
  where
    same : (o : Option ℕ) → o ≡ place_of (option_map (open_at ds) o)
    same None = refl
    same (Some k) = refl

pub smallest-is : (ds : List (List Span)) (best : Option Smallest) (i : ℕ) → length ds ≤ i → IsSmallestTo ds best i → option_map (λ (s : Smallest). s.place) best ≡ picked_place ff ds
smallest-is ds best i past before = same best ∙ picked-at_last ff ds (smallest_at ds best) i past before.goes
  where
    same : (o : Option Smallest) → option_map (λ (s : Smallest). s.place) o ≡ place_of (smallest_at ds o)
    same None = refl
    same (Some s) = refl
