-- The spans within the bounds of domains.
use Rattle.std.specs.Prelude.{◌≡◌, Bool, true, false, not, ◌&&◌, ◌||◌, List, [], ◌∷◌, ◌++◌, ℤ, pos, ◌+ℤ◌, ◌-ℤ◌, neg_ℤ, ◌≤ℤ◌, ◌<ℤ◌, int_le, refl, cond, ◌⊎◌}
use Rattle.std.specs.Int.{int_max, int_min}
use Rattle.std.specs.Ordering.{int_eq}
use Rattle.std.proofs.Common.{arith, ◌∙◌, ap, subst, rules, inl, inr}
use Rattle.std.proofs.lemmas.Int.{ints, clamps, by_lt_z}
use Rattle.std.proofs.lemmas.Bool.Decides.{Decides-int_eq}
use Rattle.pi_constraints.specs.declared.domain.TheConstants.{MAX_VALUE}
use Rattle.pi_constraints.specs.declared.domain.Span.{Span}
use Rattle.pi_constraints.specs.Domain.{AscendFrom, IsDomain, IsWithinBounds, span_has, has_value, overlap}
use Rattle.pi_constraints.proofs.DomainLemmas.{values_are_within_bounds}
use Rattle.pi_constraints.proofs.CommonLemmas.{AscendFrom-overlap, has_value-overlap}
use Rattle.pi_constraints.proofs.SpanLemmas.{AscendFrom-append, has_value-append, next_start}
use Rattle.pi_constraints.proofs.MeetLemmas.{overlap-exchange}

-- all that a domain can have
abbrev pub whole : Span
whole = record { lo = neg_ℤ MAX_VALUE; hi = MAX_VALUE }

pub IsDomain-clip : (s : Span) → IsDomain (overlap s whole)
IsDomain-clip s = subst IsDomain (overlap-exchange whole s) (AscendFrom-overlap (neg_ℤ MAX_VALUE) whole s (inl (omega (arith, ints))) (omega (arith, ints)))

whole_has : (n : ℤ) → IsWithinBounds n → span_has whole n ≡ true
whole_has n h = grind (arith, ints)

pub has_value-clip : (s : Span) (n : ℤ) → IsWithinBounds n → has_value (overlap s whole) n ≡ span_has s n
has_value-clip s n h = let w = whole_has n h in has_value-overlap s whole n ∙ grind (arith, w)

start_after : (s t : Span) (b : Bool) → int_le s.lo s.hi ≡ b → s.hi ≤ℤ MAX_VALUE → (s.hi +ℤ pos 2) ≤ℤ t.lo → (next_start (neg_ℤ MAX_VALUE) (cond b (s ∷ []) []) ≤ℤ whole.lo) ⊎ (next_start (neg_ℤ MAX_VALUE) (cond b (s ∷ []) []) ≤ℤ t.lo)
unfolding next_start
start_after s t true e top h = inr h
start_after s t false e top h = inl (omega (arith, ints))

start_after_clip : (s t : Span) → (s.hi +ℤ pos 2) ≤ℤ t.lo → (next_start (neg_ℤ MAX_VALUE) (overlap s whole) ≤ℤ whole.lo) ⊎ (next_start (neg_ℤ MAX_VALUE) (overlap s whole) ≤ℤ t.lo)
unfolding overlap
start_after_clip s t h =
    start_after (record { lo = int_max s.lo whole.lo; hi = int_min s.hi whole.hi }) t (int_le (int_max s.lo whole.lo) (int_min s.hi whole.hi)) refl (omega (arith, ints, clamps)) (omega (arith, ints, clamps))

-- two spans that neither overlap nor touch
pub IsDomain-clips : (s t : Span) → (s.hi +ℤ pos 2) ≤ℤ t.lo → IsDomain (overlap s whole ++ overlap t whole)
IsDomain-clips s t h =
    AscendFrom-append (neg_ℤ MAX_VALUE) (overlap s whole) (overlap t whole) (IsDomain-clip s)
    (subst (AscendFrom (next_start (neg_ℤ MAX_VALUE) (overlap s whole))) (overlap-exchange whole t)
    (AscendFrom-overlap (next_start (neg_ℤ MAX_VALUE) (overlap s whole)) whole t (start_after_clip s t h) (omega (arith, ints))))

unlike : (m n : ℤ) → (m <ℤ n) ⊎ (n <ℤ m) → int_eq m n ≡ false
unlike m n (inl b) = grind (arith, ints)
unlike m n (inr b) = grind (arith, ints)

pub int_eq_is : (m n : ℤ) → ((int_eq m n ≡ true) × (m ≡ n)) ⊎ ((int_eq m n ≡ false) × ((m <ℤ n) ⊎ (n <ℤ m)))
int_eq_is m n = by_lt_z m n (λ b. inr (unlike m n (inl b), inl b))
    (λ b. by_lt_z n m (λ g. inr (unlike m n (inr g), inr g)) (λ g. let e : m ≡ n = omega (arith, ints) in inl ((Decides-int_eq m n).1 e, e)))

beside : (n m : ℤ) (b : Bool) → IsWithinBounds m → ((b ≡ true) × (m ≡ n)) ⊎ ((b ≡ false) × ((m <ℤ n) ⊎ (n <ℤ m)))
    → (span_has (record { lo = neg_ℤ MAX_VALUE; hi = n -ℤ pos 1 }) m || span_has (record { lo = n +ℤ pos 1; hi = MAX_VALUE }) m) ≡ not b
beside n m b h (inl e) =
    let p : int_le m (n -ℤ pos 1) ≡ false = grind (arith, ints) in
    let q : int_le (n +ℤ pos 1) m ≡ false = grind (arith, ints) in
    grind (arith, p, q, e.0)
beside n m b h (inr (f, inl l)) =
    let p : int_le (neg_ℤ MAX_VALUE) m ≡ true = grind (arith, ints) in
    let q : int_le m (n -ℤ pos 1) ≡ true = grind (arith, ints) in
    grind (arith, p, q, f)
beside n m b h (inr (f, inr g)) =
    let p : int_le m (n -ℤ pos 1) ≡ false = grind (arith, ints) in
    let q : int_le (n +ℤ pos 1) m ≡ true = grind (arith, ints) in
    let r : int_le m MAX_VALUE ≡ true = grind (arith, ints) in
    grind (arith, p, q, r, f)

-- what a push of clipped numbers made of spans
pub clip_at : (old new : List Span) (lo hi low high : ℤ) → low ≡ lo → high ≡ hi → new ≡ old ++ overlap (record { lo = low; hi = high }) whole → new ≡ old ++ overlap (record { lo = lo; hi = hi }) whole
clip_at old new lo hi low high l h e =
    e ∙ (ap (λ (x : ℤ). old ++ overlap (record { lo = x; hi = high }) whole) l ∙ ap (λ (x : ℤ). old ++ overlap (record { lo = lo; hi = x }) whole) h)

pub first_clip : (old new : List Span) (lo hi low high : ℤ) → old ≡ [] → low ≡ lo → high ≡ hi → new ≡ old ++ overlap (record { lo = low; hi = high }) whole → new ≡ overlap (record { lo = lo; hi = hi }) whole
first_clip old new lo hi low high none l h e = clip_at old new lo hi low high l h e ∙ ap (λ (x : List Span). x ++ overlap (record { lo = lo; hi = hi }) whole) none

-- those below a number and those above it
pub has_value-clips : (n m : ℤ) → IsWithinBounds m
    → has_value (overlap (record { lo = neg_ℤ MAX_VALUE; hi = n -ℤ pos 1 }) whole ++ overlap (record { lo = n +ℤ pos 1; hi = MAX_VALUE }) whole) m ≡ not (int_eq m n)
has_value-clips n m h =
    let below : Span = record { lo = neg_ℤ MAX_VALUE; hi = n -ℤ pos 1 } in
    let above : Span = record { lo = n +ℤ pos 1; hi = MAX_VALUE } in
    has_value-append (overlap below whole) (overlap above whole) m
    ∙ (ap (λ (x : Bool). x || has_value (overlap above whole) m) (has_value-clip below m h)
    ∙ (ap (λ (x : Bool). span_has below m || x) (has_value-clip above m h)
    ∙ beside n m (int_eq m n) h (int_eq_is m n)))

kept_where : (b k t : Bool) → (b ≡ true → k ≡ t) → (b && k) ≡ (b && t)
kept_where true k t h = h refl
kept_where false k t h = refl

-- what is kept of a domain hangs on the values within the bounds alone
pub has_value-kept : (d kept : List Span) (test : ℤ → Bool) → IsDomain d → ((m : ℤ) → IsWithinBounds m → has_value kept m ≡ test m) → (m : ℤ) → (has_value d m && has_value kept m) ≡ (has_value d m && test m)
has_value-kept d kept test up h m = kept_where (has_value d m) (has_value kept m) (test m) (λ e. h m (values_are_within_bounds d m up (search rules)))

both_true : (b : Bool) → (b && true) ≡ b
both_true true = refl
both_true false = refl

pub low_part : (k : Bool) (n m lo hi : ℤ) → IsWithinBounds m → k ≡ (int_le lo m && int_le m hi) → lo ≡ n → hi ≡ MAX_VALUE → k ≡ int_le n m
low_part k n m lo hi h e l g =
    let t : int_le m hi ≡ true = grind (arith, ints) in
    e ∙ (ap (λ (x : Bool). int_le lo m && x) t ∙ (both_true (int_le lo m) ∙ ap (λ (x : ℤ). int_le x m) l))

pub high_part : (k : Bool) (n m lo hi : ℤ) → IsWithinBounds m → k ≡ (int_le lo m && int_le m hi) → hi ≡ n → lo ≡ neg_ℤ MAX_VALUE → k ≡ int_le m n
high_part k n m lo hi h e g l =
    let t : int_le lo m ≡ true = grind (arith, ints) in
    e ∙ (ap (λ (x : Bool). x && int_le m hi) t ∙ ap (λ (x : ℤ). int_le m x) g)

-- where the ends are within the bounds, all between them is
pub span_within : (lo hi n : ℤ) → (lo ≤ℤ hi → IsWithinBounds lo × IsWithinBounds hi) → (int_le lo n && int_le n hi) ≡ true → IsWithinBounds n
span_within lo hi n h e =
    let p : lo ≤ℤ n = grind (arith, ints) in
    let q : n ≤ℤ hi = grind (arith, ints) in
    let ends : IsWithinBounds lo × IsWithinBounds hi = h (omega (arith, ints)) in
    (omega (arith, ints, ends.0.0), omega (arith, ints, ends.1.1))

same_bool : (b t : Bool) → (b ≡ true → b ≡ t) → (t ≡ true → b ≡ t) → b ≡ t
same_bool true t h g = h refl
same_bool false true h g = g refl
same_bool false false h g = refl

pub has_value-span : (made : List Span) (lo hi : ℤ) → IsDomain made → ((n : ℤ) → IsWithinBounds n → has_value made n ≡ (int_le lo n && int_le n hi)) → (lo ≤ℤ hi → IsWithinBounds lo × IsWithinBounds hi)
    → (n : ℤ) → has_value made n ≡ (int_le lo n && int_le n hi)
has_value-span made lo hi up says ends n =
    same_bool (has_value made n) (int_le lo n && int_le n hi) (λ e. says n (values_are_within_bounds made n up (search rules))) (λ e. says n (span_within lo hi n ends e))
