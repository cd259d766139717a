-- What two domains have in common, and how many values a domain has.
use Rattle.std.specs.Prelude.{◌≡◌, Bool, true, false, ◌&&◌, ◌||◌, List, [], ◌∷◌, ◌++◌, ℕ, zero, suc, ◌+◌, length, ℤ, pos, ◌≤◌, ◌+ℤ◌, neg_ℤ, ◌≤ℤ◌, ◌<ℤ◌, int_le, int_lt, refl, cond, ◌⊎◌}
use Rattle.std.specs.Int.{int_max, int_min, int_gap}
use Rattle.std.proofs.Common.{arith, sym, ◌∙◌, ap, subst, inl, inr, length-append, append_assoc}
use Rattle.std.proofs.lemmas.Bool.{cases_Bool}
use Rattle.std.proofs.lemmas.Int.{ints, clamps}
use Rattle.pi_constraints.specs.declared.domain.TheConstants.{MAX_VALUE}
use Rattle.pi_constraints.specs.declared.domain.Span.{Span}
use Rattle.pi_constraints.proofs.SpanLemmas.{AscendFrom-lower, has_value-append}
use Rattle.pi_constraints.proofs.DomainLemmas.{length-numbers_from, gap_is}
use Rattle.pi_constraints.specs.Domain.{AscendFrom, IsDomain, span_has, has_value, numbers_from, values_of, size_of, overlap, shared, common, CommonIsADomain, CommonHasTheValuesOfBoth}

-- ---- what two spans share

greater_start : (x y n : ℤ) (b : Bool) → int_lt y x ≡ b → int_le (cond b x y) n ≡ (int_le x n && int_le y n)
greater_start x y n true e = grind (arith, ints)
greater_start x y n false e = grind (arith, ints)

lesser_end : (x y n : ℤ) (b : Bool) → int_lt y x ≡ b → int_le n (cond b y x) ≡ (int_le n x && int_le n y)
lesser_end x y n true e = grind (arith, ints)
lesser_end x y n false e = grind (arith, ints)

both : (p q r s : Bool) → ((p && q) && (r && s)) ≡ ((p && r) && (q && s))
both true q true s = refl
both true true false s = refl
both true false false s = refl
both false q r s = refl

-- a span as a list, and no span where its end is below its start
has_value-cond : (s : Span) (n : ℤ) (b : Bool) → int_le s.lo s.hi ≡ b → has_value (cond b (s ∷ []) []) n ≡ span_has s n
unfolding has_value
has_value-cond s n true e = grind arith
has_value-cond s n false e = grind (arith, ints)

-- two spans share the numbers from the greater start to the lesser end
pub has_value-overlap : (a b : Span) (n : ℤ) → has_value (overlap a b) n ≡ (span_has a n && span_has b n)
unfolding overlap
has_value-overlap a b n =
    let l = greater_start a.lo b.lo n (int_lt b.lo a.lo) refl in
    let h = lesser_end a.hi b.hi n (int_lt b.hi a.hi) refl in
    has_value-cond (record { lo = int_max a.lo b.lo; hi = int_min a.hi b.hi }) n (int_le (int_max a.lo b.lo) (int_min a.hi b.hi)) refl
    ∙ (ap (λ (x : Bool). x && int_le n (int_min a.hi b.hi)) l
    ∙ (ap (λ (x : Bool). (int_le a.lo n && int_le b.lo n) && x) h
    ∙ both (int_le a.lo n) (int_le b.lo n) (int_le n a.hi) (int_le n b.hi)))

ascends : (least : ℤ) (s : Span) (b : Bool) → int_le s.lo s.hi ≡ b → least ≤ℤ s.lo → s.hi ≤ℤ MAX_VALUE → AscendFrom least (cond b (s ∷ []) [])
unfolding AscendFrom
ascends least s true e low high = (low, grind (arith, ints), high, tt)
ascends least s false e low high = tt

-- spans from where one of the two starts on
pub AscendFrom-overlap : (least : ℤ) (a b : Span) → (least ≤ℤ a.lo) ⊎ (least ≤ℤ b.lo) → (a.hi ≤ℤ MAX_VALUE) → AscendFrom least (overlap a b)
unfolding overlap
AscendFrom-overlap least a b (inl h) top =
    ascends least (record { lo = int_max a.lo b.lo; hi = int_min a.hi b.hi }) (int_le (int_max a.lo b.lo) (int_min a.hi b.hi)) refl (omega (arith, ints, clamps)) (omega (arith, ints, clamps))
AscendFrom-overlap least a b (inr h) top =
    ascends least (record { lo = int_max a.lo b.lo; hi = int_min a.hi b.hi }) (int_le (int_max a.lo b.lo) (int_min a.hi b.hi)) refl (omega (arith, ints, clamps)) (omega (arith, ints, clamps))

-- ---- how many values

pub size_of-cons : (s : Span) (ss : List Span) → size_of (s ∷ ss) ≡ suc (int_gap s.lo s.hi) + size_of ss
unfolding values_of
size_of-cons s ss = length-append (numbers_from s.lo (suc (int_gap s.lo s.hi))) (values_of ss) ∙ ap (λ (k : ℕ). k + size_of ss) (length-numbers_from s.lo (suc (int_gap s.lo s.hi)))

-- ---- what two domains have in common

least_part : (p q r : Bool) → ((p && q) || (p && r)) ≡ (p && (q || r))
least_part true q r = refl
least_part false q r = refl

other_part : (p q r : Bool) → ((p && r) || (q && r)) ≡ ((p || q) && r)
other_part true true true = refl
other_part true false true = refl
other_part true true false = refl
other_part true false false = refl
other_part false q r = refl

has_value-shared : (a : Span) (e : List Span) (n : ℤ) → has_value (shared a e) n ≡ (span_has a n && has_value e n)
unfolding shared has_value
has_value-shared a [] n = elim (span_has a n) as (λ b. false ≡ (b && false)) [ true ↦ refl | false ↦ refl ]
has_value-shared a (b ∷ e) n =
    has_value-append (overlap a b) (shared a e) n
    ∙ (ap (λ (x : Bool). x || has_value (shared a e) n) (has_value-overlap a b n)
    ∙ (ap (λ (x : Bool). (span_has a n && span_has b n) || x) (has_value-shared a e n)
    ∙ least_part (span_has a n) (span_has b n) (has_value e n)))

pub has_value-common : CommonHasTheValuesOfBoth
unfolding common has_value
has_value-common [] e n = refl
has_value-common (a ∷ d) e n =
    has_value-append (shared a e) (common d e) n
    ∙ (ap (λ (x : Bool). x || has_value (common d e) n) (has_value-shared a e n)
    ∙ (ap (λ (x : Bool). (span_has a n && has_value e n) || x) (has_value-common d e n)
    ∙ other_part (span_has a n) (has_value d n) (has_value e n)))

-- a span that may be empty stands in front of others
in_front : (least : ℤ) (s : Span) (rest : List Span) (b : Bool) → int_le s.lo s.hi ≡ b → least ≤ℤ s.lo → s.hi ≤ℤ MAX_VALUE → AscendFrom least rest → (least ≤ℤ (s.hi +ℤ pos 2) → AscendFrom (s.hi +ℤ pos 2) rest) → AscendFrom least (cond b (s ∷ []) [] ++ rest)
unfolding AscendFrom
in_front least s rest true e low high up more = let ordered : s.lo ≤ℤ s.hi = grind (arith, ints) in (low, ordered, high, more (omega (arith, ints)))
in_front least s rest false e low high up more = up

IsDomain-shared : (least m : ℤ) (a : Span) (e rest : List Span) → (least ≤ℤ a.lo) ⊎ AscendFrom least e → AscendFrom m e → a.hi ≤ℤ MAX_VALUE → AscendFrom least rest → AscendFrom (a.hi +ℤ pos 2) rest → AscendFrom least (shared a e ++ rest)
unfolding AscendFrom shared overlap
IsDomain-shared least m a [] rest from up top near far = near
IsDomain-shared least m a (b ∷ e) rest from up top near far =
    let s : Span = record { lo = int_max a.lo b.lo; hi = int_min a.hi b.hi } in
    let low : least ≤ℤ s.lo = elim from [ inl h ↦ omega (arith, ints, clamps) | inr h ↦ omega (arith, ints, clamps, h.0) ] in
    let left : s.hi ≤ℤ a.hi = omega (arith, ints, clamps) in
    let right : s.hi ≤ℤ b.hi = omega (arith, ints, clamps) in
    let later : AscendFrom (s.hi +ℤ pos 2) e = AscendFrom-lower (s.hi +ℤ pos 2) (b.hi +ℤ pos 2) e (omega (arith, ints, right)) up.3 in
    let rest_later : AscendFrom (s.hi +ℤ pos 2) rest = AscendFrom-lower (s.hi +ℤ pos 2) (a.hi +ℤ pos 2) rest (omega (arith, ints, left)) far in
    let before : (least ≤ℤ a.lo) ⊎ AscendFrom least e = elim from [ inl h ↦ inl h | inr h ↦ inr (AscendFrom-lower least (b.hi +ℤ pos 2) e (omega (arith, ints, h.0, h.1)) h.3) ] in
    subst (AscendFrom least) (sym (append_assoc (overlap a b) (shared a e) rest))
    (in_front least s (shared a e ++ rest) (int_le s.lo s.hi) refl low (omega (arith, ints, left))
    (IsDomain-shared least (b.hi +ℤ pos 2) a e rest before up.3 top near far)
    (λ h. IsDomain-shared (s.hi +ℤ pos 2) (b.hi +ℤ pos 2) a e rest (inr later) up.3 top rest_later far))

AscendFrom-common : (least : ℤ) (d e : List Span) → AscendFrom least d → IsDomain e → AscendFrom least (common d e)
unfolding AscendFrom common
AscendFrom-common least [] e up is = tt
AscendFrom-common least (a ∷ d) e up is =
    let rest : AscendFrom (a.hi +ℤ pos 2) (common d e) = AscendFrom-common (a.hi +ℤ pos 2) d e up.3 is in
    IsDomain-shared least (neg_ℤ MAX_VALUE) a e (common d e) (inl up.0) is up.2
    (AscendFrom-lower least (a.hi +ℤ pos 2) (common d e) (omega (arith, ints, up.0, up.1)) rest) rest

pub IsDomain-common : CommonIsADomain
IsDomain-common d e up is = AscendFrom-common (neg_ℤ MAX_VALUE) d e up is

pub has_value-first : (s : Span) (ss : List Span) → s.lo ≤ℤ s.hi → has_value (s ∷ ss) s.lo ≡ true
unfolding has_value
has_value-first s ss h = let here : span_has s s.lo ≡ true = grind (arith, ints) in grind (arith, here)

-- ---- domains of no, one and more values

pub no_value : (d : List Span) (n : ℤ) → values_of d ≡ [] → has_value d n ≡ false
unfolding values_of numbers_from has_value
no_value [] n is = refl
no_value (s ∷ ss) n is = absurd (cc)

pub first_value : (d : List Span) (i : ℤ) (rest : List ℤ) → IsDomain d → values_of d ≡ i ∷ rest → has_value d i ≡ true
unfolding values_of numbers_from AscendFrom
first_value [] i rest up is = absurd (cc)
first_value (s ∷ ss) i rest up is =
    let first : s.lo ≡ i = cc in
    subst (λ (n : ℤ). has_value (s ∷ ss) n ≡ true) first (has_value-first s ss up.1)

pub empty_if_none : (ss : List Span) → size_of ss ≡ 0 → ss ≡ []
empty_if_none [] is = refl
empty_if_none (s ∷ ss) is = absurd (omega (arith, size_of-cons s ss))

one_in_span : (s : Span) (ss : List Span) (n : ℤ) → ss ≡ [] → s.lo ≡ s.hi → has_value (s ∷ ss) n ≡ true → n ≡ s.lo
unfolding has_value
one_in_span s ss n none one has =
    let alone : has_value (s ∷ []) n ≡ true = subst (λ (ts : List Span). has_value (s ∷ ts) n ≡ true) none has in
    let inside : span_has s n ≡ true = elim (span_has s n) as (λ b. (b || false) ≡ true → b ≡ true) [ true ↦ λ h. refl | false ↦ λ h. h ] alone in
    grind (arith, ints)

pub one_value : (d : List Span) (i n : ℤ) → IsDomain d → values_of d ≡ i ∷ [] → has_value d n ≡ true → n ≡ i
unfolding values_of numbers_from AscendFrom
one_value [] i n up is has = absurd (cc)
one_value (s ∷ ss) i n up is has =
    let first : s.lo ≡ i = cc in
    let many : size_of (s ∷ ss) ≡ 1 = ap length is in
    let sum : size_of (s ∷ ss) ≡ suc (int_gap s.lo s.hi) + size_of ss = size_of-cons s ss in
    let none : ss ≡ [] = empty_if_none ss (omega arith) in
    let gap : int_gap s.lo s.hi ≡ 0 = omega arith in
    let end : s.lo +ℤ pos (int_gap s.lo s.hi) ≡ s.hi = gap_is s.lo s.hi up.1 in
    let same : s.lo ≡ s.hi = omega (arith, ints, subst (λ (k : ℕ). s.lo +ℤ pos k ≡ s.hi) gap end) in
    one_in_span s ss n none same has ∙ first

pub two_values : (d : List Span) (i j : ℤ) (rest : List ℤ) → values_of d ≡ i ∷ j ∷ rest → 2 ≤ size_of d
two_values d i j rest is = let many : size_of d ≡ suc (suc (length rest)) = ap length is in omega arith
