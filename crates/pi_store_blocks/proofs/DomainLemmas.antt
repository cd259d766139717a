-- Domains read back from their bounds.
use Rattle.std.proofs.Common.{◌≡◌, ℕ, ◌+◌, ◌*◌, ◌<◌, ◌≤◌, Bool, true, false, ◌&&◌, cond, List, [], ◌∷◌, ◌++◌, length, take, drop, ℤ, pos, negsuc, ◌+ℤ◌, ◌≤ℤ◌, neg_ℤ, refl, ap, sym, subst, ◌∙◌, arith, append_assoc, append-nil, map}
use Rattle.std.specs.Prelude.{int_le}
use Rattle.std.proofs.Math.ListN.{get_or}
use Rattle.std.proofs.lemmas.Int.{ints}
use Rattle.std.proofs.lemmas.List.{drop_more, drop_all, take_more, length-drop}
use Rattle.pi_constraints.specs.Domain.{IsWithinBounds, AscendFrom, IsDomain}
use Rattle.pi_constraints.specs.declared.domain.TheConstants.{MAX_VALUE}
use Rattle.pi_constraints.specs.declared.domain.Span.{Span}
use Rattle.pi_region.specs.Entry.{data_of}
use Rattle.pi_region.specs.Image.{Image, appended}
use Rattle.pi_store_blocks.proofs.BlockLemmas.{appended_then, drop_two}
use Rattle.pi_store_blocks.specs.Numbers.{IsMovable, moved_up, moved_down}
use Rattle.pi_store_blocks.proofs.NumberLemmas.{moved_back}
use Rattle.pi_store_blocks.specs.Domain.{bounds_of, spans_of, span_at, may_follow, ascend_from, is_domain, DomainsReadBack, DomainsAreDomains}

abbrev Spans : Type 0
Spans = List Span

both : (a b : Bool) → (a && b) ≡ true → (a ≡ true) × (b ≡ true)
both true b e = (refl, e)
both false b e = absurd (cc)

-- the test says whether they are a domain
tested : (least : ℤ) (ss : Spans) → AscendFrom least ss → ascend_from least ss ≡ true
unfolding AscendFrom
tested least [] h = refl
tested least (s ∷ ss) h =
    let a : int_le least s.lo ≡ true = grind (arith, ints, h.0) in
    let b : int_le s.lo s.hi ≡ true = grind (arith, ints, h.1) in
    let c : int_le s.hi MAX_VALUE ≡ true = grind (arith, ints, h.2) in
    ap (λ x. x && int_le s.lo s.hi && int_le s.hi MAX_VALUE && ascend_from (s.hi +ℤ pos 2) ss) a
    ∙ (ap (λ x. true && x && int_le s.hi MAX_VALUE && ascend_from (s.hi +ℤ pos 2) ss) b
    ∙ (ap (λ x. true && true && x && ascend_from (s.hi +ℤ pos 2) ss) c
    ∙ tested (s.hi +ℤ pos 2) ss h.3))

pub test_is : (least : ℤ) (ss : Spans) → ascend_from least ss ≡ true → AscendFrom least ss
unfolding AscendFrom
test_is least [] e = tt
test_is least (s ∷ ss) e =
    let p = both (may_follow least s) (ascend_from (s.hi +ℤ pos 2) ss) e in
    let q = both (int_le least s.lo && int_le s.lo s.hi) (int_le s.hi MAX_VALUE) p.0 in
    let r = both (int_le least s.lo) (int_le s.lo s.hi) q.0 in
    (grind (arith, ints, r.0), grind (arith, ints, r.1), grind (arith, ints, q.1), test_is (s.hi +ℤ pos 2) ss p.1)

-- so whatever is read is a domain
cond_domain : (b : Bool) (ss : Spans) → is_domain ss ≡ b → IsDomain (cond b ss [])
unfolding AscendFrom
cond_domain true ss e = test_is (neg_ℤ MAX_VALUE) ss e
cond_domain false ss e = tt

pub are_domains : DomainsAreDomains
are_domains numbers = cond_domain (is_domain (spans_of numbers)) (spans_of numbers) refl

-- spans within the bounds read back
movable : (n : ℤ) → IsWithinBounds n → IsMovable n
movable (pos n) h = omega (arith, ints, h.1)
movable (negsuc n) h = omega (arith, ints, h.0)

span_back : (s : Span) → IsWithinBounds s.lo → IsWithinBounds s.hi → record { lo = moved_down (moved_up s.lo); hi = moved_down (moved_up s.hi) } ≡ s
span_back s a b = ap (λ x. record { lo = x; hi = moved_down (moved_up s.hi) }) (moved_back s.lo (movable s.lo a)) ∙ ap (λ x. record { lo = s.lo; hi = x }) (moved_back s.hi (movable s.hi b))

spans_back : (least : ℤ) (ss : Spans) → (neg_ℤ MAX_VALUE ≤ℤ least) → AscendFrom least ss → spans_of (bounds_of ss) ≡ ss
unfolding AscendFrom
spans_back least [] le h = refl
spans_back least (s ∷ ss) le h =
    let a : IsWithinBounds s.lo = (omega (arith, ints, h.0, h.1, h.2), omega (arith, ints, h.0, h.1, h.2)) in
    let b : IsWithinBounds s.hi = (omega (arith, ints, h.0, h.1, h.2), omega (arith, ints, h.0, h.1, h.2)) in
    let next : neg_ℤ MAX_VALUE ≤ℤ (s.hi +ℤ pos 2) = omega (arith, ints, b.0) in
    ap (λ t. t ∷ spans_of (bounds_of ss)) (span_back s a b) ∙ ap (λ l. s ∷ l) (spans_back (s.hi +ℤ pos 2) ss next h.3)

pub back : DomainsReadBack
back d h =
    let same : spans_of (bounds_of d) ≡ d = spans_back (neg_ℤ MAX_VALUE) d (omega (arith, ints)) h in
    ap (λ l. cond (is_domain l) l []) same ∙ ap (λ b. cond b d []) (tested (neg_ℤ MAX_VALUE) d h)

-- one more span is tested
pub follows : (ss : Spans) (i : ℕ) (least : ℤ) (s : Span) → i < length ss → may_follow least (get_or ss i s) ≡ true → ascend_from least (drop i ss) ≡ ascend_from ((get_or ss i s).hi +ℤ pos 2) (drop (i + 1) ss)
follows ss i least s lt e =
    ap (ascend_from least) (drop_more ss i s lt) ∙ ap (λ b. b && ascend_from ((get_or ss i s).hi +ℤ pos 2) (drop (i + 1) ss)) e

pub stops : (ss : Spans) (i : ℕ) (least : ℤ) (s : Span) → i < length ss → may_follow least (get_or ss i s) ≡ false → ascend_from least (drop i ss) ≡ false
stops ss i least s lt e =
    ap (ascend_from least) (drop_more ss i s lt) ∙ ap (λ b. b && ascend_from ((get_or ss i s).hi +ℤ pos 2) (drop (i + 1) ss)) e

pub tested_all : (ss : Spans) (i : ℕ) (least : ℤ) → length ss ≤ i → ascend_from least (drop i ss) ≡ true
tested_all ss i least le = ap (ascend_from least) (drop_all i ss le)

pub goes_on : (ss : Spans) (i : ℕ) (least next : ℤ) (s : Span) → i < length ss → may_follow least (get_or ss i s) ≡ true → next ≡ ((get_or ss i s).hi +ℤ pos 2)
    → is_domain ss ≡ ascend_from least (drop i ss) → is_domain ss ≡ ascend_from next (drop (i + 1) ss)
goes_on ss i least next s lt e n h = h ∙ (follows ss i least s lt e ∙ ap (λ x. ascend_from x (drop (i + 1) ss)) (sym n))

pub refused : (ss : Spans) (i : ℕ) (least : ℤ) (s : Span) → i < length ss → may_follow least (get_or ss i s) ≡ false → is_domain ss ≡ ascend_from least (drop i ss) → false ≡ is_domain ss
refused ss i least s lt e h = sym (h ∙ stops ss i least s lt e)

pub accepted : (ss : Spans) (i : ℕ) (least : ℤ) → length ss ≤ i → is_domain ss ≡ ascend_from least (drop i ss) → true ≡ is_domain ss
accepted ss i least le h = sym (h ∙ tested_all ss i least le)

-- a span that may follow ends within the bounds
pub ends_low : (least : ℤ) (s : Span) → may_follow least s ≡ true → s.hi ≤ℤ MAX_VALUE
ends_low least s e = grind (arith, ints, (both (int_le least s.lo && int_le s.lo s.hi) (int_le s.hi MAX_VALUE) e).1)

-- one more span is read
pub one_more : (ns : List ℕ) (k : ℕ) → 2 * k + 1 < length ns → spans_of (drop (2 * k) ns) ≡ span_at ns k ∷ spans_of (drop (2 * (k + 1)) ns)
one_more ns k lt =
    let next : 2 * k + 2 ≡ 2 * (k + 1) = omega arith in
    ap spans_of (drop_two ns (2 * k) lt) ∙ ap (λ j. span_at ns k ∷ spans_of (drop j ns)) next

few_spans : (ns : List ℕ) → length ns ≤ 1 → spans_of ns ≡ []
few_spans [] le = refl
few_spans (n ∷ []) le = refl
few_spans (n ∷ m ∷ rest) le = absurd (omega arith)

pub no_more : (ns : List ℕ) (k : ℕ) → length ns ≤ 2 * k + 1 → spans_of (drop (2 * k) ns) ≡ []
no_more ns k le = few_spans (drop (2 * k) ns) (omega (arith, length-drop (2 * k) ns))

-- one more span is written
bounds_append : (ss ts : Spans) → bounds_of (ss ++ ts) ≡ bounds_of ss ++ bounds_of ts
bounds_append [] ts = refl
bounds_append (s ∷ ss) ts = ap (λ l. moved_up s.lo ∷ moved_up s.hi ∷ l) (bounds_append ss ts)

pub bounds_more : (ss : Spans) (i : ℕ) (s : Span) → i < length ss → bounds_of (take (i + 1) ss) ≡ bounds_of (take i ss) ++ bounds_of (get_or ss i s ∷ [])
bounds_more ss i s lt = ap bounds_of (take_more ss i s lt) ∙ bounds_append (take i ss) (get_or ss i s ∷ [])

pub read_more : (ns : List ℕ) (k : ℕ) (before after : Spans) (s : Span) → after ≡ before ++ s ∷ [] → s ≡ span_at ns k → 2 * k + 1 < length ns
    → before ++ spans_of (drop (2 * k) ns) ≡ spans_of ns → after ++ spans_of (drop (2 * (k + 1)) ns) ≡ spans_of ns
read_more ns k before after s a e lt h =
    let behind : Spans = spans_of (drop (2 * (k + 1)) ns) in
    ap (λ l. l ++ behind) a
    ∙ (append_assoc before (s ∷ []) behind
    ∙ (ap (λ t. before ++ t ∷ behind) e
    ∙ (ap (λ l. before ++ l) (sym (one_more ns k lt))
    ∙ h)))

pub read_all : (ns : List ℕ) (k : ℕ) (items : Spans) → length ns ≤ 2 * k + 1 → items ++ spans_of (drop (2 * k) ns) ≡ spans_of ns → items ≡ spans_of ns
read_all ns k items le h = sym (append-nil items) ∙ (ap (λ l. items ++ l) (sym (no_more ns k le)) ∙ h)

pub none_is_domain : (ss : Spans) → ss ≡ [] → IsDomain ss
unfolding AscendFrom
none_is_domain ss e = let P : Spans → Type 0 = λ l. IsDomain l in subst P (sym e) tt

pub span_written : (before old new : Image) (ss : Spans) (i : ℕ) (s : Span) → i < length ss → old ≡ appended before (map data_of (bounds_of (take i ss)))
    → new ≡ appended old (map data_of (bounds_of (get_or ss i s ∷ []))) → new ≡ appended before (map data_of (bounds_of (take (i + 1) ss)))
span_written before old new ss i s lt o n =
    appended_then before old new (bounds_of (take i ss)) (bounds_of (get_or ss i s ∷ [])) o n ∙ ap (λ l. appended before (map data_of l)) (sym (bounds_more ss i s lt))
