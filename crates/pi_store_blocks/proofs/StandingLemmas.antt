-- Spans that are read where they stand.
use Rattle.std.proofs.Common.{◌≡◌, ℕ, zero, suc, ◌+◌, ◌*◌, ◌/◌, ◌<◌, ◌≤◌, Bool, true, false, ◌&&◌, cond, List, [], ◌∷◌, length, drop, ℤ, pos, negsuc, ◌+ℤ◌, ◌≤ℤ◌, refl, ap, sym, subst, ◌∙◌, arith, Some}
use Rattle.std.proofs.lemmas.Int.{ints}
use Rattle.std.specs.Prelude.{int_le, slice_index, slice_get}
use Rattle.pi_constraints.specs.declared.domain.TheConstants.{MAX_VALUE}
use Rattle.pi_constraints.specs.declared.domain.Span.{Span}
use Rattle.pi_store_blocks.specs.Numbers.{moved_down}
use Rattle.pi_store_blocks.specs.Domain.{spans_of, span_at, may_follow, ascend_from, is_domain, domain_in}
use Rattle.pi_store_blocks.proofs.DomainLemmas.{one_more, no_more}

spans_count : (ns : List ℕ) → length (spans_of ns) ≡ length ns / 2
spans_count [] = refl
spans_count (n ∷ []) = refl
spans_count (n ∷ m ∷ rest) = let e : length (spans_of rest) ≡ length rest / 2 = spans_count rest in omega (arith, e)

at_pair : (ns : List ℕ) (k j i : ℕ) → j ≡ 2 * k → i ≡ j + 1 → i < length ns → slice_get (spans_of ns) k ≡ Some (record { lo = moved_down (slice_index ns j); hi = moved_down (slice_index ns i) })
at_pair [] k j i e f l = absurd (omega arith)
at_pair (n ∷ []) k j i e f l = absurd (omega arith)
at_pair (n ∷ m ∷ rest) zero zero zero e f l = absurd (omega arith)
at_pair (n ∷ m ∷ rest) zero zero (suc zero) e f l = refl
at_pair (n ∷ m ∷ rest) zero zero (suc (suc i)) e f l = absurd (omega arith)
at_pair (n ∷ m ∷ rest) zero (suc j) i e f l = absurd (omega arith)
at_pair (n ∷ m ∷ rest) (suc k) zero i e f l = absurd (omega arith)
at_pair (n ∷ m ∷ rest) (suc k) (suc zero) i e f l = absurd (omega arith)
at_pair (n ∷ m ∷ rest) (suc k) (suc (suc j)) zero e f l = absurd (omega arith)
at_pair (n ∷ m ∷ rest) (suc k) (suc (suc j)) (suc zero) e f l = absurd (omega arith)
at_pair (n ∷ m ∷ rest) (suc k) (suc (suc j)) (suc (suc i)) e f l = at_pair rest k j i (omega (arith, e)) (omega (arith, f)) (omega (arith, l))

-- how many spans a domain has
counted : (ns : List ℕ) (b : Bool) (n : ℕ) → b ≡ is_domain (spans_of ns) → b ≡ true → n ≡ length ns / 2 → n ≡ length (domain_in ns)
counted ns b n e t is = is ∙ (sym (spans_count ns) ∙ ap (λ x. length (cond x (spans_of ns) [])) (sym t ∙ e))

none_counted : (ns : List ℕ) (b : Bool) → b ≡ is_domain (spans_of ns) → b ≡ false → 0 ≡ length (domain_in ns)
none_counted ns b e f = ap (λ x. length (cond x (spans_of ns) [])) (sym f ∙ e)

-- a span of a domain
in_cond : (b : Bool) (ss : List Span) (k : ℕ) (s : Span) → slice_get ss k ≡ Some s → k < length (cond b ss []) → slice_get (cond b ss []) k ≡ Some s
in_cond true ss k s e l = e
in_cond false ss k s e l = absurd (omega arith)

span_of : (ns : List ℕ) (k : ℕ) (s : Span) → s ≡ span_at ns k → k < length ns / 2 → k < length (domain_in ns) → slice_get (domain_in ns) k ≡ Some s
span_of ns k s is l inside = in_cond (is_domain (spans_of ns)) (spans_of ns) k s (at_pair ns k (2 * k) (2 * k + 1) refl refl (omega (arith, l)) ∙ ap Some (sym is)) inside

cond_short : (b : Bool) (ss : List Span) → length (cond b ss []) ≤ length ss
cond_short true ss = omega arith
cond_short false ss = omega arith

no_span : (ns : List ℕ) (k : ℕ) → length ns / 2 ≤ k → k < length (domain_in ns) → ⊥
no_span ns k l inside = let a = cond_short (is_domain (spans_of ns)) (spans_of ns) in let b = spans_count ns in omega (arith, a, b, l, inside)

-- ---- of a block that was read

pub count-read : (ns whole : List ℕ) (b : Bool) (n : ℕ) → ns ≡ whole → b ≡ is_domain (spans_of ns) → b ≡ true → n ≡ length ns / 2 → n ≡ length (domain_in whole)
count-read ns whole b n same e t is = counted ns b n e t is ∙ ap (λ x. length (domain_in x)) same

pub none-read : (ns whole : List ℕ) (b : Bool) → ns ≡ whole → b ≡ is_domain (spans_of ns) → b ≡ false → 0 ≡ length (domain_in whole)
none-read ns whole b same e f = none_counted ns b e f ∙ ap (λ x. length (domain_in x)) same

pub span-read : (ns whole : List ℕ) (k : ℕ) (s : Span) → ns ≡ whole → s ≡ span_at ns k → k < length ns / 2 → k < length (domain_in whole) → slice_get (domain_in whole) k ≡ Some s
span-read ns whole k s same is l = subst (λ (x : List ℕ). k < length (domain_in x) → slice_get (domain_in x) k ≡ Some s) same (span_of ns k s is l)

pub no-span-read : (ns whole : List ℕ) (k : ℕ) (s : Span) → ns ≡ whole → length ns / 2 ≤ k → k < length (domain_in whole) → slice_get (domain_in whole) k ≡ Some s
no-span-read ns whole k s same l inside = absurd (no_span ns k l (subst (λ (x : List ℕ). k < length (domain_in x)) (sym same) inside))

-- ---- what the next span may begin with

last_true : (a b : Bool) → (a && b) ≡ true → b ≡ true
last_true true b e = e
last_true false b e = absurd (cc)

low_enough : (n : ℕ) → negsuc 144115188075855871 ≤ℤ moved_down n
low_enough n = omega (arith, ints)

-- the end of a span that follows another lies within 2 ^ 57
pub end_within : (ns : List ℕ) (k : ℕ) (least : ℤ) (s : Span) → s ≡ span_at ns k → may_follow least s ≡ true → (negsuc 144115188075855871 ≤ℤ s.hi) × (s.hi ≤ℤ MAX_VALUE)
end_within ns k least s is may =
    let last : int_le s.hi MAX_VALUE ≡ true = last_true (int_le least s.lo && int_le s.lo s.hi) (int_le s.hi MAX_VALUE) may in
    (subst (λ (x : Span). negsuc 144115188075855871 ≤ℤ x.hi) (sym is) (low_enough (slice_index ns (2 * k + 1))), grind (arith, ints, last))

-- ---- one more span is tested

pub tested_more : (ns : List ℕ) (k : ℕ) (least next : ℤ) (s : Span) → 2 * k + 1 < length ns → s ≡ span_at ns k → may_follow least s ≡ true → next ≡ (s.hi +ℤ pos 2)
    → is_domain (spans_of ns) ≡ ascend_from least (spans_of (drop (2 * k) ns)) → is_domain (spans_of ns) ≡ ascend_from next (spans_of (drop (2 * (k + 1)) ns))
tested_more ns k least next s l is may e h =
    h ∙ (ap (ascend_from least) (one_more ns k l)
    ∙ (ap (λ x. may_follow least x && ascend_from (x.hi +ℤ pos 2) (spans_of (drop (2 * (k + 1)) ns))) (sym is)
    ∙ (ap (λ b. b && ascend_from (s.hi +ℤ pos 2) (spans_of (drop (2 * (k + 1)) ns))) may
    ∙ ap (λ x. ascend_from x (spans_of (drop (2 * (k + 1)) ns))) (sym e))))

pub tested_past : (ns : List ℕ) (k : ℕ) (least : ℤ) (s : Span) → 2 * k + 1 < length ns → s ≡ span_at ns k → may_follow least s ≡ false → is_domain (spans_of ns) ≡ ascend_from least (spans_of (drop (2 * k) ns)) → false ≡ is_domain (spans_of ns)
tested_past ns k least s l is may h =
    sym (h ∙ (ap (ascend_from least) (one_more ns k l)
    ∙ (ap (λ x. may_follow least x && ascend_from (x.hi +ℤ pos 2) (spans_of (drop (2 * (k + 1)) ns))) (sym is)
    ∙ ap (λ b. b && ascend_from (s.hi +ℤ pos 2) (spans_of (drop (2 * (k + 1)) ns))) may)))

pub tested_whole : (ns : List ℕ) (k : ℕ) (least : ℤ) → length ns ≤ 2 * k + 1 → is_domain (spans_of ns) ≡ ascend_from least (spans_of (drop (2 * k) ns)) → true ≡ is_domain (spans_of ns)
tested_whole ns k least l h = sym (h ∙ ap (ascend_from least) (no_more ns k l))
