-- Domains and values at places.
use Rattle.std.specs.Prelude.{◌≡◌, ℕ, ◌<◌, IsTrue, List, length, ℤ}
use Rattle.std.proofs.Common.{arith}
use Rattle.std.proofs.lemmas.Int.{ints}
use Rattle.pi_constraints.specs.declared.domain.Span.{Span}
use Rattle.pi_constraints.specs.Domain.{IsDomain, has_value}
use Rattle.pi_prop_spec.specs.Ends.{IsBetween, IsFixedTo}
use Rattle.pi_prop_spec.specs.Places.{domain_at, HaveValues}
use Rattle.pi_prop_spec.proofs.EndLemmas.{EndsWithin, between, only_value, not_empty, ends_within}

-- each place has its value among those of its domain
pub record Given (v : ℕ → ℤ) (ds : List (List Span)) : Type 0 where
  pub domains : (k : ℕ) → k < length ds → IsDomain (domain_at ds k)
  pub has : (k : ℕ) → k < length ds → IsTrue (has_value (domain_at ds k) (v k))

-- and has no other
pub record Decided (v : ℕ → ℤ) (ds : List (List Span)) : Type 0 where
  pub given : Given v ds
  pub fixed : (k : ℕ) → k < length ds → IsFixedTo (domain_at ds k) (v k)

-- the second domains lie within the first, and have values
pub record Narrowed (ds es : List (List Span)) : Type 0 where
  pub count : length es ≡ length ds
  pub first : (k : ℕ) → k < length ds → IsDomain (domain_at ds k)
  pub second : (k : ℕ) → k < length es → IsDomain (domain_at es k)
  pub some : HaveValues es
  pub sub : (k : ℕ) (n : ℤ) → k < length ds → IsTrue (has_value (domain_at es k) n) → IsTrue (has_value (domain_at ds k) n)

pub given_between : (v : ℕ → ℤ) (ds : List (List Span)) (k : ℕ) → Given v ds → k < length ds → IsBetween (domain_at ds k) (v k)
given_between v ds k g l = between (domain_at ds k) (v k) (g.domains k l) (g.has k l)

pub given_only : (v : ℕ → ℤ) (ds : List (List Span)) (k : ℕ) (n : ℤ) → Given v ds → k < length ds → IsFixedTo (domain_at ds k) n → v k ≡ n
given_only v ds k n g l f = only_value (domain_at ds k) n (v k) (g.domains k l) f (g.has k l)

pub given_values : (v : ℕ → ℤ) (ds : List (List Span)) → Given v ds → HaveValues ds
given_values v ds g = λ k l. not_empty (domain_at ds k) (v k) (g.has k l)

pub decided_only : (v : ℕ → ℤ) (ds : List (List Span)) (k : ℕ) (n : ℤ) → Decided v ds → k < length ds → IsTrue (has_value (domain_at ds k) n) → n ≡ v k
decided_only v ds k n d l h = only_value (domain_at ds k) (v k) n (d.given.domains k l) (d.fixed k l) h

pub narrowed_ends : (ds es : List (List Span)) (k : ℕ) → Narrowed ds es → k < length ds → EndsWithin (domain_at ds k) (domain_at es k)
narrowed_ends ds es k w l =
    let inside : k < length es = omega (arith, w.count) in
    ends_within (domain_at ds k) (domain_at es k) (w.first k l) (w.second k inside) (w.some k inside) (λ n h. w.sub k n l h)

pub wider_between : (d e : List Span) (n : ℤ) → EndsWithin d e → IsBetween e n → IsBetween d n
wider_between d e n w b = (omega (arith, ints, w.low, b.0), omega (arith, ints, w.high, b.1))
