-- What an alternative leaves of a domain is the values that it allows.
use Rattle.std.specs.Prelude.{◌≡◌, ℤ, pos, neg_ℤ, ◌+ℤ◌, int_le, Bool, true, false, not, ◌&&◌, ◌||◌, List, refl}
use Rattle.std.specs.Ordering.{is_eq, int_cmp}
use Rattle.std.proofs.Common.{arith, ◌∙◌}
use Rattle.std.proofs.lemmas.Int.{ints}
use Rattle.pi_constraints.specs.declared.domain.Span.{Span}
use Rattle.pi_constraints.specs.declared.domain.TheConstants.{MAX_VALUE}
use Rattle.pi_constraints.specs.Domain.{IsWithinBounds, IsDomain, has_value}
use Rattle.pi_constraints.proofs.DomainLemmas.{values_are_within_bounds}
use Rattle.pi_constraints.proofs.CommonLemmas.{has_value-common}
use Rattle.pi_settling.specs.Choices.{Alternative, is_value, at_most, above, allows, from_to}
use Rattle.pi_settling.specs.LabelLaws.{LeftIsAllowed}

-- two tests that agree where a third one holds
where_true : (b p q : Bool) → (b ≡ true → p ≡ q) → (b && p) ≡ (b && q)
where_true true p q h = h refl
where_true false p q h = refl

or_false : (b : Bool) → (b || false) ≡ b
or_false true = refl
or_false false = refl

has-span : (lo hi i : ℤ) → has_value (from_to lo hi) i ≡ (int_le lo i && int_le i hi)
unfolding has_value
has-span lo hi i = or_false (int_le lo i && int_le i hi)

same-value : (m i : ℤ) → (int_le m i && int_le i m) ≡ is_eq (int_cmp i m)
same-value m i = grind (arith, ints)

same-lower : (m i : ℤ) → IsWithinBounds i → (int_le (neg_ℤ MAX_VALUE) i && int_le i m) ≡ int_le i m
same-lower m i h = let low : int_le (neg_ℤ MAX_VALUE) i ≡ true = grind (arith, ints, h.0) in rw low refl

same-upper : (m i : ℤ) → IsWithinBounds i → (int_le (m +ℤ pos 1) i && int_le i MAX_VALUE) ≡ not (int_le i m)
same-upper m i h = let high : int_le i MAX_VALUE ≡ true = grind (arith, ints, h.1) in grind (arith, ints, high)

-- where the span of an alternative and its test agree, so do what it leaves and what it allows
by_span : (lo hi : ℤ) (a : Alternative) (d : List Span) (i : ℤ) → IsDomain d → (IsWithinBounds i → (int_le lo i && int_le i hi) ≡ allows a i) → (has_value d i && has_value (from_to lo hi) i) ≡ (has_value d i && allows a i)
by_span lo hi a d i domain h = where_true (has_value d i) (has_value (from_to lo hi) i) (allows a i) (λ has. has-span lo hi i ∙ h (values_are_within_bounds d i domain has))

pub left_is_allowed : LeftIsAllowed
left_is_allowed (is_value m) d i domain = has_value-common d (from_to m m) i ∙ by_span m m (is_value m) d i domain (λ h. same-value m i)
left_is_allowed (at_most m) d i domain = has_value-common d (from_to (neg_ℤ MAX_VALUE) m) i ∙ by_span (neg_ℤ MAX_VALUE) m (at_most m) d i domain (λ h. same-lower m i h)
left_is_allowed (above m) d i domain = has_value-common d (from_to (m +ℤ pos 1) MAX_VALUE) i ∙ by_span (m +ℤ pos 1) MAX_VALUE (above m) d i domain (λ h. same-upper m i h)
