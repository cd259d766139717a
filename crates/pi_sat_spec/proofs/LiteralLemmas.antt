-- What a literal leaves of a domain.
use Rattle.std.specs.Prelude.{◌≡◌, Bool, true, false, not, ◌&&◌, if◌then◌else◌, IsTrue, List, ℤ, pos, ◌+ℤ◌, neg_ℤ, int_le}
use Rattle.std.proofs.Common.{arith, ◌∙◌}
use Rattle.std.proofs.lemmas.Bool.{and_from}
use Rattle.std.proofs.lemmas.Int.{ints}
use Rattle.pi_constraints.specs.declared.domain.TheConstants.{MAX_VALUE}
use Rattle.pi_constraints.specs.declared.domain.Span.{Span}
use Rattle.pi_constraints.specs.Domain.{IsWithinBounds, IsDomain, span_has, has_value}
use Rattle.pi_constraints.proofs.ClipLemmas.{IsDomain-clip, has_value-clip, has_value-kept}
use Rattle.pi_constraints.proofs.CommonLemmas.{has_value-common, IsDomain-common}
use Rattle.pi_sat_spec.specs.declared.literal.Literal.{Literal}
use Rattle.pi_sat_spec.specs.Literals.{allows, negated, span_of, side_of, left_by}

above-span : (bound n : ℤ) → IsWithinBounds n → (int_le (bound +ℤ pos 1) n && int_le n MAX_VALUE) ≡ not (int_le n bound)
above-span bound n h = grind (arith, ints, h.0, h.1)

below-span : (bound n : ℤ) → IsWithinBounds n → (int_le (neg_ℤ MAX_VALUE) n && int_le n bound) ≡ int_le n bound
below-span bound n h = grind (arith, ints, h.0, h.1)

span-by : (above : Bool) (bound n : ℤ) → IsWithinBounds n →
    span_has (if above then (record { lo = bound +ℤ pos 1; hi = MAX_VALUE }) else (record { lo = neg_ℤ MAX_VALUE; hi = bound })) n ≡ (if above then not (int_le n bound) else int_le n bound)
span-by true bound n h = above-span bound n h
span-by false bound n h = below-span bound n h

pub side-has : (l : Literal) (n : ℤ) → IsWithinBounds n → has_value (side_of l) n ≡ allows l n
side-has l n h = has_value-clip (span_of l) n h ∙ span-by l.above l.bound n h

pub left-value : (l : Literal) (d : List Span) (n : ℤ) → IsDomain d → has_value (left_by l d) n ≡ (has_value d n && allows l n)
unfolding left_by
left-value l d n h = has_value-common d (side_of l) n ∙ has_value-kept d (side_of l) (allows l) h (λ m b. side-has l m b) n

pub left-domain : (l : Literal) (d : List Span) → IsDomain d → IsDomain (left_by l d)
unfolding left_by
left-domain l d h = IsDomain-common d (side_of l) h (IsDomain-clip (span_of l))

pub left-has : (l : Literal) (d : List Span) (n : ℤ) → IsDomain d → IsTrue (has_value d n) → IsTrue (allows l n) → IsTrue (has_value (left_by l d) n)
left-has l d n h has ok = left-value l d n h ∙ and_from (has_value d n) (allows l n) has ok

negated-by : (above : Bool) (bound n : ℤ) → (if above then not (int_le n bound) else int_le n bound) ≡ false → IsTrue (if (not above) then not (int_le n bound) else int_le n bound)
negated-by true bound n e = grind (arith, e)
negated-by false bound n e = grind (arith, e)

-- what a literal doesn't allow its negation allows
pub negation-allows : (l : Literal) (n : ℤ) → allows l n ≡ false → IsTrue (allows (negated l) n)
negation-allows l n e = negated-by l.above l.bound n e
