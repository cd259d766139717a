-- Domains as the numbers of a block: the bounds of their spans, each moved up.
use Rattle.std.specs.Prelude.{◌≡◌, ℕ, zero, suc, ◌+◌, ◌*◌, Bool, true, false, ◌&&◌, cond, List, [], ◌∷◌, ◌++◌, ℤ, pos, ◌+ℤ◌, neg_ℤ, int_le, slice_index}
use Rattle.pi_constraints.specs.Domain.{IsDomain}
use Rattle.pi_constraints.specs.declared.domain.TheConstants.{MAX_VALUE}
use Rattle.pi_constraints.specs.declared.domain.Span.{Span}
use Rattle.pi_store_blocks.specs.Numbers.{moved_up, moved_down}

-- the bounds of spans
abbrev pub bounds_of : List Span → List ℕ
bounds_of [] = []
bounds_of (s ∷ ss) = moved_up s.lo ∷ moved_up s.hi ∷ bounds_of ss

-- the spans between numbers; a last one alone is no span
abbrev pub spans_of : List ℕ → List Span
spans_of [] = []
spans_of (lo ∷ []) = []
spans_of (lo ∷ hi ∷ rest) = (record { lo = moved_down lo; hi = moved_down hi }) ∷ spans_of rest

-- a span between two numbers that stand together
abbrev pub span_at : List ℕ → ℕ → Span
span_at numbers k = record { lo = moved_down (slice_index numbers (2 * k)); hi = moved_down (slice_index numbers (2 * k + 1)) }

-- whether a span may stand in a domain whose values up to it are below `least`
abbrev pub may_follow : ℤ → Span → Bool
may_follow least s = int_le least s.lo && int_le s.lo s.hi && int_le s.hi MAX_VALUE

abbrev pub ascend_from : ℤ → List Span → Bool
ascend_from least [] = true
ascend_from least (s ∷ ss) = may_follow least s && ascend_from (s.hi +ℤ pos 2) ss

-- whether spans are a domain
abbrev pub is_domain : List Span → Bool
is_domain ss = ascend_from (neg_ℤ MAX_VALUE) ss

-- the domain of a block's numbers: the empty one where they are none
abbrev pub domain_in : List ℕ → List Span
domain_in numbers = cond (is_domain (spans_of numbers)) (spans_of numbers) []

abbrev pub DomainsReadBack : Type 0
DomainsReadBack = (d : List Span) → IsDomain d → domain_in (bounds_of d) ≡ d

abbrev pub DomainsAreDomains : Type 0
DomainsAreDomains = (numbers : List ℕ) → IsDomain (domain_in numbers)
