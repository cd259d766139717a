-- Literals: bounds of variables, and the values that a literal leaves. The definitions are own.
use Rattle.std.specs.Prelude.{◌≡◌, ◌⊎◌, ℕ, ◌+◌, ◌<◌, Bool, true, false, not, if◌then◌else◌, List, length, get_or, ℤ, pos, ◌+ℤ◌, neg_ℤ, int_le}
use Rattle.std.specs.List.{list_any}
use Rattle.pi_constraints.specs.declared.domain.TheConstants.{MAX_VALUE}
use Rattle.pi_constraints.specs.declared.domain.Span.{Span}
use Rattle.pi_constraints.specs.Domain.{overlap, common}
use Rattle.pi_sat_spec.specs.declared.literal.Literal.{Literal}

-- the value n of the literal's variable makes it so
abbrev pub allows : Literal → ℤ → Bool
allows l n = if l.above then not (int_le n l.bound) else int_le n l.bound

-- a literal that holds exactly where this one doesn't
abbrev pub negated : Literal → Literal
negated l = record { var = l.var; bound = l.bound; above = not l.above }

-- the numbers that make a literal so, of those that a domain can have: one span at most
abbrev pub span_of : Literal → Span
span_of l = if l.above then (record { lo = l.bound +ℤ pos 1; hi = MAX_VALUE }) else (record { lo = neg_ℤ MAX_VALUE; hi = l.bound })

abbrev pub side_of : Literal → List Span
side_of l = overlap (span_of l) (record { lo = neg_ℤ MAX_VALUE; hi = MAX_VALUE })

-- the values of a domain that a literal leaves
unfoldable pub left_by : Literal → List Span → List Span
left_by l d = common d (side_of l)

-- one literal stands before another: its variable comes first, or they have one variable and the other alone is `above`
abbrev pub Precedes : Literal → Literal → Type 0
Precedes l m = (l.var < m.var) ⊎ ((l.var ≡ m.var) × (l.above ≡ false) × (m.above ≡ true))

-- each literal stands before the next, so there is at most one for each variable and direction
abbrev pub Ascends : List Literal → Type 0
Ascends lemma = (k : ℕ) (other : Literal) → k + 1 < length lemma → Precedes (get_or lemma k other) (get_or lemma (k + 1) other)

-- values of variables make one of the literals so
abbrev pub is_satisfied : (ℕ → ℤ) → List Literal → Bool
is_satisfied a lemma = list_any (λ l. allows l (a l.var)) lemma
