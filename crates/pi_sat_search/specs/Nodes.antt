-- Places on the way down from the given domains: the domains there, and the literals that say that one isn't there. The definitions are own.
use Rattle.std.specs.Int.{int_gap}
use Rattle.std.specs.Prelude.{◌≡◌, ◌≢◌, ◌⊎◌, ℕ, ◌+◌, ◌<◌, ◌≤◌, IsTrue, Option, Some, None, List, [], ◌∷◌, ◌++◌, length, map, slice_get, All, MatchOption, ℤ, ◌<ℤ◌, false}
use Rattle.pi_constraints.specs.declared.constraint.Constraint.{Constraint}
use Rattle.pi_constraints.specs.declared.domain.Span.{Span}
use Rattle.pi_constraints.specs.declared.var_domain.VarDomain.{VarDomain}
use Rattle.pi_constraints.specs.Constraint.{IsWithinLimits}
use Rattle.pi_constraints.specs.Domain.{has_value, IsLeastValue}
use Rattle.pi_prop_spec.specs.Ends.{least_of, greatest_of}
use Rattle.pi_sat_spec.specs.declared.entry.SatEntry.{SatEntry}
use Rattle.pi_sat_spec.specs.declared.literal.Literal.{Literal}
use Rattle.pi_sat_spec.specs.Literals.{Precedes}
use Rattle.pi_sat_spec.specs.Domains.{domain_of, refuted, has_empty, allowed, AreDomains}
use Rattle.pi_sat_spec.specs.Solutions.{IsSolution}
use Rattle.pi_sat_spec.specs.Logs.{lemma_of, lemma_at, IsRightEntry, AreRight, Refutes}
use Rattle.pi_sat_search.specs.declared.picks.Pick.{Pick}
use Rattle.pi_sat_search.specs.declared.sure.Sure.{Sure}
use Rattle.pi_sat_search.specs.Assigned.{assigned}
use Rattle.pi_sat_search.specs.Steps.{IsNew, IsOnce, AreSome}

-- a domain has two values or more
abbrev pub IsOpen : List Span → Type 0
IsOpen d = least_of d <ℤ greatest_of d

-- no lemma of the entries has lost all its literals
abbrev pub NoneRefuted : List VarDomain → List SatEntry → Type 0
NoneRefuted present log = (h : ℕ) → h < length log → allowed present (lemma_at log h) ≢ []

-- each literal stands before all that follow
unfoldable pub Sorted : List Literal → Type 0
Sorted [] = Unit {0}
Sorted (l ∷ ls) = All (Precedes l) ls × Sorted ls

-- what a search is given, and the entries that it has: none of them ends it
pub record MayGo (xs : List VarDomain) (cs : List Constraint) (log : List SatEntry) : Type 0 where
  pub limits : All IsWithinLimits cs
  pub once : IsOnce xs
  pub right : AreRight xs cs log
  pub some : AreSome log

-- a literal's variable comes before those that are open; or it is one, and the literal says that it is at most a bound
abbrev pub IsBehind : List VarDomain → Literal → Type 0
IsBehind present m = (n : ℕ) → IsOpen (domain_of present n) → (m.var < n) ⊎ ((m.var ≡ n) × (m.above ≡ false))

-- the domains are those that the literals leave where none of them holds; each has a value, and no lemma is refuted in them
pub record IsNode (xs : List VarDomain) (log : List SatEntry) (present : List VarDomain) (lemma : List Literal) : Type 0 where
  pub cut : present ≡ refuted xs lemma
  pub given : AreDomains xs
  pub domains : AreDomains present
  pub once : IsOnce present
  pub some : has_empty present ≡ false
  pub unrefuted : NoneRefuted present log
  pub sorted : Sorted lemma
  pub bounds : All (λ l. IsTrue (has_value (domain_of xs l.var) l.bound)) lemma
  pub behind : All (IsBehind present) lemma

-- the first variable whose domain is open, and its least value
pub record IsPick (present : List VarDomain) (p : Pick) : Type 0 where
  pub is_open : IsOpen (domain_of present p.var)
  pub least : IsLeastValue (domain_of present p.var) p.least
  pub first : (n : ℕ) → IsOpen (domain_of present n) → p.var ≤ n

abbrev pub NoneOpen : List VarDomain → Type 0
NoneOpen present = (n : ℕ) → IsOpen (domain_of present n) → ⊥

-- an entry that may be kept
abbrev pub IsNext : List VarDomain → List Constraint → List SatEntry → SatEntry → Type 0
IsNext xs cs log e = IsRightEntry xs cs log e × IsNew log (lemma_of e)

-- what is found: an entry that may be kept, or a solution
abbrev pub IsSure : List VarDomain → List Constraint → List SatEntry → Sure → Type 0
IsSure xs cs log (Sure.Entry e) = IsNext xs cs log e
IsSure xs cs log (Sure.Yes a) = IsSolution xs cs (assigned a)

-- how far the ends of a domain lie apart, and those of all domains together
abbrev pub width : List Span → ℕ
width d = int_gap (least_of d) (greatest_of d)

unfoldable pub widths : List VarDomain → ℕ
widths [] = 0
widths (x ∷ xs) = width x.domain + widths xs

-- an entry that may be kept; or another node, whose domains are narrower
abbrev pub IsDown : List VarDomain → List Constraint → List SatEntry → List VarDomain → List VarDomain → List Literal → Option SatEntry → Type 0
IsDown xs cs log old present lemma None = IsNode xs log present lemma × (widths present < widths old)
IsDown xs cs log old present lemma (Some e) = IsNext xs cs log e

-- a literal behind the others, in the place of the last one where that has the same variable
abbrev pub IsPut : List Literal → Literal → List Literal → Type 0
IsPut old l new =
    ((new ≡ old ++ l ∷ []) × ((base : List Literal) (m : Literal) → old ≡ base ++ m ∷ [] → m.var ≢ l.var)) ⊎
    ((base : List Literal) × ((m : Literal) × (old ≡ base ++ m ∷ []) × (m.var ≡ l.var) × (new ≡ base ++ l ∷ [])))

-- the value that stands first in each variable's domain
abbrev pub least_values : List VarDomain → List (ℕ × ℤ)
least_values present = map (λ x. (x.var, least_of x.domain)) present

-- the constraint with this number, which the domains refute
abbrev pub IsRefuting : List Constraint → List VarDomain → Option ℕ → Type 0
IsRefuting cs present found = MatchOption found (All (λ c. Refutes c present → ⊥) cs) (λ i. (c : Constraint) × (slice_get cs i ≡ Some c) × Refutes c present)

-- what a way down comes to: an entry that may be kept, or a node where no variable is open
abbrev pub IsWay : List VarDomain → List Constraint → List SatEntry → List VarDomain → List Literal → Option SatEntry → Type 0
IsWay xs cs log present lemma None = IsNode xs log present lemma × NoneOpen present
IsWay xs cs log present lemma (Some e) = IsNext xs cs log e

-- the pick of the lesser variable
abbrev pub IsEarlier : Option Pick → Pick → Pick → Type 0
IsEarlier None p q = q ≡ p
IsEarlier (Some first) p q = ((q ≡ first) × (first.var < p.var)) ⊎ ((q ≡ p) × (p.var ≤ first.var))
