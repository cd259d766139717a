-- The laws of reading: what a posting says, and that it may be posted. (Own.)
use Rattle.std.specs.Prelude.{◌≡◌, ◌↔◌, ℕ, ◌+◌, ◌<◌, ℤ, ◌+ℤ◌, ◌*ℤ◌, List, Ok, Contains}
use Rattle.pi_terms.specs.Tree.{Tree}
use Rattle.pi_constraints.specs.declared.constraint.Constraint.{Constraint}
use Rattle.pi_constraints.specs.Constraint.{SpeaksOf, IsWithinLimits}
use Rattle.pi_constraints.specs.State.{SpeaksBelow}
use Rattle.pi_prop_spec.specs.Terms.{operand_of, goal_of}
use Rattle.pi_prop_spec.specs.PostingSums.{Sum, added, scaled, sum_value, Ascend, coefficient}
use Rattle.pi_prop_spec.specs.Steps.{Known, read_operand}
use Rattle.pi_prop_spec.specs.Postings.{Posting, nothing_made, posting_of}
use Rattle.pi_prop_spec.specs.Says.{operand_value, Says, AllHold, AgreeBelow}

-- ---- sums

abbrev pub SumsAdd : Type 0
SumsAdd = (a : ℕ → ℤ) (u v : Sum) → sum_value a (added u v) ≡ sum_value a u +ℤ sum_value a v

abbrev pub SumsScale : Type 0
SumsScale = (a : ℕ → ℤ) (c : ℤ) (u : Sum) → sum_value a (scaled c u) ≡ c *ℤ sum_value a u

-- they stay joined
abbrev pub SumsStayJoined : Type 0
SumsStayJoined = (c : ℤ) (u v : Sum) → Ascend 0 u.terms → Ascend 0 v.terms → Ascend 0 (added u v).terms × Ascend 0 (scaled c u).terms

-- and each variable has the coefficient that it has to have
abbrev pub CoefficientsAdd : Type 0
CoefficientsAdd = (u v : Sum) (n : ℕ) → coefficient (added u v).terms n ≡ coefficient u.terms n +ℤ coefficient v.terms n

abbrev pub CoefficientsScale : Type 0
CoefficientsScale = (c : ℤ) (u : Sum) (n : ℕ) → coefficient (scaled c u).terms n ≡ c *ℤ coefficient u.terms n

-- joined terms are told by the coefficients of all variables
abbrev pub CoefficientsTellTerms : Type 0
CoefficientsTellTerms = (ts us : List (ℤ × ℕ)) → Ascend 0 ts → Ascend 0 us → ((n : ℕ) → coefficient ts n ≡ coefficient us n) → ts ≡ us

-- ---- postings

-- An assignment of the variables that were made makes a goal so just where it extends, by values of the new variables, to one under which all hold that is posted.
abbrev pub PostingsSayTheSame : Type 0
PostingsSayTheSame = (n : ℕ) (t : Tree) (p : Posting) → SpeaksBelow n t → posting_of n (goal_of t) ≡ Ok p →
    (a : ℕ → ℤ) → Says a (goal_of t) ↔ ((b : ℕ → ℤ) × AgreeBelow n a b × AllHold p.list b)

-- an operand that was read alone is a sum with its value wherever all holds that was made, and each assignment extends to such a one
abbrev pub OperandsHaveTheirValues : Type 0
OperandsHaveTheirValues = (n : ℕ) (t : Tree) (k : Known Sum) → SpeaksBelow n t → read_operand (operand_of t) (nothing_made n) ≡ Ok k →
    ((a : ℕ → ℤ) → AllHold k.made.constraints a → sum_value a k.what ≡ operand_value a (operand_of t))
    × ((a : ℕ → ℤ) → (b : ℕ → ℤ) × AgreeBelow n a b × AllHold k.made.constraints b)

-- the values of the new variables are given by those of the others
abbrev pub NewValuesAreGiven : Type 0
NewValuesAreGiven = (n : ℕ) (t : Tree) (p : Posting) → SpeaksBelow n t → posting_of n (goal_of t) ≡ Ok p →
    (a b : ℕ → ℤ) → AgreeBelow n a b → AllHold p.list a → AllHold p.list b → AgreeBelow (n + p.fresh) a b

-- what is posted keeps the limits, and speaks of variables that were made and of the new ones alone
abbrev pub PostingsMayBePosted : Type 0
PostingsMayBePosted = (n : ℕ) (t : Tree) (p : Posting) → SpeaksBelow n t → posting_of n (goal_of t) ≡ Ok p →
    (c : Constraint) → Contains p.list c → IsWithinLimits c × ((m : ℕ) → SpeaksOf c m → m < n + p.fresh)
