-- The laws of right logs.
use Rattle.std.specs.Prelude.{◌≡◌, ℕ, IsTrue, Some, List, [], ◌∷◌, ◌++◌, slice_get, ℤ}
use Rattle.pi_constraints.specs.declared.constraint.Constraint.{Constraint}
use Rattle.pi_constraints.specs.declared.var_domain.VarDomain.{VarDomain}
use Rattle.pi_sat_spec.specs.declared.entry.SatEntry.{SatEntry}
use Rattle.pi_sat_spec.specs.Literals.{is_satisfied}
use Rattle.pi_sat_spec.specs.Domains.{AreDomains}
use Rattle.pi_sat_spec.specs.Solutions.{MaySearch, IsSolution}
use Rattle.pi_sat_spec.specs.Logs.{lemma_of, IsRightEntry, AreRight, IsRightLog}

-- each lemma of right entries holds in each solution
abbrev pub LemmasHold : Type 0
LemmasHold = (xs : List VarDomain) (cs : List Constraint) (log : List SatEntry) (a : ℕ → ℤ) → AreDomains xs → MaySearch xs cs → AreRight xs cs log → IsSolution xs cs a →
    (k : ℕ) (e : SatEntry) → slice_get log k ≡ Some e → IsTrue (is_satisfied a (lemma_of e))

-- over a right log there is no solution
abbrev pub NoSolutionOverARightLog : Type 0
NoSolutionOverARightLog = (xs : List VarDomain) (cs : List Constraint) (log : List SatEntry) (a : ℕ → ℤ) → AreDomains xs → MaySearch xs cs → IsRightLog xs cs log → IsSolution xs cs a → ⊥

-- right entries with one more that is right over them are right
abbrev pub RightEntriesGrow : Type 0
RightEntriesGrow = (xs : List VarDomain) (cs : List Constraint) (log : List SatEntry) (e : SatEntry) → AreRight xs cs log → IsRightEntry xs cs log e → AreRight xs cs (log ++ e ∷ [])
