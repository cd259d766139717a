-- Right entries and right logs. The rules are own.
use Rattle.std.specs.Prelude.{◌≡◌, ◌⊎◌, ℕ, ◌<◌, ◌-◌, Bool, true, false, ◌||◌, IsTrue, Option, Some, None, List, [], ◌∷◌, length, slice_get, take, All, ℤ}
use Rattle.pi_constraints.specs.declared.constraint.Constraint.{Constraint}
use Rattle.pi_constraints.specs.declared.domain.Span.{Span}
use Rattle.pi_constraints.specs.declared.var_domain.VarDomain.{VarDomain}
use Rattle.pi_prop_spec.specs.Places.{places_of}
use Rattle.pi_prop_spec.specs.Filter.{Leaves}
use Rattle.pi_sat_spec.specs.declared.entry.SatEntry.{SatEntry}
use Rattle.pi_sat_spec.specs.declared.literal.Literal.{Literal}
use Rattle.pi_sat_spec.specs.Domains.{cut, refuted, has_empty, allowed, at_places, IsLemma}

abbrev pub lemma_of : SatEntry → List Literal
lemma_of (SatEntry.FromConstraint lemma constraint) = lemma
lemma_of (SatEntry.Learned lemma hints) = lemma

abbrev pub lemma_or_none : Option SatEntry → List Literal
lemma_or_none None = []
lemma_or_none (Some e) = lemma_of e

-- the lemma with this number
abbrev pub lemma_at : List SatEntry → ℕ → List Literal
lemma_at entries h = lemma_or_none (slice_get entries h)

-- no literal is allowed, which ends a test; or just one, with which it goes on
abbrev pub by_only : List Literal → (Literal → Bool) → Bool
by_only [] goes_on = true
by_only (l ∷ []) goes_on = goes_on l
by_only (l ∷ m ∷ ms) goes_on = false

-- The hinted lemmas in order: each has just one literal that the present domains allow, which cuts them, until one has none. An allowed literal leaves its
-- variable a value, so no domain becomes empty here.
unfoldable pub leads_on : List SatEntry → List VarDomain → List ℕ → Bool
leads_on earlier xs [] = false
leads_on earlier xs (h ∷ hs) = by_only (allowed xs (lemma_at earlier h)) (λ l. leads_on earlier (cut xs l) hs)

-- the filter of a constraint leaves some place nothing
abbrev pub Empties : Constraint → List (List Span) → Type 0
Empties c ds = (k : ℕ) × (k < length (places_of c)) × ((n : ℤ) → Leaves c ds k n → ⊥)

-- domains in which a constraint doesn't hold, as its filter shows
abbrev pub Refutes : Constraint → List VarDomain → Type 0
Refutes c xs = IsTrue (has_empty xs) ⊎ Empties c (at_places xs c)

-- an entry is right over those before it
abbrev pub IsRightEntry : List VarDomain → List Constraint → List SatEntry → SatEntry → Type 0
IsRightEntry xs cs earlier (SatEntry.FromConstraint lemma constraint) =
    IsLemma xs lemma × ((c : Constraint) × (slice_get cs constraint ≡ Some c) × Refutes c (refuted xs lemma))
IsRightEntry xs cs earlier (SatEntry.Learned lemma hints) =
    IsLemma xs lemma × All (λ h. h < length earlier) hints × IsTrue (has_empty (refuted xs lemma) || leads_on earlier (refuted xs lemma) hints)

-- each entry is right over those before it
abbrev pub AreRight : List VarDomain → List Constraint → List SatEntry → Type 0
AreRight xs cs log = (k : ℕ) (e : SatEntry) → slice_get log k ≡ Some e → IsRightEntry xs cs (take k log) e

-- the last lemma is there, and is empty
abbrev pub EndsEmpty : List SatEntry → Type 0
EndsEmpty log = (e : SatEntry) × (slice_get log (length log - 1) ≡ Some e) × (lemma_of e ≡ [])

pub record IsRightLog (xs : List VarDomain) (cs : List Constraint) (log : List SatEntry) : Type 0 where
  pub entries : AreRight xs cs log
  pub last : EndsEmpty log
