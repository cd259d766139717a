-- What a search has, what its steps tell, and which of them stay. The definitions are own.
use Rattle.std.specs.Prelude.{◌≡◌, ◌≢◌, ◌⊎◌, ℕ, ◌+◌, ◌<◌, length, get_or, Bool, true, false, Option, Some, None, List, [], ◌∷◌, ◌++◌, slice_get, All, ℤ}
use Rattle.pi_constraints.specs.declared.constraint.Constraint.{Constraint}
use Rattle.pi_constraints.specs.declared.var_domain.VarDomain.{VarDomain}
use Rattle.pi_constraints.specs.Constraint.{IsWithinLimits}
use Rattle.pi_sat_spec.specs.declared.entry.SatEntry.{SatEntry}
use Rattle.pi_sat_spec.specs.declared.literal.Literal.{Literal}
use Rattle.pi_sat_spec.specs.Logs.{lemma_of, IsRightEntry, AreRight, EndsEmpty, IsRightLog}
use Rattle.pi_sat_spec.specs.Solutions.{IsSolution}
use Rattle.pi_sat_search.specs.declared.advance.Found.{Found}
use Rattle.pi_sat_search.specs.declared.stand.Stand.{Stand}
use Rattle.pi_sat_search.specs.declared.steps.SatStep.{SatStep}
use Rattle.pi_sat_search.specs.Assigned.{assigned}

-- what a search has: what it was given, the lemmas that it keeps, and how far it is
pub record Searched : Type 0 where
  pub domains : List VarDomain
  pub constraints : List Constraint
  pub log : List SatEntry
  pub stand : Stand

-- no two domains are given for one variable
abbrev pub IsOnce : List VarDomain → Type 0
IsOnce xs = (i j : ℕ) (other : VarDomain) → i < j → j < length xs → (get_or xs i other).var ≢ (get_or xs j other).var

-- no lemma is empty; none but the last one is; no two entries have one lemma
abbrev pub AreSome : List SatEntry → Type 0
AreSome log = (k : ℕ) (e : SatEntry) → slice_get log k ≡ Some e → lemma_of e ≢ []

abbrev pub AreSomeBefore : List SatEntry → Type 0
AreSomeBefore log = (k : ℕ) (e : SatEntry) → k + 1 < length log → slice_get log k ≡ Some e → lemma_of e ≢ []

abbrev pub AreApart : List SatEntry → Type 0
AreApart log = (j k : ℕ) (e f : SatEntry) → j < k → slice_get log j ≡ Some e → slice_get log k ≡ Some f → lemma_of e ≢ lemma_of f

-- no entry has this lemma
abbrev pub IsNew : List SatEntry → List Literal → Type 0
IsNew log lemma = (k : ℕ) (e : SatEntry) → slice_get log k ≡ Some e → lemma_of e ≢ lemma

-- one entry more, which is right over those before it and has a lemma that none of them has
abbrev pub AddsOne : List VarDomain → List Constraint → List SatEntry → List SatEntry → Type 0
AddsOne xs cs old new = (e : SatEntry) × (new ≡ old ++ e ∷ []) × IsRightEntry xs cs old e × IsNew old (lemma_of e)

abbrev pub IsAppended : List VarDomain → List Constraint → List SatEntry → List SatEntry → Bool → Type 0
IsAppended xs cs old new true = AddsOne xs cs old new
IsAppended xs cs old new false = new ≡ old

-- what a search comes to: one entry more, or an answer with which the log stays
abbrev pub IsFound : List VarDomain → List Constraint → List SatEntry → List SatEntry → Found → Type 0
IsFound xs cs old new Found.Learned = AddsOne xs cs old new
IsFound xs cs old new (Found.Yes a) = (new ≡ old) × IsSolution xs cs (assigned a)

-- what a search is made of
pub record MaySeek (xs : List VarDomain) (cs : List Constraint) : Type 0 where
  pub limits : All IsWithinLimits cs
  pub once : IsOnce xs

-- the entries of a search: each is right over those before it, no two have one lemma, and an empty lemma is the last one
pub record IsKept (xs : List VarDomain) (cs : List Constraint) (log : List SatEntry) : Type 0 where
  pub right : AreRight xs cs log
  pub apart : AreApart log
  pub some : AreSomeBefore log

-- what holds of a search that is so far
abbrev pub StandsFor : List VarDomain → List Constraint → List SatEntry → Stand → Type 0
StandsFor xs cs log Stand.Open = Unit {0}
StandsFor xs cs log (Stand.Yes a) = IsSolution xs cs (assigned a)
StandsFor xs cs log Stand.No = EndsEmpty log
StandsFor xs cs log Stand.Memory = Unit {0}

-- what a step tells: one lemma more, or an answer with which nothing changes
abbrev pub IsStep : Searched → Searched → SatStep → Type 0
IsStep old new SatStep.Learned = AddsOne old.domains old.constraints old.log new.log × (new.stand ≡ Stand.Open)
IsStep old new (SatStep.Yes a) = (new.log ≡ old.log) × IsSolution old.domains old.constraints (assigned a) × (new.stand ≡ Stand.Yes a)
IsStep old new SatStep.No = (new.log ≡ old.log) × IsRightLog old.domains old.constraints old.log × (new.stand ≡ Stand.No)
IsStep old new SatStep.Memory = (new.log ≡ old.log) × (new.stand ≡ Stand.Memory)

-- what the next step tells where an answer stays: the same, and for want of memory to hand a solution out once more that
abbrev pub Stays : Stand → SatStep → Type 0
Stays Stand.Open s = Unit {0}
Stays (Stand.Yes a) s = (s ≡ SatStep.Yes a) ⊎ (s ≡ SatStep.Memory)
Stays Stand.No s = s ≡ SatStep.No
Stays Stand.Memory s = s ≡ SatStep.Memory

-- what is told where the search stands so: None where it is open
abbrev pub IsAgain : Stand → Stand → Option SatStep → Type 0
IsAgain Stand.Open new told = (new ≡ Stand.Open) × (told ≡ None)
IsAgain (Stand.Yes a) new told = ((new ≡ Stand.Yes a) × (told ≡ Some (SatStep.Yes a))) ⊎ ((new ≡ Stand.Memory) × (told ≡ Some SatStep.Memory))
IsAgain Stand.No new told = (new ≡ Stand.No) × (told ≡ Some SatStep.No)
IsAgain Stand.Memory new told = (new ≡ Stand.Memory) × (told ≡ Some SatStep.Memory)

-- a solution that is told and stays, or a want of memory that does
abbrev pub IsAnswered : List (ℕ × ℤ) → Stand → SatStep → Type 0
IsAnswered a new s = ((new ≡ Stand.Yes a) × (s ≡ SatStep.Yes a)) ⊎ ((new ≡ Stand.Memory) × (s ≡ SatStep.Memory))

-- what a step of an open search tells, and where the search stands after it
abbrev pub IsFirst : List VarDomain → List Constraint → List SatEntry → List SatEntry → Stand → SatStep → Type 0
IsFirst xs cs old new stand SatStep.Learned = AreSome old × AddsOne xs cs old new × (stand ≡ Stand.Open)
IsFirst xs cs old new stand (SatStep.Yes a) = (new ≡ old) × IsSolution xs cs (assigned a) × (stand ≡ Stand.Yes a)
IsFirst xs cs old new stand SatStep.No = (new ≡ old) × EndsEmpty old × (stand ≡ Stand.No)
IsFirst xs cs old new stand SatStep.Memory = (new ≡ old) × (stand ≡ Stand.Memory)
