-- Steps of a search: those that tell again what stays, and those of an open one.
use Rattle.std.specs.Prelude.{◌≡◌, ◌⊎◌, ℕ, ◌+◌, ◌<◌, Option, Some, None, List, [], ◌∷◌, ◌++◌, length, slice_get, refl}
use Rattle.std.proofs.Common.{arith, sym, ◌∙◌, ap, subst, inl, inr}
use Rattle.std.proofs.lemmas.Bool.{cases_lt}
use Rattle.std.proofs.lemmas.List.{get_or_append_left, get_or_push, length_push}
use Rattle.std.proofs.lemmas.Option.{slice_get_within, slice_get-get_or, get_or_from_slice_get}
use Rattle.pi_constraints.specs.declared.constraint.Constraint.{Constraint}
use Rattle.pi_constraints.specs.declared.var_domain.VarDomain.{VarDomain}
use Rattle.pi_sat_spec.specs.declared.entry.SatEntry.{SatEntry}
use Rattle.pi_sat_spec.specs.Logs.{lemma_of, AreRight, EndsEmpty}
use Rattle.pi_sat_spec.proofs.GrowLemmas.{right_entries_grow}
use Rattle.pi_sat_search.specs.declared.stand.Stand.{Stand}
use Rattle.pi_sat_search.specs.declared.steps.SatStep.{SatStep}
use Rattle.pi_sat_search.specs.Steps.{Searched, IsNew, AreSome, AreSomeBefore, AreApart, IsKept, AddsOne, StandsFor, IsStep, Stays, IsAgain, IsFirst}

abbrev pub searched : List VarDomain → List Constraint → List SatEntry → Stand → Searched
searched xs cs log stand = record { domains = xs; constraints = cs; log = log; stand = stand }

step-or : SatStep → Option SatStep → SatStep
step-or d None = d
step-or d (Some s) = s

told-is : (s t : SatStep) → Some s ≡ Some t → s ≡ t
unfolding step-or
told-is s t e = ap (step-or s) e

-- ---- what stays

pub again-stands : (xs : List VarDomain) (cs : List Constraint) (log : List SatEntry) (old new : Stand) (told : Option SatStep) → StandsFor xs cs log old → IsAgain old new told → StandsFor xs cs log new
again-stands xs cs log Stand.Open new told h r = subst (StandsFor xs cs log) (sym r.0) h
again-stands xs cs log (Stand.Yes a) new told h (inl r) = subst (StandsFor xs cs log) (sym r.0) h
again-stands xs cs log (Stand.Yes a) new told h (inr r) = subst (StandsFor xs cs log) (sym r.0) tt
again-stands xs cs log Stand.No new told h r = subst (StandsFor xs cs log) (sym r.0) h
again-stands xs cs log Stand.Memory new told h r = subst (StandsFor xs cs log) (sym r.0) tt

pub again-step : (xs : List VarDomain) (cs : List Constraint) (log : List SatEntry) (old new : Stand) (s : SatStep) → AreRight xs cs log → StandsFor xs cs log old → IsAgain old new (Some s) →
    IsStep (searched xs cs log old) (searched xs cs log new) s
again-step xs cs log Stand.Open new s right h r = let e : Some s ≡ None = r.1 in absurd cc
again-step xs cs log (Stand.Yes a) new s right h (inl r) = subst (IsStep (searched xs cs log (Stand.Yes a)) (searched xs cs log new)) (sym (told-is s (SatStep.Yes a) r.1)) (refl, h, r.0)
again-step xs cs log (Stand.Yes a) new s right h (inr r) = subst (IsStep (searched xs cs log (Stand.Yes a)) (searched xs cs log new)) (sym (told-is s SatStep.Memory r.1)) (refl, r.0)
again-step xs cs log Stand.No new s right h r =
    subst (IsStep (searched xs cs log Stand.No) (searched xs cs log new)) (sym (told-is s SatStep.No r.1)) (refl, record { entries = right; last = h }, r.0)
again-step xs cs log Stand.Memory new s right h r = subst (IsStep (searched xs cs log Stand.Memory) (searched xs cs log new)) (sym (told-is s SatStep.Memory r.1)) (refl, r.0)

pub again-stays : (old new : Stand) (s : SatStep) → IsAgain old new (Some s) → Stays old s
again-stays Stand.Open new s r = tt
again-stays (Stand.Yes a) new s (inl r) = inl (told-is s (SatStep.Yes a) r.1)
again-stays (Stand.Yes a) new s (inr r) = inr (told-is s SatStep.Memory r.1)
again-stays Stand.No new s r = told-is s SatStep.No r.1
again-stays Stand.Memory new s r = told-is s SatStep.Memory r.1

pub again-open : (old new : Stand) → IsAgain old new None → (old ≡ Stand.Open) × (new ≡ Stand.Open)
again-open Stand.Open new r = (refl, r.0)
again-open (Stand.Yes a) new (inl r) = let e : None ≡ Some (SatStep.Yes a) = r.1 in absurd cc
again-open (Stand.Yes a) new (inr r) = let e : None ≡ Some SatStep.Memory = r.1 in absurd cc
again-open Stand.No new r = let e : None ≡ Some SatStep.No = r.1 in absurd cc
again-open Stand.Memory new r = let e : None ≡ Some SatStep.Memory = r.1 in absurd cc

-- ---- entries that are kept

read-push : (log : List SatEntry) (e f : SatEntry) (k : ℕ) → slice_get (log ++ e ∷ []) k ≡ Some f → ((k < length log) × (slice_get log k ≡ Some f)) ⊎ ((k ≡ length log) × (f ≡ e))
read-push log e f k is =
    let inside : k < length (log ++ e ∷ []) = slice_get_within (log ++ e ∷ []) k f is in
    elim (cases_lt k (length log)) [
      | inl l ↦ inl (l, slice_get-get_or log k f l ∙ ap Some (sym (get_or_append_left log (e ∷ []) f k l) ∙ get_or_from_slice_get (log ++ e ∷ []) k f f is))
      | inr past ↦
          let at : k ≡ length log = omega (arith, past, inside, length_push log e) in
          inr (at, sym (get_or_from_slice_get (log ++ e ∷ []) k f f is) ∙ get_or_push log e f k (sym at))
    ]

apart-push : (log : List SatEntry) (e : SatEntry) → AreApart log → IsNew log (lemma_of e) → AreApart (log ++ e ∷ [])
apart-push log e apart new j k f g less first second same = elim (read-push log e g k second) [
  | inl inside ↦ elim (read-push log e f j first) [
    | inl before ↦ apart j k f g less before.1 inside.1 same
    | inr at ↦ (let l = inside.0 in let m = at.0 in omega (arith, less, l, m))
  ]
  | inr last ↦ elim (read-push log e f j first) [
    | inl before ↦ new j f before.1 (same ∙ ap lemma_of last.1)
    | inr at ↦ (let l = last.0 in let m = at.0 in omega (arith, less, l, m))
  ]
]

some-push : (log : List SatEntry) (e : SatEntry) → AreSome log → AreSomeBefore (log ++ e ∷ [])
some-push log e some k f l is = elim (read-push log e f k is) [
  | inl inside ↦ some k f inside.1
  | inr last ↦ (let m = last.0 in omega (arith, l, m, length_push log e))
]

-- where the last lemma isn't empty none is
pub all-some : (log : List SatEntry) → AreSomeBefore log → (EndsEmpty log → ⊥) → AreSome log
all-some log before more k e is none = elim (cases_lt (k + 1) (length log)) [
  | inl l ↦ before k e l is none
  | inr past ↦
      let inside : k < length log = slice_get_within log k e is in
      more (e, ap (slice_get log) (omega (arith, past, inside)) ∙ is, none)
]

pub kept-more : (xs : List VarDomain) (cs : List Constraint) (old new : List SatEntry) → AreSome old → IsKept xs cs old → AddsOne xs cs old new → IsKept xs cs new
kept-more xs cs old new some kept one =
    subst (IsKept xs cs) (sym one.1)
    (record { right = right_entries_grow xs cs old one.0 kept.right one.2; apart = apart-push old one.0 kept.apart one.3; some = some-push old one.0 some })

pub none-kept : (xs : List VarDomain) (cs : List Constraint) (log : List SatEntry) → log ≡ [] → IsKept xs cs log
none-kept xs cs log e = subst (IsKept xs cs) (sym e) (record {
  right = λ k x is. absurd (let f : None ≡ Some x = is in cc);
  apart = λ j k x y less first second same. absurd (let f : None ≡ Some x = first in cc);
  some = λ k x l is same. absurd (let f : None ≡ Some x = is in cc);
})

-- ---- an open search

pub first-kept : (xs : List VarDomain) (cs : List Constraint) (old new : List SatEntry) (stand : Stand) (s : SatStep) → IsKept xs cs old → IsFirst xs cs old new stand s → IsKept xs cs new
first-kept xs cs old new stand SatStep.Learned kept r = kept-more xs cs old new r.0 kept r.1
first-kept xs cs old new stand (SatStep.Yes a) kept r = subst (IsKept xs cs) (sym r.0) kept
first-kept xs cs old new stand SatStep.No kept r = subst (IsKept xs cs) (sym r.0) kept
first-kept xs cs old new stand SatStep.Memory kept r = subst (IsKept xs cs) (sym r.0) kept

pub first-stands : (xs : List VarDomain) (cs : List Constraint) (old new : List SatEntry) (stand : Stand) (s : SatStep) → IsFirst xs cs old new stand s → StandsFor xs cs new stand
first-stands xs cs old new stand SatStep.Learned r = subst (StandsFor xs cs new) (sym r.2) tt
first-stands xs cs old new stand (SatStep.Yes a) r = subst (StandsFor xs cs new) (sym r.2) r.1
first-stands xs cs old new stand SatStep.No r = subst (StandsFor xs cs new) (sym r.2) (subst EndsEmpty (sym r.0) r.1)
first-stands xs cs old new stand SatStep.Memory r = subst (StandsFor xs cs new) (sym r.1) tt

pub first-step : (xs : List VarDomain) (cs : List Constraint) (old new : List SatEntry) (before stand : Stand) (s : SatStep) → AreRight xs cs old → IsFirst xs cs old new stand s →
    IsStep (searched xs cs old before) (searched xs cs new stand) s
first-step xs cs old new before stand SatStep.Learned right r = (r.1, r.2)
first-step xs cs old new before stand (SatStep.Yes a) right r = r
first-step xs cs old new before stand SatStep.No right r = (r.0, record { entries = right; last = r.1 }, r.2)
first-step xs cs old new before stand SatStep.Memory right r = r
