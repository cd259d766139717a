-- Right entries, and one more.
use Rattle.std.specs.Prelude.{◌≡◌, ℕ, ◌<◌, ◌≤◌, Some, List, [], ◌∷◌, ◌++◌, length, get_or, slice_get, take}
use Rattle.std.proofs.Common.{arith, sym, ◌∙◌, ap, subst, inl, inr}
use Rattle.std.proofs.lemmas.Bool.{cases_lt}
use Rattle.std.proofs.lemmas.List.{get_or_append_left, get_or_push, take-append-le, take_at, length_push}
use Rattle.std.proofs.lemmas.Option.{slice_get_within, slice_get-get_or, get_or_from_slice_get}
use Rattle.pi_constraints.specs.declared.constraint.Constraint.{Constraint}
use Rattle.pi_constraints.specs.declared.var_domain.VarDomain.{VarDomain}
use Rattle.pi_sat_spec.specs.declared.entry.SatEntry.{SatEntry}
use Rattle.pi_sat_spec.specs.Logs.{IsRightEntry, AreRight}
use Rattle.pi_sat_spec.specs.Laws.{RightEntriesGrow}

earlier-right : (xs : List VarDomain) (cs : List Constraint) (log : List SatEntry) (e : SatEntry) → AreRight xs cs log → (k : ℕ) (x : SatEntry) → k < length log → slice_get (log ++ e ∷ []) k ≡ Some x →
    IsRightEntry xs cs (take k (log ++ e ∷ [])) x
earlier-right xs cs log e right k x l is =
    let same : get_or log k x ≡ x = sym (get_or_append_left log (e ∷ []) x k l) ∙ get_or_from_slice_get (log ++ e ∷ []) k x x is in
    subst (λ (before : List SatEntry). IsRightEntry xs cs before x) (sym (take-append-le k log (e ∷ []) (omega (arith, l)))) (right k x (slice_get-get_or log k x l ∙ ap Some same))

last-right : (xs : List VarDomain) (cs : List Constraint) (log : List SatEntry) (e : SatEntry) → IsRightEntry xs cs log e → (k : ℕ) (x : SatEntry) → length log ≤ k → slice_get (log ++ e ∷ []) k ≡ Some x →
    IsRightEntry xs cs (take k (log ++ e ∷ [])) x
last-right xs cs log e r k x past is =
    let inside : k < length (log ++ e ∷ []) = slice_get_within (log ++ e ∷ []) k x is in
    let at : length log ≡ k = omega (arith, past, inside, length_push log e) in
    let same : e ≡ x = sym (get_or_push log e x k at) ∙ get_or_from_slice_get (log ++ e ∷ []) k x x is in
    subst (λ (before : List SatEntry). IsRightEntry xs cs before x) (sym (take_at log (e ∷ []) k at)) (subst (IsRightEntry xs cs log) same r)

pub right_entries_grow : RightEntriesGrow
right_entries_grow xs cs log e right r k x is = elim (cases_lt k (length log)) [
  | inl l ↦ earlier-right xs cs log e right k x l is
  | inr past ↦ last-right xs cs log e r k x past is
]
