-- Lemmas that are one, and lemmas that no entry has.
use Rattle.std.specs.Prelude.{◌≡◌, ◌≢◌, ℕ, ◌<◌, ◌≤◌, Some, List, length, get_or, slice_get}
use Rattle.std.proofs.Common.{arith, sym, ◌∙◌, ap}
use Rattle.std.proofs.lemmas.List.{ext_get_or}
use Rattle.std.proofs.lemmas.Option.{slice_get_within, slice_get-get_or, get_or_from_slice_get}
use Rattle.pi_sat_spec.specs.declared.entry.SatEntry.{SatEntry}
use Rattle.pi_sat_spec.specs.declared.literal.Literal.{Literal}
use Rattle.pi_sat_spec.specs.Logs.{lemma_of}
use Rattle.pi_sat_search.specs.Steps.{IsNew}

pub same-lists : (first second : List Literal) (i : ℕ) (other : Literal) → length first ≡ length second → length first ≤ i → ((k : ℕ) (d : Literal) → k < i → get_or first k d ≡ get_or second k d) → first ≡ second
same-lists first second i other count past same = ext_get_or other first second count (λ k l. same k other (omega arith))

-- an entry that was read at place i has another lemma
pub read-differs : (entries : List SatEntry) (i : ℕ) (x : SatEntry) (lemma : List Literal) → x ≡ get_or entries i x → lemma_of x ≢ lemma → (e : SatEntry) → slice_get entries i ≡ Some e → lemma_of e ≢ lemma
read-differs entries i x lemma read differs e is same =
    let inside : i < length entries = slice_get_within entries i e is in
    let here : get_or entries i x ≡ e = get_or_from_slice_get entries i e x is in
    differs (ap lemma_of (read ∙ here) ∙ same)

pub seen-before : (entries : List SatEntry) (i : ℕ) (x : SatEntry) (lemma : List Literal) → i < length entries → x ≡ get_or entries i x → lemma_of x ≡ lemma → IsNew entries lemma → ⊥
seen-before entries i x lemma inside read same new = new i x (slice_get-get_or entries i x inside ∙ ap Some (sym read)) same
