-- The first row with a name, looked for from the front.
use Rattle.std.proofs.Common.{◌≡◌, ℕ, suc, ◌+◌, ◌<◌, ◌≤◌, Bool, true, false, cond, List, ◌∷◌, length, drop, get_or, sym, ap, ◌∙◌, add-one}
use Rattle.std.proofs.Math.Seq.{drop-cons}
use Rattle.std.proofs.lemmas.List.{drop_all}
use Rattle.std.specs.Prelude.{Some, None}
use Rattle.std.specs.Str.{bytes_eq}
use Rattle.std.specs.Borrow.{Bor}
use Rattle.pi_lib_builtin.specs.Resolved.{rows_shown, first_named}

first-from : {T : Type 0} (name : List ℕ) (rows : List (Bor (List ℕ) × T)) (i : ℕ) (r : Bor (List ℕ) × T) (here : Bool) → i < length rows → r ≡ get_or rows i r → here ≡ bytes_eq r.0.now name
    → first_named name (rows_shown (drop i rows)) ≡ cond here (Some r.1) (first_named name (rows_shown (drop (suc i) rows)))
unfolding first_named
first-from name rows i r here low e is =
    ap (λ rs. first_named name (rows_shown rs)) (drop-cons rows i r low ∙ ap (λ x. x ∷ drop (suc i) rows) (sym e))
    ∙ ap (λ b. cond b (Some r.1) (first_named name (rows_shown (drop (suc i) rows)))) (sym is)

pub first-here : {T : Type 0} (name : List ℕ) (rows : List (Bor (List ℕ) × T)) (i : ℕ) (r : Bor (List ℕ) × T) (here : Bool) → i < length rows → r ≡ get_or rows i r → here ≡ bytes_eq r.0.now name → here ≡ true
    → first_named name (rows_shown (drop i rows)) ≡ first_named name (rows_shown rows) → Some r.1 ≡ first_named name (rows_shown rows)
first-here name rows i r here low e is found before =
    sym (ap (λ b. cond b (Some r.1) (first_named name (rows_shown (drop (suc i) rows)))) found) ∙ (sym (first-from name rows i r here low e is) ∙ before)

pub first-behind : {T : Type 0} (name : List ℕ) (rows : List (Bor (List ℕ) × T)) (i : ℕ) (r : Bor (List ℕ) × T) (here : Bool) → i < length rows → r ≡ get_or rows i r → here ≡ bytes_eq r.0.now name → here ≡ false
    → first_named name (rows_shown (drop i rows)) ≡ first_named name (rows_shown rows) → first_named name (rows_shown (drop (i + 1) rows)) ≡ first_named name (rows_shown rows)
first-behind name rows i r here low e is other before =
    ap (λ k. first_named name (rows_shown (drop k rows))) (add-one i)
    ∙ (sym (ap (λ b. cond b (Some r.1) (first_named name (rows_shown (drop (suc i) rows)))) other) ∙ (sym (first-from name rows i r here low e is) ∙ before))

pub first-nowhere : {T : Type 0} (name : List ℕ) (rows : List (Bor (List ℕ) × T)) (i : ℕ) → length rows ≤ i → first_named name (rows_shown (drop i rows)) ≡ first_named name (rows_shown rows) → None ≡ first_named name (rows_shown rows)
unfolding first_named
first-nowhere name rows i all before = sym (ap (λ rs. first_named name (rows_shown rs)) (drop_all i rows all)) ∙ before
