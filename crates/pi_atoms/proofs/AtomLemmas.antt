-- The names of atoms: a table of strings stays without two that are the same.
use Rattle.std.proofs.Common.{◌≡◌, ◌⊎◌, ℕ, zero, suc, ◌+◌, ◌<◌, ◌≤◌, Bool, true, false, List, [], ◌∷◌, ◌++◌, length, Some, refl, ap, sym, ◌∙◌, inl, inr, map, subst, if◌then◌else◌, arith, ⊎_elim}
use Rattle.std.proofs.lemmas.Bool.{cases_lt}
use Rattle.std.proofs.Math.ListN.{get_or}
use Rattle.std.specs.Prelude.{slice_get, position, not, ◌||◌, option_map, String}
use Rattle.std.specs.List.{list_any, AllZip}
use Rattle.std.specs.Str.{bytes_eq}
use Rattle.std.specs.String.{string_bytes}
use Rattle.std.specs.declared.alloc.Global.{Global}
use Rattle.std.proofs.lemmas.Slice.Eq.{bytes_eq-Decides}
use Rattle.std.proofs.lemmas.List.{map-append, append-nil}
use Rattle.std.proofs.lemmas.List.Quantifiers.{position-Some}
use Rattle.std.proofs.lemmas.Option.{slice_get-get_or, slice_get-map, slice_get_within}
use Rattle.pi_atoms.specs.Names.{HasDistinct, Gains}

abbrev Strings : Type 0
Strings = List (String Global)

-- the bytes of the strings
abbrev pub bytes_of : Strings → List (List ℕ)
bytes_of ks = map string_bytes ks

same_bytes : (xs ys : List ℕ) → bytes_eq xs ys ≡ true → xs ≡ ys
same_bytes xs ys e = (bytes_eq-Decides xs ys).0 e

abbrev pub inserted : Strings → String Global → Bool → Strings
inserted ks k b = if b then ks else ks ++ k ∷ []

pub grows : (ks : Strings) (k : String Global) (b : Bool) → Gains (bytes_of ks) (bytes_of (inserted ks k b)) (string_bytes k)
grows ks k true = ([], sym (append-nil (bytes_of ks)), inl refl)
grows ks k false = (string_bytes k ∷ [], map-append string_bytes ks (k ∷ []), inr refl)

or_second : (a b : Bool) → (a || b) ≡ false → b ≡ false
or_second true b e = absurd (cc)
or_second false b e = e

absent : (ks : Strings) (y : List ℕ) → list_any (λ k. bytes_eq y (string_bytes k)) ks ≡ false → (i : ℕ) → slice_get (bytes_of ks) i ≡ Some y → ⊥
absent [] y e i h = absurd (cc)
absent (k ∷ ks) y e zero h =
    let same : string_bytes k ≡ y = cc in
    let here : bytes_eq y (string_bytes k) ≡ true = (bytes_eq-Decides y (string_bytes k)).1 (sym same) in
    let is : (true || list_any (λ j. bytes_eq y (string_bytes j)) ks) ≡ false = ap (λ b. b || list_any (λ j. bytes_eq y (string_bytes j)) ks) (sym here) ∙ e in
    absurd (cc)
absent (k ∷ ks) y e (suc i) h = absent ks y (or_second (bytes_eq y (string_bytes k)) (list_any (λ j. bytes_eq y (string_bytes j)) ks) e) i h

pub stored : (ks : Strings) (i : ℕ) (k : String Global) (y : List ℕ) → slice_get ks i ≡ Some k → bytes_eq y (string_bytes k) ≡ true → slice_get (bytes_of ks) i ≡ Some y
stored ks i k y e h = slice_get-map string_bytes ks i ∙ (ap (λ o. option_map string_bytes o) e ∙ ap Some (sym (same_bytes y (string_bytes k) h)))

pub at_place : (ks : Strings) (y : List ℕ) (i : ℕ) → position (λ k. bytes_eq y (string_bytes k)) ks ≡ Some i → slice_get (bytes_of ks) i ≡ Some y
at_place [] y i e = absurd (cc)
at_place (k ∷ ks) y i e =
    let p = position-Some (λ j. bytes_eq y (string_bytes j)) (k ∷ ks) i k e in
    stored (k ∷ ks) i (get_or (k ∷ ks) i k) y (slice_get-get_or (k ∷ ks) i k p.0) p.1

pub stored_as : (ks : Strings) (i : ℕ) (value k : String Global) (y : List ℕ) → string_bytes value ≡ y → slice_get ks i ≡ Some k → bytes_eq (string_bytes value) (string_bytes k) ≡ true → slice_get (bytes_of ks) i ≡ Some y
stored_as ks i value k y s e h = stored ks i k (string_bytes value) e h ∙ ap Some s

-- a name at a place of more names was at that place, or it is the last
at_last : (names : List (List ℕ)) (y : List ℕ) (i : ℕ) (name : List ℕ) → slice_get (names ++ y ∷ []) i ≡ Some name → (slice_get names i ≡ Some name) ⊎ ((i ≡ length names) × (name ≡ y))
at_last [] y zero name e = inr (refl, cc)
at_last [] y (suc i) name e = absurd (cc)
at_last (n ∷ names) y zero name e = inl e
at_last (n ∷ names) y (suc i) name e = elim (at_last names y i name e) [ inl h ↦ inl h | inr h ↦ inr (ap suc h.0, h.1) ]

distinct_last : (names : List (List ℕ)) (y : List ℕ) → HasDistinct names → ((i : ℕ) → slice_get names i ≡ Some y → ⊥) → HasDistinct (names ++ y ∷ [])
distinct_last names y d new = record {
  same = λ j k name p q. elim (at_last names y j name p) [
    | inl h ↦ elim (at_last names y k name q) [
      | inl i ↦ d.same j k name h i
      | inr i ↦ let at : slice_get names j ≡ Some y = h ∙ ap Some i.1 in absurd (new j at)
    ]
    | inr h ↦ elim (at_last names y k name q) [
      | inl i ↦ let at : slice_get names k ≡ Some y = i ∙ ap Some h.1 in absurd (new k at)
      | inr i ↦ h.0 ∙ sym i.0
    ]
  ];
}

pub distinct_inserted : (ks : Strings) (k : String Global) (b : Bool) → list_any (λ j. bytes_eq (string_bytes k) (string_bytes j)) ks ≡ b → HasDistinct (bytes_of ks) → HasDistinct (bytes_of (inserted ks k b))
distinct_inserted ks k true e d = d
distinct_inserted ks k false e d = let at : bytes_of (ks ++ k ∷ []) ≡ bytes_of ks ++ string_bytes k ∷ [] = map-append string_bytes ks (k ∷ []) in
    let P : List (List ℕ) → Type 0 = λ names. HasDistinct names in
    subst P (sym at) (distinct_last (bytes_of ks) (string_bytes k) d (absent ks (string_bytes k) e))

pub distinct_after : (ks ms : Strings) (k : String Global) → ms ≡ inserted ks k (list_any (λ j. bytes_eq (string_bytes k) (string_bytes j)) ks) → HasDistinct (bytes_of ks) → HasDistinct (bytes_of ms)
distinct_after ks ms k e d = let P : Strings → Type 0 = λ l. HasDistinct (bytes_of l) in
    subst P (sym e) (distinct_inserted ks k (list_any (λ j. bytes_eq (string_bytes k) (string_bytes j)) ks) refl d)

pub grows_after : (ks ms : Strings) (k : String Global) (b : Bool) (names : List (List ℕ)) (name : List ℕ) → ms ≡ inserted ks k b → bytes_of ks ≡ names → string_bytes k ≡ name → Gains names (bytes_of ms) name
grows_after ks ms k b names name e f t =
    let g = grows ks k b in
    let at : bytes_of ms ≡ names ++ g.0 = ap bytes_of e ∙ (g.1 ∙ ap (λ l. l ++ g.0) f) in
    let P : List ℕ → Type 0 = λ x. (g.0 ≡ []) ⊎ (g.0 ≡ x ∷ []) in
    (g.0, at, subst P t g.2)

-- strings that are the same one by one have the same bytes
pub same_names : (ks ms : Strings) → AllZip (λ s t. string_bytes t ≡ string_bytes s) ks ms → bytes_of ms ≡ bytes_of ks
same_names [] [] a = refl
same_names [] (m ∷ ms) a = absurd a
same_names (k ∷ ks) [] a = absurd a
same_names (k ∷ ks) (m ∷ ms) a = λ i. a.0 i ∷ same_names ks ms a.1 i

pub distinct_copied : (ks ms : Strings) → AllZip (λ s t. string_bytes t ≡ string_bytes s) ks ms → HasDistinct (bytes_of ks) → HasDistinct (bytes_of ms)
distinct_copied ks ms a d = subst (λ (names : List (List ℕ)). HasDistinct names) (sym (same_names ks ms a)) d

not_no : (b : Bool) → false ≡ not b → b ≡ true
not_no true e = refl
not_no false e = absurd (cc)

pub same_text : (x y : List ℕ) → false ≡ not (bytes_eq x y) → x ≡ y
same_text x y e = same_bytes x y (not_no (bytes_eq x y) e)

abbrev HasThoseBelow : ℕ → List (List ℕ) → List (List ℕ) → Type 0
HasThoseBelow k xs ys = (j : ℕ) (name : List ℕ) → j < k → slice_get ys j ≡ Some name → slice_get xs j ≡ Some name

-- one more number has the same name in both
pub same_next : (xs ys : List (List ℕ)) (k : ℕ) (x y : List ℕ) → length ys ≤ length xs → k < length ys → HasThoseBelow k xs ys
    → ((name : List ℕ) → slice_get xs k ≡ Some name → x ≡ name) → ((name : List ℕ) → slice_get ys k ≡ Some name → y ≡ name) → x ≡ y → HasThoseBelow (k + 1) xs ys
same_next xs ys k x y le lt before left right same j name at e = ⊎_elim
    (λ below. before j name below e)
    (λ above.
    let is : j ≡ k = omega arith in
    let here : slice_get ys k ≡ Some name = sym (ap (λ n. slice_get ys n) is) ∙ e in
    let has : slice_get xs k ≡ Some (get_or xs k []) = slice_get-get_or xs k [] (omega arith) in
    ap (λ n. slice_get xs n) is ∙ (has ∙ ap Some (sym (left _ has) ∙ (same ∙ right name here))))
    (cases_lt j k)

pub same_all : (xs ys : List (List ℕ)) (k : ℕ) → length ys ≤ k → HasThoseBelow k xs ys → (j : ℕ) (name : List ℕ) → slice_get ys j ≡ Some name → slice_get xs j ≡ Some name
same_all xs ys k le all j name e =
    let lt : j < length ys = slice_get_within ys j name e in
    all j name (omega arith) e
