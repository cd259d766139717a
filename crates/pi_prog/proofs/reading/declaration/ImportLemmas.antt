-- Names of libraries with commas between them.
use Rattle.std.proofs.Common.{◌≡◌, ℕ, ◌+◌, ◌<◌, ◌≤◌, true, false, inl, inr, List, [], ◌∷◌, ◌++◌, slice_get, codes, Option, Some, None, refl, ap, sym, subst, ◌∙◌, arith, append_assoc}
use Rattle.std.specs.Prelude.{option_map}
use Rattle.std.proofs.lemmas.Bool.{cases_Bool}
use Rattle.pi_syntax.specs.Tokens.{Token, Var, Atom, Word, Int, Str, Sign, End, is_one_of}
use Rattle.pi_expr.specs.Faults.{stretch}
use Rattle.pi_expr.proofs.CrowdLemmas.{stretch_step, stretch_none}
use Rattle.pi_prog_clauses.specs.Declaration.{libraries, imported, is_sign}
use Rattle.pi_prog.specs.Pieces.{library_of}

abbrev Names : Type 0
Names = List (List ℕ)

none_here : imported [] ≡ None
unfolding imported
none_here = refl

not_library : (name : List ℕ) → library_of (Atom name) ≡ None → is_one_of libraries name ≡ false
not_library name h = elim (cases_Bool (is_one_of libraries name)) [
  | inl holds ↦ let some : library_of (Atom name) ≡ Some name = rw holds refl in absurd (cc)
  | inr lacks ↦ lacks
]

library_not : (t : Token) (ts : List Token) → library_of t ≡ None → imported (t ∷ ts) ≡ None
unfolding imported
library_not (Atom name) [] h = let lacks = not_library name h in rw lacks refl
library_not (Atom name) (c ∷ ts) h = let lacks = not_library name h in rw lacks refl
library_not (Var n) ts h = refl
library_not (Word n) ts h = refl
library_not (Int n) ts h = refl
library_not (Str n) ts h = refl
library_not (Sign n) ts h = refl
library_not End ts h = refl

-- the token is the name of a library
record IsLibrary (t : Token) (name : List ℕ) : Type 0 where
  is : t ≡ Atom name
  listed : is_one_of libraries name ≡ true

none_is_some : {X : Type 0} (x : X) (o : Option X) → o ≡ None → o ≡ Some x → ⊥
none_is_some x o a b = cc

some_same : {X : Type 0} (x y : X) → Some x ≡ Some y → x ≡ y
some_same x y e = cc

library_is : (t : Token) (name : List ℕ) → library_of t ≡ Some name → IsLibrary t name
library_is (Atom n) name h = elim (cases_Bool (is_one_of libraries n)) [
  | inl holds ↦ let same : n ≡ name = some_same n name (sym (let some : library_of (Atom n) ≡ Some n = rw holds refl in some) ∙ h) in record { is = ap (λ x. Atom x) same; listed = subst (λ x. is_one_of libraries x ≡ true) same holds }
  | inr lacks ↦ absurd (none_is_some name (library_of (Atom n)) (rw lacks refl) h)
]
library_is (Var n) name h = absurd (cc)
library_is (Word n) name h = absurd (cc)
library_is (Int n) name h = absurd (cc)
library_is (Str n) name h = absurd (cc)
library_is (Sign n) name h = absurd (cc)
library_is End name h = absurd (cc)

alone : (name : List ℕ) → is_one_of libraries name ≡ true → imported (Atom name ∷ []) ≡ Some (name ∷ [])
unfolding imported
alone name h = rw h refl

behind_comma : (name : List ℕ) (c : Token) (ts : List Token) → is_one_of libraries name ≡ true → is_sign (codes ",") c ≡ true → imported (Atom name ∷ c ∷ ts) ≡ option_map (λ names. name ∷ names) (imported ts)
unfolding imported
behind_comma name c ts h k = rw (h, k) refl

no_comma : (name : List ℕ) (c : Token) (ts : List Token) → is_one_of libraries name ≡ true → is_sign (codes ",") c ≡ false → imported (Atom name ∷ c ∷ ts) ≡ None
unfolding imported
no_comma name c ts h k = rw (h, k) refl

abbrev pub with_names : Names → Option Names → Option Names
with_names names o = option_map (λ more. names ++ more) o

names_more : (names : Names) (name : List ℕ) (o : Option Names) → with_names names (option_map (λ more. name ∷ more) o) ≡ with_names (names ++ name ∷ []) o
names_more names name None = refl
names_more names name (Some more) = ap (λ x. Some x) (sym (append_assoc names (name ∷ []) more))

names_none : (o : Option Names) → o ≡ with_names [] o
names_none None = refl
names_none (Some more) = refl

abbrev pub Imported : List Token → ℕ → ℕ → ℕ → Names → Type 0
Imported ts from at to names = imported (stretch ts from to) ≡ with_names names (imported (stretch ts at to))

pub imported_none : (ts : List Token) (from to : ℕ) (names : Names) → names ≡ [] → Imported ts from from to names
imported_none ts from to names is = names_none (imported (stretch ts from to)) ∙ ap (λ xs. with_names xs (imported (stretch ts from to))) (sym is)

pub imported_end : (ts : List Token) (from at to : ℕ) (names : Names) → to ≤ at → Imported ts from at to names → imported (stretch ts from to) ≡ None
imported_end ts from at to names h walked = walked ∙ ap (λ xs. with_names names (imported xs)) (stretch_none ts at to h) ∙ ap (with_names names) none_here

pub imported_not : (ts : List Token) (from at to : ℕ) (names : Names) (t : Token) → at < to → slice_get ts at ≡ Some t → library_of t ≡ None → Imported ts from at to names → imported (stretch ts from to) ≡ None
imported_not ts from at to names t h is lacks walked =
    walked ∙ ap (λ xs. with_names names (imported xs)) (stretch_step ts at (at + 1) to t refl is h) ∙ ap (with_names names) (library_not t (stretch ts (at + 1) to) lacks)

pub imported_last : (ts : List Token) (from at next to : ℕ) (names all : Names) (t : Token) (name : List ℕ) → next ≡ at + 1 → next ≡ to → slice_get ts at ≡ Some t → library_of t ≡ Some name → all ≡ names ++ name ∷ []
    → Imported ts from at to names → Some all ≡ imported (stretch ts from to)
imported_last ts from at next to names all t name n last is lib made walked =
    let l = library_is t name lib in
    sym (walked ∙ ap (λ xs. with_names names (imported xs)) (stretch_step ts at next to t n is (omega (arith, n, last)) ∙ ap (λ xs. t ∷ xs) (stretch_none ts next to (omega (arith, last))) ∙ ap (λ u. u ∷ []) l.is)
    ∙ ap (with_names names) (alone name l.listed) ∙ ap (λ x. Some x) (sym made))

pub imported_no_comma : (ts : List Token) (from at next to : ℕ) (names : Names) (t c : Token) (name : List ℕ) → next ≡ at + 1 → next < to → slice_get ts at ≡ Some t → library_of t ≡ Some name → slice_get ts next ≡ Some c
    → is_sign (codes ",") c ≡ false → Imported ts from at to names → imported (stretch ts from to) ≡ None
imported_no_comma ts from at next to names t c name n h is lib is_c not_comma walked =
    let l = library_is t name lib in
    walked ∙ ap (λ xs. with_names names (imported xs)) (stretch_step ts at next to t n is (omega (arith, n, h)) ∙ ap (λ u. u ∷ stretch ts next to) l.is ∙ ap (λ xs. Atom name ∷ xs) (stretch_step ts next (next + 1) to c refl is_c h))
    ∙ ap (with_names names) (no_comma name c (stretch ts (next + 1) to) l.listed not_comma)

pub imported_more : (ts : List Token) (from at next after to : ℕ) (names all : Names) (t c : Token) (name : List ℕ) → next ≡ at + 1 → after ≡ next + 1 → next < to → slice_get ts at ≡ Some t → library_of t ≡ Some name → slice_get ts next ≡ Some c
    → is_sign (codes ",") c ≡ true → all ≡ names ++ name ∷ [] → Imported ts from at to names → Imported ts from after to all
imported_more ts from at next after to names all t c name n a h is lib is_c comma made walked =
    let l = library_is t name lib in
    walked ∙ ap (λ xs. with_names names (imported xs)) (stretch_step ts at next to t n is (omega (arith, n, h)) ∙ ap (λ u. u ∷ stretch ts next to) l.is ∙ ap (λ xs. Atom name ∷ xs) (stretch_step ts next after to c a is_c h))
    ∙ ap (with_names names) (behind_comma name c (stretch ts after to) l.listed comma)
    ∙ names_more names name (imported (stretch ts after to))
    ∙ ap (λ xs. with_names xs (imported (stretch ts after to))) (sym made)
