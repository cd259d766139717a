-- How parts begin.
use Rattle.std.proofs.Common.{◌≡◌, ℕ, ◌+◌, ◌<◌, ◌≤◌, Bool, true, false, ◌||◌, List, [], ◌∷◌, length, slice_get, codes, Some, refl, ap, sym, subst, ◌∙◌, arith}
use Rattle.std.specs.Str.{bytes_eq}
use Rattle.pi_syntax.specs.Tokens.{Token, Atom, is_one_of}
use Rattle.pi_syntax.specs.declared.program.Mode.{Mode}
use Rattle.pi_expr.specs.Faults.{stretch}
use Rattle.pi_expr.proofs.CrowdLemmas.{stretch_step, stretch_none}
use Rattle.pi_prog_clauses.specs.Declaration.{undeclared, importing, indexing, misdeclared, declaration_words, declared, ModeLists, no_more, one_more, Declares, imports, no_imports, indexes, no_indexes, others, Opens, clause_alone, declaration}
use Rattle.pi_prog.specs.Pieces.{ShowsWord, ShowsImport, ShowsIndex, ShowsOpening}
use Rattle.pi_prog.specs.declared.reading.declaration.DeclarationWord.TheVariants as word
use Rattle.pi_prog.specs.declared.reading.declaration.PartOpening.{PartOpening}
use Rattle.pi_prog.specs.declared.reading.declaration.PartOpening.TheVariants as opening

pub opens_empty : (ts : List Token) (from to : ℕ) → to ≤ from → ShowsOpening ts from to opening.Undeclared
opens_empty ts from to h = subst (λ xs. Opens xs undeclared) (sym (stretch_none ts from to h)) (clause_alone refl)

pub opens_undeclared : (ts : List Token) (from to : ℕ) (t : Token) → from < to → slice_get ts from ≡ Some t → ShowsWord word.Nothing t → ShowsOpening ts from to opening.Undeclared
opens_undeclared ts from to t h is none = subst (λ xs. Opens xs undeclared) (sym (stretch_step ts from (from + 1) to t refl is h)) (clause_alone (none (stretch ts (from + 1) to)))

begins : (ts : List Token) (from next to : ℕ) (t : Token) (name : List ℕ) → next ≡ from + 1 → from < to → slice_get ts from ≡ Some t → t ≡ Atom name → stretch ts from to ≡ Atom name ∷ stretch ts next to
begins ts from next to t name n h is named = stretch_step ts from next to t n is h ∙ ap (λ u. u ∷ stretch ts next to) named

any_five : (i t x m p : Bool) → (t || (m || (p || false))) ≡ true → (i || (t || (x || (m || (p || false))))) ≡ true
any_five true t x m p h = refl
any_five false true x m p h = refl
any_five false false true m p h = refl
any_five false false false m p h = h

declared_other : (name : List ℕ) (ts : List Token) → is_one_of (codes "table" ∷ codes "module" ∷ codes "private" ∷ []) name ≡ true → declared (Atom name ∷ ts) ≡ Some name
declared_other name ts h =
    let listed : is_one_of declaration_words name ≡ true =
    any_five (bytes_eq name (codes "import")) (bytes_eq name (codes "table")) (bytes_eq name (codes "index")) (bytes_eq name (codes "module")) (bytes_eq name (codes "private")) h in
    rw listed refl

pub opens_other : (ts : List Token) (from to : ℕ) (t : Token) → from < to → slice_get ts from ≡ Some t → ShowsWord word.Other t → ShowsOpening ts from to opening.Misdeclared
opens_other ts from to t h is (name, named, listed) =
    subst (λ xs. Opens xs misdeclared) (sym (begins ts from (from + 1) to t name refl h is named)) (declaration (declared_other name (stretch ts (from + 1) to) listed) (others listed))

pub opens_import : (ts : List Token) (from next to : ℕ) (t : Token) (o : PartOpening) → next ≡ from + 1 → from < to → slice_get ts from ≡ Some t → ShowsWord word.Import t → ShowsImport (stretch ts next to) o → ShowsOpening ts from to o
opens_import ts from next to t (opening.Importing names) n h is named found =
    subst (λ xs. Opens xs (importing names)) (sym (begins ts from next to t (codes "import") n h is named)) (declaration refl (imports found))
opens_import ts from next to t opening.Misdeclared n h is named found =
    subst (λ xs. Opens xs misdeclared) (sym (begins ts from next to t (codes "import") n h is named)) (declaration refl (no_imports found))
opens_import ts from next to t opening.Undeclared n h is named found = absurd found
opens_import ts from next to t (opening.Indexing modes start) n h is named found = absurd found

pub opens_index : (ts : List Token) (from next to : ℕ) (t : Token) (o : PartOpening) → next ≡ from + 1 → from < to → slice_get ts from ≡ Some t → ShowsWord word.Index t → ShowsIndex ts next to o → ShowsOpening ts from to o
opens_index ts from next to t (opening.Indexing modes start) n h is named (a, b, found) =
    (omega (arith, a, n), b, subst (λ xs. Opens xs (indexing modes (stretch ts start to))) (sym (begins ts from next to t (codes "index") n h is named)) (declaration refl found))
opens_index ts from next to t opening.Misdeclared n h is named found =
    subst (λ xs. Opens xs misdeclared) (sym (begins ts from next to t (codes "index") n h is named)) (declaration refl found)
opens_index ts from next to t opening.Undeclared n h is named found = absurd found
opens_index ts from next to t (opening.Importing names) n h is named found = absurd found

pub index_none : {ts rest : List Token} {mss : List (List Mode)} → length mss ≡ 0 → ModeLists ts mss rest → Declares (codes "index") ts misdeclared
index_none h (no_more none) = no_indexes (no_more none)
index_none h (one_more listed lists) = absurd (omega arith)

pub index_some : {ts rest : List Token} {mss : List (List Mode)} → 0 < length mss → ModeLists ts mss rest → Declares (codes "index") ts (indexing mss rest)
index_some h (no_more none) = absurd (omega arith)
index_some h (one_more listed lists) = indexes (one_more listed lists)
