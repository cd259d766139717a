-- Tokens have one reading, and so one verdict.
use Rattle.std.proofs.Common.{◌≡◌, ℕ, Bool, true, false, List, [], ◌∷◌, map, Option, Some, None, refl, ap, ◌∙◌, sym, subst}
use Rattle.std.specs.Prelude.{codes}
use Rattle.std.specs.Str.{bytes_eq}
use Rattle.std.proofs.lemmas.Slice.Eq.{bytes_eq-Decides}
use Rattle.pi_syntax.proofs.GrammarLemmas.{has_one_exp, read_is_one, too_deep_is_no_none}
use Rattle.pi_syntax.specs.Grammar.{HasExp}
use Rattle.pi_syntax.specs.ProgramTree.{ProgramTree}
use Rattle.pi_syntax.specs.Tokens.{Token, Var, Atom, Word, Int, Str, Sign, End, is_one_of}
use Rattle.pi_syntax.specs.declared.program.Mode.{Mode}
use Rattle.pi_prog_clauses.specs.Declaration.{Opening, importing, indexing, misdeclared, imported, is_sign, mode_of, Modes, last_mode, more_modes, ModeList, mode_list, ModeLists, no_more, one_more, Declares, imports, no_imports, indexes, no_indexes, others, Opens, clause_alone, declaration}
use Rattle.pi_prog_clauses.specs.GoalVerdict.{GoalVerdict, JudgesGoal, goal_too_deep, no_goal, an_expression, goal_verdict, HasGoalVerdict}
use Rattle.pi_prog_clauses.specs.Reading.{Reading, imports_part, written, variable_names, IsDeepShape, HasNoShape, ClauseOf, whole, behind_index, Reads, crowded, no_declaration, not_ended, an_import, without_form, too_many_levels, a_clause, ReadAll, none, next}
use Rattle.pi_prog_clauses.specs.Shape.{Shape, bare, ruled, Sides, sides, HasShape, without_arrow, with_arrow}
use Rattle.pi_prog_clauses.specs.Stretch.{Stretch}
use Rattle.pi_prog_clauses.specs.Verdict.{Verdict, HasVerdict, judged, verdict}

-- ---- mode lists

some_one : {X : Type 0} (o : Option X) (x y : X) → o ≡ Some x → o ≡ Some y → x ≡ y
some_one o x y p q = let same : Some x ≡ Some y = sym p ∙ q in cc

spelled_one : (a b name : List ℕ) → bytes_eq name a ≡ true → bytes_eq name b ≡ true → a ≡ b
spelled_one a b name p q = sym ((bytes_eq-Decides name a).0 p) ∙ (bytes_eq-Decides name b).0 q

close_no_comma : codes ")" ≡ codes "," → ⊥
close_no_comma e = let apart : true ≡ false = ap (λ n. bytes_eq n (codes ")")) e in absurd cc

not_both : (t : Token) → is_sign (codes ")") t ≡ true → is_sign (codes ",") t ≡ true → ⊥
not_both (Sign s) p q = close_no_comma (spelled_one (codes ")") (codes ",") s p q)
not_both (Var s) p q = absurd cc
not_both (Atom s) p q = absurd cc
not_both (Word s) p q = absurd cc
not_both (Int n) p q = absurd cc
not_both (Str s) p q = absurd cc
not_both End p q = absurd cc

modes_one : {ts rest rest' : List Token} {ms ms' : List Mode} → Modes ts ms rest → Modes ts ms' rest' → (ms ≡ ms') × (rest ≡ rest')
modes_one (last_mode {t = t} {m = m} e c) (last_mode {m = m'} e' c') = (ap (λ x. x ∷ []) (some_one (mode_of t) m m' e e'), refl)
modes_one (last_mode {close = close} e c) (more_modes e' c' r') = absurd (not_both close c c')
modes_one (more_modes {comma = comma} e c r) (last_mode e' c') = absurd (not_both comma c' c)
modes_one (more_modes {t = t} {m = m} {ms = ms} e c r) (more_modes {m = m'} {ms = ms'} e' c' r') =
    let first : m ≡ m' = some_one (mode_of t) m m' e e' in
    let rest : (ms ≡ ms') × _ = modes_one r r' in
    (ap (λ x. x ∷ ms) first ∙ ap (λ xs. m' ∷ xs) rest.0, rest.1)

mode_list_one : {ts rest rest' : List Token} {ms ms' : List Mode} → ModeList ts ms rest → ModeList ts ms' rest' → (ms ≡ ms') × (rest ≡ rest')
mode_list_one (mode_list p r) (mode_list p' r') = modes_one r r'

mode_lists_one : {ts rest rest' : List Token} {mss mss' : List (List Mode)} → ModeLists ts mss rest → ModeLists ts mss' rest' → (mss ≡ mss') × (rest ≡ rest')
mode_lists_one (no_more n) (no_more n') = (refl, refl)
mode_lists_one (no_more n) (one_more l r) = absurd (n _ _ l)
mode_lists_one (one_more l r) (no_more n) = absurd (n _ _ l)
mode_lists_one (one_more {mid = mid} {ms = ms} {mss = mss} l r) (one_more {mid = mid'} {rest = rest'} {ms = ms'} {mss = mss'} l' r') =
    let first : (ms ≡ ms') × (mid ≡ mid') = mode_list_one l l' in
    let back : ModeLists mid mss' rest' = subst (λ ts. ModeLists ts mss' rest') (sym first.1) r' in
    let more = mode_lists_one r back in
    (ap (λ x. x ∷ mss) first.0 ∙ ap (λ xs. ms' ∷ xs) more.0, more.1)

-- ---- declarations

import_of : Option (List (List ℕ)) → Opening
import_of None = misdeclared
import_of (Some names) = importing names

index_of : List (List Mode) → List Token → Opening
index_of [] rest = misdeclared
index_of (ms ∷ mss) rest = indexing (ms ∷ mss) rest

abbrev is_other : List ℕ → Bool
is_other name = is_one_of (codes "table" ∷ codes "module" ∷ codes "private" ∷ []) name

-- a declaration by its word
data Way (name : List ℕ) (ts : List Token) (o : Opening) : Type 0 where
  by_import : name ≡ codes "import" → o ≡ import_of (imported ts) → Way name ts o
  by_index : {mss : List (List Mode)} {rest : List Token} → name ≡ codes "index" → ModeLists ts mss rest → o ≡ index_of mss rest → Way name ts o
  by_other : is_other name ≡ true → o ≡ misdeclared → Way name ts o

way : {name : List ℕ} {ts : List Token} {o : Opening} → Declares name ts o → Way name ts o
unfolding import_of index_of
way (imports e) = by_import refl (sym (ap import_of e))
way (no_imports e) = by_import refl (sym (ap import_of e))
way (indexes l) = by_index refl l refl
way (no_indexes l) = by_index refl l refl
way (others h) = by_other h refl

import_no_index : (name : List ℕ) → name ≡ codes "import" → name ≡ codes "index" → ⊥
import_no_index name p q = let apart : true ≡ false = ap (λ n. bytes_eq n (codes "import")) (sym p ∙ q) in absurd cc

import_no_other : (name : List ℕ) → name ≡ codes "import" → is_other name ≡ true → ⊥
import_no_other name p q = let apart : false ≡ true = sym (ap (λ n. is_other n) p) ∙ q in absurd cc

index_no_other : (name : List ℕ) → name ≡ codes "index" → is_other name ≡ true → ⊥
index_no_other name p q = let apart : false ≡ true = sym (ap (λ n. is_other n) p) ∙ q in absurd cc

ways_one : {name : List ℕ} {ts : List Token} {o o' : Opening} → Way name ts o → Way name ts o' → o ≡ o'
ways_one (by_import n e) (by_import n' e') = e ∙ sym e'
ways_one {name} (by_import n e) (by_index n' l e') = absurd (import_no_index name n n')
ways_one {name} (by_import n e) (by_other h e') = absurd (import_no_other name n h)
ways_one {name} (by_index n l e) (by_import n' e') = absurd (import_no_index name n' n)
ways_one (by_index {mss = mss} {rest = rest} n l e) (by_index {mss = mss'} {rest = rest'} n' l' e') =
    let same : (mss ≡ mss') × (rest ≡ rest') = mode_lists_one l l' in
    e ∙ ap (λ m. index_of m rest) same.0 ∙ ap (index_of mss') same.1 ∙ sym e'
ways_one {name} (by_index n l e) (by_other h e') = absurd (index_no_other name n h)
ways_one {name} (by_other h e) (by_import n e') = absurd (import_no_other name n h)
ways_one {name} (by_other h e) (by_index n l e') = absurd (index_no_other name n h)
ways_one (by_other h e) (by_other h' e') = e ∙ sym e'

none_some : {X : Type 0} (o : Option X) (x : X) → o ≡ None → o ≡ Some x → ⊥
none_some o x p q = absurd cc

opens_one : {ts : List Token} {o o' : Opening} → Opens ts o → Opens ts o' → o ≡ o'
opens_one (clause_alone e) (clause_alone e') = refl
opens_one (clause_alone e) (declaration {name = name} e' d) = absurd (none_some _ name e e')
opens_one (declaration {name = name} e d) (clause_alone e') = absurd (none_some _ name e' e)
opens_one (declaration e d) (declaration e' d') = ways_one (way d) (way d')

-- ---- shapes

shape_one : {ts : List Token} {s s' : Shape} → HasShape ts s → HasShape ts s' → s ≡ s'
shape_one {ts} (without_arrow {e = e} n h) (without_arrow {e = e'} n' h') = ap bare (has_one_exp ts e e' h h')
shape_one {ts} (without_arrow n h) (with_arrow {s = s} a l r) = absurd (none_some (sides ts) s n a)
shape_one {ts} (with_arrow {s = s} a l r) (without_arrow n h) = absurd (none_some (sides ts) s n a)
shape_one {ts} (with_arrow {s = s} {l = l} {r = r} a hl hr) (with_arrow {s = s'} {l = l'} {r = r'} a' hl' hr') =
    let same : s ≡ s' = some_one (sides ts) s s' a a' in
    let left : l ≡ l' = has_one_exp s.left l l' hl (subst (λ (x : Sides). HasExp x.left l') (sym same) hl') in
    let right : r ≡ r' = has_one_exp s.right r r' hr (subst (λ (x : Sides). HasExp x.right r') (sym same) hr') in
    ap (λ x. ruled x s.back r) left ∙ ap (λ (x : Sides). ruled l' x.back r) same ∙ ap (λ x. ruled l' s'.back x) right

-- ---- parts

clause_one : {ts rest rest' : List Token} {o : Opening} {m m' : Option (List (List Mode))} → ClauseOf ts o m rest → ClauseOf ts o m' rest' → (m ≡ m') × (rest ≡ rest')
clause_one whole whole = (refl, refl)
clause_one behind_index behind_index = (refl, refl)

no_clause_of : {ts rest : List Token} {o : Opening} {m : Option (List (List Mode))} → ClauseOf ts o m rest → misdeclared ≡ o → ⊥
no_clause_of whole e = absurd cc
no_clause_of behind_index e = absurd cc

no_clause_behind : {ts rest : List Token} {o : Opening} {m : Option (List (List Mode))} (names : List (List ℕ)) → ClauseOf ts o m rest → importing names ≡ o → ⊥
no_clause_behind names whole e = absurd cc
no_clause_behind names behind_index e = absurd cc

part_one : {ts rest rest' : List Token} {o o' : Opening} {m m' : Option (List (List Mode))} → Opens ts o → Opens ts o' → ClauseOf ts o m rest → ClauseOf ts o' m' rest' → (m ≡ m') × (rest ≡ rest')
part_one {ts} {rest} {rest'} {o} {o'} {m} {m'} p p' c c' = clause_one c (subst (λ x. ClauseOf ts x m' rest') (sym (opens_one p p')) c')

shapes_one : {ts rest rest' : List Token} {o o' : Opening} {m m' : Option (List (List Mode))} {s s' : Shape} → Opens ts o → Opens ts o' → ClauseOf ts o m rest → ClauseOf ts o' m' rest'
    → HasShape rest s → HasShape rest' s' → s ≡ s'
shapes_one {s' = s'} p p' c c' h h' = shape_one h (subst (λ x. HasShape x s') (sym (part_one p p' c c').1) h')

no_shape_one : {ts rest rest' : List Token} {o o' : Opening} {m m' : Option (List (List Mode))} {s : Shape} → Opens ts o → Opens ts o' → ClauseOf ts o m rest → ClauseOf ts o' m' rest'
    → HasNoShape rest → HasShape rest' s → ⊥
no_shape_one {s = s} p p' c c' n h = n s (subst (λ x. HasShape x s) (sym (part_one p p' c c').1) h)

ended_one : (b : Bool) → b ≡ false → b ≡ true → ⊥
ended_one b p q = absurd cc

deep_one : {s s' : Shape} → IsDeepShape s → (IsDeepShape s' → ⊥) → s ≡ s' → ⊥
deep_one deep shallow e = shallow (subst IsDeepShape e deep)

misdeclared_import : {names : List (List ℕ)} → misdeclared ≡ importing names → ⊥
misdeclared_import e = absurd cc

imports_one : {names names' : List (List ℕ)} → importing names ≡ importing names' → imports_part names ≡ imports_part names'
imports_one {names} {names'} e = let same : names ≡ names' = cc in ap imports_part same

written_one : {m m' : Option (List (List Mode))} {s s' : Shape} (names : List (List ℕ)) → m ≡ m' → s ≡ s' →
    written (record { modes = m; shape = s; names = names }) ≡ written (record { modes = m'; shape = s'; names = names })
written_one {m' = m'} {s = s} names p q = ap (λ x. written (record { modes = x; shape = s; names = names })) p ∙ ap (λ x. written (record { modes = m'; shape = x; names = names })) q

reads_one : {s : Stretch} {r r' : Reading} → Reads s r → Reads s r' → r ≡ r'
reads_one (crowded c) (crowded c') = refl
reads_one (crowded c) (no_declaration n' o') = absurd (n' c)
reads_one (crowded c) (not_ended n' o' ne' e') = absurd (n' c)
reads_one (crowded c) (an_import n' o' e') = absurd (n' c)
reads_one (crowded c) (without_form n' o' cl' e' f') = absurd (n' c)
reads_one (crowded c) (too_many_levels n' o' cl' e' h' d') = absurd (n' c)
reads_one (crowded c) (a_clause n' o' cl' e' h' d') = absurd (n' c)
reads_one (no_declaration n o) (crowded c') = absurd (n c')
reads_one (no_declaration n o) (no_declaration n' o') = refl
reads_one (no_declaration n o) (not_ended n' o' ne' e') = absurd (ne' (opens_one o' o))
reads_one (no_declaration n o) (an_import n' o' e') = absurd (misdeclared_import (opens_one o o'))
reads_one (no_declaration n o) (without_form n' o' cl' e' f') = absurd (no_clause_of cl' (opens_one o o'))
reads_one (no_declaration n o) (too_many_levels n' o' cl' e' h' d') = absurd (no_clause_of cl' (opens_one o o'))
reads_one (no_declaration n o) (a_clause n' o' cl' e' h' d') = absurd (no_clause_of cl' (opens_one o o'))
reads_one (not_ended n o ne e) (crowded c') = absurd (n c')
reads_one (not_ended n o ne e) (no_declaration n' o') = absurd (ne (opens_one o o'))
reads_one (not_ended n o ne e) (not_ended n' o' ne' e') = refl
reads_one (not_ended n o ne e) (an_import n' o' e') = absurd (ended_one _ e e')
reads_one (not_ended n o ne e) (without_form n' o' cl' e' f') = refl
reads_one (not_ended n o ne e) (too_many_levels n' o' cl' e' h' d') = absurd (ended_one _ e e')
reads_one (not_ended n o ne e) (a_clause n' o' cl' e' h' d') = absurd (ended_one _ e e')
reads_one (an_import n o e) (crowded c') = absurd (n c')
reads_one (an_import n o e) (no_declaration n' o') = absurd (misdeclared_import (opens_one o' o))
reads_one (an_import n o e) (not_ended n' o' ne' e') = absurd (ended_one _ e' e)
reads_one (an_import n o e) (an_import n' o' e') = imports_one (opens_one o o')
reads_one (an_import n o e) (without_form n' o' cl' e' f') = absurd (no_clause_behind _ cl' (opens_one o o'))
reads_one (an_import n o e) (too_many_levels n' o' cl' e' h' d') = absurd (no_clause_behind _ cl' (opens_one o o'))
reads_one (an_import n o e) (a_clause n' o' cl' e' h' d') = absurd (no_clause_behind _ cl' (opens_one o o'))
reads_one (without_form n o cl e f) (crowded c') = absurd (n c')
reads_one (without_form n o cl e f) (no_declaration n' o') = absurd (no_clause_of cl (opens_one o' o))
reads_one (without_form n o cl e f) (not_ended n' o' ne' e') = refl
reads_one (without_form n o cl e f) (an_import n' o' e') = absurd (no_clause_behind _ cl (opens_one o' o))
reads_one (without_form n o cl e f) (without_form n' o' cl' e' f') = refl
reads_one (without_form n o cl e f) (too_many_levels n' o' cl' e' h' d') = absurd (no_shape_one o o' cl cl' f h')
reads_one (without_form n o cl e f) (a_clause n' o' cl' e' h' d') = absurd (no_shape_one o o' cl cl' f h')
reads_one (too_many_levels n o cl e h d) (crowded c') = absurd (n c')
reads_one (too_many_levels n o cl e h d) (no_declaration n' o') = absurd (no_clause_of cl (opens_one o' o))
reads_one (too_many_levels n o cl e h d) (not_ended n' o' ne' e') = absurd (ended_one _ e' e)
reads_one (too_many_levels n o cl e h d) (an_import n' o' e') = absurd (no_clause_behind _ cl (opens_one o' o))
reads_one (too_many_levels n o cl e h d) (without_form n' o' cl' e' f') = absurd (no_shape_one o' o cl' cl f' h)
reads_one (too_many_levels n o cl e h d) (too_many_levels n' o' cl' e' h' d') = refl
reads_one (too_many_levels n o cl e h d) (a_clause n' o' cl' e' h' d') = absurd (deep_one d d' (shapes_one o o' cl cl' h h'))
reads_one (a_clause n o cl e h d) (crowded c') = absurd (n c')
reads_one (a_clause n o cl e h d) (no_declaration n' o') = absurd (no_clause_of cl (opens_one o' o))
reads_one (a_clause n o cl e h d) (not_ended n' o' ne' e') = absurd (ended_one _ e' e)
reads_one (a_clause n o cl e h d) (an_import n' o' e') = absurd (no_clause_behind _ cl (opens_one o' o))
reads_one (a_clause n o cl e h d) (without_form n' o' cl' e' f') = absurd (no_shape_one o' o cl' cl f' h)
reads_one (a_clause n o cl e h d) (too_many_levels n' o' cl' e' h' d') = absurd (deep_one d' d (shapes_one o' o cl' cl h' h))
reads_one {s} (a_clause n o cl e h d) (a_clause n' o' cl' e' h' d') = written_one (variable_names s.tokens) (part_one o o' cl cl').0 (shapes_one o o' cl cl' h h')

read_all_one : {ss : List Stretch} {rs rs' : List Reading} → ReadAll ss rs → ReadAll ss rs' → rs ≡ rs'
read_all_one none none = refl
read_all_one (next {r = r} {rs = rs} h hs) (next {r = r'} h' hs') = ap (λ x. x ∷ rs) (reads_one h h') ∙ ap (λ xs. r' ∷ xs) (read_all_one hs hs')

pub one_reading : (ss : List Stretch) (rs rs' : List Reading) → ReadAll ss rs → ReadAll ss rs' → rs ≡ rs'
one_reading ss rs rs' h h' = read_all_one h h'

-- ---- verdicts

pub one_program : (tokens : List Token) (v w : Verdict) → HasVerdict tokens v → HasVerdict tokens w → v ≡ w
one_program tokens v w h h' = h.is ∙ ap (λ rs. verdict (map judged rs)) (read_all_one h.read h'.read) ∙ sym h'.is

judges_one : {program : ProgramTree} {ts : List Token} {v w : GoalVerdict} → JudgesGoal program ts v → JudgesGoal program ts w → v ≡ w
judges_one (goal_too_deep d) (goal_too_deep d') = refl
judges_one {ts = ts} (goal_too_deep d) (no_goal n) = absurd (too_deep_is_no_none ts d n)
judges_one {ts = ts} (goal_too_deep d) (an_expression {e = e} h) = absurd ((read_is_one ts e h).0 d)
judges_one {ts = ts} (no_goal n) (goal_too_deep d) = absurd (too_deep_is_no_none ts d n)
judges_one (no_goal n) (no_goal n') = refl
judges_one {ts = ts} (no_goal n) (an_expression {e = e} h) = absurd ((read_is_one ts e h).1 n)
judges_one {ts = ts} (an_expression {e = e} h) (goal_too_deep d) = absurd ((read_is_one ts e h).0 d)
judges_one {ts = ts} (an_expression {e = e} h) (no_goal n) = absurd ((read_is_one ts e h).1 n)
judges_one {program} {ts} (an_expression {e = e} h) (an_expression {e = e'} h') = ap (λ x. goal_verdict program x (variable_names ts)) (has_one_exp ts e e' h.0 h'.0)

pub one_goal : (tokens : List Token) (program : ProgramTree) (v w : GoalVerdict) → HasGoalVerdict tokens program v → HasGoalVerdict tokens program w → v ≡ w
one_goal tokens program v w h h' = judges_one h h'
