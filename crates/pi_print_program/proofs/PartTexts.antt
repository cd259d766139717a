-- The text of a part that has no fault is read as that part, with its end point.
use Rattle.std.proofs.Common.{◌≡◌, ℕ, ◌==◌, Bool, true, false, List, [], ◌∷◌, ◌++◌, map, flat_map, length, Option, Some, None, refl, sym, ap, subst, ◌∙◌, codes, arith, append_assoc, append-nil, encode_utf8_all}
use Rattle.std.proofs.lemmas.Bool.Decides.{nat_tests}
use Rattle.std.proofs.lemmas.List.Folds.{list_any-append}
use Rattle.std.specs.List.{list_any}
use lib.Utf8.{scalars, encode}
use Rattle.pi_print_program.specs.Canonical.{clause_text, declaration_text, part_text}
use Rattle.pi_prog_clauses.specs.Declaration.{Opening, Opens, clause_alone}
use Rattle.pi_prog_clauses.specs.Reading.{Reading, imports_part, written, variable_names, IsDeepShape, ClauseOf, whole, behind_index, Reads, crowded, no_declaration, not_ended, an_import, without_form, too_many_levels, a_clause}
use Rattle.pi_prog_clauses.specs.Shape.{Shape, clause_of, HasShape}
use Rattle.pi_prog_clauses.specs.Stretch.{Stretch, stretch}
use Rattle.pi_prog_clauses.specs.Verdict.{JudgedPart, libraries, one_clause, judged, has_too_many_names, decl_of, part_of}
use Rattle.pi_syntax.specs.Crowding.{IsCrowded}
use Rattle.pi_syntax.specs.ProgramTree.{WrittenClause}
use Rattle.pi_syntax.specs.Terminals.{terminal}
use Rattle.pi_syntax.specs.Tokens.{Token, Lexeme, End, item_at, is_end_point}
use Rattle.pi_syntax.specs.declared.program.Decl.TheVariants.{Import, Index}
use Rattle.pi_syntax.specs.declared.program.Mode.{Mode}
use Rattle.pi_print_program.proofs.Says.{Says, says-nothing, Read, read-token, item_some, Stops, Dark}
use Rattle.pi_print_program.proofs.Fine.{AreGood}
use Rattle.pi_print_program.proofs.Punctuation.{stop_point}
use Rattle.pi_print_program.proofs.GoodTerminals.{terminals_good}
use Rattle.pi_print_program.proofs.Sides.{StartsClause}
use Rattle.pi_print_program.proofs.ClauseTexts.{ShapeText, is_end, endless_quiet}
use Rattle.pi_print_program.proofs.ClauseAgain.{bad_shape, ClauseAgain}
use Rattle.pi_print_program.proofs.ClauseLaw.{clause_again}
use Rattle.pi_print_program.proofs.ImportTexts.{AreLibraries, import_text, opens_imports}
use Rattle.pi_print_program.proofs.IndexTexts.{line_feed, IndexText, index_text}
use Rattle.pi_print_program.proofs.BehindIndex.{clause_behind, behind_names, behind_good, behind_plain}
use Rattle.pi_print_program.proofs.Stretches.{AreUsual}
use Rattle.pi_print_program.proofs.Verdicts.{IsSound}

-- ---- before the end point

-- a text that its end point may stand behind: its characters and its tokens
record UnendedText (text : List ℕ) : Type 0 where
  cs : List ℕ → List ℕ
  tokens : List Token
  bytes : (more : List ℕ) → encode_utf8_all (cs more) ≡ text ++ encode_utf8_all more
  valid : (more : List ℕ) → scalars more ≡ true → scalars (cs more) ≡ true
  begins : (more : List ℕ) → Dark (cs more)
  reads : (more : List ℕ) (us : List Token) → Stops more → Read more us → Read (cs more) (tokens ++ us)
  endless : list_any is_end tokens ≡ false

unended_import : {text : List ℕ} {cs : List ℕ → List ℕ} {ts : List Token → List Token} → Says text cs ts Stops → ((more : List ℕ) → Dark (cs more)) → UnendedText text
unended_import {text} {cs} {ts} says begins = record {
  cs = cs;
  tokens = ts [];
  bytes = says.bytes;
  valid = says.valid;
  begins = begins;
  reads = λ more us h r. subst (λ (xs : List Token). Read (cs more) xs) (says.front us) (says.reads more us h r);
  endless = endless_quiet (ts []) says.quiet;
}

-- a declaration, or nothing, and a clause behind it
unended_clause : {declared text : List ℕ} {cs : List ℕ → List ℕ} {ts : List Token → List Token} {s : Shape} → Says declared cs ts Dark → (t : ShapeText text s)
    → ((more : List ℕ) → Dark (cs (t.cs more))) → UnendedText (declared ++ text)
unended_clause {declared} {text} {cs} {ts} d t begins =
    let all : (us : List Token) → ts (t.tokens ++ us) ≡ ts t.tokens ++ us =
    λ us. d.front (t.tokens ++ us) ∙ sym (append_assoc (ts []) t.tokens us) ∙ ap (λ xs. xs ++ us) (sym (d.front t.tokens)) in
    record {
      cs = λ m. cs (t.cs m);
      tokens = ts t.tokens;
      bytes = λ more. d.bytes (t.cs more) ∙ ap (λ l. declared ++ l) (t.bytes more) ∙ sym (append_assoc declared text (encode_utf8_all more));
      valid = λ more v. d.valid (t.cs more) (t.valid more v);
      begins = begins;
      reads = λ more us h r. subst (λ (xs : List Token). Read (cs (t.cs more)) xs) (all us) (d.reads (t.cs more) (t.tokens ++ us) (t.begins more) (t.reads more us h r));
      endless = ap (list_any is_end) (d.front t.tokens) ∙ list_any-append is_end (ts []) t.tokens ∙ rw (endless_quiet (ts []) d.quiet) t.endless;
    }

-- ---- a part

-- what the tokens are read as is judged as before
pub record ReadsAgain (tokens : List Token) (j : JudgedPart) : Type 0 where
  pub reading : Reading
  pub reads : Reads (stretch tokens true) reading
  pub same : judged reading ≡ j

pub record PartText (text : List ℕ) (j : JudgedPart) : Type 0 where
  pub cs : List ℕ → List ℕ
  -- before its end point
  pub tokens : List Token
  pub bytes : (more : List ℕ) → encode_utf8_all (cs more) ≡ text ++ encode_utf8_all more
  pub valid : (more : List ℕ) → scalars more ≡ true → scalars (cs more) ≡ true
  pub begins : (more : List ℕ) → Dark (cs more)
  pub reads : (more : List ℕ) (us : List Token) → Dark more → Read more us → Read (cs more) (tokens ++ End ∷ us)
  pub endless : list_any is_end tokens ≡ false
  pub again : ¬ IsCrowded tokens → ReadsAgain tokens j

point_item : (more : List ℕ) → item_at (46 ∷ 10 ∷ more) ≡ Lexeme End 1
unfolding is_end_point
point_item more =
    let long : (length (46 ∷ 10 ∷ more) == 1) ≡ false = grind (arith, nat_tests) in
    item_some _ _ ∙ rw long refl

-- with its end point, and a line feed
ended : {text : List ℕ} {j : JudgedPart} (t : UnendedText text) → (¬ IsCrowded t.tokens → ReadsAgain t.tokens j) → PartText (text ++ codes ".\n") j
unfolding encode
ended {text} t again = record {
  cs = λ m. t.cs (46 ∷ 10 ∷ m);
  tokens = t.tokens;
  bytes = λ more. t.bytes (46 ∷ 10 ∷ more) ∙ sym (append_assoc text (codes ".\n") (encode_utf8_all more));
  valid = λ more v. t.valid (46 ∷ 10 ∷ more) v;
  begins = λ more. t.begins (46 ∷ 10 ∷ more);
  reads = λ more us dark r. t.reads (46 ∷ 10 ∷ more) (End ∷ us) (stop_point _) (read-token (46 ∷ 10 ∷ more) (10 ∷ more) End 1 us (point_item more) refl (line_feed.reads more us dark r));
  endless = t.endless;
  again = again;
}

part_text_at : {a b : List ℕ} {j : JudgedPart} → a ≡ b → PartText b j → PartText a j
part_text_at {j = j} same text = subst (λ (l : List ℕ). PartText l j) (sym same) text

-- ---- an import

import_part : {names : List (List ℕ)} → AreLibraries names → PartText (part_text (record { decl = Import names; clause = None })) (libraries names)
unfolding part_text unended_import
import_part {names} are =
    let t = import_text are in
    part_text_at (append-nil (declaration_text (Import names))) (ended (unended_import t.says t.begins) (λ few. record { reading = imports_part names; reads = an_import few t.opens refl; same = refl }))

-- ---- a clause

same_clause : (modes : Option (List (List Mode))) (c d : WrittenClause) (a b m n : Bool) → c ≡ d → a ≡ b → m ≡ n
    → one_clause (record { modes = modes; clause = c; bad_form = a; many_names = m }) ≡ one_clause (record { modes = modes; clause = d; bad_form = b; many_names = n })
same_clause modes c d a b m n clause form names =
    ap (λ x. one_clause (record { modes = modes; clause = x; bad_form = a; many_names = m })) clause
    ∙ ap (λ x. one_clause (record { modes = modes; clause = d; bad_form = x; many_names = m })) form
    ∙ ap (λ x. one_clause (record { modes = modes; clause = d; bad_form = b; many_names = x })) names

-- what is judged of a clause with these mode lists, whose part has these names
abbrev judged_as : Option (List (List Mode)) → Shape → List (List ℕ) → JudgedPart
judged_as modes s names = judged (written (record { modes = modes; shape = s; names = names }))

reads_clause : {tokens ts us : List Token} {o : Opening} {modes : Option (List (List Mode))} {s : Shape} {names : List (List ℕ)} → Opens tokens o → ClauseOf tokens o modes us
    → (c : ClauseAgain ts s) → c.text.tokens ≡ us → variable_names tokens ≡ names → ¬ IsCrowded tokens → ReadsAgain tokens (judged_as modes s names)
reads_clause {tokens} {modes = modes} {s = s} {names = names} opens clause c same are few = record {
  reading = written (record { modes = modes; shape = c.shape; names = variable_names tokens });
  reads = a_clause few opens clause refl (subst (λ (xs : List Token). HasShape xs c.shape) same c.text.shape) c.flat;
  same = same_clause modes (clause_of c.shape) (clause_of s) (bad_shape c.shape) (bad_shape s) (has_too_many_names (variable_names tokens)) (has_too_many_names names) c.clause c.form (ap has_too_many_names are);
}

abbrev part_with : Option (List (List Mode)) → Shape → List ℕ
part_with modes s = part_text (record { decl = decl_of modes; clause = Some (clause_of s) })

undeclared_part : {ts : List Token} {s : Shape} {names : List (List ℕ)} → ClauseAgain ts s → variable_names ts ≡ names → PartText (part_with None s) (judged_as None s names)
unfolding part_text unended_clause
undeclared_part {ts} {s} c names =
    let starts = subst StartsClause (append-nil c.text.tokens) (c.text.starts []) in
    ended (unended_clause (says-nothing Dark) c.text c.text.begins) (λ few. reads_clause (clause_alone starts.undeclared) whole c refl (c.names ∙ names) few)

indexed_part : {ts : List Token} {s : Shape} {mss : List (List Mode)} {names : List (List ℕ)} → IndexText mss → ClauseAgain ts s → variable_names ts ≡ names
    → PartText (part_with (Some mss) s) (judged_as (Some mss) s names)
unfolding part_text unended_clause
indexed_part {ts} {s} {mss} i c names =
    let starts = subst StartsClause (append-nil c.text.tokens) (c.text.starts []) in
    part_text_at (sym (append_assoc (declaration_text (Index mss)) (clause_text (clause_of s)) (codes ".\n")))
    (ended (unended_clause i.says c.text (λ more. i.begins _)) (λ few. reads_clause (i.opens c.text.tokens starts.no_modes) behind_index c refl (i.names c.text.tokens ∙ (c.names ∙ names)) few))

declared_part : {all ts : List Token} {o : Opening} {modes : Option (List (List Mode))} {s : Shape} {names : List (List ℕ)} → Opens all o → ClauseOf all o modes ts → ClauseAgain ts s → variable_names ts ≡ names
    → PartText (part_with modes s) (judged_as modes s names)
declared_part opens whole c names = undeclared_part c names
declared_part opens behind_index c names = indexed_part (index_text opens) c names

clause_part : {all ts : List Token} {o : Opening} {modes : Option (List (List Mode))} {s : Shape} → AreUsual all → Opens all o → ClauseOf all o modes ts → HasShape ts s → ¬ IsDeepShape s → bad_shape s ≡ false
    → PartText (part_with modes s) (judged_as modes s (variable_names all))
clause_part {ts = ts} usual opens of_clause shaped flat good =
    let behind = clause_behind opens of_clause in
    let terminals : AreGood (map terminal ts) = terminals_good ts (behind_good behind usual.good) (behind_plain behind usual.plain) in
    declared_part opens of_clause (clause_again terminals shaped flat good) (sym (behind_names behind))

-- ---- any part

pub part_again : {s : Stretch} {r : Reading} → Reads s r → AreUsual s.tokens → IsSound (judged r) → PartText (flat_map part_text (part_of (judged r))) (judged r)
part_again (crowded many) usual sound = absurd sound
part_again (no_declaration few opens) usual sound = absurd sound
part_again (not_ended few opens other none) usual sound = absurd sound
part_again (an_import {names = names} few opens closed) usual sound = part_text_at (append-nil (part_text (record { decl = Import names; clause = None }))) (import_part (opens_imports opens))
part_again (without_form few opens of_clause closed none) usual sound = absurd sound
part_again (too_many_levels few opens of_clause closed shaped deep) usual sound = absurd sound
part_again (a_clause {modes = modes} {shape = shape} few opens of_clause closed shaped flat) usual sound =
    part_text_at (append-nil (part_with modes shape)) (clause_part usual opens of_clause shaped flat sound.0)
