-- The canonical text of a program that was read is read as that program.
use Rattle.std.proofs.Common.{◌≡◌, ℕ, ◌≤◌, true, List, [], ◌∷◌, ◌++◌, length, map, refl, sym, ap, subst, ◌∙◌, encode_utf8_all, All}
use Rattle.std.proofs.lemmas.List.Concat.{flat_map-append}
use Rattle.std.proofs.lemmas.List.Elements.{All-head, All-tail}
use lib.Utf8.{scalars}
use Rattle.pi_print_program.specs.Canonical.{part_text, canonical_text}
use Rattle.pi_print_program.specs.Reread.{HasFewInParts, ReadsAs, CanonicalIsReread}
use Rattle.pi_prog_clauses.specs.Reading as reading
use Rattle.pi_prog_clauses.specs.Reading.{Reading, ReadAll}
use Rattle.pi_prog_clauses.specs.Stretch.{Stretch, stretch, stretches}
use Rattle.pi_prog_clauses.specs.Verdict.{JudgedPart, judged, part_of, parts_of, a_program, verdict}
use Rattle.pi_lex.specs.Kinds.{kinds}
use Rattle.pi_syntax.specs.Crowding.{IsCrowded}
use Rattle.pi_syntax.specs.ProgramTree.{ProgramTree}
use Rattle.pi_syntax.specs.Tokens.{Token, Located, End, HasTokens, most_bytes}
use Rattle.pi_print_program.proofs.Says.{Read, Dark}
use Rattle.pi_print_program.proofs.ExpLaw.{read_end, has_tokens}
use Rattle.pi_print_program.proofs.GoodTokens.{good_tokens}
use Rattle.pi_print_program.proofs.Stretches.{stretches_split, stretches_none, EachUsual, usual_stretches}
use Rattle.pi_print_program.proofs.Verdicts.{AreSound, parts_judged}
use Rattle.pi_print_program.proofs.PartTexts.{ReadsAgain, PartText, part_again}

-- ---- parts one after the other

-- what the tokens are read as is judged as before
record AllAgain (tokens : List Token) (js : List JudgedPart) : Type 0 where
  readings : List Reading
  read : ReadAll (stretches tokens) readings
  same : map judged readings ≡ js

-- a text, its characters and its tokens
record PartsText (text : List ℕ) (js : List JudgedPart) : Type 0 where
  cs : List ℕ
  tokens : List Token
  bytes : encode_utf8_all cs ≡ text
  valid : scalars cs ≡ true
  begins : Dark cs
  reads : Read cs tokens
  again : HasFewInParts tokens → AllAgain tokens js

no_parts : PartsText [] []
no_parts = record {
  cs = [];
  tokens = [];
  bytes = refl;
  valid = refl;
  begins = refl;
  reads = read_end;
  again = λ few. record { readings = []; read = subst (λ (ss : List Stretch). ReadAll ss []) (sym stretches_none) reading.none; same = refl };
}

again_then : {ts us : List Token} {j : JudgedPart} {js : List JudgedPart} → stretches (ts ++ End ∷ us) ≡ stretch ts true ∷ stretches us → (¬ IsCrowded ts → ReadsAgain ts j)
    → (HasFewInParts us → AllAgain us js) → HasFewInParts (ts ++ End ∷ us) → AllAgain (ts ++ End ∷ us) (j ∷ js)
again_then {ts} {us} {j} {js} split first' others few =
    let Few : Stretch → Type 0 = λ s. ¬ IsCrowded s.tokens in
    let each : All Few (stretch ts true ∷ stretches us) = subst (All Few) split few in
    let here = first' (All-head Few (stretch ts true) (stretches us) each) in
    let rest = others (All-tail Few (stretch ts true) (stretches us) each) in
    record {
      readings = here.reading ∷ rest.readings;
      read = subst (λ (ss : List Stretch). ReadAll ss (here.reading ∷ rest.readings)) (sym split) (reading.next here.reads rest.read);
      same = ap (λ k. k ∷ map judged rest.readings) here.same ∙ ap (λ ks. j ∷ ks) rest.same;
    }

part_then : {text more : List ℕ} {j : JudgedPart} {js : List JudgedPart} → PartText text j → PartsText more js → PartsText (text ++ more) (j ∷ js)
part_then {text} {more} {j} {js} t p = record {
  cs = t.cs p.cs;
  tokens = t.tokens ++ End ∷ p.tokens;
  bytes = t.bytes p.cs ∙ ap (λ l. text ++ l) p.bytes;
  valid = t.valid p.cs p.valid;
  begins = t.begins p.cs;
  reads = t.reads p.cs p.tokens p.begins p.reads;
  again = again_then (stretches_split t.tokens p.tokens t.endless) t.again p.again;
}

parts_text_at : {a b : List ℕ} {js : List JudgedPart} → a ≡ b → PartsText b js → PartsText a js
parts_text_at {js = js} same text = subst (λ (l : List ℕ). PartsText l js) (sym same) text

parts_again : {ss : List Stretch} {rs : List Reading} → ReadAll ss rs → EachUsual ss → AreSound (map judged rs) → PartsText (canonical_text (parts_of (map judged rs))) (map judged rs)
unfolding canonical_text
parts_again reading.none usual sound = no_parts
parts_again (reading.next {r = r} {rs = rs} read all) usual sound =
    parts_text_at (flat_map-append part_text (part_of (judged r)) (parts_of (map judged rs))) (part_then (part_again read usual.0 sound.0) (parts_again all usual.1 sound.1))

-- ---- the whole

program_again : {program : ProgramTree} (js : List JudgedPart) → a_program program ≡ verdict js → PartsText (canonical_text program) js → length (canonical_text program) ≤ most_bytes
    → ((again : List Located) → HasTokens (canonical_text program) again → HasFewInParts (kinds again)) → ReadsAs (canonical_text program) program
program_again {program} js is p short few =
    let (located, has, are) = has_tokens (canonical_text program) p.cs p.tokens p.bytes p.valid p.reads short in
    let all = p.again (subst HasFewInParts are (few located has)) in
    record {
      tokens = located;
      has = has;
      verdict = record {
        readings = all.readings;
        read = subst (λ (us : List Token). ReadAll (stretches us) all.readings) (sym are) all.read;
        is = is ∙ ap verdict (sym all.same);
      };
    }

pub canonical_is_reread : CanonicalIsReread
canonical_is_reread text located program has v plain short few =
    let js = map judged v.readings in
    let parts = parts_judged js program v.is in
    let usual : EachUsual (stretches (kinds located)) = usual_stretches (kinds located) (record { good = good_tokens has; plain = plain }) in
    let again = parts_again v.read usual parts.sound in
    program_again js v.is (parts_text_at (ap canonical_text parts.same) again) short few
