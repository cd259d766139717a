-- The program that a text of rules is, computed; and the prelude's.
use Rattle.std.proofs.Common.{◌≡◌, ℕ, ◌+◌, Bool, true, false, ◌&&◌, nat_le, List, map, length, Option, Some, None, leb-true, refl, sym, ap, ◌∙◌, subst}
use Rattle.std.specs.List.{list_any}
use Rattle.std.specs.Str.{chars, is_utf8}
use Rattle.std.proofs.lemmas.Str.{IsUtf8-from_is_utf8}
use lib.Utf8.{encode}
use Rattle.pi_lex.specs.Kinds.{kinds}
use Rattle.pi_syntax.specs.Prelude.{prelude_text}
use Rattle.pi_syntax.specs.ExpTree.{levels}
use Rattle.pi_syntax.specs.ProgramTree.{ProgramTree}
use Rattle.pi_syntax.specs.Terminals.{sign_terminal, word_terminal}
use Rattle.pi_syntax.specs.Tokens.{Located, HasTokens, utf8, most_bytes, item_at, variable, atom_or_word, is_reserved, integer, is_end_point, sign}
use Rattle.pi_expr_phrases.specs.Machine.{step}
use Rattle.pi_prog_clauses.specs.Reading.{Reading, ReadAll}
use Rattle.pi_prog_clauses.specs.Shape.{sides, conditions, events_in, listed}
use Rattle.pi_prog_clauses.specs.Stretch.{stretches, stretches_behind}
use Rattle.pi_prog_clauses.specs.Verdict.{judged, parts_of}
use Rattle.pi_prog_clauses.specs.Items.{has_bad_head, is_function_with_choice_or_events, is_open_action_rule, has_bad_events, misplaces, misassigns, has_stray_at, lacks_goal}
use Rattle.pi_prog_clauses.specs.Operators.{is_operator, is_goal_sign, is_assignment, is_membership, is_relation, is_constraint, is_reified, is_arithmetic}
use Rattle.pi_prog_clauses.specs.Places.{all_placed}
use Rattle.pi_syntax.specs.Signature.{exp_count}
use Rattle.pi_prog_clauses.specs.Seen.{all_seen}
use Rattle.pi_prog_clauses.specs.Shown.{AreShown}
use Rattle.pi_prog_clauses.specs.declared.parts.PartReading.{PartReading}
use Rattle.pi_lex.proofs.ReaderLemmas.{one_reading_lem}
use Rattle.pi_prog.proofs.OneReadingLemmas.{one_reading}
use Rattle.pi_prog.proofs.ProgramLemmas.{all_shown}
use Rattle.pi_prog.specs.ReadsAs.{is_refused, ReadsAs}
use Rattle.pi_meaning.specs.OverNames.Prelude.{prelude}
use Rattle.pi_prog.proofs.ExpressionLemmas.{exp_in, exp_from}
use Rattle.pi_prog.proofs.PartLemmas.{both, rule_in, rules_in, rules-read}
use Rattle.pi_prog.proofs.TokenLemmas.{some_is, tokens_in, tokens-read}

-- ---- what is computed

abbrev program_unless : Bool → List Reading → Option ProgramTree
program_unless true rs = None
program_unless false rs = Some (parts_of (map judged rs))

abbrev program_by : Option (List Reading) → Option ProgramTree
program_by None = None
program_by (Some rs) = program_unless (list_any is_refused (map judged rs)) rs

abbrev rules_by : Option (List Located) → Option ProgramTree
rules_by None = None
rules_by (Some ts) = program_by (rules_in (stretches (kinds ts)))

abbrev is_text : List ℕ → Bool
is_text text = nat_le (length text) most_bytes && is_utf8 text

abbrev program_if : Bool → List ℕ → Option ProgramTree
program_if false text = None
program_if true text = rules_by (tokens_in (length text + 1) 1 (chars text))

-- the program of a text whose parts are rules
abbrev program_in : List ℕ → Option ProgramTree
program_in text = program_if (is_text text) text

-- ---- it is what the text reads as

unless-reads : (text : List ℕ) (program : ProgramTree) (ts : List Located) (rs : List Reading) (bad : Bool) → HasTokens text ts
    → ReadAll (stretches (kinds ts)) rs → list_any is_refused (map judged rs) ≡ bad → program_unless bad rs ≡ Some program → ReadsAs text program
unless-reads text program ts rs true has read is e = absurd cc
unless-reads text program ts rs false has read is e =
    record { tokens = ts; lexed = has; readings = rs; read = read; sound = is; parts = some_is (parts_of (map judged rs)) program e }

by-reads : (text : List ℕ) (program : ProgramTree) (ts : List Located) (o : Option (List Reading)) → HasTokens text ts → rules_in (stretches (kinds ts)) ≡ o
    → program_by o ≡ Some program → ReadsAs text program
by-reads text program ts None has is e = absurd cc
by-reads text program ts (Some rs) has is e =
    unless-reads text program ts rs (list_any is_refused (map judged rs)) has (rules-read (stretches (kinds ts)) rs is) refl e

tokens-reads : (text : List ℕ) (program : ProgramTree) (o : Option (List Located)) → is_text text ≡ true → tokens_in (length text + 1) 1 (chars text) ≡ o
    → rules_by o ≡ Some program → ReadsAs text program
tokens-reads text program None ok is e = absurd cc
tokens-reads text program (Some ts) ok is e =
    let good = both (nat_le (length text) most_bytes) (is_utf8 text) ok in
    let has : HasTokens text ts = utf8 (leb-true _ _ good.0) (IsUtf8-from_is_utf8 text good.1) (tokens-read (length text + 1) 1 (chars text) ts is) in
    by-reads text program ts (rules_in (stretches (kinds ts))) has refl e

text-reads : (text : List ℕ) (program : ProgramTree) (ok : Bool) → is_text text ≡ ok → program_if ok text ≡ Some program → ReadsAs text program
text-reads text program false is e = absurd cc
text-reads text program true is e = tokens-reads text program (tokens_in (length text + 1) 1 (chars text)) is refl e

program-reads : (text : List ℕ) (program : ProgramTree) → program_in text ≡ Some program → ReadsAs text program
program-reads text program e = text-reads text program (is_text text) refl e

-- ---- the prelude

program_in-prelude : program_in prelude_text ≡ Some prelude
unfolding prelude_text prelude is_utf8 chars encode
    tokens_in item_at variable atom_or_word is_reserved integer is_end_point sign
    stretches_behind rules_in rule_in sides exp_in exp_from step sign_terminal word_terminal levels
    conditions events_in listed
    exp_count has_bad_head is_function_with_choice_or_events is_open_action_rule has_bad_events all_placed misplaces misassigns has_stray_at lacks_goal
    is_operator is_goal_sign is_assignment is_membership is_relation is_constraint is_reified is_arithmetic
program_in-prelude = refl

pub prelude-reads : ReadsAs prelude_text prelude
prelude-reads = program-reads prelude_text prelude program_in-prelude

pub has-tokens : (text : List ℕ) → text ≡ prelude_text → HasTokens text prelude-reads.tokens
has-tokens text same = subst (λ t. HasTokens t prelude-reads.tokens) (sym same) prelude-reads.lexed

-- what is read of its tokens, part by part, is the program
pub prelude-is : (tokens : List Located) (parts : List PartReading) (tree : ProgramTree) → HasTokens prelude_text tokens
    → ((rs : List Reading) × ReadAll (stretches (kinds tokens)) rs × AreShown parts rs) → tree ≡ parts_of (all_seen parts) → tree ≡ prelude
prelude-is tokens parts tree has read is =
    let r = prelude-reads in
    let same : tokens ≡ r.tokens = (one_reading_lem prelude_text tokens r.tokens None None has r.lexed).0 in
    let readings : read.0 ≡ r.readings = one_reading _ _ _ (subst (λ ts. ReadAll (stretches (kinds ts)) read.0) same read.1) r.read in
    is ∙ ap parts_of (all_shown read.2) ∙ ap (λ rs. parts_of (map judged rs)) readings ∙ r.parts
