-- Tokens of a text whose atoms spell no sign are terminals as trees are made of.
use Rattle.std.proofs.Common.{◌≡◌, ℕ, ◌==◌, Bool, true, false, ◌&&◌, ◌||◌, List, [], ◌∷◌, map, refl, sym, ◌∙◌}
use Rattle.std.proofs.lemmas.Bool.{and_parts, false≢true}
use Rattle.std.specs.List.{list_any}
use Rattle.std.specs.Str.{bytes_eq}
use Rattle.pi_print_program.specs.Signs.{is_two_place, is_prefix_word, is_prefix_sign, two_place_signs, prefix_words, prefix_signs}
use Rattle.pi_lex.specs.Forms as lex
use Rattle.pi_terms.specs.ListNames.{nil}
use Rattle.pi_syntax.specs.Terminals.{terminal, Row, sign_terminal, word_terminal, constraint_rows, arithmetic_rows, relation_rows, constraint_relation_rows, punctuation_rows, operator_word_rows, block_word_rows}
use Rattle.pi_syntax.specs.Tokens.{Token, Var, Atom, Word, Int, Str, Sign, End, is_one_of, reserved_words}
use Rattle.pi_print_program.specs.Reread.{is_spelling, spells_other}
use Rattle.pi_print_program.proofs.SignForms.{each_name}
use Rattle.pi_print_program.proofs.Calls.{neither}
use Rattle.pi_print_program.proofs.Fine.{IsPlainName, IsGood, AreGood}
use Rattle.pi_print_program.proofs.GoodTokens.{IsGoodToken, AreGoodTokens}
use Rattle.pi_print_program.proofs.TableRows.{EachRow, each_sign, each_word}

-- ---- names

abbrev Spells : List ℕ → Type 0
Spells name = is_spelling name ≡ true

spell_two : (name : List ℕ) → is_one_of two_place_signs name ≡ true → Spells name
unfolding is_spelling
spell_two name is = each_name Spells two_place_signs name (refl, (refl, (refl, (refl, (refl, (refl, (refl, (refl, (refl, (refl, (refl, (refl, (refl, (refl, (refl, (refl, (refl, (refl, (refl, (refl, (refl, (refl, (refl, (refl, (refl, (refl, (refl, (refl, (refl, (refl, (refl, (refl, (refl, (refl, (refl, (refl, (refl, (refl, (refl, (refl, (refl, (refl, (refl, (refl, tt)))))))))))))))))))))))))))))))))))))))))))) is

spell_word : (name : List ℕ) → is_one_of prefix_words name ≡ true → Spells name
unfolding is_spelling
spell_word name is = each_name Spells prefix_words name (refl, (refl, tt)) is

spell_sign : (name : List ℕ) → is_one_of prefix_signs name ≡ true → Spells name
unfolding is_spelling
spell_sign name is = each_name Spells prefix_signs name (refl, (refl, (refl, (refl, tt)))) is

-- what spells nothing else is in none of the lists
absent : (b : Bool) → (b ≡ true → ⊥) → b ≡ false
absent true never = absurd (never refl)
absent false never = refl

no_two : (name : List ℕ) (arity : ℕ) → is_spelling name ≡ false → is_two_place name arity ≡ false
unfolding is_two_place
no_two name arity plain = absent (arity == 2 && is_one_of two_place_signs name) (λ is. let spelled = spell_two name (and_parts (arity == 2) (is_one_of two_place_signs name) is).1 in absurd (false≢true (sym plain ∙ spelled)))

no_word : (name : List ℕ) (arity : ℕ) → is_spelling name ≡ false → is_prefix_word name arity ≡ false
unfolding is_prefix_word
no_word name arity plain = absent (arity == 1 && is_one_of prefix_words name) (λ is. let spelled = spell_word name (and_parts (arity == 1) (is_one_of prefix_words name) is).1 in absurd (false≢true (sym plain ∙ spelled)))

no_sign : (name : List ℕ) (arity : ℕ) → is_spelling name ≡ false → is_prefix_sign name arity ≡ false
unfolding is_prefix_sign
no_sign name arity plain = absent (arity == 1 && is_one_of prefix_signs name) (λ is. let spelled = spell_sign name (and_parts (arity == 1) (is_one_of prefix_signs name) is).1 in absurd (false≢true (sym plain ∙ spelled)))

no_nil : (name : List ℕ) → is_spelling name ≡ false → bytes_eq name nil ≡ false
unfolding is_spelling
no_nil name plain = (neither (bytes_eq name nil) (is_one_of reserved_words name) (neither (lex.is_sign name) (bytes_eq name nil || is_one_of reserved_words name) plain).1).0

plain_name : (name : List ℕ) → IsGoodToken (Atom name) → is_spelling name ≡ false → IsPlainName name
plain_name name good plain = record {
  is = record { utf8 = good; other = no_nil name plain };
  plain = λ arity. rw (no_two name arity plain, no_word name arity plain, no_sign name arity plain) refl;
}

-- ---- the tables

abbrev AreGoodRows : List Row → Type 0
AreGoodRows rows = EachRow IsGood rows

arithmetic_good : AreGoodRows arithmetic_rows
unfolding is_two_place
arithmetic_good = (tt, (tt, (refl, (refl, (refl, (refl, (refl, (refl, (refl, (refl, (refl, (refl, (tt, (tt, (tt, tt)))))))))))))))

relations_good : AreGoodRows relation_rows
unfolding is_two_place
relations_good = (refl, (refl, (refl, (refl, (refl, (refl, (refl, (refl, (refl, (refl, (refl, (refl, (refl, (refl, (refl, (refl, (refl, tt)))))))))))))))))

constraints_good : AreGoodRows constraint_rows
unfolding is_two_place
constraints_good = (refl, (refl, (refl, (refl, (refl, (tt, tt))))))

constraint_relations_good : AreGoodRows constraint_relation_rows
unfolding is_two_place
constraint_relations_good = (refl, (refl, (refl, (refl, (refl, (refl, (refl, tt)))))))

punctuation_good : AreGoodRows punctuation_rows
punctuation_good = (tt, (tt, (tt, (tt, (tt, (tt, (tt, (tt, (tt, (tt, (tt, (tt, (tt, (tt, tt))))))))))))))

operator_words_good : AreGoodRows operator_word_rows
unfolding is_two_place is_prefix_word
operator_words_good = (refl, (refl, (refl, (refl, (refl, (refl, (refl, tt)))))))

block_words_good : AreGoodRows block_word_rows
block_words_good = (tt, (tt, (tt, (tt, (tt, (tt, (tt, (tt, tt))))))))

sign_terminal_good : (sign : List ℕ) → IsGood (sign_terminal sign)
sign_terminal_good sign = each_sign IsGood sign punctuation_good arithmetic_good relations_good constraints_good constraint_relations_good tt

word_terminal_good : (word : List ℕ) → IsGood (word_terminal word)
word_terminal_good word = each_word IsGood word operator_words_good block_words_good tt

-- ---- tokens

terminal_good : (t : Token) → IsGoodToken t → spells_other t ≡ false → IsGood (terminal t)
terminal_good (Var name) good plain = good
terminal_good (Atom name) good plain = plain_name name good plain
terminal_good (Word word) good plain = word_terminal_good word
terminal_good (Int n) good plain = good
terminal_good (Str meaning) good plain = good
terminal_good (Sign sign) good plain = sign_terminal_good sign
terminal_good End good plain = tt

pub terminals_good : (tokens : List Token) → AreGoodTokens tokens → list_any spells_other tokens ≡ false → AreGood (map terminal tokens)
terminals_good [] good plain = tt
terminals_good (t ∷ ts) good plain =
    let (here, rest) = neither (spells_other t) (list_any spells_other ts) plain in
    (terminal_good t good.0 here, terminals_good ts good.1 rest)
