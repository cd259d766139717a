-- The names, integers and texts of the tokens of a text are as tokens can be.
use Rattle.std.proofs.Common.{◌≡◌, ℕ, zero, suc, ◌+◌, ◌-◌, ◌^◌, ◌<◌, ◌==◌, Bool, true, false, not, ◌||◌, nat_le, pos, List, [], ◌∷◌, take, drop, Option, Some, None, unwrap_or, refl, sym, subst, arith, encode_utf8_all, chars, IsUtf8, if◌then◌else◌, inl, inr}
use Rattle.std.proofs.lemmas.Bool.{cases_Bool, and_parts}
use Rattle.std.proofs.lemmas.Bool.Decides.{nat_tests}
use Rattle.std.proofs.lemmas.Str.{chars-encodes, scalars-chars}
use Rattle.std.specs.Char.{is_ascii_digit}
use Rattle.std.specs.List.{list_all, prefix_len}
use Rattle.std.specs.Prelude.{slice_index}
use lib.Utf8.{scalar, scalars}
use Rattle.pi_lex.specs.Kinds.{kinds}
use Rattle.pi_syntax.specs.Tokens as spec
use Rattle.pi_syntax.specs.Tokens.{Token, Var, Atom, Word, Int, Str, Sign, End, Item, Ended, Blank, Lexeme, Wide, Bad, Located, Reads, ended, bad, wide, blank, token, HasTokens, utf8, first, is_name_part, is_variable_start}
use Rattle.pi_print_program.proofs.Says.{item_of, item_some}
use Rattle.pi_print_program.proofs.NameTexts.{IsVariableName}
use Rattle.pi_print_program.proofs.Fine.{IsWritten}

-- a token of some text
abbrev pub IsGoodToken : Token → Type 0
IsGoodToken (Var name) = IsVariableName name
IsGoodToken (Atom name) = IsUtf8 name
IsGoodToken (Int n) = IsWritten n
IsGoodToken (Str meaning) = IsUtf8 meaning
IsGoodToken _ = Unit {0}

abbrev pub AreGoodTokens : List Token → Type 0
AreGoodTokens [] = Unit {0}
AreGoodTokens (t ∷ ts) = IsGoodToken t × AreGoodTokens ts

abbrev IsGoodItem : Item → Type 0
IsGoodItem (Lexeme t n) = IsGoodToken t
IsGoodItem _ = Unit {0}

-- ---- parts of texts

scalars-take : (n : ℕ) (cs : List ℕ) → scalars cs ≡ true → scalars (take n cs) ≡ true
scalars-take n [] valid = take_none n
  where
    take_none : (k : ℕ) → scalars (take k []) ≡ true
    take_none zero = refl
    take_none (suc k) = refl
scalars-take zero (c ∷ cs) valid = refl
scalars-take (suc n) (c ∷ cs) valid =
    let (here, rest) = and_parts (scalar c) (scalars cs) valid in
    rw (here, scalars-take n cs rest) refl

scalars-drop : (n : ℕ) (cs : List ℕ) → scalars cs ≡ true → scalars (drop n cs) ≡ true
scalars-drop n [] valid = drop_none n
  where
    drop_none : (k : ℕ) → scalars (drop k []) ≡ true
    drop_none zero = refl
    drop_none (suc k) = refl
scalars-drop zero (c ∷ cs) valid = valid
scalars-drop (suc n) (c ∷ cs) valid =
    let (here, rest) = and_parts (scalar c) (scalars cs) valid in
    scalars-drop n cs rest

text_of : (cs : List ℕ) → scalars cs ≡ true → IsUtf8 (encode_utf8_all cs)
text_of cs valid = (cs, (valid, refl))

prefix-all : (p : ℕ → Bool) (cs : List ℕ) → list_all p (take (prefix_len p cs) cs) ≡ true
prefix-all p [] = refl
prefix-all p (c ∷ cs) =
    elim (cases_Bool (p c)) [
      | inl passes ↦
          let one : 1 + prefix_len p cs ≡ suc (prefix_len p cs) = omega arith in
          rw (passes, one) (rw (passes, prefix-all p cs) refl)
      | inr stops ↦ rw stops refl
    ]

start_is_part : (c : ℕ) → is_variable_start c ≡ true → is_name_part c ≡ true
start_is_part c is = grind (arith, nat_tests)

prefix-first : (p : ℕ → Bool) (c : ℕ) (cs : List ℕ) → p c ≡ true → first (take (prefix_len p (c ∷ cs)) (c ∷ cs)) ≡ c
prefix-first p c cs passes =
    let one : 1 + prefix_len p cs ≡ suc (prefix_len p cs) = omega arith in
    rw (passes, one) refl

-- ---- each kind of token

variable_good : (c : ℕ) (cs : List ℕ) → is_variable_start c ≡ true → scalars (c ∷ cs) ≡ true → IsGoodItem (spec.variable (c ∷ cs))
unfolding spec.variable
variable_good c cs starts valid =
    let name : List ℕ = take (spec.name_len (c ∷ cs)) (c ∷ cs) in
    let is_valid : scalars name ≡ true = scalars-take (spec.name_len (c ∷ cs)) (c ∷ cs) valid in
    let same : chars (encode_utf8_all name) ≡ name = chars-encodes name is_valid in
    record {
      utf8 = text_of name is_valid;
      starts = rw (same, prefix-first is_name_part c cs (start_is_part c starts)) starts;
      parts = rw same (prefix-all is_name_part (c ∷ cs));
    }

either_word : (b : Bool) (cs : List ℕ) (n : ℕ) → scalars cs ≡ true → IsGoodItem (Lexeme (if b then Word (encode_utf8_all cs) else Atom (encode_utf8_all cs)) n)
either_word true cs n valid = tt
either_word false cs n valid = text_of cs valid

word_good : (text : List ℕ) → scalars text ≡ true → IsGoodItem (spec.atom_or_word text)
unfolding spec.atom_or_word
word_good text valid =
    let n = spec.name_len text in
    either_word (spec.is_reserved (take n text)) (take n text) n (scalars-take n text valid)

escaped_valid : (c : ℕ) → scalar c ≡ true → scalar (unwrap_or (spec.escaped c) c) ≡ true
escaped_valid c valid =
    elim (cases_Bool ((c == spec.backslash || c == spec.apostrophe) || c == spec.quotation_mark)) [
      | inl itself ↦ rw itself valid
      | inr one ↦ elim (cases_Bool (c == spec.letter_n)) [
        | inl line ↦ rw (one, line) refl
        | inr two ↦ elim (cases_Bool (c == spec.letter_t)) [
          | inl tab ↦ rw (one, two, tab) refl
          | inr three ↦ rw (one, two, three) valid
        ]
      ]
    ]

unescaped_valid : (behind : Bool) (cs : List ℕ) → scalars cs ≡ true → scalars (spec.unescaped behind cs) ≡ true
unescaped_valid true [] valid = refl
unescaped_valid false [] valid = refl
unescaped_valid true (c ∷ cs) valid =
    let (here, rest) = and_parts (scalar c) (scalars cs) valid in
    rw (escaped_valid c here, unescaped_valid false cs rest) refl
unescaped_valid false (c ∷ cs) valid =
    let (here, rest) = and_parts (scalar c) (scalars cs) valid in
    elim (cases_Bool (c == spec.backslash)) [
      | inl escapes ↦ rw escapes (unescaped_valid true cs rest)
      | inr plain ↦ rw plain (rw (here, unescaped_valid false cs rest) refl)
    ]

meant_good : (place : ℕ) (text : List ℕ) → scalars text ≡ true → IsUtf8 (spec.meant place text)
meant_good place text valid =
    let between = take (place - 1) (drop 1 text) in
    text_of (spec.unescaped false between) (unescaped_valid false between (scalars-take (place - 1) (drop 1 text) (scalars-drop 1 text valid)))

quoted_atom : (n : Option ℕ) (text : List ℕ) → scalars text ≡ true → IsGoodItem (spec.if_some n (λ place. Lexeme (Atom (spec.meant place text)) (place + 1)))
quoted_atom None text valid = tt
quoted_atom (Some n) text valid = meant_good n text valid

quoted_text : (n : Option ℕ) (text : List ℕ) → scalars text ≡ true → IsGoodItem (spec.if_some n (λ place. Lexeme (Str (spec.meant place text)) (place + 1)))
quoted_text None text valid = tt
quoted_text (Some n) text valid = meant_good n text valid

quoted_atom_good : (text : List ℕ) → scalars text ≡ true → IsGoodItem (spec.quoted Atom text)
unfolding spec.quoted
quoted_atom_good text valid = quoted_atom (spec.closing_place (first text) false 1 (drop 1 text)) text valid

quoted_text_good : (text : List ℕ) → scalars text ≡ true → IsGoodItem (spec.quoted Str text)
unfolding spec.quoted
quoted_text_good text valid = quoted_text (spec.closing_place (first text) false 1 (drop 1 text)) text valid

either_item : (b : Bool) (x y : Item) → (b ≡ true → IsGoodItem x) → (b ≡ false → IsGoodItem y) → IsGoodItem (if b then x else y)
either_item true x y h i = h refl
either_item false x y h i = i refl

within : (n : ℕ) → not (nat_le n spec.largest) ≡ false → n < 2 ^ 127
within n small = grind (arith, nat_tests)

integer_good : (text : List ℕ) → IsGoodItem (spec.integer text)
unfolding spec.integer
integer_good text = between _ _ _
  where
    between : (radix start end : ℕ) → IsGoodItem (spec.integer_between radix start end text)
    between radix start end =
        let number = spec.number_of radix (take (end - start) (drop start text)) in
        let letter = spec.is_letter (slice_index text end) in
        either_item (not (nat_le number spec.largest)) Wide _ (λ wide'. tt)
        (λ small. either_item letter Bad (Lexeme (Int (pos number)) end) (λ bad'. tt) (λ good. record { natural = number; same = refl; fits = within number small }))

sign_good : (text : List ℕ) → IsGoodItem (spec.sign text)
unfolding spec.sign
sign_good text = either_item _ Bad (Lexeme (Sign (spec.spelled (spec.sign_len text) text)) (spec.sign_len text)) (λ h. tt) (λ h. tt)

blank_item : (n : Option ℕ) → IsGoodItem (spec.if_some n Blank)
blank_item None = tt
blank_item (Some n) = tt

comment_good : (text : List ℕ) → IsGoodItem (spec.comment text)
unfolding spec.comment
comment_good text = blank_item (spec.comment_end 2 (drop 2 text))

item_good : (c : ℕ) (cs : List ℕ) → scalars (c ∷ cs) ≡ true → IsGoodItem (item_of (c ∷ cs))
item_good c cs valid =
    let text : List ℕ = c ∷ cs in
    let last : Item = if spec.is_end_point text then Lexeme End 1 else spec.sign text in
    let digits : Item = if is_ascii_digit c then spec.integer text else last in
    let texts : Item = if c == spec.quotation_mark then spec.quoted Str text else digits in
    let atoms : Item = if c == spec.apostrophe then spec.quoted Atom text else texts in
    let words : Item = if spec.is_atom_start c then spec.atom_or_word text else atoms in
    let variables : Item = if is_variable_start c then spec.variable text else words in
    let comments : Item = if spec.starts_comment text then spec.comment text else variables in
    let lines : Item = if c == spec.percent then Blank (spec.line_comment_len text) else comments in
    either_item (spec.is_white c) (Blank (spec.white_len text)) lines (λ h. tt)
    (λ h. either_item (c == spec.percent) (Blank (spec.line_comment_len text)) comments (λ h. tt)
    (λ h. either_item (spec.starts_comment text) (spec.comment text) variables (λ h. comment_good text)
    (λ h. either_item (is_variable_start c) (spec.variable text) words (λ starts. variable_good c cs starts valid)
    (λ h. either_item (spec.is_atom_start c) (spec.atom_or_word text) atoms (λ h. word_good text valid)
    (λ h. either_item (c == spec.apostrophe) (spec.quoted Atom text) texts (λ h. quoted_atom_good text valid)
    (λ h. either_item (c == spec.quotation_mark) (spec.quoted Str text) digits (λ h. quoted_text_good text valid)
    (λ h. either_item (is_ascii_digit c) (spec.integer text) last (λ h. integer_good text)
    (λ h. either_item (spec.is_end_point text) (Lexeme End 1) (spec.sign text) (λ h. tt) (λ h. sign_good text)))))))))

item_at_good : (text : List ℕ) → scalars text ≡ true → IsGoodItem (spec.item_at text)
unfolding spec.item_at
item_at_good [] valid = tt
item_at_good (c ∷ cs) valid = subst IsGoodItem (sym (item_some c cs)) (item_good c cs valid)

read_good : {line : ℕ} {text : List ℕ} {tokens : List Located} {fault : Option spec.Fault} → Reads line text tokens fault → scalars text ≡ true → AreGoodTokens (kinds tokens)
read_good (ended p) valid = tt
read_good (bad p) valid = tt
read_good (wide p) valid = tt
read_good {text = text} (blank n p r) valid = read_good r (scalars-drop n text valid)
read_good {text = text} (token t n p r) valid = (subst IsGoodItem p (item_at_good text valid), read_good r (scalars-drop n text valid))

pub good_tokens : {text : List ℕ} {tokens : List Located} → HasTokens text tokens → AreGoodTokens (kinds tokens)
good_tokens {text} (utf8 few valid reads) = read_good reads (scalars-chars text valid)
