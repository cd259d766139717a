-- Each text has tokens or a fault.
use Rattle.std.proofs.Common.{◌≡◌, ℕ, zero, suc, ◌+◌, ◌-◌, ◌<◌, ◌≤◌, Bool, true, false, cond, ◌==◌, ◌&&◌, IsTrue, List, [], ◌∷◌, length, take, drop, get_or, refl, sym, ◌∙◌, arith, length-drop, le_refl, lit<, nat_le, not, Option, None, Some, inl, inr}
use Rattle.std.proofs.lemmas.Bool.{cases_Bool, cases_lt, false≢true, eqb-true}
use Rattle.std.proofs.lemmas.Bool.Decides.{nat_tests}
use Rattle.std.proofs.lemmas.Str.{IsUtf8-from_is_utf8, is_utf8-from_IsUtf8}
use Rattle.std.specs.Char.{is_ascii_digit}
use Rattle.std.specs.List.{prefix_len}
use Rattle.std.specs.Str.{is_utf8, chars}
use Rattle.std.specs.Str.Lossy.{utf8_valid_len}
use Rattle.unicode_ident.specs.Ident.{is_xid_start}
use Rattle.unicode_ident.proofs.IdentLemmas.{is_xid_start-is_xid_continue}
use Rattle.pi_lex.proofs.LexLemmas.{le-digits_end, first_digit}
use Rattle.pi_lex.proofs.ReaderLemmas.{item_at_end}
use Rattle.pi_syntax.specs.Tokens.{Token, Item, Ended, Blank, Lexeme, Wide, Bad, Atom, Str, Located, Fault, TooLong, NotUtf8, BadToken, WideInteger, first, if_some, is_white, percent, line_feed, star, slash, apostrophe, quotation_mark, starts_comment, comment_end, comment, is_variable_start, is_atom_start, is_name_part, variable, atom_or_word, closing_place, meant, quoted, radix_of, digits_end, number_of, largest, is_letter, integer_between, integer, sign_len, sign, is_end_point, item_at, line_feeds, Reads, ended, bad, wide, blank, token, most_bytes, Lexes, too_long, not_utf8, utf8}

-- the item takes a character or more
abbrev pub Advances : Item → Type 0
Advances Ended = Unit {0}
Advances (Blank n) = 0 < n
Advances (Lexeme t n) = 0 < n
Advances Wide = Unit {0}
Advances Bad = Unit {0}

pub percent_is_no_line_feed : (c : ℕ) → (c == percent) ≡ true → not (c == line_feed) ≡ true
percent_is_no_line_feed c is = grind (arith, nat_tests)

pub prefix_len-some : (p : ℕ → Bool) (text : List ℕ) → 0 < length text → p (first text) ≡ true → 0 < prefix_len p text
prefix_len-some p [] some is = absurd (omega arith)
prefix_len-some p (c ∷ rest) some is = rw is (omega arith)

-- a place behind another, if there is one
abbrev pub IsBehind : ℕ → Option ℕ → Type 0
IsBehind place None = Unit {0}
IsBehind place (Some n) = place < n

pub IsBehind-more : (place : ℕ) (o : Option ℕ) → IsBehind (place + 1) o → IsBehind place o
IsBehind-more place None h = tt
IsBehind-more place (Some n) h = omega (arith, h)

pub comment_end-behind : (place : ℕ) (text : List ℕ) → IsBehind place (comment_end place text)
comment_end-behind place [] = tt
comment_end-behind place (c ∷ rest) =
    elim (cases_Bool (c == star && first rest == slash)) [
      | inl closes ↦ rw closes (omega arith)
      | inr goes ↦ rw goes (IsBehind-more place (comment_end (place + 1) rest) (comment_end-behind (place + 1) rest))
    ]

pub Advances-if_some : (o : Option ℕ) → IsBehind 2 o → Advances (if_some o Blank)
Advances-if_some None h = tt
Advances-if_some (Some n) h = omega (arith, h)

pub Advances-comment : (text : List ℕ) → Advances (comment text)
unfolding comment
Advances-comment text = Advances-if_some (comment_end 2 (drop 2 text)) (comment_end-behind 2 (drop 2 text))

pub Advances-closed : (o : Option ℕ) (t : ℕ → Token) → Advances (if_some o (λ place. Lexeme (t place) (place + 1)))
Advances-closed None t = tt
Advances-closed (Some n) t = omega arith

pub Advances-quoted : (kind : List ℕ → Token) (text : List ℕ) → Advances (quoted kind text)
unfolding quoted
Advances-quoted kind text = Advances-closed (closing_place (first text) false 1 (drop 1 text)) (λ place. kind (meant place text))

pub variable_start_goes_on : (c : ℕ) → is_variable_start c ≡ true → is_name_part c ≡ true
variable_start_goes_on c is = grind (arith, nat_tests)

pub atom_start_goes_on : (c : ℕ) → is_atom_start c ≡ true → is_name_part c ≡ true
atom_start_goes_on c is =
    elim (cases_Bool (is_xid_start c)) [
      | inl starts ↦ let continues = is_xid_start-is_xid_continue c starts in grind (arith, nat_tests)
      | inr other ↦ grind (arith, nat_tests)
    ]

pub Advances-variable : (text : List ℕ) → 0 < length text → is_variable_start (first text) ≡ true → Advances (variable text)
unfolding variable
Advances-variable text some is = prefix_len-some is_name_part text some (variable_start_goes_on (first text) is)

pub Advances-atom_or_word : (text : List ℕ) → 0 < length text → is_atom_start (first text) ≡ true → Advances (atom_or_word text)
unfolding atom_or_word
Advances-atom_or_word text some is = prefix_len-some is_name_part text some (atom_start_goes_on (first text) is)

pub Advances-integer_between : (radix start end : ℕ) (text : List ℕ) → 0 < end → Advances (integer_between radix start end text)
Advances-integer_between radix start end text some =
    elim (cases_Bool (nat_le (number_of radix (take (end - start) (drop start text))) largest)) [
      | inl fits ↦ elim (cases_Bool (is_letter (get_or text end 0))) [
        | inl letter ↦ rw (fits, letter) tt
        | inr none ↦ rw (fits, none) some
      ]
      | inr wide' ↦ rw wide' tt
    ]

pub Advances-integer : (text : List ℕ) → IsTrue (is_ascii_digit (first text)) → Advances (integer text)
unfolding integer
Advances-integer text is =
    elim (cases_Bool (radix_of text == 10)) [
      | inl ten ↦
          let same : radix_of text ≡ 10 = eqb-true (radix_of text) 10 ten in
          rw same (Advances-integer_between 10 0 (digits_end 10 0 text) text (first_digit text is))
      | inr other ↦
          rw other (Advances-integer_between (radix_of text) 2 (digits_end (radix_of text) 2 (drop 2 text)) text
          (omega (arith, le-digits_end (radix_of text) 2 (drop 2 text))))
    ]

pub Advances-sign : (text : List ℕ) → Advances (sign text)
unfolding sign
Advances-sign text =
    elim (cases_Bool (sign_len text == 0)) [
      | inl none ↦ rw none tt
      | inr some ↦ rw some (let more : 0 < sign_len text = grind (arith, nat_tests) in more)
    ]

-- by the tests of `item_at`
pub chosen : (b : Bool) (x y : Item) → (b ≡ true → Advances x) → (b ≡ false → Advances y) → Advances (cond b x y)
chosen true x y yes' no' = yes' refl
chosen false x y yes' no' = no' refl

pub Advances-item_at : (text : List ℕ) → Advances (item_at text)
unfolding item_at
Advances-item_at text =
    chosen (length text == 0) _ _ (λ _. tt) (λ some.
    let more : 0 < length text = grind (arith, nat_tests) in
    chosen (is_white (first text)) _ _ (λ white. prefix_len-some is_white text more white) (λ _.
    chosen (first text == percent) _ _ (λ marked. prefix_len-some (λ c. not (c == line_feed)) text more (percent_is_no_line_feed (first text) marked)) (λ _.
    chosen (starts_comment text) _ _ (λ _. Advances-comment text) (λ _.
    chosen (is_variable_start (first text)) _ _ (λ is. Advances-variable text more is) (λ _.
    chosen (is_atom_start (first text)) _ _ (λ is. Advances-atom_or_word text more is) (λ _.
    chosen (first text == apostrophe) _ _ (λ _. Advances-quoted Atom text) (λ _.
    chosen (first text == quotation_mark) _ _ (λ _. Advances-quoted Str text) (λ _.
    chosen (is_ascii_digit (first text)) _ _ (λ is. Advances-integer text is) (λ _.
    chosen (is_end_point text) _ _ (λ _. lit< tt) (λ _. Advances-sign text))))))))))

-- a reading of characters, of at most so many
abbrev pub HasReading : ℕ → List ℕ → Type 0
HasReading line text = (tokens : List Located) × (fault : Option Fault) × Reads line text tokens fault

pub HasReading-item : (line : ℕ) (text : List ℕ) (item : Item) → item_at text ≡ item → Advances item
    → ((next n : ℕ) → 0 < n → HasReading next (drop n text)) → HasReading line text
HasReading-item line text Ended is on more = ([], None, ended is)
HasReading-item line text (Blank n) is on more =
    let (tokens, fault, rest) = more (line + line_feeds (take n text)) n on in
    (tokens, fault, blank n is rest)
HasReading-item line text (Lexeme t n) is on more =
    let (tokens, fault, rest) = more (line + line_feeds (take n text)) n on in
    ((t, line) ∷ tokens, fault, token t n is rest)
HasReading-item line text Wide is on more = ([], Some (WideInteger line), wide is)
HasReading-item line text Bad is on more = ([], Some (BadToken line), bad is)

pub has_reading_within : (size line : ℕ) (text : List ℕ) → length text ≤ size → HasReading line text
has_reading_within zero line text short = ([], None, ended (item_at_end text (omega arith)))
has_reading_within (suc size) line [] short = ([], None, ended (item_at_end [] refl))
has_reading_within (suc size) line (c ∷ rest) short =
    HasReading-item line (c ∷ rest) (item_at (c ∷ rest)) refl (Advances-item_at (c ∷ rest))
    (λ next n on. has_reading_within size next (drop n (c ∷ rest)) (omega (arith, length-drop n (c ∷ rest))))

pub every_text_lexes_lem : (text : List ℕ) → (tokens : List Located) × (fault : Option Fault) × Lexes text tokens fault
every_text_lexes_lem text =
    elim (cases_lt most_bytes (length text)) [
      | inl long ↦ ([], Some TooLong, too_long long)
      | inr short ↦ elim (cases_Bool (is_utf8 text)) [
        | inl is ↦
            let (tokens, fault, reads) = has_reading_within (length (chars text)) 1 (chars text) (le_refl (length (chars text))) in
            (tokens, fault, utf8 short (IsUtf8-from_is_utf8 text is) reads)
        | inr other ↦
            ([], Some (NotUtf8 (utf8_valid_len text)), not_utf8 short (λ is. absurd (false≢true (sym other ∙ is_utf8-from_IsUtf8 text is))))
      ]
    ]
