-- The tokens of a text, after "Tokens" of A User's Guide to Picat. What the language leaves out of the
-- Guide's tokens (floats, further escapes, texts in other quotes), the signs, the reserved words, letters past ASCII,
-- that no letter stands right behind an integer, the greatest integer and text, and the order of faults are this
-- project's own choice. All but the last part speaks of the list of a text's characters.
use Rattle.std.specs.Prelude.{◌≡◌, ℕ, ◌+◌, ◌-◌, ◌^◌, ◌<◌, ◌≤◌, Bool, true, false, not, ◌&&◌, ◌||◌, ◌==◌, nat_le, if◌then◌else◌, ℤ, pos, List, [], ◌∷◌, length, take, drop, slice_index, filter, count_by, codes, encode_utf8_all, Option, Some, None, is_some, unwrap_or}
use Rattle.std.specs.List.{list_any, prefix_len}
use Rattle.std.specs.Char.{is_digit, is_ascii_digit, is_ascii_lowercase, is_ascii_uppercase, is_ascii_alphanumeric}
use Rattle.std.specs.Str.{IsUtf8, chars, bytes_eq}
use Rattle.std.specs.Str.Lossy.{utf8_valid_len}
use Rattle.std.specs.Str.Parse.{digits_value}
use Rattle.unicode_ident.specs.Ident.{is_xid_start, is_xid_continue}

-- A token. The bytes of a name, a text or a sign are UTF-8.
pub data Token : Type 0 where
  Var : List ℕ → Token
  Atom : List ℕ → Token
  Word : List ℕ → Token
  Int : ℤ → Token
  Str : List ℕ → Token
  Sign : List ℕ → Token
  End : Token

-- What stands at the front of a text, and how many characters it takes.
pub data Item : Type 0 where
  -- nothing: the text is at its end
  Ended : Item
  -- white space, or a comment
  Blank : ℕ → Item
  Lexeme : Token → ℕ → Item
  -- an integer past the largest
  Wide : Item
  -- none of these
  Bad : Item

-- Characters

abbrev pub tab : ℕ
tab = 9

abbrev pub line_feed : ℕ
line_feed = 10

abbrev pub carriage_return : ℕ
carriage_return = 13

abbrev pub space : ℕ
space = 32

abbrev pub quotation_mark : ℕ
quotation_mark = 34

abbrev pub percent : ℕ
percent = 37

abbrev pub apostrophe : ℕ
apostrophe = 39

abbrev pub star : ℕ
star = 42

abbrev pub dot : ℕ
dot = 46

abbrev pub slash : ℕ
slash = 47

abbrev pub zero_digit : ℕ
zero_digit = 48

abbrev pub backslash : ℕ
backslash = 92

abbrev pub underscore : ℕ
underscore = 95

abbrev pub letter_b : ℕ
letter_b = 98

abbrev pub letter_n : ℕ
letter_n = 110

abbrev pub letter_o : ℕ
letter_o = 111

abbrev pub letter_t : ℕ
letter_t = 116

abbrev pub letter_x : ℕ
letter_x = 120

-- the first character, or 0 at the end
abbrev pub first : List ℕ → ℕ
first text = slice_index text 0

-- the bytes of the first n characters
abbrev pub spelled : ℕ → List ℕ → List ℕ
spelled n text = encode_utf8_all (take n text)

-- an item of so many characters, or none
abbrev pub if_some : Option ℕ → (ℕ → Item) → Item
if_some None item = Bad
if_some (Some n) item = item n

-- White space and comments

abbrev pub is_white : ℕ → Bool
is_white c = ((c == space || c == tab) || c == line_feed) || c == carriage_return

abbrev pub white_len : List ℕ → ℕ
white_len text = prefix_len is_white text

-- from `%` to the end of the line
abbrev pub line_comment_len : List ℕ → ℕ
line_comment_len text = prefix_len (λ c. not (c == line_feed)) text

abbrev pub starts_comment : List ℕ → Bool
starts_comment text = first text == slash && slice_index text 1 == star

-- the place behind the next `*/`, where so many characters came before the text
abbrev pub comment_end : ℕ → List ℕ → Option ℕ
comment_end place [] = None
comment_end place (c ∷ rest) =
    if c == star && first rest == slash then Some (place + 2) else comment_end (place + 1) rest

-- from `/*` to the next `*/`
unfoldable pub comment : List ℕ → Item
comment text = if_some (comment_end 2 (drop 2 text)) Blank

-- Names

abbrev pub is_variable_start : ℕ → Bool
is_variable_start c = is_ascii_uppercase c || c == underscore

abbrev pub is_atom_start : ℕ → Bool
is_atom_start c = is_ascii_lowercase c || (nat_le 128 c && is_xid_start c)

abbrev pub is_name_part : ℕ → Bool
is_name_part c = (is_ascii_alphanumeric c || c == underscore) || (nat_le 128 c && is_xid_continue c)

-- a name goes on as long as it can
abbrev pub name_len : List ℕ → ℕ
name_len text = prefix_len is_name_part text

abbrev pub reserved_words : List (List ℕ)
reserved_words =
    codes "if" ∷ codes "then" ∷ codes "elseif" ∷ codes "else" ∷ codes "end" ∷ codes "foreach" ∷ codes "in" ∷ codes "notin"
    ∷ codes "while" ∷ codes "do" ∷ codes "not" ∷ codes "once" ∷ codes "div" ∷ codes "mod" ∷ codes "rem" ∷ []

abbrev pub is_one_of : List (List ℕ) → List ℕ → Bool
is_one_of spellings spelling = list_any (bytes_eq spelling) spellings

unfoldable pub is_reserved : List ℕ → Bool
is_reserved name = list_any (bytes_eq name) reserved_words

unfoldable pub variable : List ℕ → Item
variable text = Lexeme (Var (spelled (name_len text) text)) (name_len text)

unfoldable pub atom_or_word : List ℕ → Item
atom_or_word text =
    let name = spelled (name_len text) text in
    Lexeme (if is_reserved (take (name_len text) text) then Word name else Atom name) (name_len text)

-- Quoted atoms and texts

-- what a character behind a backslash stands for
abbrev pub escaped : ℕ → Option ℕ
escaped c =
    if ((c == backslash || c == apostrophe) || c == quotation_mark) then Some c
    else if c == letter_n then Some line_feed
    else if c == letter_t then Some tab
    else None

-- The place of the closing quote, where so many characters came before the text, the last of them a
-- backslash that escapes what comes next, or not. There is none behind a line feed or a bad escape.
abbrev pub closing_place : ℕ → Bool → ℕ → List ℕ → Option ℕ
closing_place quote behind_backslash place [] = None
closing_place quote true place (c ∷ rest) =
    if is_some (escaped c) then closing_place quote false (place + 1) rest else None
closing_place quote false place (c ∷ rest) =
    if c == quote then Some place
    else if c == line_feed then None
    else closing_place quote (c == backslash) (place + 1) rest

-- what the characters between the quotes stand for
abbrev pub unescaped : Bool → List ℕ → List ℕ
unescaped behind_backslash [] = []
unescaped true (c ∷ rest) = unwrap_or (escaped c) c ∷ unescaped false rest
unescaped false (c ∷ rest) = if c == backslash then unescaped true rest else c ∷ unescaped false rest

-- the characters between the first and the one at the place
abbrev pub between_quotes : ℕ → List ℕ → List ℕ
between_quotes place text = take (place - 1) (drop 1 text)

abbrev pub meant : ℕ → List ℕ → List ℕ
meant place text = encode_utf8_all (unescaped false (between_quotes place text))

-- From a quote to the next that isn't escaped. A bad escape counts at its own line, and that is the line of
-- the quote, since no line feed stands between them.
unfoldable pub quoted : (List ℕ → Token) → List ℕ → Item
quoted kind text = if_some (closing_place (first text) false 1 (drop 1 text)) (λ place. Lexeme (kind (meant place text)) (place + 1))

-- Integers

-- the base that `0x`, `0o` or `0b` before a digit of that base names, or 10
abbrev pub radix_of : List ℕ → ℕ
radix_of text =
    let mark = slice_index text 1 in
    let digit = slice_index text 2 in
    if not (first text == zero_digit) then 10
    else if mark == letter_x && is_digit digit 16 then 16
    else if mark == letter_o && is_digit digit 8 then 8
    else if mark == letter_b && is_digit digit 2 then 2
    else 10

-- digits go on with a digit, or with `_` before one
abbrev pub goes_on : ℕ → List ℕ → Bool
goes_on radix text = is_digit (first text) radix || (first text == underscore && is_digit (slice_index text 1) radix)

-- the place behind the digits that the text goes on with, where so many characters came before the text
abbrev pub digits_end : ℕ → ℕ → List ℕ → ℕ
digits_end radix place [] = place
digits_end radix place (c ∷ rest) = if goes_on radix (c ∷ rest) then digits_end radix (place + 1) rest else place

-- the number that digits with `_` between them write
abbrev pub number_of : ℕ → List ℕ → ℕ
number_of radix digits = digits_value radix (filter (λ c. not (c == underscore)) digits)

abbrev pub largest : ℕ
largest = 2 ^ 127 - 1

-- a letter, or `_`
abbrev pub is_letter : ℕ → Bool
is_letter c = is_variable_start c || is_atom_start c

-- an integer whose digits stand between two places
abbrev pub integer_between : ℕ → ℕ → ℕ → List ℕ → Item
integer_between radix start end text =
    let number = number_of radix (take (end - start) (drop start text)) in
    if not (nat_le number largest) then Wide
    else if is_letter (slice_index text end) then Bad
    else Lexeme (Int (pos number)) end

unfoldable pub integer : List ℕ → Item
integer text =
    let radix = radix_of text in
    let start = if radix == 10 then 0 else 2 in
    integer_between radix start (digits_end radix start (drop start text)) text

-- Signs and the end point

abbrev pub signs_of_four : List (List ℕ)
signs_of_four = codes "#<=>" ∷ []

abbrev pub signs_of_three : List (List ℕ)
signs_of_three =
    codes "=:=" ∷ codes "=\\=" ∷ codes "!==" ∷ codes "?=>" ∷ codes "@=<" ∷ codes "#=>" ∷ codes "#=<" ∷ codes "#<=" ∷ codes "#>="
    ∷ codes "#!=" ∷ codes "#/\\" ∷ codes "#\\/" ∷ codes "@>=" ∷ []

abbrev pub signs_of_two : List (List ℕ)
signs_of_two =
    codes "#^" ∷ codes "#~" ∷ codes "#=" ∷ codes "#<" ∷ codes "#>" ∷ codes "=>" ∷ codes "->" ∷ codes "==" ∷ codes "!=" ∷ codes "=<"
    ∷ codes "<=" ∷ codes ">=" ∷ codes ":=" ∷ codes "::" ∷ codes "@<" ∷ codes "@>" ∷ codes "**" ∷ codes "++" ∷ codes "//" ∷ codes "/>"
    ∷ codes "/<" ∷ codes ">>" ∷ codes "<<" ∷ codes "/\\" ∷ codes "\\/" ∷ codes ".." ∷ []

abbrev pub signs_of_one : List (List ℕ)
signs_of_one =
    codes "=" ∷ codes "<" ∷ codes ">" ∷ codes "+" ∷ codes "-" ∷ codes "*" ∷ codes "~" ∷ codes "^" ∷ codes "@" ∷ codes "." ∷ codes ","
    ∷ codes ";" ∷ codes ":" ∷ codes "|" ∷ codes "$" ∷ codes "(" ∷ codes ")" ∷ codes "[" ∷ codes "]" ∷ codes "{" ∷ codes "}" ∷ []

abbrev pub begins_with : List ℕ → List ℕ → Bool
begins_with text sign = bytes_eq (take (length sign) text) sign

abbrev pub begins_with_one_of : List (List ℕ) → List ℕ → Bool
begins_with_one_of signs text = list_any (begins_with text) signs

-- the length of the longest sign that fits, or 0
abbrev pub sign_len : List ℕ → ℕ
sign_len text =
    if begins_with_one_of signs_of_four text then 4
    else if begins_with_one_of signs_of_three text then 3
    else if begins_with_one_of signs_of_two text then 2
    else if begins_with_one_of signs_of_one text then 1
    else 0

unfoldable pub sign : List ℕ → Item
sign text = if sign_len text == 0 then Bad else Lexeme (Sign (spelled (sign_len text) text)) (sign_len text)

-- A `.` before white space, `%` or the end. It is not part of `..`, since each `..` is taken whole.
unfoldable pub is_end_point : List ℕ → Bool
is_end_point text =
    first text == dot
    && ((length text == 1 || is_white (slice_index text 1)) || slice_index text 1 == percent)

-- The whole

-- what stands at the front of the text
unfoldable pub item_at : List ℕ → Item
item_at text =
    let c = first text in
    if length text == 0 then Ended
    else if is_white c then Blank (white_len text)
    else if c == percent then Blank (line_comment_len text)
    else if starts_comment text then comment text
    else if is_variable_start c then variable text
    else if is_atom_start c then atom_or_word text
    else if c == apostrophe then quoted Atom text
    else if c == quotation_mark then quoted Str text
    else if is_ascii_digit c then integer text
    else if is_end_point text then Lexeme End 1
    else sign text

abbrev pub line_feeds : List ℕ → ℕ
line_feeds text = count_by (λ c. c == line_feed) text

-- a token and the line on which it begins
abbrev pub Located : Type 0
Located = Token × ℕ

-- why a text has no tokens: the place of the byte that is no UTF-8, or the line of the token
pub data Fault : Type 0 where
  TooLong : Fault
  NotUtf8 : ℕ → Fault
  BadToken : ℕ → Fault
  WideInteger : ℕ → Fault

-- From this line on the characters are these tokens, up to the first fault, if there is one.
pub data Reads : ℕ → List ℕ → List Located → Option Fault → Type 0 where
  ended : {line : ℕ} {text : List ℕ} → item_at text ≡ Ended → Reads line text [] None
  bad : {line : ℕ} {text : List ℕ} → item_at text ≡ Bad → Reads line text [] (Some (BadToken line))
  wide : {line : ℕ} {text : List ℕ} → item_at text ≡ Wide → Reads line text [] (Some (WideInteger line))
  blank : {line : ℕ} {text : List ℕ} {tokens : List Located} {fault : Option Fault} (n : ℕ) → item_at text ≡ Blank n
      → Reads (line + line_feeds (take n text)) (drop n text) tokens fault → Reads line text tokens fault
  token : {line : ℕ} {text : List ℕ} {tokens : List Located} {fault : Option Fault} (t : Token) (n : ℕ) → item_at text ≡ Lexeme t n
      → Reads (line + line_feeds (take n text)) (drop n text) tokens fault → Reads line text ((t, line) ∷ tokens) fault

abbrev pub HasFaultFrom : ℕ → List ℕ → Fault → Type 0
HasFaultFrom line text fault = (tokens : List Located) × Reads line text tokens (Some fault)

-- The whole text, in bytes

abbrev pub most_bytes : ℕ
most_bytes = 16_777_216

-- The bytes are these tokens, up to the first fault, if there is one: the length comes first, then the first byte
-- behind the longest front that is UTF-8, then the tokens.
pub data Lexes : List ℕ → List Located → Option Fault → Type 0 where
  too_long : {text : List ℕ} → most_bytes < length text → Lexes text [] (Some TooLong)
  not_utf8 : {text : List ℕ} → length text ≤ most_bytes → ¬ IsUtf8 text → Lexes text [] (Some (NotUtf8 (utf8_valid_len text)))
  utf8 : {text : List ℕ} {tokens : List Located} {fault : Option Fault} → length text ≤ most_bytes → IsUtf8 text
      → Reads 1 (chars text) tokens fault → Lexes text tokens fault

abbrev pub HasTokens : List ℕ → List Located → Type 0
HasTokens text tokens = Lexes text tokens None

abbrev pub HasFault : List ℕ → Fault → Type 0
HasFault text fault = (tokens : List Located) × Lexes text tokens (Some fault)
