-- No integer token is negative.
use Rattle.std.proofs.Common.{◌≡◌, ℕ, Bool, true, false, pos, ◌≤ℤ◌, List, [], ◌∷◌, Option, None, Some, slice_get, zero, suc, ap, subst, ◌+◌, if◌then◌else◌, rules, not, nat_le, take, drop, ◌-◌, length, ◌==◌}
use Rattle.std.specs.Char.{is_ascii_digit}
use Rattle.std.specs.Prelude.{slice_index}
use Rattle.pi_lex.specs.Kinds.{kinds, IsNatural, AreNatural}
use Rattle.pi_syntax.specs.Tokens as spec
use Rattle.pi_syntax.specs.Tokens.{Token, Var, Atom, Word, Int, Str, Sign, End, Item, Ended, Blank, Lexeme, Wide, Bad, Located, Fault, Reads, ended, bad, wide, blank, token}

abbrev IsNaturalItem : Item → Type 0
IsNaturalItem (Lexeme t n) = IsNatural t
IsNaturalItem _ = Unit {0}

either_item : (b : Bool) (x y : Item) → IsNaturalItem x → IsNaturalItem y → IsNaturalItem (if b then x else y)
either_item true x y h i = h
either_item false x y h i = i

blank_item : (n : Option ℕ) → IsNaturalItem (spec.if_some n Blank)
blank_item None = tt
blank_item (Some n) = tt

either_word : (b : Bool) (name : List ℕ) (n : ℕ) → IsNaturalItem (Lexeme (if b then Word name else Atom name) n)
either_word true name n = tt
either_word false name n = tt

quoted_atom : (n : Option ℕ) (text : List ℕ) → IsNaturalItem (spec.if_some n (λ place. Lexeme (Atom (spec.meant place text)) (place + 1)))
quoted_atom None text = tt
quoted_atom (Some n) text = tt

quoted_text : (n : Option ℕ) (text : List ℕ) → IsNaturalItem (spec.if_some n (λ place. Lexeme (Str (spec.meant place text)) (place + 1)))
quoted_text None text = tt
quoted_text (Some n) text = tt

pos_natural : (n : ℕ) → pos 0 ≤ℤ pos n
pos_natural n = search rules

between_item : (radix start end : ℕ) (text : List ℕ) → IsNaturalItem (spec.integer_between radix start end text)
between_item radix start end text =
    let number = spec.number_of radix (take (end - start) (drop start text)) in
    let letter = spec.is_letter (slice_index text end) in
    either_item (not (nat_le number spec.largest)) Wide (if letter then Bad else Lexeme (Int (pos number)) end) tt
    (either_item letter Bad (Lexeme (Int (pos number)) end) tt (pos_natural number))

integer_item : (text : List ℕ) → IsNaturalItem (spec.integer text)
unfolding spec.integer
integer_item text = between_item _ _ _ text

sign_item : (text : List ℕ) → IsNaturalItem (spec.sign text)
unfolding spec.sign
sign_item text = either_item _ Bad (Lexeme (Sign (spec.spelled (spec.sign_len text) text)) (spec.sign_len text)) tt tt

comment_item : (text : List ℕ) → IsNaturalItem (spec.comment text)
unfolding spec.comment
comment_item text = blank_item (spec.comment_end 2 (drop 2 text))

word_item : (text : List ℕ) → IsNaturalItem (spec.atom_or_word text)
unfolding spec.atom_or_word
word_item text =
    let n = spec.name_len text in
    either_word (spec.is_reserved (take n text)) (spec.spelled n text) n

variable_item : (text : List ℕ) → IsNaturalItem (spec.variable text)
unfolding spec.variable
variable_item text = tt

quoted_atom_item : (text : List ℕ) → IsNaturalItem (spec.quoted Atom text)
unfolding spec.quoted
quoted_atom_item text = quoted_atom (spec.closing_place (spec.first text) false 1 (drop 1 text)) text

quoted_text_item : (text : List ℕ) → IsNaturalItem (spec.quoted Str text)
unfolding spec.quoted
quoted_text_item text = quoted_text (spec.closing_place (spec.first text) false 1 (drop 1 text)) text

item_natural : (text : List ℕ) → IsNaturalItem (spec.item_at text)
unfolding spec.item_at
item_natural text =
    let c = spec.first text in
    let last : Item = if spec.is_end_point text then Lexeme End 1 else spec.sign text in
    let digits : Item = if is_ascii_digit c then spec.integer text else last in
    let texts : Item = if c == spec.quotation_mark then spec.quoted Str text else digits in
    let atoms : Item = if c == spec.apostrophe then spec.quoted Atom text else texts in
    let words : Item = if spec.is_atom_start c then spec.atom_or_word text else atoms in
    let variables : Item = if spec.is_variable_start c then spec.variable text else words in
    let comments : Item = if spec.starts_comment text then spec.comment text else variables in
    let lines : Item = if c == spec.percent then Blank (spec.line_comment_len text) else comments in
    let whites : Item = if spec.is_white c then Blank (spec.white_len text) else lines in
    either_item (length text == 0) Ended whites tt
    (either_item (spec.is_white c) (Blank (spec.white_len text)) lines tt
    (either_item (c == spec.percent) (Blank (spec.line_comment_len text)) comments tt
    (either_item (spec.starts_comment text) (spec.comment text) variables (comment_item text)
    (either_item (spec.is_variable_start c) (spec.variable text) words (variable_item text)
    (either_item (spec.is_atom_start c) (spec.atom_or_word text) atoms (word_item text)
    (either_item (c == spec.apostrophe) (spec.quoted Atom text) texts (quoted_atom_item text)
    (either_item (c == spec.quotation_mark) (spec.quoted Str text) digits (quoted_text_item text)
    (either_item (is_ascii_digit c) (spec.integer text) last (integer_item text)
    (either_item (spec.is_end_point text) (Lexeme End 1) (spec.sign text) tt (sign_item text))))))))))

pub read_natural : {line : ℕ} {text : List ℕ} {tokens : List Located} {fault : Option Fault} → Reads line text tokens fault → AreNatural tokens
read_natural (ended p) = tt
read_natural (bad p) = tt
read_natural (wide p) = tt
read_natural (blank n p r) = read_natural r
read_natural {line} {text} (token t n p r) = (rw p at (item_natural text), read_natural r)

pub natural_at : (tokens : List Located) (i : ℕ) (t : Token) → AreNatural tokens → slice_get (kinds tokens) i ≡ Some t → IsNatural t
natural_at [] i t h p = absurd (cc)
natural_at (located ∷ tokens) zero t h p =
    let first : Option Token → Token = λ o. elim o [ None ↦ t | Some x ↦ x ] in
    let same : located.0 ≡ t = ap first p in
    subst IsNatural same h.0
natural_at (located ∷ tokens) (suc i) t h p = natural_at tokens i t h.1 p
