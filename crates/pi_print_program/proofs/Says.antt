-- Texts that are read as tokens, whatever stands behind them as long as it ends the last of these. They are put together from the front: what
-- a text is and what its tokens are stand as functions of what follows.
use Rattle.std.proofs.Common.{◌≡◌, ℕ, ◌+◌, ◌==◌, Bool, true, false, List, [], ◌∷◌, ◌++◌, drop, take, length, None, if◌then◌else◌, arith, refl, sym, ap, subst, ◌∙◌, append_assoc, is_some, encode_utf8_all}
use Rattle.std.proofs.lemmas.List.{drop_at}
use Rattle.std.proofs.lemmas.Bool.{and_parts}
use Rattle.std.proofs.lemmas.Bool.Decides.{nat_tests}
use Rattle.std.proofs.lemmas.List.Folds.{list_any-append}
use Rattle.std.proofs.lemmas.Str.{encodes-append}
use Rattle.std.specs.Char.{is_ascii_digit}
use Rattle.std.specs.List.{list_any}
use lib.Utf8.{scalar, scalars, encode}
use Rattle.pi_lex.specs.Kinds.{kinds}
use Rattle.pi_prog_clauses.specs.Shape.{arrow_of}
use Rattle.pi_syntax.specs.Tokens.{Token, Located, Item, Ended, Lexeme, Blank, Reads, blank, token, item_at, sign, is_end_point, line_feeds, Sign, Atom, Str, End, first, percent, apostrophe, quotation_mark, is_white, white_len, line_comment_len, starts_comment, comment, is_variable_start, is_atom_start, variable, atom_or_word, quoted, integer, is_name_part, is_letter, goes_on, letter_x, letter_o, letter_b}

-- From any line on the characters are these tokens, up to the end.
pub record Read (text : List ℕ) (tokens : List Token) : Type 0 where
  pub located : ℕ → List Located
  pub reads : (line : ℕ) → Reads line text (located line) None
  pub are : (line : ℕ) → kinds (located line) ≡ tokens

pub read-token : (text rest : List ℕ) (t : Token) (n : ℕ) (tokens : List Token) → item_at text ≡ Lexeme t n → drop n text ≡ rest → Read rest tokens
    → Read text (t ∷ tokens)
read-token text rest t n tokens item same read =
    let behind : ℕ → ℕ = λ line. line + line_feeds (take n text) in
    record {
      located = λ line. (t, line) ∷ read.located (behind line);
      reads = λ line. token t n item (subst (λ (r : List ℕ). Reads (behind line) r (read.located (behind line)) None) (sym same) (read.reads (behind line)));
      are = λ line. ap (λ (ts : List Token). t ∷ ts) (read.are (behind line));
    }

pub read-blank : (text rest : List ℕ) (n : ℕ) (tokens : List Token) → item_at text ≡ Blank n → drop n text ≡ rest → Read rest tokens → Read text tokens
read-blank text rest n tokens item same read =
    let behind : ℕ → ℕ = λ line. line + line_feeds (take n text) in
    record {
      located = λ line. read.located (behind line);
      reads = λ line. blank n item (subst (λ (r : List ℕ). Reads (behind line) r (read.located (behind line)) None) (sym same) (read.reads (behind line)));
      are = λ line. read.are (behind line);
    }

pub scalars-append : (cs ds : List ℕ) → scalars cs ≡ true → scalars ds ≡ true → scalars (cs ++ ds) ≡ true
scalars-append [] ds first' second = second
scalars-append (c ∷ cs) ds first' second =
    let (here, rest) = and_parts (scalar c) (scalars cs) first' in
    rw (here, scalars-append cs ds rest second) refl

-- ---- what may stand behind a token

-- anything
abbrev pub Any : List ℕ → Type 0
Any more = Unit {0}

-- what ends a name, a word or an integer
pub record Stops (more : List ℕ) : Type 0 where
  pub name : is_name_part (first more) ≡ false
  pub digits : goes_on 10 more ≡ false
  pub letter : is_letter (first more) ≡ false
  pub sixteen : (first more == letter_x) ≡ false
  pub eight : (first more == letter_o) ≡ false
  pub two : (first more == letter_b) ≡ false

-- no white space
abbrev pub Dark : List ℕ → Type 0
Dark more = is_white (first more) ≡ false

-- no white space, and nothing that goes on with `@` or `-`
pub record Begins (more : List ℕ) : Type 0 where
  pub white : is_white (first more) ≡ false
  pub less : (first more == 60) ≡ false
  pub equal : (first more == 61) ≡ false
  pub greater : (first more == 62) ≡ false

-- a blank
pub data Spaced : List ℕ → Type 0 where
  spaced : {more : List ℕ} → Spaced (32 ∷ more)

-- an opening parenthesis
pub data Parenthesized : List ℕ → Type 0 where
  parenthesized : {more : List ℕ} → Parenthesized (40 ∷ more)

-- ---- texts

-- what no expression has
abbrev pub breaks : Token → Bool
breaks (Sign spelling) = is_some (arrow_of (Sign spelling))
breaks End = true
breaks t = false

-- the text, its characters before others, and its tokens before others
pub record Says (text : List ℕ) (cs : List ℕ → List ℕ) (ts : List Token → List Token) (After : List ℕ → Type 0) : Type 0 where
  pub bytes : (more : List ℕ) → encode_utf8_all (cs more) ≡ text ++ encode_utf8_all more
  pub valid : (more : List ℕ) → scalars more ≡ true → scalars (cs more) ≡ true
  pub reads : (more : List ℕ) (us : List Token) → After more → Read more us → Read (cs more) (ts us)
  pub front : (us : List Token) → ts us ≡ ts [] ++ us
  pub quiet : list_any breaks (ts []) ≡ false

pub says-at : {a b : List ℕ} {cs : List ℕ → List ℕ} {ts : List Token → List Token} {After : List ℕ → Type 0} → a ≡ b → Says b cs ts After → Says a cs ts After
says-at {cs = cs} {ts = ts} {After = After} same says = subst (λ (l : List ℕ). Says l cs ts After) (sym same) says

-- nothing
pub says-nothing : (After : List ℕ → Type 0) → Says [] (λ m. m) (λ u. u) After
says-nothing After = record { bytes = λ more. refl; valid = λ more v. v; reads = λ more us h r. r; front = λ us. refl; quiet = refl }

pub says-then : {a b : List ℕ} {ca cb : List ℕ → List ℕ} {ta tb : List Token → List Token} {P Q : List ℕ → Type 0} → Says a ca ta P → Says b cb tb Q
    → ((more : List ℕ) → Q more → P (cb more)) → Says (a ++ b) (λ m. ca (cb m)) (λ u. ta (tb u)) Q
says-then {a} {b} {ca} {cb} {ta} {tb} x y meets = record {
  bytes = λ more. x.bytes (cb more) ∙ ap (λ l. a ++ l) (y.bytes more) ∙ sym (append_assoc a b (encode_utf8_all more));
  valid = λ more v. x.valid (cb more) (y.valid more v);
  reads = λ more us h r. x.reads (cb more) (tb us) (meets more h) (y.reads more us h r);
  front = λ us. x.front (tb us) ∙ ap (λ l. ta [] ++ l) (y.front us) ∙ sym (append_assoc (ta []) (tb []) us) ∙ ap (λ l. l ++ us) (sym (x.front (tb [])));
  quiet = rw (x.front (tb []), list_any-append breaks (ta []) (tb []), x.quiet) y.quiet;
}

-- one token of these characters
pub says-token : (text chars : List ℕ) (t : Token) (After : List ℕ → Type 0) → encode_utf8_all chars ≡ text → scalars chars ≡ true → breaks t ≡ false
    → ((more : List ℕ) → After more → item_at (chars ++ more) ≡ Lexeme t (length chars)) → Says text (λ m. chars ++ m) (λ u. t ∷ u) After
says-token text chars t After same valid quiet item = record {
  bytes = λ more. encodes-append chars more ∙ ap (λ l. l ++ encode_utf8_all more) same;
  valid = λ more v. scalars-append chars more valid v;
  reads = λ more us h r. read-token (chars ++ more) more t (length chars) us (item more h) (drop_at chars more (length chars) refl) r;
  front = λ us. refl;
  quiet = rw quiet refl;
}

-- what stands at the front of a text that isn't at its end
abbrev pub item_of : List ℕ → Item
item_of text =
    let c = first text in
    if is_white c then Blank (white_len text)
    else if c == percent then Blank (line_comment_len text)
    else if starts_comment text then comment text
    else if is_variable_start c then variable text
    else if is_atom_start c then atom_or_word text
    else if c == apostrophe then quoted Atom text
    else if c == quotation_mark then quoted Str text
    else if is_ascii_digit c then integer text
    else if is_end_point text then Lexeme End 1
    else sign text

pub item_some : (c : ℕ) (text : List ℕ) → item_at (c ∷ text) ≡ item_of (c ∷ text)
unfolding item_at
item_some c text =
    let some : (length (c ∷ text) == 0) ≡ false = grind (arith, nat_tests) in
    ap (λ (b : Bool). if b then Ended else item_of (c ∷ text)) some

white_one : (c : ℕ) (more : List ℕ) → is_white c ≡ true → is_white (first more) ≡ false → item_of (c ∷ more) ≡ Blank 1
white_one c [] white stops = rw white refl
white_one c (d ∷ more) white stops = rw (white, stops) refl

-- white space

pub says-blank : (c : ℕ) → is_white c ≡ true → encode c ≡ c ∷ [] → scalars (c ∷ []) ≡ true → Says (c ∷ []) (λ m. c ∷ m) (λ u. u) Dark
says-blank c white same valid = record {
  bytes = λ more. ap (λ l. l ++ encode_utf8_all more) same;
  valid = λ more v. scalars-append (c ∷ []) more valid v;
  reads = λ more us h r. read-blank (c ∷ more) more 1 us (item_some c more ∙ white_one c more white h) refl r;
  front = λ us. refl;
  quiet = refl;
}
