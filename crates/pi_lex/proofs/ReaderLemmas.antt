-- A text has one list of tokens.
use Rattle.std.proofs.Common.{◌≡◌, ℕ, ◌+◌, ◌-◌, ◌≤◌, List, [], ◌∷◌, ◌++◌, length, take, drop, refl, sym, ◌∙◌, ap, subst, arith, append_assoc, length-drop, Option, None, Some, IfSome, Result, Ok, Err, IfOk, IfErr, MatchResult, ◌⊎◌, inl, inr}
use Rattle.std.proofs.lemmas.List.{append-nil, take_all}
use Rattle.std.proofs.lemmas.Str.{encodes-chars, length-le-encodes}
use Rattle.std.specs.Result.{IsErrAnd}
use Rattle.std.specs.Str.{IsUtf8, chars}
use Rattle.pi_lex.specs.declared.fault.LexFault.{LexFault}
use Rattle.pi_lex.specs.declared.fault.LexFault.TheVariants as lex_fault
use Rattle.pi_lex.specs.Items.{item_len, tokens_from, GoesOn, fault_from}
use Rattle.pi_lex.specs.Kinds.{fault_shown}
use Rattle.pi_syntax.specs.Tokens.{Item, Ended, Blank, Lexeme, Wide, Bad, Located, Fault, BadToken, WideInteger, most_bytes, item_at, line_feeds, Reads, ended, bad, wide, blank, token, HasFaultFrom, Lexes, too_long, not_utf8, utf8, HasTokens, HasFault}

pub item_at_end : (text : List ℕ) → length text ≡ 0 → item_at text ≡ Ended
unfolding item_at
item_at_end text none = rw none

-- what follows an item
abbrev pub ReadsBehind : ℕ → ℕ → List ℕ → List Located → Option Fault → Type 0
ReadsBehind n line text tokens fault = Reads (line + line_feeds (take n text)) (drop n text) tokens fault

-- white space, a comment or a token is read before what follows it
pub reads_on : (line : ℕ) (text : List ℕ) (item : Item) → item_at text ≡ item → GoesOn item → (tokens : List Located) (fault : Option Fault)
    → ReadsBehind (item_len item) line text tokens fault → Reads line text (tokens_from item line ++ tokens) fault
reads_on line text Ended is goes tokens fault rest = absurd goes
reads_on line text (Blank n) is goes tokens fault rest = blank n is rest
reads_on line text (Lexeme t n) is goes tokens fault rest = token t n is rest
reads_on line text Wide is goes tokens fault rest = absurd goes
reads_on line text Bad is goes tokens fault rest = absurd goes

-- the tokens so far and those of the rest are those of the whole
abbrev pub HasRead : List ℕ → List Located → ℕ → List ℕ → Type 0
HasRead text found line rest =
    (tokens : List Located) (fault : Option Fault) → Reads line rest tokens fault → Reads 1 text (found ++ tokens) fault

pub HasRead-item : (whole : List ℕ) (found more : List Located) (line next : ℕ) (text rest : List ℕ) (item : Item) (n : ℕ) → HasRead whole found line text
    → item_at text ≡ item → GoesOn item → n ≡ item_len item → next ≡ line + line_feeds (take n text) → rest ≡ take (length text - n) (drop n text)
    → more ≡ found ++ tokens_from item line → HasRead whole more next rest
HasRead-item whole found more line next text rest item n read is goes size lines after grown tokens fault behind =
    let whole_rest : rest ≡ drop n text = after ∙ take_all (length text - n) (drop n text) (omega (arith, length-drop n text)) in
    let here : ReadsBehind (item_len item) line text tokens fault = rw (← size, ← lines, ← whole_rest) behind in
    rw (grown, append_assoc) (read (tokens_from item line ++ tokens) fault (reads_on line text item is goes tokens fault here))

pub HasRead-end : (whole : List ℕ) (found : List Located) (line : ℕ) (rest : List ℕ) → HasRead whole found line rest → length rest ≡ 0 → Reads 1 whole found None
HasRead-end whole found line rest read none =
    let P : List Located → Type 0 = λ tokens. Reads 1 whole tokens None in
    subst P (append-nil found) (read [] None (ended (item_at_end rest none)))

-- a faulty item is the first fault
pub HasRead-fault : (whole : List ℕ) (found : List Located) (line : ℕ) (text : List ℕ) (item : Item) (e : LexFault) → HasRead whole found line text
    → item_at text ≡ item → fault_shown e ≡ fault_from item line → IfSome (fault_shown e) (HasFaultFrom 1 whole)
HasRead-fault whole found line text Ended e read is shown = rw shown tt
HasRead-fault whole found line text (Blank n) e read is shown = rw shown tt
HasRead-fault whole found line text (Lexeme t n) e read is shown = rw shown tt
HasRead-fault whole found line text Wide e read is shown = rw shown (found ++ [], read [] (Some (WideInteger line)) (wide is))
HasRead-fault whole found line text Bad e read is shown = rw shown (found ++ [], read [] (Some (BadToken line)) (bad is))

-- the fault of the characters is that of the text
pub HasFault-characters : (text cs : List ℕ) (e : LexFault) → length text ≤ most_bytes → IsUtf8 text → cs ≡ chars text
    → IfSome (fault_shown e) (HasFaultFrom 1 cs) → IfSome (fault_shown e) (HasFault text)
HasFault-characters text cs lex_fault.TooLong short is same has = (has.0, utf8 short is (rw (← same) has.1))
HasFault-characters text cs (lex_fault.NotUtf8 at) short is same has = (has.0, utf8 short is (rw (← same) has.1))
HasFault-characters text cs (lex_fault.BadToken line) short is same has = (has.0, utf8 short is (rw (← same) has.1))
HasFault-characters text cs (lex_fault.WideInteger line) short is same has = (has.0, utf8 short is (rw (← same) has.1))
HasFault-characters text cs lex_fault.Memory short is same has = tt

pub HasTokens-characters : (text cs : List ℕ) (tokens : List Located) → length text ≤ most_bytes → IsUtf8 text → cs ≡ chars text
    → Reads 1 cs tokens None → HasTokens text tokens
HasTokens-characters text cs tokens short is same has = utf8 short is (rw (← same) has)

pub length-chars-le : (text cs : List ℕ) → IsUtf8 text → cs ≡ chars text → length cs ≤ length text
length-chars-le text cs is same = omega (arith, ap length same, ap length (encodes-chars text is), length-le-encodes (chars text))

-- what a reading is, by the item that it begins with
abbrev pub ReadsAs : Item → ℕ → List ℕ → List Located → Option Fault → Type 0
ReadsAs Ended line text tokens fault = (tokens ≡ []) × (fault ≡ None)
ReadsAs (Blank n) line text tokens fault = ReadsBehind n line text tokens fault
ReadsAs (Lexeme t n) line text tokens fault = (rest : List Located) × (tokens ≡ (t, line) ∷ rest) × ReadsBehind n line text rest fault
ReadsAs Wide line text tokens fault = (tokens ≡ []) × (fault ≡ Some (WideInteger line))
ReadsAs Bad line text tokens fault = (tokens ≡ []) × (fault ≡ Some (BadToken line))

pub reads_as : {line : ℕ} {text : List ℕ} {tokens : List Located} {fault : Option Fault} (item : Item) → item_at text ≡ item
    → Reads line text tokens fault → ReadsAs item line text tokens fault
reads_as {line} {text} item is (ended was) = subst (λ (i : Item). ReadsAs i line text [] None) (sym was ∙ is) (refl, refl)
reads_as {line} {text} item is (bad was) = subst (λ (i : Item). ReadsAs i line text [] (Some (BadToken line))) (sym was ∙ is) (refl, refl)
reads_as {line} {text} item is (wide was) = subst (λ (i : Item). ReadsAs i line text [] (Some (WideInteger line))) (sym was ∙ is) (refl, refl)
reads_as {line} {text} {tokens} {fault} item is (blank n was rest) = subst (λ (i : Item). ReadsAs i line text tokens fault) (sym was ∙ is) rest
reads_as {line} {text} {tokens} {fault} item is (token {tokens = more} t n was rest) =
    subst (λ (i : Item). ReadsAs i line text ((t, line) ∷ more) fault) (sym was ∙ is) (more, refl, rest)

pub one_reading_of_characters : {line : ℕ} {text : List ℕ} {tokens others : List Located} {fault other : Option Fault}
    → Reads line text tokens fault → Reads line text others other → (tokens ≡ others) × (fault ≡ other)
one_reading_of_characters (ended is) second =
    let (none, sound) = reads_as Ended is second in
    (sym none, sym sound)
one_reading_of_characters (bad is) second =
    let (none, faulty) = reads_as Bad is second in
    (sym none, sym faulty)
one_reading_of_characters (wide is) second =
    let (none, faulty) = reads_as Wide is second in
    (sym none, sym faulty)
one_reading_of_characters (blank n is rest) second = one_reading_of_characters rest (reads_as (Blank n) is second)
one_reading_of_characters {line} (token t n is rest) second =
    let (more, same, behind) = reads_as (Lexeme t n) is second in
    let (tokens, faults) = one_reading_of_characters rest behind in
    (ap (λ (ts : List Located). (t, line) ∷ ts) tokens ∙ sym same, faults)

pub one_reading_lem : (text : List ℕ) (tokens others : List Located) (fault other : Option Fault)
    → Lexes text tokens fault → Lexes text others other → (tokens ≡ others) × (fault ≡ other)
one_reading_lem text _ _ _ _ (too_long long) (too_long _) = (refl, refl)
one_reading_lem text _ _ _ _ (too_long long) (not_utf8 short _) = absurd (omega arith)
one_reading_lem text _ _ _ _ (too_long long) (utf8 short _ _) = absurd (omega arith)
one_reading_lem text _ _ _ _ (not_utf8 short _) (too_long long) = absurd (omega arith)
one_reading_lem text _ _ _ _ (not_utf8 _ _) (not_utf8 _ _) = (refl, refl)
one_reading_lem text _ _ _ _ (not_utf8 _ other) (utf8 _ is _) = absurd (other is)
one_reading_lem text _ _ _ _ (utf8 short _ _) (too_long long) = absurd (omega arith)
one_reading_lem text _ _ _ _ (utf8 _ is _) (not_utf8 _ other) = absurd (other is)
one_reading_lem text _ _ _ _ (utf8 _ _ first) (utf8 _ _ second) = one_reading_of_characters first second

-- what a reader answered is all that can be answered, unless memory ran out
pub only_these_tokens : (text : List ℕ) (r : Result (List Located) LexFault) → IfOk r (HasTokens text) → IfErr r (λ e. IfSome (fault_shown e) (HasFault text))
    → (expected : List Located) → HasTokens text expected → MatchResult r (λ found. found ≡ expected) (λ e. e ≡ lex_fault.Memory)
only_these_tokens text (Ok found) has _ expected is = (one_reading_lem text found expected None None has is).0
only_these_tokens text (Err lex_fault.TooLong) _ has expected is = let never = (one_reading_lem text has.0 expected _ None has.1 is).1 in cc
only_these_tokens text (Err (lex_fault.NotUtf8 at)) _ has expected is = let never = (one_reading_lem text has.0 expected _ None has.1 is).1 in cc
only_these_tokens text (Err (lex_fault.BadToken n)) _ has expected is = let never = (one_reading_lem text has.0 expected _ None has.1 is).1 in cc
only_these_tokens text (Err (lex_fault.WideInteger n)) _ has expected is = let never = (one_reading_lem text has.0 expected _ None has.1 is).1 in cc
only_these_tokens text (Err lex_fault.Memory) _ has expected is = refl

pub only_this_fault : (text : List ℕ) (r : Result (List Located) LexFault) → IfOk r (HasTokens text) → IfErr r (λ e. IfSome (fault_shown e) (HasFault text))
    → (expected : Fault) → HasFault text expected → IsErrAnd r (λ e. (fault_shown e ≡ Some expected) ⊎ (e ≡ lex_fault.Memory))
only_this_fault text (Ok found) has _ expected is = let never = (one_reading_lem text found is.0 None (Some expected) has is.1).1 in cc
only_this_fault text (Err lex_fault.TooLong) _ has expected is = inl (one_reading_lem text has.0 is.0 _ _ has.1 is.1).1
only_this_fault text (Err (lex_fault.NotUtf8 at)) _ has expected is = inl (one_reading_lem text has.0 is.0 _ _ has.1 is.1).1
only_this_fault text (Err (lex_fault.BadToken n)) _ has expected is = inl (one_reading_lem text has.0 is.0 _ _ has.1 is.1).1
only_this_fault text (Err (lex_fault.WideInteger n)) _ has expected is = inl (one_reading_lem text has.0 is.0 _ _ has.1 is.1).1
only_this_fault text (Err lex_fault.Memory) _ has expected is = inr refl
