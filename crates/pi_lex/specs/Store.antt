-- What a store of tokens holds.
use Rattle.std.specs.Prelude.{◌≡◌, ℕ, ◌+◌, ◌*◌, ◌^◌, ◌<◌, ◌≤◌, pos, nat_le, List, [], ◌∷◌, ◌++◌, length, slice_index_or, string_bytes, string_len, vec_len, Option, None, IfSome, IsSome}
use Rattle.std.specs.List.{All, count_by}
use Rattle.std.specs.List.Sorted.{IsNonDecreasing}
use Rattle.pi_lex.specs.declared.form.Kind.{Kind}
use Rattle.pi_lex.specs.declared.form.Kind.TheVariants as kind
use Rattle.pi_lex.specs.declared.store.Long.{Long}
use Rattle.pi_lex.specs.declared.form.FormKind.{FormKind}
use Rattle.pi_lex.specs.declared.form.FormKind.TheVariants as form
use Rattle.pi_lex.specs.declared.form.Form.{Form}
use Rattle.pi_lex.specs.declared.store.Store.{Store}
use Rattle.pi_lex.specs.Spans.{span, spanned, IsSpan, spelled_at, IsCounted}
use Rattle.pi_syntax.specs.Tokens.{Token, Item, Ended, Blank, Lexeme, Wide, Bad, Var, Atom, Word, Int, Str, Sign, End, Located}

-- the token that these bytes are
abbrev pub said : Kind → List ℕ → Token
said kind.Variable bytes = Var bytes
said kind.Atom bytes = Atom bytes
said kind.Word bytes = Word bytes
said kind.Text bytes = Str bytes
said kind.Sign bytes = Sign bytes

-- what the form of a counted spelling is
abbrev pub counted_kind : Kind → FormKind
counted_kind kind.Variable = form.Variable
counted_kind kind.Atom = form.Atom
counted_kind kind.Word = form.Word
counted_kind kind.Text = form.Text
counted_kind kind.Sign = form.Sign

-- the number of a form
abbrev pub number_of : Form → ℕ
number_of f = f.high * 65536 + f.low

-- the long one at a place
abbrev pub long_at : List Long → ℕ → Long
long_at longs place = slice_index_or longs place (record { kind = kind.Variable; span = span 0 0 })

-- the token that a form of this kind and number tells
abbrev pub told : Store → FormKind → ℕ → Token
told store form.Variable place = Var (spelled_at (string_bytes store.buffer) place)
told store form.Atom place = Atom (spelled_at (string_bytes store.buffer) place)
told store form.Word place = Word (spelled_at (string_bytes store.buffer) place)
told store form.Text place = Str (spelled_at (string_bytes store.buffer) place)
told store form.Sign place = Sign (spelled_at (string_bytes store.buffer) place)
told store form.Long place = said (long_at store.longs.items place).kind (spanned (string_bytes store.buffer) (long_at store.longs.items place).span)
told store form.Small value = Int (pos value)
told store form.Large place = Int (slice_index_or store.numbers.items place (pos 0))
told store form.EndPoint place = End

abbrev pub token_of : Store → Form → Token
token_of store f = told store f.kind (number_of f)

-- the line of the token at a place, where so many tokens stand before each line feed
abbrev pub line_at : List ℕ → ℕ → ℕ
line_at feeds place = 1 + count_by (λ before. nat_le before place) feeds

-- these forms, the first of which stands at this place
abbrev pub located_from : Store → ℕ → List Form → List Located
located_from store place [] = []
located_from store place (f ∷ forms) = (token_of store f, line_at store.feeds.items place) ∷ located_from store (place + 1) forms

-- the tokens with their lines
abbrev pub listed : Store → List Located
listed store = located_from store 0 store.forms.items

-- the store holds what a form of this kind and number tells
abbrev pub Lies : Store → FormKind → ℕ → Type 0
Lies store form.Variable place = IsCounted (string_bytes store.buffer) place
Lies store form.Atom place = IsCounted (string_bytes store.buffer) place
Lies store form.Word place = IsCounted (string_bytes store.buffer) place
Lies store form.Text place = IsCounted (string_bytes store.buffer) place
Lies store form.Sign place = IsCounted (string_bytes store.buffer) place
Lies store form.Long place = (place < length store.longs.items) × IsSpan (string_bytes store.buffer) (long_at store.longs.items place).span
Lies store form.Small value = Unit {0}
Lies store form.Large place = place < length store.numbers.items
Lies store form.EndPoint place = Unit {0}

abbrev pub IsForm : Store → Form → Type 0
IsForm store f = Lies store f.kind (number_of f)

-- each token lies in the store, and line feeds stand in order, before or behind tokens that there are
pub record IsSound (store : Store) : Type 0 where
  pub forms : All (IsForm store) store.forms.items
  pub ascending : IsNonDecreasing store.feeds.items
  pub within : All (λ before. before ≤ length store.forms.items) store.feeds.items

-- no line feed is passed behind the one that ends the line before this one
abbrev pub StandsBefore : Store → ℕ → Type 0
StandsBefore store line = length store.feeds.items < line

-- ys is xs with more at its end
abbrev pub Extends : {X : Type 0} → List X → List X → Type 0
Extends {X} xs ys = (more : List X) × (ys ≡ xs ++ more)

-- what the store holds of its tokens stays, and more may stand behind what they refer to; the seats are free
pub record Keeps (old new : Store) : Type 0 where
  pub forms : new.forms.items ≡ old.forms.items
  pub feeds : new.feeds.items ≡ old.feeds.items
  pub buffer : Extends (string_bytes old.buffer) (string_bytes new.buffer)
  pub longs : Extends old.longs.items new.longs.items
  pub numbers : Extends old.numbers.items new.numbers.items

-- the store grew by at most what a token of so many characters needs
pub record GrowsBy (old new : Store) (n : ℕ) : Type 0 where
  pub buffer : string_len new.buffer ≤ string_len old.buffer + 4 * n + 1
  pub longs : vec_len new.longs ≤ vec_len old.longs + 1
  pub numbers : vec_len new.numbers ≤ vec_len old.numbers + 1
  pub forms : vec_len new.forms ≤ vec_len old.forms + 1

-- there is room for so many characters
pub record HasRoom (store : Store) (n : ℕ) : Type 0 where
  pub buffer : string_len store.buffer + 5 * n < 2 ^ 32
  pub longs : vec_len store.longs + n ≤ 2 ^ 24
  pub numbers : vec_len store.numbers + n ≤ 2 ^ 24
  pub forms : vec_len store.forms + n < 2 ^ 32

-- the store came to hold what the form tells, this token of so many characters
pub record IsKept (old new : Store) (f : Form) (t : Token) (n : ℕ) : Type 0 where
  pub lies : IsForm new f
  pub says : token_of new f ≡ t
  pub keeps : Keeps old new
  pub grows : GrowsBy old new n

-- the same of an item's token, or the item has none
abbrev pub IsTaken : Store → Store → Option Form → Item → Type 0
IsTaken old new found Ended = (found ≡ None) × (new ≡ old)
IsTaken old new found (Blank n) = (found ≡ None) × (new ≡ old)
IsTaken old new found (Lexeme t n) = IfSome found (λ f. IsKept old new f t n) × IsSome found
IsTaken old new found Wide = (found ≡ None) × (new ≡ old)
IsTaken old new found Bad = (found ≡ None) × (new ≡ old)
