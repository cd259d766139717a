-- What the readers' items say of the text that they stand at.
use Rattle.std.specs.Prelude.{ℕ, ◌+◌, ◌<◌, ◌≤◌, List, [], ◌∷◌, length, Option, Some, None}
use Rattle.pi_lex.specs.declared.item.Item as code
use Rattle.pi_lex.specs.declared.item.Item.TheVariants as found
use Rattle.pi_syntax.specs.Tokens.{Item, Ended, Blank, Lexeme, Wide, Bad, Var, Atom, Word, Int, Str, Sign, End, spelled, meant, Located, Fault, BadToken, WideInteger}

-- the item of the definition
abbrev pub seen : List ℕ → code.Item → Item
seen text (found.Blank n) = Blank n
seen text (found.Variable n) = Lexeme (Var (spelled n text)) n
seen text (found.Atom n) = Lexeme (Atom (spelled n text)) n
seen text (found.Word n) = Lexeme (Word (spelled n text)) n
seen text (found.QuotedAtom place) = Lexeme (Atom (meant place text)) (place + 1)
seen text (found.Text place) = Lexeme (Str (meant place text)) (place + 1)
seen text (found.Integer value n) = Lexeme (Int value) n
seen text (found.Sign n) = Lexeme (Sign (spelled n text)) n
seen text found.EndPoint = Lexeme End 1
seen text found.Wide = Wide
seen text found.Bad = Bad

-- so many characters stand at the front of the text
abbrev pub IsFront : ℕ → List ℕ → Type 0
IsFront n text = (0 < n) × (n ≤ length text)

-- a read item takes a character or more, and no more than there are
abbrev pub FitsIn : List ℕ → code.Item → Type 0
FitsIn text (found.Blank n) = IsFront n text
FitsIn text (found.Variable n) = IsFront n text
FitsIn text (found.Atom n) = IsFront n text
FitsIn text (found.Word n) = IsFront n text
FitsIn text (found.QuotedAtom place) = (0 < place) × (place < length text)
FitsIn text (found.Text place) = (0 < place) × (place < length text)
FitsIn text (found.Integer value n) = IsFront n text
FitsIn text (found.Sign n) = IsFront n text
FitsIn text found.EndPoint = 0 < length text
FitsIn text found.Wide = Unit {0}
FitsIn text found.Bad = Unit {0}

-- how many characters the item takes
abbrev pub item_len : Item → ℕ
item_len Ended = 0
item_len (Blank n) = n
item_len (Lexeme t n) = n
item_len Wide = 0
item_len Bad = 0

-- the item's token, on this line
abbrev pub tokens_from : Item → ℕ → List Located
tokens_from Ended line = []
tokens_from (Blank n) line = []
tokens_from (Lexeme t n) line = (t, line) ∷ []
tokens_from Wide line = []
tokens_from Bad line = []

-- the item is white space, a comment or a token
abbrev pub GoesOn : Item → Type 0
GoesOn Ended = ⊥
GoesOn (Blank n) = Unit {0}
GoesOn (Lexeme t n) = Unit {0}
GoesOn Wide = ⊥
GoesOn Bad = ⊥

-- the fault of an item on this line
abbrev pub fault_from : Item → ℕ → Option Fault
fault_from Ended line = None
fault_from (Blank n) line = None
fault_from (Lexeme t n) line = None
fault_from Wide line = Some (WideInteger line)
fault_from Bad line = Some (BadToken line)
