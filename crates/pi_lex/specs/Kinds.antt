-- What a `TokenKind` and a `LexFault` say.
use Rattle.std.specs.Prelude.{ℕ, pos, ◌≤ℤ◌, List, [], ◌∷◌, map, Option, Some, None}
use Rattle.pi_lex.specs.declared.token_list.TokenKind.{TokenKind}
use Rattle.pi_lex.specs.declared.token_list.TokenKind.TheVariants as kind
use Rattle.pi_lex.specs.declared.fault.LexFault.{LexFault}
use Rattle.pi_lex.specs.declared.fault.LexFault.TheVariants as lex_fault
use Rattle.pi_syntax.specs.Tokens.{Token, Located, Fault, TooLong, NotUtf8, BadToken, WideInteger, Var, Atom, Word, Int, Str, Sign, End}

-- the token of the definition
abbrev pub token_shown : TokenKind → Token
token_shown (kind.Var name) = Var name.now
token_shown (kind.Atom name) = Atom name.now
token_shown (kind.Word word) = Word word.now
token_shown (kind.Int value) = Int value
token_shown (kind.Str text) = Str text.now
token_shown (kind.Sign sign) = Sign sign.now
token_shown kind.End = End

-- the fault of the text, where memory didn't run out
abbrev pub fault_shown : LexFault → Option Fault
fault_shown lex_fault.TooLong = Some TooLong
fault_shown (lex_fault.NotUtf8 at) = Some (NotUtf8 at)
fault_shown (lex_fault.BadToken line) = Some (BadToken line)
fault_shown (lex_fault.WideInteger line) = Some (WideInteger line)
fault_shown lex_fault.Memory = None

-- an integer isn't negative
abbrev pub IsNatural : Token → Type 0
IsNatural (Int value) = pos 0 ≤ℤ value
IsNatural _ = Unit {0}

abbrev pub AreNatural : List Located → Type 0
AreNatural [] = Unit {0}
AreNatural (located ∷ tokens) = IsNatural located.0 × AreNatural tokens

-- the tokens without their lines, and the lines
abbrev pub kinds : List Located → List Token
kinds tokens = map (λ (located : Located). located.0) tokens

abbrev pub lines : List Located → List ℕ
lines tokens = map (λ (located : Located). located.1) tokens
