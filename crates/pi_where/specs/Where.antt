-- The lines of a part of a program's text: from that of its first token to that of its last, which is its end point where it has one.
use Rattle.std.specs.Prelude.{◌≡◌, ◌<◌, ◌+◌, ◌-◌, ◌⊎◌, ℕ, if◌then◌else◌, List, [], ◌∷◌, ◌++◌, length, slice_get, Some}
use Rattle.pi_syntax.specs.Tokens.{Token, End, Located, Fault, HasTokens, HasFault}
use Rattle.pi_lex.specs.Kinds.{kinds, lines}
use Rattle.pi_lex.specs.declared.fault.LexFault.{LexFault}
use Rattle.pi_lex.specs.declared.fault.LexFault.TheVariants as lex_fault
use Rattle.pi_prog_clauses.specs.Stretch.{Stretch, stretches}
use Rattle.pi_where.specs.declared.part_lines.NoLines.{NoLines}
use Rattle.pi_where.specs.declared.part_lines.NoLines.TheVariants as no_lines
use Rattle.pi_where.specs.declared.part_lines.PartLines.{PartLines}

-- a part's tokens, with its end point where it has one
abbrev pub with_end : Stretch → List Token
with_end s = if s.ended then s.tokens ++ End ∷ [] else s.tokens

-- those of parts, one after the other
abbrev pub all_tokens : List Stretch → List Token
all_tokens [] = []
all_tokens (s ∷ parts) = with_end s ++ all_tokens parts

-- Of the tokens of a text these are the part of this number, counted from 1: the parts before it are one fewer, and their tokens
-- stand before its own.
pub record IsPart (tokens : List Located) (number : ℕ) (part : List Located) : Type 0 where
  pub before : List Stretch
  pub this : Stretch
  pub following : List Stretch
  pub parts : stretches (kinds tokens) ≡ before ++ this ∷ following
  pub counted : length before + 1 ≡ number
  pub earlier : List Located
  pub later : List Located
  pub all : tokens ≡ earlier ++ part ++ later
  pub earlier_parts : kinds earlier ≡ all_tokens before
  pub its_own : kinds part ≡ with_end this

-- the part of this number begins and ends on these lines
pub record HasLines (tokens : List Located) (number : ℕ) (found : PartLines) : Type 0 where
  pub part : List Located
  pub is_part : IsPart tokens number part
  pub first : slice_get (lines part) 0 ≡ Some found.first
  pub last : slice_get (lines part) (length part - 1) ≡ Some found.last

-- the tokens have no part of this number
abbrev pub LacksPart : List Located → ℕ → Type 0
LacksPart tokens number = (number ≡ 0) ⊎ (length (stretches (kinds tokens)) < number)

-- the same of a text, which has tokens
pub record TextHasLines (text : List ℕ) (number : ℕ) (found : PartLines) : Type 0 where
  pub tokens : List Located
  pub lexed : HasTokens text tokens
  pub on : HasLines tokens number found

pub record TextLacksPart (text : List ℕ) (number : ℕ) : Type 0 where
  pub tokens : List Located
  pub lexed : HasTokens text tokens
  pub lacks : LacksPart tokens number

-- the text has no tokens
abbrev pub HasNoTokens : List ℕ → Type 0
HasNoTokens text = (fault : Fault) × HasFault text fault

-- what a fault of the tokens is to those who ask for lines
abbrev pub no_lines_for : LexFault → NoLines
no_lines_for lex_fault.Memory = no_lines.Memory
no_lines_for fault = no_lines.NoTokens
