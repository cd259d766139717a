-- The terminals of the grammar of expressions: what each token is there. The operators and their lines are those of A
-- User's Guide to Picat ('Operators'), save that this choice of them, and the order of some lines, are own.
use Rattle.std.specs.Prelude.{ℕ, ℤ, List, [], ◌∷◌, codes, Option, Some, None, unwrap_or, if◌then◌else◌}
use Rattle.std.specs.Str.{bytes_eq}
use Rattle.pi_syntax.specs.Tokens.{Token, Var, Atom, Word, Int, Str, Sign, End}

-- The lines of the grammar whose two-place signs group to the left, the loosest first.
pub data Line : Type 0 where
  -- `#<=>`
  equivalence : Line
  -- `#=>`
  implication : Line
  -- `#\/`
  constraint_or : Line
  -- `#^`
  constraint_xor : Line
  -- `#/\`
  constraint_and : Line
  -- `\/`
  bit_or : Line
  -- `^`
  bit_xor : Line
  -- `/\`
  bit_and : Line
  -- `>>` and `<<`
  shift : Line
  -- `+`, `-` and `++`
  sum : Line
  -- `*`, `//`, `/>`, `/<`, `div`, `mod` and `rem`
  product : Line

-- A terminal. A name is what stands in the tree.
pub data Terminal : Type 0 where
  variable : List ℕ → Terminal
  atom : List ℕ → Terminal
  integer : ℤ → Terminal
  text : List ℕ → Terminal
  -- a two-place sign that groups to the left, save `+` and `-`
  joint : Line → List ℕ → Terminal
  -- `+` and `-`, which stand between two or before one
  plus : Terminal
  minus : Terminal
  relation : List ℕ → Terminal
  -- `..`
  dots : Terminal
  -- `**`
  power : Terminal
  -- `~`
  complement : Terminal
  -- `#~`
  constraint_not : Terminal
  -- `not` and `once`
  goal_sign : List ℕ → Terminal
  open_paren : Terminal
  close_paren : Terminal
  open_bracket : Terminal
  close_bracket : Terminal
  open_brace : Terminal
  close_brace : Terminal
  comma : Terminal
  semicolon : Terminal
  -- `->`
  arrow : Terminal
  bar : Terminal
  colon : Terminal
  dot : Terminal
  dollar : Terminal
  at : Terminal
  word_if : Terminal
  word_then : Terminal
  word_elseif : Terminal
  word_else : Terminal
  word_end : Terminal
  word_foreach : Terminal
  word_while : Terminal
  word_do : Terminal
  -- what stands in no expression, as `=>`, `?=>` and the end point
  foreign : Terminal

-- a spelling and its terminal
abbrev pub Row : Type 0
Row = List ℕ × Terminal

-- the terminal of a spelling in a table, where it is there
abbrev pub found_in : List Row → List ℕ → Option Terminal
found_in [] spelling = None
found_in (row ∷ rows) spelling = if bytes_eq spelling row.0 then Some row.1 else found_in rows spelling

-- a sign whose name is its spelling
abbrev pub as_written : (List ℕ → Terminal) → List ℕ → Row
as_written terminal_named sign = (sign, terminal_named sign)

-- the signs before which, or between which, a constraint stands
abbrev pub constraint_rows : List Row
constraint_rows =
    as_written (joint equivalence) (codes "#<=>") ∷ as_written (joint implication) (codes "#=>")
    ∷ as_written (joint constraint_or) (codes "#\\/") ∷ as_written (joint constraint_xor) (codes "#^")
    ∷ as_written (joint constraint_and) (codes "#/\\") ∷ (codes "#~", constraint_not) ∷ []

-- the signs of arithmetic
abbrev pub arithmetic_rows : List Row
arithmetic_rows =
    (codes "+", plus) ∷ (codes "-", minus) ∷ as_written (joint sum) (codes "++")
    ∷ as_written (joint product) (codes "*") ∷ as_written (joint product) (codes "//") ∷ as_written (joint product) (codes "/>")
    ∷ as_written (joint product) (codes "/<") ∷ as_written (joint shift) (codes ">>") ∷ as_written (joint shift) (codes "<<")
    ∷ as_written (joint bit_or) (codes "\\/") ∷ as_written (joint bit_xor) (codes "^") ∷ as_written (joint bit_and) (codes "/\\")
    ∷ (codes "~", complement) ∷ (codes "**", power) ∷ (codes "..", dots) ∷ []

-- Relations. `<=` is read as `=<`, and `#<=` as `#=<`.
abbrev pub relation_rows : List Row
relation_rows =
    as_written relation (codes "=") ∷ as_written relation (codes "!=") ∷ as_written relation (codes "==")
    ∷ as_written relation (codes "!==") ∷ as_written relation (codes "=:=") ∷ as_written relation (codes "=\\=")
    ∷ as_written relation (codes "<") ∷ as_written relation (codes "=<") ∷ (codes "<=", relation (codes "=<"))
    ∷ as_written relation (codes ">") ∷ as_written relation (codes ">=") ∷ as_written relation (codes "@<")
    ∷ as_written relation (codes "@=<") ∷ as_written relation (codes "@>") ∷ as_written relation (codes "@>=")
    ∷ as_written relation (codes ":=") ∷ as_written relation (codes "::") ∷ []

abbrev pub constraint_relation_rows : List Row
constraint_relation_rows =
    as_written relation (codes "#=") ∷ as_written relation (codes "#!=") ∷ as_written relation (codes "#<")
    ∷ as_written relation (codes "#=<") ∷ (codes "#<=", relation (codes "#=<")) ∷ as_written relation (codes "#>")
    ∷ as_written relation (codes "#>=") ∷ []

-- brackets, and what parts things
abbrev pub punctuation_rows : List Row
punctuation_rows =
    (codes "(", open_paren) ∷ (codes ")", close_paren) ∷ (codes "[", open_bracket) ∷ (codes "]", close_bracket)
    ∷ (codes "{", open_brace) ∷ (codes "}", close_brace) ∷ (codes ",", comma) ∷ (codes ";", semicolon) ∷ (codes "->", arrow)
    ∷ (codes "|", bar) ∷ (codes ":", colon) ∷ (codes ".", dot) ∷ (codes "$", dollar) ∷ (codes "@", at) ∷ []

-- Reserved words that are signs. `div` is read as `/<`.
abbrev pub operator_word_rows : List Row
operator_word_rows =
    as_written relation (codes "in") ∷ as_written relation (codes "notin") ∷ as_written goal_sign (codes "not")
    ∷ as_written goal_sign (codes "once") ∷ (codes "div", joint product (codes "/<")) ∷ as_written (joint product) (codes "mod")
    ∷ as_written (joint product) (codes "rem") ∷ []

-- reserved words of blocks
abbrev pub block_word_rows : List Row
block_word_rows =
    (codes "if", word_if) ∷ (codes "then", word_then) ∷ (codes "elseif", word_elseif) ∷ (codes "else", word_else)
    ∷ (codes "end", word_end) ∷ (codes "foreach", word_foreach) ∷ (codes "while", word_while) ∷ (codes "do", word_do) ∷ []

-- `=>` and `?=>` are in no table
unfoldable pub sign_terminal : List ℕ → Terminal
sign_terminal sign =
    unwrap_or (found_in punctuation_rows sign)
    (unwrap_or (found_in arithmetic_rows sign)
    (unwrap_or (found_in relation_rows sign)
    (unwrap_or (found_in constraint_rows sign)
    (unwrap_or (found_in constraint_relation_rows sign) foreign))))

unfoldable pub word_terminal : List ℕ → Terminal
word_terminal word = unwrap_or (found_in operator_word_rows word) (unwrap_or (found_in block_word_rows word) foreign)

-- what a token is in the grammar
abbrev pub terminal : Token → Terminal
terminal (Var name) = variable name
terminal (Atom name) = atom name
terminal (Word word) = word_terminal word
terminal (Int n) = integer n
terminal (Str meaning) = text meaning
terminal (Sign sign) = sign_terminal sign
terminal End = foreign
