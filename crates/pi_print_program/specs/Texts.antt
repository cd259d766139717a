-- What the canonical text of a program is put together from: brackets, what parts things, and the texts of names, integers and texts.
-- (A User's Guide to Picat, 'Data Types'; which atoms stand without quotes, and the escapes, are own.)
use Rattle.std.specs.Prelude.{ℕ, ◌==◌, true, if◌then◌else◌, ℤ, pos, int_lt, List, [], ◌∷◌, ◌++◌, codes}
use Rattle.std.specs.Char.{encode_utf8}
use Rattle.std.specs.Fmt.{signed_decimal}
use Rattle.std.specs.List.{flat_map}
use Rattle.std.specs.Str.{chars}
use Rattle.pi_syntax.specs.Tokens.{tab, line_feed, quotation_mark, backslash}
use Rattle.pi_syntax.specs.PrintAtom.{atom_text}

-- a text between two brackets
abbrev pub between : List ℕ → List ℕ → List ℕ → List ℕ
between left inner right = left ++ (inner ++ right)

abbrev pub in_parens : List ℕ → List ℕ
in_parens inner = between (codes "(") inner (codes ")")

-- texts, each behind this one
unfoldable pub each_behind : List ℕ → List (List ℕ) → List ℕ
each_behind parting [] = []
each_behind parting (t ∷ ts) = parting ++ (t ++ each_behind parting ts)

-- texts, with this one between each two
unfoldable pub parted : List ℕ → List (List ℕ) → List ℕ
parted parting [] = []
parted parting (t ∷ ts) = t ++ each_behind parting ts

-- what parts items, arguments and conjuncts
abbrev pub comma : List ℕ
comma = codes ", "

-- a two-place sign, with one blank at each side
abbrev pub spaced : List ℕ → List ℕ
spaced sign = between (codes " ") sign (codes " ")

-- an atom, and the name of a call
abbrev pub name_text : List ℕ → List ℕ
name_text name = atom_text true name

-- A negative integer stands in parentheses.
unfoldable pub integer_text : ℤ → List ℕ
integer_text n = if int_lt n (pos 0) then in_parens (signed_decimal n) else signed_decimal n

-- what is written between double quotes for a character
abbrev pub in_double_quotes : ℕ → List ℕ
in_double_quotes c =
    if c == backslash then codes "\\\\"
    else if c == quotation_mark then codes "\\\""
    else if c == line_feed then codes "\\n"
    else if c == tab then codes "\\t"
    else encode_utf8 c

-- a text
unfoldable pub string_text : List ℕ → List ℕ
string_text text = between (codes "\"") (flat_map in_double_quotes (chars text)) (codes "\"")
