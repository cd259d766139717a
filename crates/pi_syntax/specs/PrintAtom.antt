-- How an atom is written: as it is, or in single quotes ('Data Types' of A User's Guide to Picat; which atoms stand
-- without quotes, and the escapes, are own). A name is the list of its bytes in UTF-8.
use Rattle.std.specs.Prelude.{ℕ, ◌==◌, Bool, not, ◌&&◌, ◌||◌, if◌then◌else◌, List, ◌++◌, codes}
use Rattle.std.specs.Char.{encode_utf8}
use Rattle.std.specs.List.{list_all, flat_map}
use Rattle.std.specs.Str.{chars, bytes_eq}
pub use Rattle.pi_terms.specs.ListNames.{nil}
use Rattle.pi_syntax.specs.Tokens.{tab, line_feed, apostrophe, backslash, first, is_atom_start, is_name_part, is_reserved}

-- characters that have the form of an atom without quotes, and are no reserved word
unfoldable pub is_unquoted_atom : List ℕ → Bool
is_unquoted_atom text = (is_atom_start (first text) && list_all is_name_part text) && not (is_reserved text)

-- the atom is written as it is: the empty list too
unfoldable pub stands_bare : List ℕ → Bool
stands_bare name = bytes_eq name nil || is_unquoted_atom (chars name)

-- what is written between quotes for a character
abbrev pub in_quotes : ℕ → List ℕ
in_quotes c =
    if c == backslash then codes "\\\\"
    else if c == apostrophe then codes "\\'"
    else if c == line_feed then codes "\\n"
    else if c == tab then codes "\\t"
    else encode_utf8 c

abbrev pub quoted_atom : List ℕ → List ℕ
quoted_atom name = codes "'" ++ (flat_map in_quotes (chars name) ++ codes "'")

-- in the quoted form an atom stands in quotes where it has to, in the plain form never
unfoldable pub atom_text : Bool → List ℕ → List ℕ
atom_text is_quoted name = if is_quoted then (if stands_bare name then name else quoted_atom name) else name
