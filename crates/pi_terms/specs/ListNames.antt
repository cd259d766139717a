-- The names of lists as terms (A User's Guide to Picat, 'Data Types, Operators, and Built-ins'; the names are own).
use Rattle.std.specs.Prelude.{ℕ, List, codes}

-- the empty list is this atom
abbrev pub nil : List ℕ
nil = codes "[]"

-- a compound with this name and two arguments is a list cell: the first item and the list behind it
abbrev pub cell_name : List ℕ
cell_name = codes "[|]"
