-- How a term is written, in quoted or in plain form ('Data Types' of A User's Guide to Picat; the forms are own).
use Rattle.std.specs.Prelude.{ℕ, ◌+◌, ◌==◌, Bool, false, not, ◌&&◌, if◌then◌else◌, List, [], ◌++◌, length, codes}
use Rattle.std.specs.Fmt.{decimal, signed_decimal}
use Rattle.std.specs.Str.{chars, bytes_eq}
use Rattle.pi_terms.specs.Tree.{Tree, var, int, atom, comp, Trees, no_trees, tree, tree_count}
use Rattle.pi_terms.specs.Variables.{variables}
use Rattle.pi_terms.specs.Copy.{place_in}
pub use Rattle.pi_terms.specs.ListNames.{cell_name}
use Rattle.pi_syntax.specs.PrintAtom.{nil, atom_text}

-- a compound with this name and these arguments is a list cell
abbrev pub is_cell : List ℕ → Trees → Bool
is_cell name ts = bytes_eq name cell_name && (tree_count ts == 2)

-- ---- lists of characters

-- the term is an atom of one character
abbrev pub is_character : Tree → Bool
is_character (var n) = false
is_character (int n) = false
is_character (atom name) = length (chars name) == 1
is_character (comp name ts) = false

abbrev pub name_of : Tree → List ℕ
name_of (var n) = []
name_of (int n) = []
name_of (atom name) = name
name_of (comp name ts) = name

-- the term is a proper list that has atoms of one character alone; the empty list too
unfoldable mutual
  pub is_characters : Tree → Bool
  is_characters (var n) = false
  is_characters (int n) = false
  is_characters (atom name) = bytes_eq name nil
  is_characters (comp name ts) = bytes_eq name cell_name && cell_is_characters ts

  -- so is the list whose first cell has these arguments
  pub cell_is_characters : Trees → Bool
  cell_is_characters (tree item (tree rest no_trees)) = is_character item && is_characters rest
  cell_is_characters _ = false

-- the characters of such a list
unfoldable mutual
  pub characters : Tree → List ℕ
  characters (var n) = []
  characters (int n) = []
  characters (atom name) = []
  characters (comp name ts) = cell_characters ts

  pub cell_characters : Trees → List ℕ
  cell_characters (tree item (tree rest no_trees)) = name_of item ++ characters rest
  cell_characters _ = []

-- ---- terms

-- a variable is numbered from 1 by its place among the variables that are written
abbrev pub variable_text : List ℕ → ℕ → List ℕ
variable_text vars n = codes "_" ++ decimal (place_in vars n + 1)

-- an array is a compound with this name
abbrev pub array_name : List ℕ
array_name = codes "{}"

-- a compound that is no list cell, with what is written for its arguments
abbrev pub compound_text : Bool → List ℕ → List ℕ → List ℕ
compound_text is_quoted name inner =
    if bytes_eq name array_name then codes "{" ++ (inner ++ codes "}")
    else atom_text is_quoted name ++ (codes "(" ++ (inner ++ codes ")"))

-- what follows the last item of a list that isn't proper
abbrev pub tail_text : List ℕ → List ℕ
tail_text text = codes "|" ++ (text ++ codes "]")

-- Below, `is_quoted` says whether the form is the quoted one, and `vars` are the variables that are written, by number.
unfoldable mutual
  -- an integer is written as a decimal with `-` before a negative
  pub written : Bool → List ℕ → Tree → List ℕ
  written is_quoted vars (var n) = variable_text vars n
  written is_quoted vars (int n) = signed_decimal n
  written is_quoted vars (atom name) = atom_text is_quoted name
  written is_quoted vars (comp name ts) =
      if not is_quoted && is_characters (comp name ts) then characters (comp name ts)
      else if is_cell name ts then codes "[" ++ items_text is_quoted vars ts
      else compound_text is_quoted name (arguments_text is_quoted vars ts)

  -- the list whose first cell has these arguments, from its first item on
  pub items_text : Bool → List ℕ → Trees → List ℕ
  items_text is_quoted vars (tree item (tree rest no_trees)) = written is_quoted vars item ++ rest_text is_quoted vars rest
  items_text is_quoted vars _ = []

  -- what follows an item: another item, the end of the list, or a tail that is no list
  pub rest_text : Bool → List ℕ → Tree → List ℕ
  rest_text is_quoted vars (var n) = tail_text (variable_text vars n)
  rest_text is_quoted vars (int n) = tail_text (signed_decimal n)
  rest_text is_quoted vars (atom name) = if bytes_eq name nil then codes "]" else tail_text (atom_text is_quoted name)
  rest_text is_quoted vars (comp name ts) =
      if is_cell name ts then codes "," ++ items_text is_quoted vars ts
      else tail_text (compound_text is_quoted name (arguments_text is_quoted vars ts))

  pub arguments_text : Bool → List ℕ → Trees → List ℕ
  arguments_text is_quoted vars no_trees = []
  arguments_text is_quoted vars (tree t ts) = written is_quoted vars t ++ more_arguments_text is_quoted vars ts

  -- the arguments behind another
  pub more_arguments_text : Bool → List ℕ → Trees → List ℕ
  more_arguments_text is_quoted vars no_trees = []
  more_arguments_text is_quoted vars (tree t ts) = codes "," ++ (written is_quoted vars t ++ more_arguments_text is_quoted vars ts)

-- the text of a term that stands alone: its variables are numbered by first occurrence
abbrev pub text_of : Bool → Tree → List ℕ
text_of is_quoted t = written is_quoted (variables t) t
