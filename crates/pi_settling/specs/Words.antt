-- The words of options as a term: the list of the word for the variable and the word for its values. (A User's Guide to Picat, 'Constraints'.)
use Rattle.std.specs.Prelude.{ℕ, pos, List, codes}
use Rattle.pi_terms.specs.Tree.{Tree, int, atom, comp, Trees, no_trees, tree}
use Rattle.pi_terms.specs.ListNames.{nil, cell_name}
use Rattle.pi_settling.specs.Options.{Options, VariableWord, forward, backward, ff, ValueWord, up, down, split, reverse_split}

abbrev pub variable_name : VariableWord → List ℕ
variable_name forward = codes "forward"
variable_name backward = codes "backward"
variable_name ff = codes "ff"

abbrev pub value_name : ValueWord → List ℕ
value_name up = codes "up"
value_name down = codes "down"
value_name split = codes "split"
value_name reverse_split = codes "reverse_split"

-- an item in front of a list
abbrev pub cell : Tree → Tree → Tree
cell t rest = comp cell_name (tree t (tree rest no_trees))

-- the options but their objective
abbrev pub plain_words : Options → Tree
plain_words o = cell (atom (variable_name o.variable)) (cell (atom (value_name o.value)) (atom nil))

-- the second of arguments, which are two where a call has an objective
abbrev pub second_of : Trees → Tree
second_of (tree t (tree u ts)) = u
second_of ts = int (pos 0)
