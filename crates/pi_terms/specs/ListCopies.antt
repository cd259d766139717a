-- Lists of copies of terms: the copies have new variables, numbered on from one to the next.
use Rattle.std.specs.Prelude.{ℕ, ◌+◌, List, [], ◌∷◌}
use Rattle.pi_terms.specs.Tree.{Tree, atom, comp, no_trees, tree}
use Rattle.pi_terms.specs.ListNames.{nil, cell_name}
use Rattle.pi_terms.specs.Copy.{copy, new_variables}

abbrev pub list_cell : Tree → Tree → Tree
list_cell t rest = comp cell_name (tree t (tree rest no_trees))

unfoldable pub list_of_copies : ℕ → List Tree → Tree
list_of_copies n [] = atom nil
list_of_copies n (t ∷ ts) = list_cell (copy n t) (list_of_copies (n + new_variables t) ts)

unfoldable pub new_in_all : List Tree → ℕ
new_in_all [] = 0
new_in_all (t ∷ ts) = new_variables t + new_in_all ts
