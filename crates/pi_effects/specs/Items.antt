-- Lists and arrays in a state, by their items (A User's Guide to Picat, 'Data Types, Operators, and Built-ins'). The items of a
-- list or an array are the terms that stand in it, with bound variables in them. (Names of lists and arrays are own.)
use Rattle.std.specs.Prelude.{◌≡◌, ℕ, zero, suc, cond, Bool, false, List, [], ◌∷◌, map, Option, Some, None, option_map, option_and_then}
use Rattle.std.specs.Option.{option_or}
use Rattle.std.specs.Str.{bytes_eq}
use Rattle.pi_terms.specs.Tree.{Tree, var, int, atom, comp, Trees, no_trees, tree, trees_of, cells}
use Rattle.pi_terms.specs.ListNames.{nil, cell_name}
use Rattle.pi_terms.specs.ListCopies.{list_cell}
use Rattle.pi_constraints.specs.Value.{Bindings, value, IsAcyclic}
use Rattle.pi_constraints.specs.State.{followed}
use Rattle.pi_syntax.specs.PrintTerm.{array_name}

-- arguments, each by itself
unfoldable pub each_tree : Trees → List Tree
each_tree no_trees = []
each_tree (tree t ts) = t ∷ each_tree ts

-- ---- as they are made

-- items in front of a term, and the list of items alone
unfoldable pub list_onto : List Tree → Tree → Tree
list_onto [] rest = rest
list_onto (t ∷ ts) rest = list_cell t (list_onto ts rest)

abbrev pub list_of : List Tree → Tree
list_of ts = list_onto ts (atom nil)

abbrev pub array_of : List Tree → Tree
array_of ts = comp array_name (trees_of ts)

-- ---- as they are read: a term at its root

-- the empty list
abbrev pub is_nil : Tree → Bool
is_nil (var n) = false
is_nil (int i) = false
is_nil (atom name) = bytes_eq name nil
is_nil (comp name ts) = false

-- the item and the rest of a list cell
abbrev pub cell_parts : Tree → Option (Tree × Tree)
cell_parts (comp name (tree t (tree rest no_trees))) = cond (bytes_eq name cell_name) (Some (t, rest)) None
cell_parts t = None

-- the items of an array
abbrev pub array_parts : Tree → Option (List Tree)
array_parts (var n) = None
array_parts (int i) = None
array_parts (atom name) = None
array_parts (comp name ts) = cond (bytes_eq name array_name) (Some (each_tree ts)) None

-- the arguments of a compound that is no list cell
abbrev pub structure_parts : Tree → Option (List Tree)
structure_parts (var n) = None
structure_parts (int i) = None
structure_parts (atom name) = None
structure_parts (comp name (tree t (tree rest no_trees))) = cond (bytes_eq name cell_name) None (Some (t ∷ rest ∷ []))
structure_parts (comp name ts) = Some (each_tree ts)

-- ---- in a state

abbrev pub in_front_of : (Tree → Option (List Tree)) → Tree × Tree → Option (List Tree)
in_front_of items p = option_map (λ ts. p.0 ∷ ts) (items p.1)

-- `items` gives those of the rest
abbrev pub items_of_root : (Tree → Option (List Tree)) → Tree → Option (List Tree)
items_of_root items t = option_or (cond (is_nil t) (Some []) None) (option_and_then (in_front_of items) (cell_parts t))

-- the items of a proper list, so many cells at most
unfoldable pub items_for : ℕ → Bindings → Tree → Option (List Tree)
items_for zero b t = None
items_for (suc k) b t = items_of_root (items_for k b) (followed b t)

-- the items of a proper list, which has no more cells than its value; None of any other term
unfoldable pub list_items : Bindings → Tree → Option (List Tree)
list_items b t = items_for (cells (value b t)) b t

-- the items of a proper list or of an array
abbrev pub collection_items : Bindings → Tree → Option (List Tree)
collection_items b t = option_or (array_parts (followed b t)) (list_items b t)

-- what `X[I]` looks into: a proper list, or a compound that is no list cell
abbrev pub indexed_items : Bindings → Tree → Option (List Tree)
indexed_items b t = option_or (structure_parts (followed b t)) (list_items b t)

-- ---- laws

-- a list's items are as its root says: none, or an item and those of the rest
abbrev pub ItemsGoByRoot : Type 0
ItemsGoByRoot = (b : Bindings) (t : Tree) → IsAcyclic b → list_items b t ≡ items_of_root (list_items b) (followed b t)

-- their values are the items of the list's value
abbrev pub ItemsGoByValue : Type 0
ItemsGoByValue = (b : Bindings) (t : Tree) → IsAcyclic b → option_map (map (value b)) (list_items b t) ≡ list_items [] (value b t)
