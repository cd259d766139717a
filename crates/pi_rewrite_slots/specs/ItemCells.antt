-- The cells of terms before the sizes of compounds are set.
use Rattle.std.specs.Prelude.{ℕ, nat_lt, Bool, true, List, [], ◌∷◌, ◌++◌, map}
use Rattle.std.specs.Char.{encode_utf8}
use Rattle.pi_terms.specs.Tree.{atom, Trees, no_trees, tree, trees_of}
use Rattle.pi_terms.specs.ListNames.{cell_name}
use Rattle.pi_terms.specs.BareCells.{bare}
use Rattle.pi_terms.specs.declared.term.TermCell.{TermCell}
use Rattle.pi_terms.specs.declared.term.TermHead.{TermHead}

-- items of a list, each behind its list cell
unfoldable pub item_cells : Trees → List TermCell
item_cells no_trees = []
item_cells (tree t ts) = TermCell.Comp cell_name 2 0 ∷ (bare t ++ item_cells ts)

-- the cell that shows this
abbrev pub cell_of : TermHead → TermCell
cell_of (TermHead.Var n) = TermCell.Var n
cell_of (TermHead.Int n) = TermCell.Int n
cell_of (TermHead.Atom name) = TermCell.Atom name.now
cell_of (TermHead.Comp name k) = TermCell.Comp name.now k 0

-- what stands at a cell is no slot from h on
abbrev pub is_cell_below : ℕ → TermHead → Bool
is_cell_below h (TermHead.Var k) = nat_lt k h
is_cell_below h (TermHead.Int n) = true
is_cell_below h (TermHead.Atom name) = true
is_cell_below h (TermHead.Comp name k) = true

-- characters as atoms
abbrev pub letter_atoms : List ℕ → Trees
letter_atoms letters = trees_of (map (λ c. atom (encode_utf8 c)) letters)
