-- The cells of a term before the sizes of its compounds are set.
use Rattle.std.specs.Prelude.{◌≡◌, ℕ, suc, ◌≤◌, List, Option, Some, None, map, ⊤}
use Rattle.pi_terms.specs.Tree.{Tree, Trees, tree_count, cells_all}
use Rattle.pi_terms.specs.TermCells.{flat, flat_all, spelled, take_trees}
use Rattle.pi_terms.specs.declared.term.TermCell.{TermCell}
use Rattle.pi_terms.specs.declared.term.TermCell.TheVariants.{Var, Int, Atom, Comp}

-- a cell with this size, where it is a compound's
abbrev pub with_size : TermCell → ℕ → TermCell
with_size (Var n) size = Var n
with_size (Int n) size = Int n
with_size (Atom name) size = Atom name
with_size (Comp name k old) size = Comp name k size

-- how many arguments the compound has whose cell this is
abbrev pub count_of : TermCell → Option ℕ
count_of (Var n) = None
count_of (Int n) = None
count_of (Atom name) = None
count_of (Comp name k size) = Some k

-- the cells of a tree, with 0 for each size
abbrev pub bare : Tree → List TermCell
bare t = map (λ c. with_size c 0) (flat t)

-- a cell with its size, before the trees that the cells behind it spell
abbrev pub sized : TermCell → Trees → TermCell
sized (Var n) us = Var n
sized (Int n) us = Int n
sized (Atom name) us = Atom name
sized (Comp name k old) us = Comp name k (suc (cells_all (take_trees k us)))

-- as many trees stand behind a compound's cell as it has arguments
abbrev pub HasBehind : TermCell → Trees → Type 0
HasBehind (Var n) us = ⊤
HasBehind (Int n) us = ⊤
HasBehind (Atom name) us = ⊤
HasBehind (Comp name k size) us = k ≤ tree_count us

-- cells that spell whole trees
pub record AreSpelt (cs : List TermCell) : Type 0 where
  pub spells : cs ≡ flat_all (spelled cs)

abbrev pub bare_all : Trees → List TermCell
bare_all ts = map (λ c. with_size c 0) (flat_all ts)
