-- A term as one flat vector: the cells of its nodes in prefix order, a compound's with the number of its arguments and
-- of the cells of the whole compound. And the code by which a model holds a tree.
use Rattle.std.specs.Prelude.{◌≡◌, ℕ, zero, suc, ◌==◌, cond, ℤ, pos, List, [], ◌∷◌, ◌++◌, refl}
use Rattle.std.specs.Coded.{Coded, code_by, coded×, coded_list, coded_ℕ, coded_ℤ}
use Rattle.std.proofs.Common.{ap, sym, append_assoc, ◌∙◌}
use Rattle.std.proofs.lemmas.List.{append-nil}
use Rattle.pi_terms.specs.Tree.{Tree, var, int, atom, comp, Trees, no_trees, tree, tree_count, cells_all, drop_trees}
use Rattle.pi_terms.specs.declared.term.TermCell.{TermCell}
use Rattle.pi_terms.specs.declared.term.TermCell.TheVariants.{Var, Int, Atom, Comp}
use Rattle.pi_terms.specs.declared.term.TermHead.{TermHead}

-- how many cells the term takes that begins with this one
abbrev pub size_of : TermCell → ℕ
size_of (Var n) = 1
size_of (Int n) = 1
size_of (Atom name) = 1
size_of (Comp name k size) = size

-- what a term that begins with this cell is at its root
abbrev pub CellShows : TermCell → TermHead → Type 0
CellShows c (TermHead.Var n) = c ≡ Var n
CellShows c (TermHead.Int n) = c ≡ Int n
CellShows c (TermHead.Atom name) = c ≡ Atom name.now
CellShows c (TermHead.Comp name k) = c ≡ Comp name.now k (size_of c)

-- the cells of a tree
unfoldable mutual
  pub flat : Tree → List TermCell
  flat (var n) = Var n ∷ []
  flat (int n) = Int n ∷ []
  flat (atom name) = Atom name ∷ []
  flat (comp name ts) = Comp name (tree_count ts) (suc (cells_all ts)) ∷ flat_all ts

  pub flat_all : Trees → List TermCell
  flat_all no_trees = []
  flat_all (tree t ts) = flat t ++ flat_all ts

-- the first few
abbrev pub take_trees : ℕ → Trees → Trees
take_trees zero ts = no_trees
take_trees (suc k) no_trees = no_trees
take_trees (suc k) (tree t ts) = tree t (take_trees k ts)

-- a cell in front of the trees that the cells behind it spell
abbrev pub with_cell : TermCell → Trees → Trees
with_cell (Var n) ts = tree (var n) ts
with_cell (Int n) ts = tree (int n) ts
with_cell (Atom name) ts = tree (atom name) ts
with_cell (Comp name k size) ts = tree (comp name (take_trees k ts)) (drop_trees k ts)

-- the trees that cells in prefix order spell
unfoldable pub spelled : List TermCell → Trees
spelled [] = no_trees
spelled (c ∷ cs) = with_cell c (spelled cs)

abbrev pub first_tree : Trees → Tree
first_tree no_trees = atom []
first_tree (tree t ts) = t

-- the tree that the cells of one term spell
unfoldable pub tree_of : List TermCell → Tree
tree_of cs = first_tree (spelled cs)

abbrev pub append_trees : Trees → Trees → Trees
append_trees no_trees us = us
append_trees (tree t ts) us = tree t (append_trees ts us)

pub take_trees-append : (ts us : Trees) → take_trees (tree_count ts) (append_trees ts us) ≡ ts
unfolding tree_count
take_trees-append no_trees us = refl
take_trees-append (tree t ts) us = ap (λ r. tree t r) (take_trees-append ts us)

pub drop_trees-append : (ts us : Trees) → drop_trees (tree_count ts) (append_trees ts us) ≡ us
unfolding tree_count
drop_trees-append no_trees us = refl
drop_trees-append (tree t ts) us = drop_trees-append ts us

mutual
  unfolding flat spelled

  pub spelled-flat : (t : Tree) (cs : List TermCell) → spelled (flat t ++ cs) ≡ tree t (spelled cs)
  spelled-flat (var n) cs = refl
  spelled-flat (int n) cs = refl
  spelled-flat (atom name) cs = refl
  spelled-flat (comp name ts) cs =
      ap (λ r. tree (comp name (take_trees (tree_count ts) r)) (drop_trees (tree_count ts) r)) (spelled-flat_all ts cs)
      ∙ (ap (λ r. tree (comp name r) (drop_trees (tree_count ts) (append_trees ts (spelled cs)))) (take_trees-append ts (spelled cs))
      ∙ ap (λ r. tree (comp name ts) r) (drop_trees-append ts (spelled cs)))

  pub spelled-flat_all : (ts : Trees) (cs : List TermCell) → spelled (flat_all ts ++ cs) ≡ append_trees ts (spelled cs)
  spelled-flat_all no_trees cs = refl
  spelled-flat_all (tree t ts) cs =
      ap spelled (append_assoc (flat t) (flat_all ts) cs) ∙ (spelled-flat t (flat_all ts ++ cs) ∙ ap (λ r. tree t r) (spelled-flat_all ts cs))

pub tree_of-flat : (t : Tree) → tree_of (flat t) ≡ t
unfolding tree_of spelled
tree_of-flat t = ap (λ cs. first_tree (spelled cs)) (sym (append-nil (flat t))) ∙ ap first_tree (spelled-flat t [])

-- ---- how the logic stores a cell, and a tree by its cells

abbrev Stored : Type 0
Stored = ℕ × (ℤ × (List ℕ × (ℕ × ℕ)))

abbrev cell_to_tuple : TermCell → Stored
cell_to_tuple (Var n) = (0, (pos 0, ([], (n, 0))))
cell_to_tuple (Int n) = (1, (n, ([], (0, 0))))
cell_to_tuple (Atom name) = (2, (pos 0, (name, (0, 0))))
cell_to_tuple (Comp name k size) = (3, (pos 0, (name, (k, size))))

abbrev cell_from_tuple : Stored → TermCell
cell_from_tuple p =
    cond (p.0 == 0) (Var p.1.1.1.0) (cond (p.0 == 1) (Int p.1.0) (cond (p.0 == 2) (Atom p.1.1.0)
    (Comp p.1.1.0 p.1.1.1.0 p.1.1.1.1)))

pub cell_from_tuple-cell_to_tuple : (c : TermCell) → cell_from_tuple (cell_to_tuple c) ≡ c
cell_from_tuple-cell_to_tuple (Var n) = refl
cell_from_tuple-cell_to_tuple (Int n) = refl
cell_from_tuple-cell_to_tuple (Atom name) = refl
cell_from_tuple-cell_to_tuple (Comp name k size) = refl

abbrev pub cell_code : Coded TermCell
cell_code =
    code_by Stored (coded× coded_ℕ (coded× coded_ℤ (coded× (coded_list coded_ℕ) (coded× coded_ℕ coded_ℕ)))) cell_to_tuple cell_from_tuple cell_from_tuple-cell_to_tuple

abbrev pub tree_code : Coded Tree
tree_code = code_by (List TermCell) (coded_list cell_code) flat tree_of tree_of-flat
