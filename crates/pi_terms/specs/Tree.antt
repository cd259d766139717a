-- Terms as trees. A term is a variable, an integer, an atom, or a compound with a name and arguments (A User's
-- Guide to Picat, 'Data Types, Operators, and Built-ins'). A name is the list of its bytes in UTF-8.
use Rattle.std.specs.Prelude.{◌≡◌, ℕ, zero, suc, ◌+◌, ℤ, List, [], ◌∷◌, ◌++◌, length, Option, Some, None}
use Rattle.pi_terms.specs.declared.term.TermHead.{TermHead}

mutual
  pub data Tree : Type 0 where
    var : ℕ → Tree
    int : ℤ → Tree
    atom : List ℕ → Tree
    comp : List ℕ → Trees → Tree

  -- arguments from the left
  pub data Trees : Type 0 where
    no_trees : Trees
    tree : Tree → Trees → Trees

-- a list of trees as arguments
abbrev pub trees_of : List Tree → Trees
trees_of [] = no_trees
trees_of (t ∷ ts) = tree t (trees_of ts)

-- how many they are
unfoldable pub tree_count : Trees → ℕ
tree_count no_trees = 0
tree_count (tree t ts) = suc (tree_count ts)

-- the one with this number, counted from 0
unfoldable pub tree_at : Trees → ℕ → Option Tree
tree_at no_trees i = None
tree_at (tree t ts) zero = Some t
tree_at (tree t ts) (suc i) = tree_at ts i

-- how many cells a term takes: one for each of its nodes
unfoldable mutual
  pub cells : Tree → ℕ
  cells (var n) = 1
  cells (int n) = 1
  cells (atom name) = 1
  cells (comp name ts) = suc (cells_all ts)

  pub cells_all : Trees → ℕ
  cells_all no_trees = 0
  cells_all (tree t ts) = cells t + cells_all ts

-- the most cells of a term that is copied, raised, read out of a store or printed (own)
abbrev pub most_cells : ℕ
most_cells = 16777216

-- the terms in a term in prefix order: itself, then those in its arguments from the left
unfoldable mutual
  pub subterms : Tree → List Tree
  subterms (var n) = var n ∷ []
  subterms (int n) = int n ∷ []
  subterms (atom name) = atom name ∷ []
  subterms (comp name ts) = comp name ts ∷ subterms_all ts

  pub subterms_all : Trees → List Tree
  subterms_all no_trees = []
  subterms_all (tree t ts) = subterms t ++ subterms_all ts

-- there is one for each cell
abbrev pub SubtermForEachCell : Type 0
SubtermForEachCell = (t : Tree) → length (subterms t) ≡ cells t

-- its arguments; a variable, an integer and an atom have none
abbrev pub args : Tree → Trees
args (var n) = no_trees
args (int n) = no_trees
args (atom name) = no_trees
args (comp name ts) = ts

abbrev pub arity : Tree → ℕ
arity t = tree_count (args t)

-- the argument with this number, counted from 0
abbrev pub arg_at : Tree → ℕ → Option Tree
arg_at t i = tree_at (args t) i

-- those behind the first few
abbrev pub drop_trees : ℕ → Trees → Trees
drop_trees zero ts = ts
drop_trees (suc k) no_trees = no_trees
drop_trees (suc k) (tree t ts) = drop_trees k ts

-- what a term is at its root
abbrev pub ShowsHead : Tree → TermHead → Type 0
ShowsHead t (TermHead.Var n) = t ≡ var n
ShowsHead t (TermHead.Int n) = t ≡ int n
ShowsHead t (TermHead.Atom name) = t ≡ atom name.now
ShowsHead t (TermHead.Comp name k) = (t ≡ comp name.now (args t)) × (k ≡ arity t)
