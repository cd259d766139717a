-- Lemmas on the cells of terms.
use Rattle.std.proofs.Common.{map, slice_get, ℤ, Option, Some, None, IsSomeAnd, add-one, length-drop, ◌≡◌, ℕ, zero, suc, ◌+◌, ◌<◌, ◌≤◌, List, [], ◌∷◌, ◌++◌, length, drop, take, get_or, refl, ap, sym, ◌∙◌, append_assoc, arith, length-append}
use Rattle.std.proofs.lemmas.List.{length-map, map-append, append-nil, get_or-drop, take_more, drop-drop, drop_at, take_at}
use Rattle.pi_terms.specs.declared.term.TermCell.{TermCell}
use Rattle.pi_terms.specs.declared.term.TermCell.TheVariants.{Var, Int, Atom, Comp}
use Rattle.pi_terms.specs.Tree.{Tree, var, int, atom, comp, Trees, no_trees, tree, tree_count, cells, cells_all, args, drop_trees, subterms, subterms_all, tree_at, trees_of, arity, SubtermForEachCell, ShowsHead}
use Rattle.pi_terms.specs.declared.term.TermHead.{TermHead}
use Rattle.pi_terms.specs.TermCells.{flat, flat_all, tree_of, tree_of-flat, size_of, CellShows}

mutual
  unfolding flat cells

  pub length_flat : (t : Tree) → length (flat t) ≡ cells t
  length_flat (var n) = refl
  length_flat (int n) = refl
  length_flat (atom name) = refl
  length_flat (comp name ts) = ap suc (length_flat_all ts)

  pub length_flat_all : (ts : Trees) → length (flat_all ts) ≡ cells_all ts
  length_flat_all no_trees = refl
  length_flat_all (tree t ts) = omega (arith, length-append (flat t) (flat_all ts), length_flat t, length_flat_all ts)

-- a term's cells begin with one that knows their number
pub size_of-flat : (t : Tree) (cs : List TermCell) (d : TermCell) → size_of (get_or (flat t ++ cs) 0 d) ≡ cells t
unfolding flat cells
size_of-flat (var n) cs d = refl
size_of-flat (int n) cs d = refl
size_of-flat (atom name) cs d = refl
size_of-flat (comp name ts) cs d = refl

pub cells-positive : (t : Tree) → 0 < cells t
unfolding cells
cells-positive (var n) = omega arith
cells-positive (int n) = omega arith
cells-positive (atom name) = omega arith
cells-positive (comp name ts) = omega arith

-- one more argument at the end
pub flat_all-more : (ts : List Tree) (u : Tree) → flat_all (trees_of (ts ++ u ∷ [])) ≡ flat_all (trees_of ts) ++ flat u
unfolding flat
flat_all-more [] u = append-nil (flat u)
flat_all-more (t ∷ ts) u = ap (λ r. flat t ++ r) (flat_all-more ts u) ∙ sym (append_assoc (flat t) (flat_all (trees_of ts)) (flat u))

pub cells_all-more : (ts : List Tree) (u : Tree) → cells_all (trees_of (ts ++ u ∷ [])) ≡ cells_all (trees_of ts) + cells u
unfolding cells
cells_all-more [] u = omega arith
cells_all-more (t ∷ ts) u = omega (arith, cells_all-more ts u)

pub tree_count-trees_of : (ts : List Tree) → tree_count (trees_of ts) ≡ length ts
unfolding tree_count
tree_count-trees_of [] = refl
tree_count-trees_of (t ∷ ts) = ap suc (tree_count-trees_of ts)

-- the tree with a number, in front of those behind it
pub record TreeAt (ts : Trees) (k : ℕ) : Type 0 where
  pub it : Tree
  pub is : tree_at ts k ≡ Some it
  pub front : drop_trees k ts ≡ tree it (drop_trees (suc k) ts)

pub tree_at-below : (ts : Trees) (k : ℕ) → k < tree_count ts → TreeAt ts k
unfolding tree_count tree_at
tree_at-below no_trees k h = absurd (omega arith)
tree_at-below (tree t ts) zero h = record { it = t; is = refl; front = refl }
tree_at-below (tree t ts) (suc k) h =
    let r : TreeAt ts k = tree_at-below ts k (omega arith) in record { it = r.it; is = r.is; front = r.front }

-- where argument k begins in a term's cells
pub record ArgPlace (cs : List TermCell) (at k : ℕ) (ts : Trees) : Type 0 where
  pub within : at < length cs
  pub last : (d : TermCell) → at + size_of (get_or cs at d) ≤ length cs
  pub next : (d : TermCell) → drop (at + size_of (get_or cs at d)) cs ≡ flat_all (drop_trees (suc k) ts)
  pub it : Tree
  pub is : tree_at ts k ≡ Some it
  pub here : (d : TermCell) → take (size_of (get_or cs at d)) (drop at cs) ≡ flat it

place_next : (cs : List TermCell) (at : ℕ) (t : Tree) (us : List TermCell) → drop at cs ≡ flat t ++ us → (d : TermCell) → size_of (get_or cs at d) ≡ cells t
place_next cs at t us e d =
    ap size_of (ap (λ n. get_or cs n d) (omega arith) ∙ sym (get_or-drop at cs 0 d)) ∙ (ap (λ r. size_of (get_or r 0 d)) e ∙ size_of-flat t us d)

pub arg_place : (cs : List TermCell) (at k : ℕ) (ts : Trees) → drop at cs ≡ flat_all (drop_trees k ts) → k < tree_count ts → ArgPlace cs at k ts
unfolding flat
arg_place cs at k ts e h =
    let r : TreeAt ts k = tree_at-below ts k h in
    let whole : drop at cs ≡ flat r.it ++ flat_all (drop_trees (suc k) ts) = e ∙ ap flat_all r.front in
    let size : (d : TermCell) → size_of (get_or cs at d) ≡ cells r.it = place_next cs at r.it _ whole in
    let total : length (drop at cs) ≡ cells r.it + length (flat_all (drop_trees (suc k) ts)) = ap length whole ∙ omega (arith, length-append (flat r.it) (flat_all (drop_trees (suc k) ts)), length_flat r.it) in
    record {
      it = r.it;
      within = omega (arith, length-drop at cs, cells-positive r.it);
      last = λ d. omega (arith, length-drop at cs, size d, cells-positive r.it);
      next = λ d. sym (drop-drop (size_of (get_or cs at d)) at cs) ∙ (ap (drop (size_of (get_or cs at d))) whole ∙ drop_at (flat r.it) _ _ (length_flat r.it ∙ sym (size d)));
      here = λ d. rw (size d, whole) (take_at (flat r.it) _ _ (length_flat r.it));
      is = r.is;
    }

-- cells that spell a tree are that tree's, and are as a term keeps them
pub tree_of-spelt : (cs : List TermCell) (t : Tree) → cs ≡ flat t → tree_of cs ≡ t
tree_of-spelt cs t e = ap tree_of e ∙ tree_of-flat t

pub flat-spelt : (cs : List TermCell) (t : Tree) → cs ≡ flat t → cs ≡ flat (tree_of cs)
flat-spelt cs t e = e ∙ ap flat (sym (tree_of-spelt cs t e))

-- the arguments' cells stand behind the first one
pub record Behind (cs : List TermCell) (t : Tree) : Type 0 where
  pub args_at : drop 1 cs ≡ flat_all (args t)
  pub some : 1 ≤ length cs

behind_flat : (t : Tree) (i : ℕ) → i < tree_count (args t) → drop 1 (flat t) ≡ flat_all (args t)
unfolding flat tree_count
behind_flat (var n) i h = absurd (omega arith)
behind_flat (int n) i h = absurd (omega arith)
behind_flat (atom name) i h = absurd (omega arith)
behind_flat (comp name ts) i h = refl

pub args_behind : (cs : List TermCell) (t : Tree) (i : ℕ) → cs ≡ flat t → i < tree_count (args t) → Behind cs t
args_behind cs t i e h = record {
  args_at = ap (drop 1) e ∙ behind_flat t i h;
  some = omega (arith, ap length e, length_flat t, cells-positive t);
}

-- a compound's cells
pub flat-comp : (name : List ℕ) (ts : List Tree) (size : ℕ) → size ≡ cells_all (trees_of ts) + 1 → Comp name (length ts) size ∷ flat_all (trees_of ts) ≡ flat (comp name (trees_of ts))
unfolding flat
flat-comp name ts size e =
    ap (λ k. Comp name k size ∷ flat_all (trees_of ts)) (sym (tree_count-trees_of ts))
    ∙ ap (λ n. Comp name (tree_count (trees_of ts)) n ∷ flat_all (trees_of ts)) (e ∙ add-one (cells_all (trees_of ts)))

-- a term's first cell, and what it shows
pub first_cell : Tree → TermCell
first_cell (var n) = Var n
first_cell (int n) = Int n
first_cell (atom name) = Atom name
first_cell (comp name ts) = Comp name (tree_count ts) (suc (cells_all ts))

get_or-flat : (t : Tree) (d : TermCell) → get_or (flat t) 0 d ≡ first_cell t
unfolding flat first_cell
get_or-flat (var n) d = refl
get_or-flat (int n) d = refl
get_or-flat (atom name) d = refl
get_or-flat (comp name ts) d = refl

pub first_spelt : (cs : List TermCell) (t : Tree) (c : TermCell) → cs ≡ flat (tree_of cs) → tree_of cs ≡ t → c ≡ get_or cs 0 c → c ≡ first_cell t
first_spelt cs t c e is at = at ∙ (ap (λ r. get_or r 0 c) (e ∙ ap flat is) ∙ get_or-flat t c)

pub some_spelt : (cs : List TermCell) → cs ≡ flat (tree_of cs) → 0 < length cs
some_spelt cs e = omega (arith, ap length e, length_flat (tree_of cs), cells-positive (tree_of cs))

first_var : (t : Tree) (n : ℕ) → Var n ≡ first_cell t → t ≡ var n
unfolding first_cell
first_var (var m) n e = cc
first_var (int m) n e = cc
first_var (atom name) n e = cc
first_var (comp name ts) n e = cc

first_int : (t : Tree) (n : ℤ) → Int n ≡ first_cell t → t ≡ int n
unfolding first_cell
first_int (var m) n e = cc
first_int (int m) n e = cc
first_int (atom name) n e = cc
first_int (comp name ts) n e = cc

first_atom : (t : Tree) (name : List ℕ) → Atom name ≡ first_cell t → t ≡ atom name
unfolding first_cell
first_atom (var m) name e = cc
first_atom (int m) name e = cc
first_atom (atom it) name e = cc
first_atom (comp it ts) name e = cc

first_comp : (t : Tree) (name : List ℕ) (k size : ℕ) → Comp name k size ≡ first_cell t → (t ≡ comp name (args t)) × (k ≡ arity t)
unfolding first_cell
first_comp (var m) name k size e = cc
first_comp (int m) name k size e = cc
first_comp (atom it) name k size e = cc
first_comp (comp it ts) name k size e = (cc, cc)

pub first_shows : (t : Tree) (c : TermCell) (h : TermHead) → c ≡ first_cell t → CellShows c h → ShowsHead t h
first_shows t c (TermHead.Var n) at e = first_var t n (sym e ∙ at)
first_shows t c (TermHead.Int n) at e = first_int t n (sym e ∙ at)
first_shows t c (TermHead.Atom name) at e = first_atom t name.now (sym e ∙ at)
first_shows t c (TermHead.Comp name k) at e = first_comp t name.now k (size_of c) (sym e ∙ at)

-- one more argument taken
pub cells_all-take : (ts : List Tree) (i : ℕ) (t : Tree) → i < length ts → t ≡ get_or ts i t → cells_all (trees_of (take (i + 1) ts)) ≡ cells_all (trees_of (take i ts)) + cells t
cells_all-take ts i t h e =
    ap (λ r. cells_all (trees_of r)) (take_more ts i t h)
    ∙ (cells_all-more (take i ts) (get_or ts i t) ∙ ap (λ u. cells_all (trees_of (take i ts)) + cells u) (sym e))

pub cells_all-take_bound : (ts : List Tree) (k : ℕ) → cells_all (trees_of (take k ts)) ≤ cells_all (trees_of ts)
unfolding cells
cells_all-take_bound ts zero = omega arith
cells_all-take_bound [] (suc k) = omega arith
cells_all-take_bound (t ∷ ts) (suc k) = let rest = cells_all-take_bound ts k in omega arith

pub flat_all-take : (ts : List Tree) (i : ℕ) (t : Tree) → i < length ts → t ≡ get_or ts i t → flat_all (trees_of (take (i + 1) ts)) ≡ flat_all (trees_of (take i ts)) ++ flat t
flat_all-take ts i t h e =
    ap (λ r. flat_all (trees_of r)) (take_more ts i t h)
    ∙ (flat_all-more (take i ts) (get_or ts i t) ∙ ap (λ u. flat_all (trees_of (take i ts)) ++ flat u) (sym e))

-- cells that spell an argument
pub record Spelt (cs : List TermCell) (o : Option Tree) : Type 0 where
  pub spells : cs ≡ flat (tree_of cs)
  pub is : o ≡ Some (tree_of cs)

pub spelt_some : (o : Option Tree) (cs : List TermCell) → IsSomeAnd o (λ t. cs ≡ flat t) → Spelt cs o
spelt_some None cs e = absurd e
spelt_some (Some t) cs e = record { spells = flat-spelt cs t e; is = ap (λ u. Some u) (sym (tree_of-spelt cs t e)) }

-- a term's cells are those of the terms in it, in prefix order
mutual
  unfolding flat first_cell subterms

  pub flat-subterms : (t : Tree) → flat t ≡ map first_cell (subterms t)
  flat-subterms (var n) = refl
  flat-subterms (int n) = refl
  flat-subterms (atom name) = refl
  flat-subterms (comp name ts) = ap (λ cs. Comp name (tree_count ts) (suc (cells_all ts)) ∷ cs) (flat_all-subterms ts)

  pub flat_all-subterms : (ts : Trees) → flat_all ts ≡ map first_cell (subterms_all ts)
  flat_all-subterms no_trees = refl
  flat_all-subterms (tree t ts) =
      ap (λ cs. cs ++ flat_all ts) (flat-subterms t) ∙ (ap (λ cs. map first_cell (subterms t) ++ cs) (flat_all-subterms ts) ∙ sym (map-append first_cell (subterms t) (subterms_all ts)))

pub subterm_for_each_cell : SubtermForEachCell
subterm_for_each_cell t = sym (length-map (subterms t) first_cell) ∙ (ap length (sym (flat-subterms t)) ∙ length_flat t)

-- what a cell shows, the term with its number shows
cell_shows : (us : List Tree) (i : ℕ) (c : TermCell) (h : TermHead) → CellShows c h → c ≡ get_or (map first_cell us) i c → i < length us → IsSomeAnd (slice_get us i) (λ u. ShowsHead u h)
cell_shows [] i c h e at within = absurd (omega arith)
cell_shows (u ∷ us) zero c h e at within = first_shows u c h at e
cell_shows (u ∷ us) (suc i) c h e at within = cell_shows us i c h e at (omega arith)

pub subterm_shows : (cs : List TermCell) (t : Tree) (i : ℕ) (c : TermCell) (h : TermHead) → cs ≡ flat (tree_of cs) → tree_of cs ≡ t → c ≡ get_or cs i c → CellShows c h → i < cells t → IsSomeAnd (slice_get (subterms t) i) (λ u. ShowsHead u h)
subterm_shows cs t i c h whole is at e within =
    cell_shows (subterms t) i c h e (at ∙ ap (λ r. get_or r i c) (whole ∙ (ap flat is ∙ flat-subterms t))) (omega (arith, subterm_for_each_cell t))
