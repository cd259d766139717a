-- Cells whose sizes are set from the last one on.
use Rattle.std.proofs.Common.{◌≡◌, ℕ, zero, suc, ◌+◌, ◌-◌, ◌<◌, ◌≤◌, List, [], ◌∷◌, ◌++◌, length, take, drop, Option, Some, None, refl, ap, sym, subst, ◌∙◌, arith, map, append_assoc, add-one, length-drop}
use Rattle.std.specs.Prelude.{slice_get, slice_set, slice_index_or, IfSome, option_map}
use Rattle.std.proofs.lemmas.Option.{slice_get-get_or, slice_get-map, slice_get_within}
use Rattle.pi_terms.proofs.GetLemmas.{get_some}
use Rattle.std.proofs.lemmas.List.{append-nil, length-map}
use Rattle.pi_terms.specs.Tree.{Tree, var, int, atom, comp, Trees, no_trees, tree, tree_count, cells, cells_all, drop_trees}
use Rattle.pi_terms.specs.TermCells.{flat, flat_all, spelled, take_trees, with_cell, first_tree, tree_of, tree_of-flat, append_trees, take_trees-append, spelled-flat_all}
use Rattle.pi_terms.specs.BareCells.{with_size, count_of, bare, sized, HasBehind, AreSpelt}
use Rattle.pi_terms.specs.declared.term.TermCell.{TermCell}
use Rattle.pi_terms.specs.declared.term.TermCell.TheVariants.{Var, Int, Atom, Comp}
use Rattle.pi_terms.proofs.TermLemmas.{length_flat_all}

append_none : (ts : Trees) → append_trees ts no_trees ≡ ts
append_none no_trees = refl
append_none (tree t ts) = ap (λ us. tree t us) (append_none ts)

spelt_back : (us : Trees) → spelled (flat_all us) ≡ us
unfolding spelled
spelt_back us = ap spelled (sym (append-nil (flat_all us))) ∙ (spelled-flat_all us [] ∙ append_none us)

flat_all-append : (ts us : Trees) → flat_all (append_trees ts us) ≡ flat_all ts ++ flat_all us
unfolding flat_all
flat_all-append no_trees us = refl
flat_all-append (tree t ts) us = ap (λ cs. flat t ++ cs) (flat_all-append ts us) ∙ sym (append_assoc (flat t) (flat_all ts) (flat_all us))

-- the trees that are spelled behind the first cell
abbrev behind : Tree → Trees → Trees
behind (var n) us = us
behind (int n) us = us
behind (atom name) us = us
behind (comp name ts) us = append_trees ts us

abbrev first : Tree → TermCell
first (var n) = Var n
first (int n) = Int n
first (atom name) = Atom name
first (comp name ts) = Comp name (tree_count ts) (suc (cells_all ts))

first_behind : (t : Tree) (us : Trees) → flat_all (tree t us) ≡ first t ∷ flat_all (behind t us)
unfolding flat flat_all
first_behind (var n) us = refl
first_behind (int n) us = refl
first_behind (atom name) us = refl
first_behind (comp name ts) us = ap (λ cs. Comp name (tree_count ts) (suc (cells_all ts)) ∷ cs) (sym (flat_all-append ts us))

-- cells behind any number of cells spell trees
record Spelling (cs : List TermCell) : Type 0 where
  trees : Trees
  is : cs ≡ flat_all trees

suffix : (i : ℕ) (us : Trees) → Spelling (drop i (flat_all us))
unfolding flat_all
suffix zero us = record { trees = us; is = refl }
suffix (suc i) no_trees = record { trees = no_trees; is = refl }
suffix (suc i) (tree t us) =
    let r : Spelling (drop i (flat_all (behind t us))) = suffix i (behind t us) in
    record { trees = r.trees; is = ap (drop (suc i)) (first_behind t us) ∙ r.is }

spelt_of : (cs : List TermCell) → Spelling cs → AreSpelt cs
spelt_of cs r = record { spells = r.is ∙ ap flat_all (sym (ap spelled r.is ∙ spelt_back r.trees)) }

-- a cell of a term, with what stands behind it
pub record CellAt (c : TermCell) (cs : List TermCell) : Type 0 where
  pub has : HasBehind c (spelled cs)
  pub is : c ≡ sized c (spelled cs)

count_more : (ts us : Trees) → tree_count ts ≤ tree_count (append_trees ts us)
unfolding tree_count
count_more no_trees us = omega arith
count_more (tree t ts) us = let h : tree_count ts ≤ tree_count (append_trees ts us) = count_more ts us in omega arith

first_at : (t : Tree) (us : Trees) → HasBehind (first t) (behind t us) × (first t ≡ sized (first t) (behind t us))
first_at (var n) us = (tt, refl)
first_at (int n) us = (tt, refl)
first_at (atom name) us = (tt, refl)
first_at (comp name ts) us = (count_more ts us, ap (λ vs. Comp name (tree_count ts) (suc (cells_all vs))) (sym (take_trees-append ts us)))

cell_at : (i : ℕ) (us : Trees) (c : TermCell) → slice_get (flat_all us) i ≡ Some c → CellAt c (drop (suc i) (flat_all us))
unfolding flat_all
cell_at i no_trees c e = absurd (cc)
cell_at zero (tree t us) c e =
    let f : flat_all (tree t us) ≡ first t ∷ flat_all (behind t us) = first_behind t us in
    let g : slice_get (first t ∷ flat_all (behind t us)) 0 ≡ Some c = ap (λ cs. slice_get cs 0) (sym f) ∙ e in
    let same : first t ≡ c = cc in
    let s : spelled (drop 1 (flat_all (tree t us))) ≡ behind t us = ap (λ cs. spelled (drop 1 cs)) f ∙ spelt_back (behind t us) in
    let q = first_at t us in
    let P : TermCell → Type 0 = λ x. HasBehind x (spelled (drop 1 (flat_all (tree t us)))) × (x ≡ sized x (spelled (drop 1 (flat_all (tree t us))))) in
    let Q : Trees → Type 0 = λ x. HasBehind (first t) x × (first t ≡ sized (first t) x) in
    let r = subst P same (subst Q (sym s) q) in
    record { has = r.0; is = r.1 }
cell_at (suc i) (tree t us) c e =
    let f : flat_all (tree t us) ≡ first t ∷ flat_all (behind t us) = first_behind t us in
    let g : slice_get (flat_all (behind t us)) i ≡ Some c = ap (λ cs. slice_get cs (suc i)) (sym f) ∙ e in
    let P : List TermCell → Type 0 = λ cs. CellAt c (drop (suc (suc i)) cs) in
    subst P (sym f) (cell_at i (behind t us) c g)

-- The loop

flat_one : (t : Tree) → flat_all (tree t no_trees) ≡ flat t
unfolding flat_all
flat_one t = append-nil (flat t)

pub cell_of : (t : Tree) (i : ℕ) (c : TermCell) → slice_get (flat t) i ≡ Some c → CellAt c (drop (suc i) (flat t))
cell_of t i c e = let P : List TermCell → Type 0 = λ cs. CellAt c (drop (suc i) cs) in
    subst P (flat_one t) (cell_at i (tree t no_trees) c (ap (λ cs. slice_get cs i) (flat_one t) ∙ e))

pub behind_spelt : (t : Tree) (i : ℕ) → AreSpelt (drop i (flat t))
behind_spelt t i = let P : List TermCell → Type 0 = λ cs. AreSpelt (drop i cs) in
    subst P (flat_one t) (spelt_of (drop i (flat_all (tree t no_trees))) (suffix i (tree t no_trees)))

-- the sizes are set from the cell with number i on
abbrev pub SetFrom : List TermCell → List TermCell → ℕ → Type 0
SetFrom cells now i = (t : Tree) → cells ≡ bare t → now ≡ take i cells ++ drop i (flat t)

-- one cell

get_read : (cs : List TermCell) (at : ℕ) (x : TermCell) → at < length cs → x ≡ slice_index_or cs at x → slice_get cs at ≡ Some x
get_read cs at x h e = slice_get-get_or cs at x h ∙ ap (λ y. Some y) (sym e)

if_some : (o : Option TermCell) (x : TermCell) (P : TermCell → Type 0) → o ≡ Some x → P x → IfSome o P
if_some o x P e h = let Q : Option TermCell → Type 0 = λ y. IfSome y P in subst Q (sym e) h

from_some : (o : Option TermCell) (x : TermCell) (P : TermCell → Type 0) → o ≡ Some x → IfSome o P → P x
from_some o x P e h = let Q : Option TermCell → Type 0 = λ y. IfSome y P in subst Q e h

sized_leaf : (x : TermCell) (us : Trees) → count_of x ≡ None → sized x us ≡ x
sized_leaf (Var n) us e = refl
sized_leaf (Int n) us e = refl
sized_leaf (Atom name) us e = refl
sized_leaf (Comp name k size) us e = absurd (cc)

set_same : (cs : List TermCell) (at : ℕ) (x : TermCell) → slice_get cs at ≡ Some x → slice_set cs at x ≡ cs
set_same [] at x e = refl
set_same (c ∷ cs) zero x e = let h : c ≡ x = cc in ap (λ y. y ∷ cs) (sym h)
set_same (c ∷ cs) (suc at) x e = ap (λ ys. c ∷ ys) (set_same cs at x e)

pub set_leaf : (cs : List TermCell) (at : ℕ) (x : TermCell) (us : Trees) → at < length cs → x ≡ slice_index_or cs at x → count_of x ≡ None → IfSome (slice_get cs at) (λ c. cs ≡ slice_set cs at (sized c us))
set_leaf cs at x us h e n = let g : slice_get cs at ≡ Some x = get_read cs at x h e in
    if_some (slice_get cs at) x (λ c. cs ≡ slice_set cs at (sized c us)) g (sym (ap (λ y. slice_set cs at y) (sized_leaf x us n) ∙ set_same cs at x g))

behind_count : (x : TermCell) (us : Trees) (k : ℕ) → count_of x ≡ Some k → HasBehind x us → k ≤ tree_count us
behind_count (Var n) us k e h = absurd (cc)
behind_count (Int n) us k e h = absurd (cc)
behind_count (Atom name) us k e h = absurd (cc)
behind_count (Comp name j size) us k e h = let same : j ≡ k = cc in let P : ℕ → Type 0 = λ y. y ≤ tree_count us in subst P same h

pub many_behind : (cs : List TermCell) (at : ℕ) (x : TermCell) (us : Trees) (k : ℕ) → at < length cs → x ≡ slice_index_or cs at x → IfSome (slice_get cs at) (λ c. HasBehind c us) → count_of x ≡ Some k → k ≤ tree_count us
many_behind cs at x us k h e b n = behind_count x us k n (from_some (slice_get cs at) x (λ c. HasBehind c us) (get_read cs at x h e) b)

cells_split : (k : ℕ) (us : Trees) → cells_all (take_trees k us) + cells_all (drop_trees k us) ≡ cells_all us
unfolding cells_all
cells_split zero us = omega arith
cells_split (suc k) no_trees = refl
cells_split (suc k) (tree t us) = let h : cells_all (take_trees k us) + cells_all (drop_trees k us) ≡ cells_all us = cells_split k us in omega arith

-- where the terms behind a cell end
pub end_is : (cs : List TermCell) (at end k : ℕ) (us : Trees) → at + 1 ≤ length cs → drop (at + 1) cs ≡ flat_all us → end ≤ length cs → drop end cs ≡ flat_all (drop_trees k us) → end ≡ at + 1 + cells_all (take_trees k us)
end_is cs at end k us h e l f =
    let a : length (drop (at + 1) cs) ≡ cells_all us = ap length e ∙ length_flat_all us in
    let b : length (drop end cs) ≡ cells_all (drop_trees k us) = ap length f ∙ length_flat_all (drop_trees k us) in
    let s : cells_all (take_trees k us) + cells_all (drop_trees k us) ≡ cells_all us = cells_split k us in
    omega (arith, length-drop (at + 1) cs, length-drop end cs)

sized_comp : (x : TermCell) (us : Trees) (k size : ℕ) → count_of x ≡ Some k → size ≡ suc (cells_all (take_trees k us)) → with_size x size ≡ sized x us
sized_comp (Var n) us k size e h = absurd (cc)
sized_comp (Int n) us k size e h = absurd (cc)
sized_comp (Atom name) us k size e h = absurd (cc)
sized_comp (Comp name j old) us k size e h = let same : j ≡ k = cc in ap (λ y. Comp name j y) (h ∙ ap (λ y. suc (cells_all (take_trees y us))) (sym same))

pub set_comp : (cs new : List TermCell) (at : ℕ) (x : TermCell) (us : Trees) (k size end : ℕ) → at < length cs → x ≡ slice_index_or cs at x → count_of x ≡ Some k → end ≡ at + 1 + cells_all (take_trees k us) → size ≡ end - at → new ≡ slice_set cs at (with_size x size) → IfSome (slice_get cs at) (λ c. new ≡ slice_set cs at (sized c us))
set_comp cs new at x us k size end h e n f g s = if_some (slice_get cs at) x (λ c. new ≡ slice_set cs at (sized c us)) (get_read cs at x h e)
    (s ∙ ap (λ y. slice_set cs at y) (sized_comp x us k size n (omega arith)))

pub same_read : (cs : List TermCell) (at : ℕ) (x y : TermCell) → at < length cs → x ≡ slice_index_or cs at x → y ≡ slice_index_or cs at y → x ≡ y
same_read cs at x y h e f = let a : slice_get cs at ≡ Some x = get_read cs at x h e in let b : slice_get cs at ≡ Some y = get_read cs at y h f in cc

-- all cells

bare_get : (cs : List TermCell) (i : ℕ) (c : TermCell) → slice_get cs i ≡ Some c → slice_get (map (λ x. with_size x 0) cs) i ≡ Some (with_size c 0)
bare_get cs i c e = slice_get-map (λ x. with_size x 0) cs i ∙ ap (λ o. option_map (λ x. with_size x 0) o) e

sized_bare : (c : TermCell) (us : Trees) → sized (with_size c 0) us ≡ sized c us
sized_bare (Var n) us = refl
sized_bare (Int n) us = refl
sized_bare (Atom name) us = refl
sized_bare (Comp name k size) us = refl

behind_bare : (c : TermCell) (us : Trees) → HasBehind c us → HasBehind (with_size c 0) us
behind_bare (Var n) us h = h
behind_bare (Int n) us h = h
behind_bare (Atom name) us h = h
behind_bare (Comp name k size) us h = h

drop_seam : (xs ys : List TermCell) (i : ℕ) → i ≤ length xs → drop i (take i xs ++ ys) ≡ ys
drop_seam xs ys zero h = refl
drop_seam [] ys (suc i) h = absurd (omega arith)
drop_seam (x ∷ xs) ys (suc i) h = drop_seam xs ys i (omega arith)

get_seam : (xs ys : List TermCell) (i : ℕ) (c : TermCell) → slice_get xs i ≡ Some c → slice_get (take (suc i) xs ++ ys) i ≡ Some c
get_seam [] ys i c e = absurd (cc)
get_seam (x ∷ xs) ys zero c e = e
get_seam (x ∷ xs) ys (suc i) c e = get_seam xs ys i c e

set_seam : (xs ys : List TermCell) (i : ℕ) (c d : TermCell) → slice_get xs i ≡ Some c → slice_get ys i ≡ Some d → slice_set (take (suc i) xs ++ drop (suc i) ys) i d ≡ take i xs ++ drop i ys
set_seam [] ys i c d e f = absurd (cc)
set_seam (x ∷ xs) [] i c d e f = absurd (cc)
set_seam (x ∷ xs) (y ∷ ys) zero c d e f = let h : y ≡ d = cc in ap (λ z. z ∷ ys) (sym h)
set_seam (x ∷ xs) (y ∷ ys) (suc i) c d e f = ap (λ zs. x ∷ zs) (set_seam xs ys i c d e f)

-- one round of the loop, at the cell before those that are set
pub record Round (cells now : List TermCell) (at : ℕ) : Type 0 where
  pub within : at < length now
  pub spelt : AreSpelt (drop (at + 1) now)
  pub behind_is : IfSome (slice_get now at) (λ c. HasBehind c (spelled (drop (at + 1) now)))
  pub then_set : (new : List TermCell) → IfSome (slice_get now at) (λ c. new ≡ slice_set now at (sized c (spelled (drop (at + 1) now)))) → (t : Tree) → cells ≡ bare t → new ≡ take at cells ++ drop at (flat t)

-- cells without sizes are those of one tree

cell_bare : (c : TermCell) (ts : Trees) → with_cell (with_size c 0) ts ≡ with_cell c ts
cell_bare (Var n) ts = refl
cell_bare (Int n) ts = refl
cell_bare (Atom name) ts = refl
cell_bare (Comp name k size) ts = refl

spelled_bare : (cs : List TermCell) → spelled (map (λ c. with_size c 0) cs) ≡ spelled cs
unfolding spelled
spelled_bare [] = refl
spelled_bare (c ∷ cs) = ap (λ ts. with_cell (with_size c 0) ts) (spelled_bare cs) ∙ cell_bare c (spelled cs)

tree_bare : (t : Tree) → tree_of (bare t) ≡ t
unfolding tree_of
tree_bare t = ap first_tree (spelled_bare (flat t)) ∙ tree_of-flat t

bare_one : (t u : Tree) → bare t ≡ bare u → t ≡ u
bare_one t u e = sym (tree_bare t) ∙ (ap tree_of e ∙ tree_bare u)

drop_past : (xs : List TermCell) (i : ℕ) → length xs ≤ i → drop i xs ≡ []
drop_past [] zero h = refl
drop_past [] (suc i) h = refl
drop_past (x ∷ xs) zero h = absurd (omega arith)
drop_past (x ∷ xs) (suc i) h = drop_past xs i (omega arith)

take_past : (xs : List TermCell) (i : ℕ) → length xs ≤ i → take i xs ≡ xs
take_past [] zero h = refl
take_past [] (suc i) h = refl
take_past (x ∷ xs) zero h = absurd (omega arith)
take_past (x ∷ xs) (suc i) h = ap (λ ys. x ∷ ys) (take_past xs i (omega arith))

round_by : (cells : List TermCell) (t : Tree) (at : ℕ) (c : TermCell) → cells ≡ bare t → at < length cells → slice_get (flat t) at ≡ Some c → (now : List TermCell) → now ≡ take (suc at) cells ++ drop (suc at) (flat t) → Round cells now at
round_by cells t at c b l e now n =
    let d : slice_get cells at ≡ Some (with_size c 0) = ap (λ cs. slice_get cs at) b ∙ bare_get (flat t) at c e in
    let g : slice_get now at ≡ Some (with_size c 0) = ap (λ cs. slice_get cs at) n ∙ get_seam cells (drop (suc at) (flat t)) at (with_size c 0) d in
    let w : drop (at + 1) now ≡ drop (suc at) (flat t) = ap (λ j. drop j now) (add-one at) ∙ (ap (drop (suc at)) n ∙ drop_seam cells (drop (suc at) (flat t)) (suc at) (omega arith)) in
    let q : CellAt c (drop (suc at) (flat t)) = cell_of t at c e in
    let us : Trees = spelled (drop (at + 1) now) in
    let v : spelled (drop (at + 1) now) ≡ spelled (drop (suc at) (flat t)) = ap spelled w in
    let P : List TermCell → Type 0 = λ cs. AreSpelt cs in
    let Q : Trees → Type 0 = λ x. HasBehind c x in
    record {
      within = slice_get_within now at (with_size c 0) g;
      spelt = subst P (sym w) (behind_spelt t (suc at));
      behind_is = if_some (slice_get now at) (with_size c 0) (λ x. HasBehind x (spelled (drop (at + 1) now))) g (behind_bare c (spelled (drop (at + 1) now)) (subst Q (sym v) q.has));
      then_set = λ new s u f.
          let same : t ≡ u = bare_one t u (sym b ∙ f) in
          let a : new ≡ slice_set now at (sized (with_size c 0) (spelled (drop (at + 1) now))) = from_some (slice_get now at) (with_size c 0) (λ x. new ≡ slice_set now at (sized x (spelled (drop (at + 1) now)))) g s in
          let x : sized (with_size c 0) (spelled (drop (at + 1) now)) ≡ c = sized_bare c (spelled (drop (at + 1) now)) ∙ (ap (sized c) v ∙ sym q.is) in
          let y : new ≡ take at cells ++ drop at (flat t) = a ∙ (ap (λ z. slice_set now at z) x ∙ (ap (λ cs. slice_set cs at c) n ∙ set_seam cells (flat t) at (with_size c 0) c d e)) in
          y ∙ ap (λ z. take at cells ++ drop at (flat z)) same;
    }

pub round : (cells now : List TermCell) (t : Tree) (i at : ℕ) → cells ≡ bare t → SetFrom cells now i → i ≡ suc at → i ≤ length cells → Round cells now at
round cells now t i at b s e l =
    let m : length cells ≡ length (flat t) = ap length b ∙ length-map (flat t) (λ x. with_size x 0) in
    let c = get_some (flat t) at (omega arith) in
    round_by cells t at c.0 b (omega arith) c.1 now (s t b ∙ ap (λ j. take j cells ++ drop j (flat t)) e)

pub none_set : (cs : List TermCell) (i : ℕ) → length cs ≤ i → SetFrom cs cs i
none_set cs i h = λ t b.
    let m : length cs ≡ length (flat t) = ap length b ∙ length-map (flat t) (λ x. with_size x 0) in
    sym (ap (λ ds. take i cs ++ ds) (drop_past (flat t) i (omega arith)) ∙ (append-nil (take i cs) ∙ take_past cs i h))

pub all_set : (cells now : List TermCell) (t : Tree) (i : ℕ) → i ≡ 0 → SetFrom cells now i → cells ≡ bare t → now ≡ flat t
all_set cells now t i e s b = s t b ∙ ap (λ j. take j cells ++ drop j (flat t)) e

-- a vector whose cells were all replaced
pub vec_whole : (items new : List TermCell) (len : ℕ) → length new ≡ length items → len ≡ length items → take len (new ++ drop (length new) items) ≡ new
vec_whole items new len a b =
    ap (λ cs. take len (new ++ cs)) (drop_past items (length new) (omega arith)) ∙ (ap (take len) (append-nil new) ∙ take_past new len (omega arith))
