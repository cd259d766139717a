-- A reader of a term's nodes has terms ahead of it.
use Rattle.std.proofs.Common.{IsSomeAnd, ◌≡◌, ℕ, zero, suc, ◌+◌, ◌≤◌, List, [], ◌∷◌, ◌++◌, length, drop, slice_get, refl, ap, sym, ◌∙◌, append_assoc, arith}
use Rattle.std.proofs.lemmas.List.{append-nil}
use Rattle.pi_terms.specs.Tree.{Tree, var, int, atom, comp, Trees, no_trees, tree, tree_count, cells, cells_all, arity, args, drop_trees, subterms, subterms_all, ShowsHead}
use Rattle.pi_terms.proofs.TermLemmas.{subterm_for_each_cell}
use Rattle.pi_terms.specs.TermCells.{take_trees, append_trees, take_trees-append, drop_trees-append}
use Rattle.pi_terms.specs.declared.term.TermHead.{TermHead}
use Rattle.pi_print_terms.specs.Ahead.{roots, built, behind, count_of, append_no_trees}

-- the nodes of terms are read as those terms
mutual
  unfolding subterms tree_count

  pub roots-subterms : (t : Tree) (ns : List Tree) → roots (subterms t ++ ns) ≡ tree t (roots ns)
  roots-subterms (var n) ns = refl
  roots-subterms (int n) ns = refl
  roots-subterms (atom name) ns = refl
  roots-subterms (comp name ts) ns =
      ap (λ r. tree (comp name ts) (drop_trees (tree_count ts) r)) (roots-subterms_all ts ns)
      ∙ ap (tree (comp name ts)) (drop_trees-append ts (roots ns))

  pub roots-subterms_all : (ts : Trees) (ns : List Tree) → roots (subterms_all ts ++ ns) ≡ append_trees ts (roots ns)
  roots-subterms_all no_trees ns = refl
  roots-subterms_all (tree t ts) ns =
      ap roots (append_assoc (subterms t) (subterms_all ts) ns)
      ∙ (roots-subterms t (subterms_all ts ++ ns) ∙ ap (tree t) (roots-subterms_all ts ns))

pub roots-whole : (t : Tree) → roots (subterms t) ≡ tree t no_trees
roots-whole t = ap roots (sym (append-nil (subterms t))) ∙ roots-subterms t []

pub roots-all : (ts : Trees) → roots (subterms_all ts) ≡ ts
roots-all ts = ap roots (sym (append-nil (subterms_all ts))) ∙ (roots-subterms_all ts [] ∙ append_no_trees ts)

pub whole-subterms : (t : Tree) → subterms t ≡ subterms_all (roots (subterms t))
unfolding subterms
whole-subterms t = sym (append-nil (subterms t)) ∙ ap subterms_all (sym (roots-whole t))

-- a node stands before those of its arguments
subterms-root : (t : Tree) → subterms t ≡ t ∷ subterms_all (args t)
unfolding subterms
subterms-root (var n) = refl
subterms-root (int n) = refl
subterms-root (atom name) = refl
subterms-root (comp name ts) = refl

subterms_all-append : (ts us : Trees) → subterms_all (append_trees ts us) ≡ subterms_all ts ++ subterms_all us
unfolding subterms
subterms_all-append no_trees us = refl
subterms_all-append (tree t ts) us = ap (λ r. subterms t ++ r) (subterms_all-append ts us) ∙ sym (append_assoc (subterms t) (subterms_all ts) (subterms_all us))

tree_count-append : (ts us : Trees) → tree_count (append_trees ts us) ≡ tree_count ts + tree_count us
unfolding tree_count
tree_count-append no_trees us = omega arith
tree_count-append (tree t ts) us = omega (arith, tree_count-append ts us)

cells_all-append : (ts us : Trees) → cells_all (append_trees ts us) ≡ cells_all ts + cells_all us
unfolding cells
cells_all-append no_trees us = omega arith
cells_all-append (tree t ts) us = omega (arith, cells_all-append ts us)

cells-root : (t : Tree) → cells t ≡ suc (cells_all (args t))
unfolding cells
cells-root (var n) = refl
cells-root (int n) = refl
cells-root (atom name) = refl
cells-root (comp name ts) = refl

-- a term that a root shows is built of that root and its arguments
built-shown : (u : Tree) (h : TermHead) (us : Trees) → ShowsHead u h → built h (append_trees (args u) us) ≡ u
unfolding tree_count
built-shown u (TermHead.Var n) us s = sym s
built-shown u (TermHead.Int n) us s = sym s
built-shown u (TermHead.Atom name) us s = sym s
built-shown u (TermHead.Comp name count) us s =
    ap (λ k. comp name.now (take_trees k (append_trees (args u) us))) s.1
    ∙ (ap (comp name.now) (take_trees-append (args u) us) ∙ sym s.0)

count-shown : (u : Tree) (h : TermHead) → ShowsHead u h → count_of h ≡ arity u
unfolding tree_count
count-shown u (TermHead.Var n) s = ap arity (sym s)
count-shown u (TermHead.Int n) s = ap arity (sym s)
count-shown u (TermHead.Atom name) s = ap arity (sym s)
count-shown u (TermHead.Comp name count) s = s.1

-- what reading a node leaves ahead
pub record Reads (h : TermHead) (u : Tree) (ns : List Tree) : Type 0 where
  pub kept : ns ≡ subterms_all (roots ns)
  pub root : roots (u ∷ ns) ≡ tree (built h (roots ns)) (behind h (roots ns))
  pub arguments : count_of h ≤ tree_count (roots ns)
  pub fewer : cells_all (roots ns) + 1 ≡ cells_all (roots (u ∷ ns))

pub reads : (u : Tree) (h : TermHead) (ns : List Tree) → ShowsHead u h → u ∷ ns ≡ subterms_all (roots (u ∷ ns)) → Reads h u ns
unfolding subterms cells
reads u h ns s kept =
    let rest : Trees = drop_trees (arity u) (roots ns) in
    let whole : u ∷ ns ≡ u ∷ (subterms_all (args u) ++ subterms_all rest) = kept ∙ ap (λ r. r ++ subterms_all rest) (subterms-root u) in
    let e : ns ≡ subterms_all (args u) ++ subterms_all rest = cc in
    let f : ns ≡ subterms_all (append_trees (args u) rest) = e ∙ sym (subterms_all-append (args u) rest) in
    let g : roots ns ≡ append_trees (args u) rest = ap roots f ∙ roots-all (append_trees (args u) rest) in
    let count : count_of h ≡ arity u = count-shown u h s in
    record {
      kept = f ∙ ap subterms_all (sym g);
      root = ap (λ t. tree t rest) (sym (built-shown u h rest s)) ∙ (ap (λ r. tree (built h r) rest) (sym g) ∙ ap (λ k. tree (built h (roots ns)) (drop_trees k (roots ns))) (sym count));
      arguments = omega (arith, count, ap tree_count g, tree_count-append (args u) rest);
      fewer = omega (arith, ap cells_all g, cells_all-append (args u) rest, cells-root u);
    }

-- ---- reading on at a place

pub record Node (h : TermHead) (at : ℕ) (ns : List Tree) : Type 0 where
  pub it : Tree
  pub shown : ShowsHead it h
  pub front : drop at ns ≡ it ∷ drop (at + 1) ns

pub node_at : (h : TermHead) (at : ℕ) (ns : List Tree) → IsSomeAnd (slice_get ns at) (λ u. ShowsHead u h) → Node h at ns
node_at h at [] s = absurd s
node_at h zero (n ∷ ns) s = record { it = n; shown = s; front = refl }
node_at h (suc at) (n ∷ ns) s =
    let r : Node h at ns = node_at h at ns s in
    let e : suc (at + 1) ≡ suc at + 1 = omega arith in
    record { it = r.it; shown = r.shown; front = r.front ∙ ap (λ k. r.it ∷ drop k (n ∷ ns)) e }

pub record ReadsOn (h : TermHead) (old : Trees) (ns : List Tree) : Type 0 where
  pub kept : ns ≡ subterms_all (roots ns)
  pub root : old ≡ tree (built h (roots ns)) (behind h (roots ns))
  pub arguments : count_of h ≤ tree_count (roots ns)
  pub fewer : cells_all (roots ns) + 1 ≡ cells_all old

pub reads_on : (t : Tree) (at : ℕ) (old : Trees) (h : TermHead) → drop at (subterms t) ≡ subterms_all (roots (drop at (subterms t)))
    → roots (drop at (subterms t)) ≡ old → IsSomeAnd (slice_get (subterms t) at) (λ u. ShowsHead u h) → ReadsOn h old (drop (at + 1) (subterms t))
reads_on t at old h kept view s =
    let n : Node h at (subterms t) = node_at h at (subterms t) s in
    let here : n.it ∷ drop (at + 1) (subterms t) ≡ subterms_all (roots (n.it ∷ drop (at + 1) (subterms t))) = sym n.front ∙ (kept ∙ ap (λ r. subterms_all (roots r)) n.front) in
    let r : Reads h n.it (drop (at + 1) (subterms t)) = reads n.it h (drop (at + 1) (subterms t)) n.shown here in
    let e : old ≡ roots (n.it ∷ drop (at + 1) (subterms t)) = sym view ∙ ap roots n.front in
    record { kept = r.kept; root = e ∙ r.root; arguments = r.arguments; fewer = r.fewer ∙ ap cells_all (sym e) }

drop_past : (n : ℕ) (ns : List Tree) → length ns ≤ n → drop n ns ≡ []
drop_past zero [] h = refl
drop_past (suc n) [] h = refl
drop_past zero (m ∷ ns) h = absurd (omega arith)
drop_past (suc n) (m ∷ ns) h = drop_past n ns (omega arith)

pub ended : (t : Tree) (at : ℕ) (old : Trees) → roots (drop at (subterms t)) ≡ old → cells t ≤ at → old ≡ no_trees
ended t at old view h = sym view ∙ ap roots (drop_past at (subterms t) (omega (arith, subterm_for_each_cell t)))
