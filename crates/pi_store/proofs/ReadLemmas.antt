-- Reading a term out of a store: what was read and what is ahead spell the term's value.
use Rattle.std.proofs.Common.{◌≡◌, ℕ, zero, suc, ◌+◌, ◌-◌, ◌<◌, ◌≤◌, List, [], ◌∷◌, ◌++◌, length, Some, None, slice_get, refl, ap, sym, subst, ◌∙◌, arith, map, append_assoc, length-append}
use Rattle.std.proofs.lemmas.List.{append-nil, length-map, map-append}
use Rattle.std.proofs.lemmas.Option.{get_or_from_slice_get}
use Rattle.pi_terms.specs.Tree.{Tree, var, int, atom, comp, Trees, no_trees, tree, tree_count, args, arity, arg_at, cells, most_cells, drop_trees}
use Rattle.pi_terms.specs.TermCells.{flat, flat_all, take_trees}
use Rattle.pi_terms.specs.BareCells.{bare, bare_all, with_size}
use Rattle.pi_terms.specs.Substitution.{instance, instances}
use Rattle.pi_terms.specs.Places.{held}
use Rattle.pi_terms.specs.declared.term.TermCell.{TermCell}
use Rattle.pi_terms.specs.declared.term.TermCell.TheVariants.{Var, Int, Atom, Comp}
use Rattle.pi_terms.proofs.TermLemmas.{length_flat, cells-positive, TreeAt, tree_at-below}
use Rattle.pi_constraints.specs.Value.{Bindings, IsAcyclic, value, rounds}
use Rattle.pi_constraints.specs.State.{followed}
use Rattle.pi_constraints.specs.declared.store.Ref.{Ref}
use Rattle.pi_constraints.specs.declared.store.Cell.{Cell}
use Rattle.pi_constraints.proofs.ValueLemmas.{value_goes_by_variables, unbound_is_its_own_value}
use Rattle.pi_constraints.proofs.FollowLemmas.{followed_value, followed_unbound}
use Rattle.pi_constraints.proofs.RootLemmas.{with_values, value_int, value_atom, value_comp}
use Rattle.pi_region.specs.Image.{Image, numbers_of}
use Rattle.pi_store_blocks.specs.Heap.{Heap, Names, all_trees, term_at, Shows}
use Rattle.pi_store_blocks.proofs.HeapLemmas.{front_is, front_from}
use Rattle.pi_store_blocks.specs.NameTable.{NameTable}
use Rattle.pi_store.specs.Walk.{followed_at}
use Rattle.pi_store.specs.Holding.{tree_of, heap_of}
use Rattle.pi_store.specs.Read.{name_at, entered_cell, arity_of, turned, Pushes, read_cells, open_cells, HaveTrees, IsReadable, IsReading}
use Rattle.pi_store.proofs.NameLemmas.{text_of}
use Rattle.pi_store.specs.Bindings.{HasBound, bound_in}
use Rattle.pi_store.proofs.LookLemmas.{tree_is, followed_to}

-- Stacks

open_append : (b : Bindings) (h : Heap) (xs ys : List Ref) → open_cells b h (xs ++ ys) ≡ open_cells b h ys ++ open_cells b h xs
unfolding open_cells
open_append b h [] ys = sym (append-nil (open_cells b h ys))
open_append b h (x ∷ xs) ys = ap (λ cs. cs ++ read_cells b h x) (open_append b h xs ys) ∙ append_assoc (open_cells b h ys) (open_cells b h xs) (read_cells b h x)

-- the cells of the values of Refs, the first of them first
row_cells : Bindings → Heap → List Ref → List TermCell
row_cells b h [] = []
row_cells b h (r ∷ rs) = read_cells b h r ++ row_cells b h rs

open_turned : (b : Bindings) (h : Heap) (rs : List Ref) → open_cells b h (turned rs) ≡ row_cells b h rs
unfolding open_cells row_cells turned
open_turned b h [] = refl
open_turned b h (r ∷ rs) = open_append b h (turned rs) (r ∷ []) ∙ ap (λ cs. read_cells b h r ++ cs) (open_turned b h rs)

length_turned : (rs : List Ref) → length (turned rs) ≡ length rs
unfolding turned
length_turned [] = refl
length_turned (r ∷ rs) = let l : length (turned rs) ≡ length rs = length_turned rs in omega (arith, length-append (turned rs) (r ∷ []))

have_append : (h : Heap) (xs ys : List Ref) → HaveTrees h xs → HaveTrees h ys → HaveTrees h (xs ++ ys)
unfolding HaveTrees
have_append h [] ys a b = b
have_append h (x ∷ xs) ys a b = (a.0, have_append h xs ys a.1 b)

have_front : (h : Heap) (xs ys : List Ref) → HaveTrees h (xs ++ ys) → HaveTrees h xs
unfolding HaveTrees
have_front h [] ys a = tt
have_front h (x ∷ xs) ys a = (a.0, have_front h xs ys a.1)

have_last : (h : Heap) (xs : List Ref) (y : Ref) → HaveTrees h (xs ++ y ∷ []) → (t : Tree) × (term_at h y.number ≡ Some t)
unfolding HaveTrees
have_last h [] y a = a.0
have_last h (x ∷ xs) y a = have_last h xs y a.1

have_turned : (h : Heap) (rs : List Ref) (ts : Trees) → all_trees (term_at h) (numbers_of rs) ≡ Some ts → HaveTrees h (turned rs)
unfolding HaveTrees turned all_trees
have_turned h [] ts e = tt
have_turned h (r ∷ rs) ts e =
    let p = front_is (term_at h r.number) (all_trees (term_at h) (numbers_of rs)) ts e in
    have_append h (turned rs) (r ∷ []) (have_turned h rs p.rest p.behind) ((p.first, p.here), tt)

-- Arguments that are pushed

drop_all : (n : ℕ) (ts : Trees) → n ≡ tree_count ts → drop_trees n ts ≡ no_trees
unfolding tree_count
drop_all zero no_trees e = refl
drop_all zero (tree t ts) e = absurd (omega arith)
drop_all (suc n) no_trees e = refl
drop_all (suc n) (tree t ts) e = drop_all n ts (omega arith)

pub pushes_none : (words : List ℕ) (r : Ref) (count from : ℕ) (old : List Ref) → from ≡ count → Pushes words r count from old old
unfolding turned all_trees
pushes_none words r count from old e = record {
  refs = [];
  many = omega arith;
  pushed = sym (append-nil old);
  trees = λ h u same is counts. ap Some (sym (drop_all from (args u) (e ∙ counts)));
}

pub pushes_more : (words : List ℕ) (r q : Ref) (count from next : ℕ) (old new more : List Ref) → Pushes words r count from old new → from ≡ suc next → more ≡ new ++ q ∷ []
    → ((h : Heap) (t u : Tree) → h.words ≡ words → term_at h r.number ≡ Some t → arg_at t next ≡ Some u → term_at h q.number ≡ Some u) → Pushes words r count next old more
unfolding turned all_trees
pushes_more words r q count from next old new more p e last arg =
    let m : length p.refs + from ≡ count = p.many in
    record {
      refs = q ∷ p.refs;
      many = omega arith;
      pushed = last ∙ (ap (λ rs. rs ++ q ∷ []) p.pushed ∙ append_assoc old (turned p.refs) (q ∷ []));
      trees = λ h u same is counts.
          let at : TreeAt (args u) next = tree_at-below (args u) next (let c : count ≡ tree_count (args u) = counts in omega arith) in
          let rest : all_trees (term_at h) (numbers_of p.refs) ≡ Some (drop_trees (suc next) (args u)) = p.trees h u same is counts ∙ ap (λ n. Some (drop_trees n (args u))) e in
          front_from (term_at h q.number) (all_trees (term_at h) (numbers_of p.refs)) at.it (drop_trees (suc next) (args u)) (arg h u at.it same is at.is) rest ∙ ap Some (sym at.front);
    }

pub pushes_all : (words : List ℕ) (r : Ref) (count from : ℕ) (old new : List Ref) → Pushes words r count from old new → from ≡ 0 → Pushes words r count 0 old new
pushes_all words r count from old new p e = subst (λ (n : ℕ). Pushes words r count n old new) e p

-- The cells of a value

count_same : (s : ℕ → Tree) (ts : Trees) → tree_count (instances s ts) ≡ tree_count ts
unfolding instances tree_count
count_same s no_trees = refl
count_same s (tree t ts) = ap suc (count_same s ts)

row_is : (b : Bindings) (h : Heap) (rs : List Ref) (ts : Trees) → all_trees (term_at h) (numbers_of rs) ≡ Some ts → bare_all (with_values b ts) ≡ row_cells b h rs
unfolding row_cells instances flat_all all_trees
row_is b h [] ts e = let none : ts ≡ no_trees = cc in ap (λ us. bare_all (with_values b us)) none
row_is b h (r ∷ rs) ts e =
    let p = front_is (term_at h r.number) (all_trees (term_at h) (numbers_of rs)) ts e in
    let first : read_cells b h r ≡ bare (instance (λ n. value b (var n)) p.first) = ap (λ u. bare (value b u)) (tree_is h r.number p.first p.here) ∙ ap bare (value_goes_by_variables b p.first) in
    ap (λ us. bare_all (with_values b us)) p.is
    ∙ (map-append (λ c. with_size c 0) (flat (instance (λ n. value b (var n)) p.first)) (flat_all (with_values b p.rest))
    ∙ (ap (λ cs. cs ++ bare_all (with_values b p.rest)) (sym first) ∙ ap (λ cs. read_cells b h r ++ cs) (row_is b h rs p.rest p.behind)))

none_left : (xs : List Ref) → length xs ≡ 0 → xs ≡ []
none_left [] e = refl
none_left (x ∷ xs) e = absurd (omega arith)

-- a term without arguments has its cell alone
enters_alone : (b : Bindings) (h : Heap) (u v : Tree) (c : TermCell) (refs : List Ref) → length refs ≡ 0 → u ≡ v → value b v ≡ v → bare v ≡ c ∷ [] → bare (value b u) ≡ c ∷ row_cells b h refs
unfolding row_cells
enters_alone b h u v c refs none same own cell = ap (λ x. bare (value b x)) same ∙ (ap bare own ∙ (cell ∙ ap (λ rs. c ∷ row_cells b h rs) (sym (none_left refs none))))

-- the cells of a value are the cell of its term and those of the arguments
enters : (texts : List (List ℕ)) (b : Bindings) (h : Heap) (u : Tree) (cell : Cell) (refs : List Ref) → ((k : ℕ) (name : List ℕ) → h.names k ≡ Some name → slice_get texts k ≡ Some name) → ((m : ℕ) → u ≡ var m → held b m ≡ None)
    → length refs ≡ arity_of cell → (arity_of cell ≡ arity u → all_trees (term_at h) (numbers_of refs) ≡ Some (args u)) → Shows h.names u cell
    → bare (value b u) ≡ entered_cell texts cell ∷ row_cells b h refs
unfolding flat
enters texts b h u (Cell.Var n) refs names free many trees s = enters_alone b h u (var n) (Var n) refs many s (unbound_is_its_own_value b n (free n s)) refl
enters texts b h u (Cell.Int n) refs names free many trees s = enters_alone b h u (int n) (Int n) refs many s (value_int b n) refl
enters texts b h u (Cell.Atom k) refs names free many trees s =
    enters_alone b h u (atom s.0) (Atom (name_at texts k)) refs many s.2 (value_atom b s.0) (ap (λ x. Atom x ∷ []) (sym (get_or_from_slice_get texts k s.0 [] (names k s.0 s.1))))
enters texts b h u (Cell.Comp k count) refs names free many trees s =
    let name : name_at texts k ≡ s.0 = get_or_from_slice_get texts k s.0 [] (names k s.0 s.1) in
    let counts : tree_count (with_values b (args u)) ≡ count = count_same (λ n. value b (var n)) (args u) ∙ sym s.3 in
    ap (λ x. bare (value b x)) s.2
    ∙ (ap bare (value_comp b s.0 (args u))
    ∙ (ap (λ j. Comp s.0 j 0 ∷ bare_all (with_values b (args u))) counts
    ∙ (ap (λ x. Comp x count 0 ∷ bare_all (with_values b (args u))) (sym name)
    ∙ ap (λ cs. Comp (name_at texts k) count 0 ∷ cs) (row_is b h refs (args u) (trees s.3)))))

-- what a cell says of the term that a Ref is followed to
abbrev pub CellIs : List ℕ → Ref → Cell → Type 0
CellIs words r cell = (h : Heap) (u : Tree) → h.words ≡ words → term_at h r.number ≡ Some u → Shows h.names u cell

pub shown_arity : (names : Names) (u : Tree) (cell : Cell) → Shows names u cell → arity_of cell ≡ arity u
unfolding tree_count
shown_arity names u (Cell.Var n) s = ap arity (sym s)
shown_arity names u (Cell.Int n) s = ap arity (sym s)
shown_arity names u (Cell.Atom k) s = ap arity (sym s.2)
shown_arity names u (Cell.Comp k count) s = s.3

-- a term at the top of the stack, and what takes its place
record Top (t : NameTable) (i : Image) (vs : List ℕ) (at : Ref) (cell : Cell) (refs : List Ref) : Type 0 where
  trees : HaveTrees (heap_of t i) (turned refs)
  cells : read_cells (bound_in (heap_of t i) vs) (heap_of t i) at ≡ entered_cell t.texts cell ∷ row_cells (bound_in (heap_of t i) vs) (heap_of t i) refs

top : (t : NameTable) (i : Image) (vs : List ℕ) (r at last : Ref) (cell : Cell) (ahead stack : List Ref) (x y : Tree) → IsReadable t i vs r x → term_at (heap_of t i) at.number ≡ Some y → last ≡ followed_at vs at → CellIs i.region last cell
    → (p : Pushes i.region last (arity_of cell) 0 ahead stack) → Top t i vs at cell p.refs
top t i vs r at last cell ahead stack x y g is to shown p =
    let h : Heap = heap_of t i in
    let b : Bindings = bound_in (heap_of t i) vs in
    let u : Tree = followed (bound_in (heap_of t i) vs) y in
    let d : term_at h last.number ≡ Some u = followed_to h vs g.0 at last y to is in
    let s : Shows h.names u cell = shown h u refl d in
    let all : all_trees (term_at h) (numbers_of p.refs) ≡ Some (args u) = p.trees h u refl d (shown_arity h.names u cell s) in
    let many : length p.refs + 0 ≡ arity_of cell = p.many in
    record {
      trees = have_turned h p.refs (args u) all;
      cells = ap (λ v. bare (value (bound_in (heap_of t i) vs) v)) (tree_is h at.number y is)
          ∙ (ap bare (sym (followed_value b y g.1.1))
          ∙ enters t.texts b h u cell p.refs (λ k name e. text_of t (length i.region) k name e) (λ m e. followed_unbound b y m g.1.1 e) (omega arith) (λ e. all) s);
    }

-- Trees of the cells that are to be read next

take_count : (k : ℕ) (ts : Trees) → k ≤ tree_count ts → tree_count (take_trees k ts) ≡ k
unfolding tree_count
take_count zero ts h = refl
take_count (suc k) no_trees h = absurd (omega arith)
take_count (suc k) (tree t ts) h = ap suc (take_count k ts (omega arith))

drop_count : (k : ℕ) (ts : Trees) → tree_count (drop_trees k ts) ≡ tree_count ts - k
unfolding tree_count
drop_count zero ts = omega arith
drop_count (suc k) no_trees = omega arith
drop_count (suc k) (tree t ts) = let h : tree_count (drop_trees k ts) ≡ tree_count ts - k = drop_count k ts in omega arith

flat_split : (k : ℕ) (ts : Trees) → flat_all (take_trees k ts) ++ flat_all (drop_trees k ts) ≡ flat_all ts
unfolding flat_all
flat_split zero ts = refl
flat_split (suc k) no_trees = refl
flat_split (suc k) (tree t ts) = append_assoc (flat t) (flat_all (take_trees k ts)) (flat_all (drop_trees k ts)) ∙ ap (λ cs. flat t ++ cs) (flat_split k ts)

-- a cell in front of trees
record Fronted (c : TermCell) (ts : Trees) (n : ℕ) : Type 0 where
  trees : Trees
  many : tree_count trees ≡ suc n
  is : bare_all trees ≡ c ∷ bare_all ts

fronted : (texts : List (List ℕ)) (cell : Cell) (ts : Trees) (n : ℕ) → tree_count ts ≡ n + arity_of cell → Fronted (entered_cell texts cell) ts n
unfolding tree_count flat flat_all
fronted texts (Cell.Var j) ts n e = record { trees = tree (var j) ts; many = let f : tree_count ts ≡ n + 0 = e in omega arith; is = refl }
fronted texts (Cell.Int j) ts n e = record { trees = tree (int j) ts; many = let f : tree_count ts ≡ n + 0 = e in omega arith; is = refl }
fronted texts (Cell.Atom k) ts n e = record { trees = tree (atom (name_at texts k)) ts; many = let f : tree_count ts ≡ n + 0 = e in omega arith; is = refl }
fronted texts (Cell.Comp k count) ts n e =
    let f : tree_count ts ≡ n + count = e in
    let d : tree_count (drop_trees count ts) ≡ tree_count ts - count = drop_count count ts in
    record {
      trees = tree (comp (name_at texts k) (take_trees count ts)) (drop_trees count ts);
      many = omega arith;
      is = ap (λ j. Comp (name_at texts k) j 0 ∷ map (λ c. with_size c 0) (flat_all (take_trees count ts) ++ flat_all (drop_trees count ts))) (take_count count ts (omega arith))
          ∙ ap (λ cs. Comp (name_at texts k) count 0 ∷ map (λ c. with_size c 0) cs) (flat_split count ts);
    }

-- The loop

spelt_one : (ts : Trees) → tree_count ts ≡ 1 → (u : Tree) × (bare_all ts ≡ bare u)
unfolding tree_count flat_all
spelt_one no_trees e = absurd (cc)
spelt_one (tree t no_trees) e = (t, ap (λ cs. map (λ c. with_size c 0) cs) (append-nil (flat t)))
spelt_one (tree t (tree u ts)) e = absurd (cc)

starts : (t : NameTable) (i : Image) (vs : List ℕ) (r : Ref) → IsReading t i vs r [] (r ∷ [])
unfolding HaveTrees open_cells
starts t i vs r = record {
  room = omega arith;
  spelt = λ ts e. spelt_one ts e;
  valid = λ x g. ((x, g.1.0), tt);
  reads = λ x g. ap (λ u. bare (value (bound_in (heap_of t i) vs) u)) (tree_is (heap_of t i) r.number x g.1.0);
}

pub reading_start : (t : NameTable) (i : Image) (vs : List ℕ) (r : Ref) (read : List TermCell) (stack : List Ref) → read ≡ [] → stack ≡ r ∷ [] → IsReading t i vs r read stack
reading_start t i vs r read stack e f =
    let P : List TermCell → Type 0 = λ x. IsReading t i vs r x stack in
    let Q : List Ref → Type 0 = λ x. IsReading t i vs r [] x in
    subst P (sym e) (subst Q (sym f) (starts t i vs r))

one_more : (b : Bindings) (k : Heap) (ahead : List Ref) (at : Ref) → read_cells b k at ++ open_cells b k ahead ≡ open_cells b k (ahead ++ at ∷ [])
unfolding open_cells
one_more b k ahead at = sym (open_append b k ahead (at ∷ []))

steps_on : (t : NameTable) (i : Image) (vs : List ℕ) (r : Ref) (read : List TermCell) (ahead stack : List Ref) (at last : Ref) (cell : Cell) → IsReading t i vs r read (ahead ++ at ∷ []) → last ≡ followed_at vs at → CellIs i.region last cell
    → (p : Pushes i.region last (arity_of cell) 0 ahead stack) → length read + 1 + length ahead + arity_of cell ≤ most_cells → IsReading t i vs r (read ++ entered_cell t.texts cell ∷ []) (ahead ++ turned p.refs)
steps_on t i vs r read ahead stack at last cell h to shown p l =
    let c : TermCell = entered_cell t.texts cell in
    let refs : List Ref = p.refs in
    let many : length p.refs + 0 ≡ arity_of cell = p.many in
    let lt : length (turned p.refs) ≡ length p.refs = length_turned p.refs in
    record {
      room = omega (arith, length-append read (c ∷ []), length-append ahead (turned p.refs));
      spelt = λ ts n.
          let m : tree_count ts ≡ length ahead + arity_of cell = omega (arith, length-append ahead (turned p.refs)) in
          let f : Fronted c ts (length ahead) = fronted t.texts cell ts (length ahead) m in
          let q : tree_count f.trees ≡ length (ahead ++ at ∷ []) = let z : tree_count f.trees ≡ suc (length ahead) = f.many in omega (arith, length-append ahead (at ∷ [])) in
          let u = h.spelt f.trees q in
          (u.0, append_assoc read (c ∷ []) (bare_all ts) ∙ (ap (λ cs. read ++ cs) (sym f.is) ∙ u.1));
      valid = λ x g.
          let y = have_last (heap_of t i) ahead at (h.valid x g) in
          have_append (heap_of t i) ahead (turned p.refs) (have_front (heap_of t i) ahead (at ∷ []) (h.valid x g)) (top t i vs r at last cell ahead stack x y.0 g y.1 to shown p).trees;
      reads = λ x g.
          let b : Bindings = bound_in (heap_of t i) vs in
          let k : Heap = heap_of t i in
          let y = have_last (heap_of t i) ahead at (h.valid x g) in
          let v = (top t i vs r at last cell ahead stack x y.0 g y.1 to shown p).cells in
          append_assoc read (c ∷ []) (open_cells b k (ahead ++ turned p.refs))
          ∙ (ap (λ cs. read ++ c ∷ cs) (open_append b k ahead (turned p.refs) ∙ ap (λ cs. cs ++ open_cells b k ahead) (open_turned b k p.refs))
          ∙ (ap (λ cs. read ++ (cs ++ open_cells b k ahead)) (sym v)
          ∙ (ap (λ cs. read ++ cs) (one_more b k ahead at) ∙ h.reads x g)));
    }

pub reading_step : (t : NameTable) (i : Image) (vs : List ℕ) (r : Ref) (read read' : List TermCell) (stack ahead stack' : List Ref) (at last : Ref) (cell : Cell) → IsReading t i vs r read stack → stack ≡ ahead ++ at ∷ [] → last ≡ followed_at vs at
    → CellIs i.region last cell → length read + 1 + length ahead + arity_of cell ≤ most_cells → read' ≡ read ++ entered_cell t.texts cell ∷ [] → Pushes i.region last (arity_of cell) 0 ahead stack' → IsReading t i vs r read' stack'
reading_step t i vs r read read' stack ahead stack' at last cell h k to shown l f p =
    let P : List TermCell → Type 0 = λ x. IsReading t i vs r x stack' in
    let Q : List Ref → Type 0 = λ x. IsReading t i vs r (read ++ entered_cell t.texts cell ∷ []) x in
    let R : List Ref → Type 0 = λ x. IsReading t i vs r read x in
    subst P (sym f) (subst Q (sym p.pushed) (steps_on t i vs r read ahead stack' at last cell (subst R k h) to shown p l))

pub reading_spelt : (t : NameTable) (i : Image) (vs : List ℕ) (r : Ref) (read : List TermCell) (stack : List Ref) → IsReading t i vs r read stack → length stack ≡ 0 → (u : Tree) × (read ≡ bare u)
unfolding tree_count flat_all
reading_spelt t i vs r read stack h e = let q = h.spelt no_trees (sym e) in (q.0, sym (append-nil read) ∙ q.1)

length_bare : (x : Tree) → length (bare x) ≡ cells x
length_bare x = length-map (flat x) (λ c. with_size c 0) ∙ length_flat x

pub reading_done : (t : NameTable) (i : Image) (vs : List ℕ) (r : Ref) (read : List TermCell) (stack : List Ref) → IsReading t i vs r read stack → length stack ≡ 0 → (x : Tree) → IsReadable t i vs r x
    → (read ≡ bare (value (bound_in (heap_of t i) vs) x)) × (cells (value (bound_in (heap_of t i) vs) x) ≤ most_cells)
unfolding open_cells
reading_done t i vs r read stack h e = λ x g.
    let none : stack ≡ [] = none_left stack e in
    let q : read ≡ bare (value (bound_in (heap_of t i) vs) x) = sym (append-nil read) ∙ (ap (λ rs. read ++ open_cells (bound_in (heap_of t i) vs) (heap_of t i) rs) (sym none) ∙ h.reads x g) in
    let l : length read ≡ cells (value (bound_in (heap_of t i) vs) x) = ap length q ∙ length_bare (value (bound_in (heap_of t i) vs) x) in
    let m : length read + length stack ≤ most_cells = h.room in
    (q, omega arith)

-- A term that is too large

bare_some : (x : Tree) → 1 ≤ length (bare x)
bare_some x = let l : length (bare x) ≡ cells x = length_bare x in let p : 0 < cells x = cells-positive x in omega arith

open_least : (b : Bindings) (h : Heap) (rs : List Ref) → length rs ≤ length (open_cells b h rs)
unfolding open_cells
open_least b h [] = omega arith
open_least b h (r ∷ rs) =
    let l : length rs ≤ length (open_cells b h rs) = open_least b h rs in
    let g : 1 ≤ length (read_cells b h r) = bare_some (value b (tree_of h r.number)) in
    omega (arith, length-append (open_cells b h rs) (read_cells b h r))

-- the cells of the values of a compound's arguments are no fewer than the arguments
least_all : (s : ℕ → Tree) (ts : Trees) → tree_count ts ≤ length (bare_all (instances s ts))
unfolding tree_count instances flat_all
least_all s no_trees = omega arith
least_all s (tree t ts) =
    let l : tree_count ts ≤ length (bare_all (instances s ts)) = least_all s ts in
    let g : 1 ≤ length (bare (instance s t)) = bare_some (instance s t) in
    let m : length (map (λ c. with_size c 0) (flat (instance s t) ++ flat_all (instances s ts))) ≡ length (bare (instance s t)) + length (bare_all (instances s ts)) =
    ap length (map-append (λ c. with_size c 0) (flat (instance s t)) (flat_all (instances s ts))) ∙ length-append (bare (instance s t)) (bare_all (instances s ts)) in
    omega arith

least_value : (b : Bindings) (u : Tree) (n : ℕ) → n ≡ arity u → ((m : ℕ) → u ≡ var m → held b m ≡ None) → suc n ≤ length (bare (value b u))
unfolding tree_count flat
least_value b (var m) n e free = let o = bare_some (value b (var m)) in let z : n ≡ 0 = e in omega arith
least_value b (int j) n e free = let o = bare_some (value b (int j)) in let z : n ≡ 0 = e in omega arith
least_value b (atom name) n e free = let o = bare_some (value b (atom name)) in let z : n ≡ 0 = e in omega arith
least_value b (comp name ts) n e free =
    let l : tree_count ts ≤ length (bare_all (with_values b ts)) = least_all (λ m. value b (var m)) ts in
    let z : n ≡ tree_count ts = e in
    let w : length (bare (value b (comp name ts))) ≡ suc (length (bare_all (with_values b ts))) = ap (λ x. length (bare x)) (value_comp b name ts) in
    omega arith

pub reading_large : (t : NameTable) (i : Image) (vs : List ℕ) (r : Ref) (read : List TermCell) (stack ahead : List Ref) (at last : Ref) (cell : Cell) → IsReading t i vs r read stack → stack ≡ ahead ++ at ∷ [] → last ≡ followed_at vs at
    → CellIs i.region last cell → most_cells < length read + 1 + length ahead + arity_of cell → (x : Tree) → IsReadable t i vs r x → most_cells < cells (value (bound_in (heap_of t i) vs) x)
unfolding open_cells
reading_large t i vs r read stack ahead at last cell h k to shown l = λ x g.
    let b : Bindings = bound_in (heap_of t i) vs in
    let hp : Heap = heap_of t i in
    let R : List Ref → Type 0 = λ rs. IsReading t i vs r read rs in
    let j : IsReading t i vs r read (ahead ++ at ∷ []) = subst R k h in
    let y = have_last (heap_of t i) ahead at (j.valid x g) in
    let u : Tree = followed (bound_in (heap_of t i) vs) y.0 in
    let d : term_at hp last.number ≡ Some u = followed_to hp vs g.0 at last y.0 to y.1 in
    let s : Shows hp.names u cell = shown hp u refl d in
    let least : suc (arity_of cell) ≤ length (bare (value (bound_in (heap_of t i) vs) u)) = least_value b u (arity_of cell) (shown_arity hp.names u cell s) (λ m e. followed_unbound b y.0 m g.1.1 e) in
    let same : read_cells b hp at ≡ bare (value (bound_in (heap_of t i) vs) u) = ap (λ v. bare (value b v)) (tree_is hp at.number y.0 y.1) ∙ ap bare (sym (followed_value b y.0 g.1.1)) in
    let n0 : length (read_cells (bound_in (heap_of t i) vs) (heap_of t i) at) ≡ length (bare (value (bound_in (heap_of t i) vs) u)) = ap length same in
    let whole : read ++ (read_cells (bound_in (heap_of t i) vs) (heap_of t i) at ++ open_cells (bound_in (heap_of t i) vs) (heap_of t i) ahead) ≡ bare (value (bound_in (heap_of t i) vs) x) =
    ap (λ cs. read ++ cs) (sym (open_append b hp ahead (at ∷ []))) ∙ j.reads x g in
    let n1 : length (read ++ (read_cells (bound_in (heap_of t i) vs) (heap_of t i) at ++ open_cells (bound_in (heap_of t i) vs) (heap_of t i) ahead)) ≡ cells (value (bound_in (heap_of t i) vs) x) = ap length whole ∙ length_bare (value (bound_in (heap_of t i) vs) x) in
    let n4 : length ahead ≤ length (open_cells (bound_in (heap_of t i) vs) (heap_of t i) ahead) = open_least (bound_in (heap_of t i) vs) (heap_of t i) ahead in
    omega (arith, length-append read (read_cells (bound_in (heap_of t i) vs) (heap_of t i) at ++ open_cells (bound_in (heap_of t i) vs) (heap_of t i) ahead), length-append (read_cells (bound_in (heap_of t i) vs) (heap_of t i) at) (open_cells (bound_in (heap_of t i) vs) (heap_of t i) ahead))

-- A term as it was made: no variable is followed

none_bound : (h : Heap) → HasBound h []
none_bound h n q e = absurd (cc)

none_cyclic : IsAcyclic []
none_cyclic = record { rank = λ n. 0; falls = λ n m u e. absurd (cc) }

pub made_readable : (t : NameTable) (i : Image) (r : Ref) (x : Tree) → term_at (heap_of t i) r.number ≡ Some x → IsReadable t i [] r x
made_readable t i r x is = (none_bound (heap_of t i), (is, none_cyclic))

pub made_value : (x : Tree) → value [] x ≡ x
unfolding value rounds
made_value x = refl
