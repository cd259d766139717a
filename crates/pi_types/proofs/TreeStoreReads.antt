-- Reading a term of a copying store: what was read and what is ahead spell the term's value.
use Rattle.std.proofs.Common.{◌≡◌, ℕ, zero, suc, ◌+◌, ◌-◌, ◌<◌, ◌≤◌, List, [], ◌∷◌, ◌++◌, length, drop, Option, Some, None, refl, ap, sym, subst, ◌∙◌, arith, map, append_assoc, length-append}
use Rattle.std.specs.Prelude.{slice_get, slice_index_or, unwrap_or, ℤ}
use Rattle.std.proofs.lemmas.List.{append-nil, length-map, map-append}
use Rattle.std.proofs.lemmas.Option.{slice_get_within}
use Rattle.pi_terms.specs.Tree.{Tree, var, int, atom, comp, Trees, no_trees, tree, tree_count, cells, most_cells, drop_trees}
use Rattle.pi_terms.specs.TermCells.{flat, flat_all, take_trees}
use Rattle.pi_terms.specs.BareCells.{bare, bare_all, with_size}
use Rattle.pi_terms.specs.Variables.{Occurs}
use Rattle.pi_terms.specs.Substitution.{instance, instances}
use Rattle.pi_terms.specs.Places.{held}
use Rattle.pi_constraints.specs.Value.{Bindings, IsAcyclic, value}
use Rattle.pi_constraints.specs.State.{followed, followed_for}
use Rattle.pi_types.specs.TreeStore.{tree_in, trees_in, term_tree, trees_of, name_at}
use Rattle.pi_types.specs.TreeStoreWalks.{AllBelow, followed_in}
use Rattle.pi_types.specs.TreeStoreSound.{IsSoundState}
use Rattle.pi_types.specs.TreeStoreRead.{entered_cell, entered_args, turned, read_cells, open_cells, IsReadable, IsReading}
use Rattle.pi_constraints.specs.declared.store.Ref.{Ref}
use Rattle.pi_terms.specs.declared.term.TermCell.{TermCell}
use Rattle.pi_terms.specs.declared.term.TermCell.TheVariants.{Comp}
use Rattle.pi_types.specs.declared.tree_store.state.StoredTerm.{StoredTerm}
use Rattle.pi_types.specs.declared.tree_store.state.TreeState.{TreeState}
use Rattle.pi_terms.proofs.TermLemmas.{length_flat, cells-positive}
use Rattle.pi_types.proofs.TreeStoreTrees.{Names, IsTermOf, term_at, tree_in_is, length_trees}
use Rattle.pi_types.proofs.TreeStoreGround.{valid_tree}
use Rattle.pi_types.proofs.TreeStoreLooks.{bound_in, followed_is}
use Rattle.pi_constraints.proofs.ValueLemmas.{Ranked, ranked, value_goes_by_variables, unbound_is_its_own_value, bound_has_value_of_its_term}

-- Values

by_held : (b : Bindings) (n : ℕ) (o : Option Tree) → held b n ≡ o → IsAcyclic b → value b (unwrap_or (held b n) (var n)) ≡ value b (var n)
by_held b n None e a = ap (λ o. value b (unwrap_or o (var n))) e
by_held b n (Some u) e a = ap (λ o. value b (unwrap_or o (var n))) e ∙ sym (bound_has_value_of_its_term b n u a e)

value_followed : (k : ℕ) (b : Bindings) (t : Tree) → IsAcyclic b → value b (followed_for k b t) ≡ value b t
unfolding followed_for
value_followed zero b t a = refl
value_followed (suc k) b (var n) a = value_followed k b (unwrap_or (held b n) (var n)) a ∙ by_held b n (held b n) refl a
value_followed (suc k) b (int n) a = refl
value_followed (suc k) b (atom name) a = refl
value_followed (suc k) b (comp name ts) a = refl

-- a chain ends at a variable that is not bound

abbrev LowFor : (b : Bindings) → Ranked b → ℕ → Tree → Type 0
LowFor b r k t = (n : ℕ) (w : Tree) → t ≡ var n → held b n ≡ Some w → r.rank n < k

none_or : (o : Option Tree) → ((w : Tree) → o ≡ Some w → ⊥) → o ≡ None
none_or None h = refl
none_or (Some w) h = absurd (h w refl)

low_after : (b : Bindings) (r : Ranked b) (k n : ℕ) (o : Option Tree) → held b n ≡ o → LowFor b r (suc k) (var n) → LowFor b r k (unwrap_or o (var n))
unfolding Occurs
low_after b r k n None e low = λ m w f g. let same : n ≡ m = cc in let q : held b n ≡ held b m = ap (held b) same in absurd (cc)
low_after b r k n (Some u) e low = λ m w f g.
    let l : r.rank n < suc k = low n u refl e in
    let P : Tree → Type 0 = λ x. Occurs m x in
    let fall : r.rank m < r.rank n = r.falls n m u w e (subst P (sym f) refl) g in omega arith

ends_for : (b : Bindings) (r : Ranked b) (k : ℕ) (t : Tree) → LowFor b r k t → (m : ℕ) → followed_for k b t ≡ var m → held b m ≡ None
unfolding followed_for
ends_for b r zero t low m e = none_or (held b m) (λ w f. let l : r.rank m < 0 = low m w e f in omega arith)
ends_for b r (suc k) (var n) low m e = ends_for b r k (unwrap_or (held b n) (var n)) (low_after b r k n (held b n) refl low) m e
ends_for b r (suc k) (int n) low m e = absurd (cc)
ends_for b r (suc k) (atom name) low m e = absurd (cc)
ends_for b r (suc k) (comp name ts) low m e = absurd (cc)

ends_unbound : (b : Bindings) (t : Tree) (m : ℕ) → IsAcyclic b → followed b t ≡ var m → held b m ≡ None
unfolding followed
ends_unbound b t m a e = let r : Ranked b = ranked b a in ends_for b r (length b) t (λ n w f g. r.below n w g) m e

same_value : (b : Bindings) (t : Tree) → IsAcyclic b → value b (followed b t) ≡ value b t
unfolding followed
same_value b t a = value_followed (length b) b t a

-- The cells of a value

abbrev σ : Bindings → ℕ → Tree
σ b n = value b (var n)

value_comp : (b : Bindings) (name : List ℕ) (ts : Trees) → value b (comp name ts) ≡ comp name (instances (σ b) ts)
unfolding instance
value_comp b name ts = value_goes_by_variables b (comp name ts)

count_same : (s : ℕ → Tree) (ts : Trees) → tree_count (instances s ts) ≡ tree_count ts
unfolding instances tree_count
count_same s no_trees = refl
count_same s (tree t ts) = ap suc (count_same s ts)

-- the cells of the values of Refs, the first of them first
row_cells : Bindings → List Tree → List Ref → List TermCell
row_cells b trees [] = []
row_cells b trees (r ∷ rs) = read_cells b trees r ++ row_cells b trees rs

row_is : (b : Bindings) (trees : List Tree) (rs : List Ref) → bare_all (instances (σ b) (trees_in trees rs)) ≡ row_cells b trees rs
unfolding row_cells instances trees_in flat_all
row_is b trees [] = refl
row_is b trees (r ∷ rs) =
    map-append (λ c. with_size c 0) (flat (instance (σ b) (tree_in trees r))) (flat_all (instances (σ b) (trees_in trees rs)))
    ∙ (ap (λ u. bare u ++ bare_all (instances (σ b) (trees_in trees rs))) (sym (value_goes_by_variables b (tree_in trees r)))
    ∙ ap (λ cs. read_cells b trees r ++ cs) (row_is b trees rs))

count_refs : (trees : List Tree) (rs : List Ref) → tree_count (trees_in trees rs) ≡ length rs
unfolding tree_count trees_in
count_refs trees [] = refl
count_refs trees (r ∷ rs) = ap suc (count_refs trees rs)

int_value : (b : Bindings) (i : ℤ) → value b (int i) ≡ int i
unfolding instance
int_value b i = value_goes_by_variables b (int i)

atom_value : (b : Bindings) (name : List ℕ) → value b (atom name) ≡ atom name
unfolding instance
atom_value b name = value_goes_by_variables b (atom name)

-- the cells of a value are the cell of its term and those of the arguments
enters : (names : Names) (b : Bindings) (trees : List Tree) (n : ℕ) (c : StoredTerm) → ((m : ℕ) → term_tree names trees c ≡ var m → held b m ≡ None)
    → bare (value b (term_tree names trees c)) ≡ entered_cell names n (Some c) ∷ row_cells b trees (entered_args (Some c))
unfolding row_cells flat
enters names b trees n (StoredTerm.Var m) h = ap bare (unbound_is_its_own_value b m (h m refl))
enters names b trees n (StoredTerm.Int i) h = ap bare (int_value b i)
enters names b trees n (StoredTerm.Atom k) h = ap bare (atom_value b (name_at names k))
enters names b trees n (StoredTerm.Comp k args g) h =
    ap bare (value_comp b (name_at names k) (trees_in trees args))
    ∙ (ap (λ j. Comp (name_at names k) j 0 ∷ bare_all (instances (σ b) (trees_in trees args))) (count_same (σ b) (trees_in trees args) ∙ count_refs trees args)
    ∙ ap (λ cs. Comp (name_at names k) (length args) 0 ∷ cs) (row_is b trees args))

-- Stacks

open_append : (b : Bindings) (trees : List Tree) (xs ys : List Ref) → open_cells b trees (xs ++ ys) ≡ open_cells b trees ys ++ open_cells b trees xs
unfolding open_cells
open_append b trees [] ys = sym (append-nil (open_cells b trees ys))
open_append b trees (x ∷ xs) ys = ap (λ cs. cs ++ read_cells b trees x) (open_append b trees xs ys) ∙ append_assoc (open_cells b trees ys) (open_cells b trees xs) (read_cells b trees x)

open_turned : (b : Bindings) (trees : List Tree) (rs : List Ref) → open_cells b trees (turned rs) ≡ row_cells b trees rs
unfolding open_cells row_cells turned
open_turned b trees [] = refl
open_turned b trees (r ∷ rs) = open_append b trees (turned rs) (r ∷ []) ∙ ap (λ cs. read_cells b trees r ++ cs) (open_turned b trees rs)

length_turned : (rs : List Ref) → length (turned rs) ≡ length rs
unfolding turned
length_turned [] = refl
length_turned (r ∷ rs) = let h : length (turned rs) ≡ length rs = length_turned rs in omega (arith, length-append (turned rs) (r ∷ []))

pub turned_none : (rs : List Ref) (i : ℕ) → length rs ≤ i → turned (drop i rs) ≡ []
unfolding turned
turned_none [] zero h = refl
turned_none [] (suc i) h = refl
turned_none (r ∷ rs) zero h = absurd (omega arith)
turned_none (r ∷ rs) (suc i) h = turned_none rs i (omega arith)

pub turned_more : (rs : List Ref) (i : ℕ) (r : Ref) → i < length rs → r ≡ slice_index_or rs i r → turned (drop i rs) ≡ turned (drop (suc i) rs) ++ r ∷ []
unfolding turned
turned_more [] i r h e = absurd (omega arith)
turned_more (x ∷ rs) zero r h e = ap (λ y. turned rs ++ y ∷ []) (sym e)
turned_more (x ∷ rs) (suc i) r h e = turned_more rs i r (omega arith) e

pub turned_all : (rs : List Ref) (i : ℕ) → i ≡ 0 → turned (drop i rs) ≡ turned rs
turned_all rs i e = ap (λ j. turned (drop j rs)) e

other_default : (rs : List Ref) (j : ℕ) (d q : Ref) → j < length rs → slice_index_or rs j d ≡ slice_index_or rs j q
other_default [] j d q h = absurd (omega arith)
other_default (r ∷ rs) zero d q h = refl
other_default (r ∷ rs) (suc j) d q h = other_default rs j d q (omega arith)

pub turned_step : (before old new rs : List Ref) (i j k : ℕ) (d : Ref) → i ≡ suc j → k ≡ j → j < length rs → old ≡ before ++ turned (drop i rs) → new ≡ old ++ slice_index_or rs j d ∷ [] → new ≡ before ++ turned (drop k rs)
turned_step before old new rs i j k d e f l o n =
    let r : Ref = slice_index_or rs j d in
    let g : slice_index_or rs j d ≡ slice_index_or rs j (slice_index_or rs j d) = other_default rs j d (slice_index_or rs j d) l in
    let t : turned (drop j rs) ≡ turned (drop (suc j) rs) ++ slice_index_or rs j d ∷ [] = turned_more rs j (slice_index_or rs j d) l g in
    let q : old ≡ before ++ turned (drop (suc j) rs) = o ∙ ap (λ x. before ++ turned (drop x rs)) e in
    n ∙ (ap (λ xs. xs ++ slice_index_or rs j d ∷ []) q ∙ (append_assoc before (turned (drop (suc j) rs)) (slice_index_or rs j d ∷ [])
    ∙ (ap (λ xs. before ++ xs) (sym t) ∙ ap (λ x. before ++ turned (drop x rs)) (sym f))))

-- The cells of a Ref's value

value_read : (names : Names) (s : TreeState) (h : IsSoundState names s) (a : IsAcyclic (bound_in names s)) (at last : Ref) → at.number < length s.terms → last ≡ followed_in s at
    → read_cells (bound_in names s) (trees_of names s) at ≡ entered_cell names (length s.variables) (slice_get s.terms last.number) ∷ row_cells (bound_in names s) (trees_of names s) (entered_args (slice_get s.terms last.number))
value_read names s h a at last l e =
    let b : Bindings = bound_in names s in
    let t : Tree = tree_in (trees_of names s) at in
    let u : Tree = followed (bound_in names s) t in
    let d : slice_get (trees_of names s) last.number ≡ Some u = ap (λ r. slice_get (trees_of names s) r.number) e ∙ followed_is names s h at t (valid_tree names s at l) in
    let c : IsTermOf names s last.number u = term_at names s h last.number u d in
    let x : bare (value (bound_in names s) (term_tree names (trees_of names s) c.term)) ≡ entered_cell names (length s.variables) (Some c.term) ∷ row_cells (bound_in names s) (trees_of names s) (entered_args (Some c.term)) =
    enters names (bound_in names s) (trees_of names s) (length s.variables) c.term (λ m f. ends_unbound (bound_in names s) t m a (c.is ∙ f)) in
    ap bare (sym (same_value (bound_in names s) t a)) ∙ (ap (λ w. bare (value (bound_in names s) w)) c.is ∙ (x
    ∙ ap (λ o. entered_cell names (length s.variables) o ∷ row_cells (bound_in names s) (trees_of names s) (entered_args o)) (sym c.stored)))

-- Refs on the stack

all_append : (n : ℕ) (xs ys : List Ref) → AllBelow n xs → AllBelow n ys → AllBelow n (xs ++ ys)
unfolding AllBelow
all_append n [] ys h g = g
all_append n (x ∷ xs) ys h g = (h.0, all_append n xs ys h.1 g)

all_front : (n : ℕ) (xs ys : List Ref) → AllBelow n (xs ++ ys) → AllBelow n xs
unfolding AllBelow
all_front n [] ys h = tt
all_front n (x ∷ xs) ys h = (h.0, all_front n xs ys h.1)

all_last : (n : ℕ) (xs : List Ref) (y : Ref) → AllBelow n (xs ++ y ∷ []) → y.number < n
unfolding AllBelow
all_last n [] y h = h.0
all_last n (x ∷ xs) y h = all_last n xs y h.1

all_turned : (m n : ℕ) (rs : List Ref) → m ≤ n → AllBelow m rs → AllBelow n (turned rs)
unfolding AllBelow turned
all_turned m n [] l h = tt
all_turned m n (r ∷ rs) l h = let b : r.number < m = h.0 in all_append n (turned rs) (r ∷ []) (all_turned m n rs l h.1) (omega arith, tt)

args_below : (names : Names) (s : TreeState) (h : IsSoundState names s) (i : ℕ) (o : Option StoredTerm) → slice_get s.terms i ≡ o → AllBelow (length s.terms) (turned (entered_args o))
unfolding AllBelow turned
args_below names s h i None e = tt
args_below names s h i (Some (StoredTerm.Var n)) e = tt
args_below names s h i (Some (StoredTerm.Int n)) e = tt
args_below names s h i (Some (StoredTerm.Atom k)) e = tt
args_below names s h i (Some (StoredTerm.Comp k args g)) e =
    let w : i < length s.terms = slice_get_within s.terms i (StoredTerm.Comp k args g) e in
    all_turned i (length s.terms) args (omega arith) (h.terms i (StoredTerm.Comp k args g) e).below

-- trees of the cells that are to be read next

take_count : (k : ℕ) (ts : Trees) → k ≤ tree_count ts → tree_count (take_trees k ts) ≡ k
unfolding tree_count
take_count zero ts h = refl
take_count (suc k) no_trees h = absurd (omega arith)
take_count (suc k) (tree t ts) h = ap suc (take_count k ts (omega arith))

drop_count : (k : ℕ) (ts : Trees) → tree_count (drop_trees k ts) ≡ tree_count ts - k
unfolding tree_count
drop_count zero ts = omega arith
drop_count (suc k) no_trees = omega arith
drop_count (suc k) (tree t ts) = let h : tree_count (drop_trees k ts) ≡ tree_count ts - k = drop_count k ts in omega arith

flat_split : (k : ℕ) (ts : Trees) → flat_all (take_trees k ts) ++ flat_all (drop_trees k ts) ≡ flat_all ts
unfolding flat_all
flat_split zero ts = refl
flat_split (suc k) no_trees = refl
flat_split (suc k) (tree t ts) = append_assoc (flat t) (flat_all (take_trees k ts)) (flat_all (drop_trees k ts)) ∙ ap (λ cs. flat t ++ cs) (flat_split k ts)

-- a cell in front of trees
record Fronted (c : TermCell) (ts : Trees) (n : ℕ) : Type 0 where
  trees : Trees
  many : tree_count trees ≡ suc n
  is : bare_all trees ≡ c ∷ bare_all ts

fronted : (names : Names) (m : ℕ) (o : Option StoredTerm) (ts : Trees) (n : ℕ) → tree_count ts ≡ n + length (entered_args o) → Fronted (entered_cell names m o) ts n
unfolding tree_count flat flat_all
fronted names m None ts n e = record { trees = tree (var m) ts; many = let f : tree_count ts ≡ n + 0 = e in omega arith; is = refl }
fronted names m (Some (StoredTerm.Var j)) ts n e = record { trees = tree (var j) ts; many = let f : tree_count ts ≡ n + 0 = e in omega arith; is = refl }
fronted names m (Some (StoredTerm.Int j)) ts n e = record { trees = tree (int j) ts; many = let f : tree_count ts ≡ n + 0 = e in omega arith; is = refl }
fronted names m (Some (StoredTerm.Atom k)) ts n e = record { trees = tree (atom (name_at names k)) ts; many = let f : tree_count ts ≡ n + 0 = e in omega arith; is = refl }
fronted names m (Some (StoredTerm.Comp k args g)) ts n e =
    let f : tree_count ts ≡ n + length args = e in
    let d : tree_count (drop_trees (length args) ts) ≡ tree_count ts - length args = drop_count (length args) ts in
    record {
      trees = tree (comp (name_at names k) (take_trees (length args) ts)) (drop_trees (length args) ts);
      many = omega arith;
      is = ap (λ j. Comp (name_at names k) j 0 ∷ map (λ c. with_size c 0) (flat_all (take_trees (length args) ts) ++ flat_all (drop_trees (length args) ts))) (take_count (length args) ts (omega arith))
          ∙ ap (λ cs. Comp (name_at names k) (length args) 0 ∷ map (λ c. with_size c 0) cs) (flat_split (length args) ts);
    }

-- The loop

spelt_one : (r : ℕ) (ts : Trees) → tree_count ts ≡ 1 → (u : Tree) × (bare_all ts ≡ bare u)
unfolding tree_count flat_all
spelt_one r no_trees e = absurd (cc)
spelt_one r (tree t no_trees) e = (t, ap (λ cs. map (λ c. with_size c 0) cs) (append-nil (flat t)))
spelt_one r (tree t (tree u ts)) e = absurd (cc)

starts : (names : Names) (s : TreeState) (r : Ref) → IsReading names s r [] (r ∷ [])
unfolding AllBelow open_cells
starts names s r = record {
  room = omega arith;
  spelt = λ ts e. spelt_one 0 ts e;
  valid = λ t h. let l : length (trees_of names s) ≡ length s.terms = length_trees names s in let w : r.number < length (trees_of names s) = slice_get_within (trees_of names s) r.number t h.1.0 in (omega arith, tt);
  reads = λ t h. ap (λ u. bare (value (bound_in names s) u)) (tree_in_is (trees_of names s) r t h.1.0);
}

pub reading_start : (names : Names) (s : TreeState) (r : Ref) (read : List TermCell) (stack : List Ref) → read ≡ [] → stack ≡ r ∷ [] → IsReading names s r read stack
reading_start names s r read stack e f =
    let P : List TermCell → Type 0 = λ x. IsReading names s r x stack in
    let Q : List Ref → Type 0 = λ x. IsReading names s r [] x in
    subst P (sym e) (subst Q (sym f) (starts names s r))

steps_on : (names : Names) (s : TreeState) (r : Ref) (read : List TermCell) (ahead : List Ref) (at last : Ref) → IsReading names s r read (ahead ++ at ∷ []) → last ≡ followed_in s at → length read + 1 + length ahead + length (entered_args (slice_get s.terms last.number)) ≤ most_cells
    → IsReading names s r (read ++ entered_cell names (length s.variables) (slice_get s.terms last.number) ∷ []) (ahead ++ turned (entered_args (slice_get s.terms last.number)))
unfolding open_cells
steps_on names s r read ahead at last h e l =
    let o : Option StoredTerm = slice_get s.terms last.number in
    let c : TermCell = entered_cell names (length s.variables) (slice_get s.terms last.number) in
    let args : List Ref = entered_args (slice_get s.terms last.number) in
    let lt : length (turned args) ≡ length args = length_turned args in
    record {
      room = omega (arith, length-append read (c ∷ []), length-append ahead (turned args));
      spelt = λ ts n.
          let m : tree_count ts ≡ length ahead + length (entered_args (slice_get s.terms last.number)) = omega (arith, length-append ahead (turned args)) in
          let f : Fronted c ts (length ahead) = fronted names (length s.variables) (slice_get s.terms last.number) ts (length ahead) m in
          let q : tree_count f.trees ≡ length (ahead ++ at ∷ []) = let z : tree_count f.trees ≡ suc (length ahead) = f.many in omega (arith, length-append ahead (at ∷ [])) in
          let u = h.spelt f.trees q in
          (u.0, append_assoc read (c ∷ []) (bare_all ts) ∙ (ap (λ cs. read ++ cs) (sym f.is) ∙ u.1));
      valid = λ t g. all_append (length s.terms) ahead (turned args) (all_front (length s.terms) ahead (at ∷ []) (h.valid t g)) (args_below names s g.0 last.number (slice_get s.terms last.number) refl);
      reads = λ t g.
          let b : Bindings = bound_in names s in
          let trees : List Tree = trees_of names s in
          let v = value_read names s g.0 g.1.1 at last (all_last (length s.terms) ahead at (h.valid t g)) e in
          append_assoc read (c ∷ []) (open_cells (bound_in names s) (trees_of names s) (ahead ++ turned args))
          ∙ (ap (λ cs. read ++ c ∷ cs) (open_append (bound_in names s) (trees_of names s) ahead (turned args) ∙ ap (λ cs. cs ++ open_cells (bound_in names s) (trees_of names s) ahead) (open_turned (bound_in names s) (trees_of names s) args))
          ∙ (ap (λ cs. read ++ (cs ++ open_cells (bound_in names s) (trees_of names s) ahead)) (sym v)
          ∙ (ap (λ cs. read ++ cs) (sym (open_append (bound_in names s) (trees_of names s) ahead (at ∷ []))) ∙ h.reads t g)));
    }

pub reading_step : (names : Names) (s : TreeState) (r : Ref) (read read' : List TermCell) (stack ahead stack' : List Ref) (at last : Ref) → IsReading names s r read stack → stack ≡ ahead ++ at ∷ [] → last ≡ followed_in s at
    → length read + 1 + length ahead + length (entered_args (slice_get s.terms last.number)) ≤ most_cells
    → read' ≡ read ++ entered_cell names (length s.variables) (slice_get s.terms last.number) ∷ [] → stack' ≡ ahead ++ turned (entered_args (slice_get s.terms last.number)) → IsReading names s r read' stack'
reading_step names s r read read' stack ahead stack' at last h k e l f g =
    let P : List TermCell → Type 0 = λ x. IsReading names s r x stack' in
    let Q : List Ref → Type 0 = λ x. IsReading names s r (read ++ entered_cell names (length s.variables) (slice_get s.terms last.number) ∷ []) x in
    let R : List Ref → Type 0 = λ x. IsReading names s r read x in
    subst P (sym f) (subst Q (sym g) (steps_on names s r read ahead at last (subst R k h) e l))

pub reading_spelt : (names : Names) (s : TreeState) (r : Ref) (read : List TermCell) (stack : List Ref) → IsReading names s r read stack → stack ≡ [] → (u : Tree) × (read ≡ bare u)
unfolding tree_count flat_all
reading_spelt names s r read stack h e = let q = h.spelt no_trees (sym (ap length e)) in (q.0, sym (append-nil read) ∙ q.1)

length_bare : (t : Tree) → length (bare t) ≡ cells t
length_bare t = length-map (flat t) (λ c. with_size c 0) ∙ length_flat t

pub reading_done : (names : Names) (s : TreeState) (r : Ref) (read : List TermCell) (stack : List Ref) → IsReading names s r read stack → stack ≡ [] → (t : Tree) → IsReadable names s r t → (read ≡ bare (value (bound_in names s) t)) × (cells (value (bound_in names s) t) ≤ most_cells)
unfolding open_cells
reading_done names s r read stack h e = λ t g.
    let q : read ≡ bare (value (bound_in names s) t) = sym (append-nil read) ∙ (ap (λ x. read ++ open_cells (bound_in names s) (trees_of names s) x) (sym e) ∙ h.reads t g) in
    let l : length read ≡ cells (value (bound_in names s) t) = ap length q ∙ length_bare (value (bound_in names s) t) in
    let m : length read + length stack ≤ most_cells = h.room in
    (q, omega arith)

bare_some : (t : Tree) → 1 ≤ length (bare t)
bare_some t = let l : length (bare t) ≡ cells t = length_bare t in let p : 0 < cells t = cells-positive t in omega arith

open_least : (b : Bindings) (trees : List Tree) (rs : List Ref) → length rs ≤ length (open_cells b trees rs)
unfolding open_cells
open_least b trees [] = omega arith
open_least b trees (r ∷ rs) =
    let h : length rs ≤ length (open_cells b trees rs) = open_least b trees rs in
    let g : 1 ≤ length (read_cells b trees r) = bare_some (value b (tree_in trees r)) in
    omega (arith, length-append (open_cells b trees rs) (read_cells b trees r))

row_least : (b : Bindings) (trees : List Tree) (rs : List Ref) → length rs ≤ length (row_cells b trees rs)
unfolding row_cells
row_least b trees [] = omega arith
row_least b trees (r ∷ rs) =
    let h : length rs ≤ length (row_cells b trees rs) = row_least b trees rs in
    let g : 1 ≤ length (read_cells b trees r) = bare_some (value b (tree_in trees r)) in
    omega (arith, length-append (read_cells b trees r) (row_cells b trees rs))

pub reading_large : (names : Names) (s : TreeState) (r : Ref) (read : List TermCell) (stack ahead : List Ref) (at last : Ref) → IsReading names s r read stack → stack ≡ ahead ++ at ∷ [] → last ≡ followed_in s at
    → most_cells < length read + 1 + length ahead + length (entered_args (slice_get s.terms last.number)) → (t : Tree) → IsReadable names s r t → most_cells < cells (value (bound_in names s) t)
unfolding open_cells
reading_large names s r read stack ahead at last h k e l = λ t g.
    let R : List Ref → Type 0 = λ x. IsReading names s r read x in
    let i : IsReading names s r read (ahead ++ at ∷ []) = subst R k h in
    let b : Bindings = bound_in names s in
    let v = value_read names s g.0 g.1.1 at last (all_last (length s.terms) ahead at (i.valid t g)) e in
    let args : List Ref = entered_args (slice_get s.terms last.number) in
    let whole : read ++ (read_cells (bound_in names s) (trees_of names s) at ++ open_cells (bound_in names s) (trees_of names s) ahead) ≡ bare (value (bound_in names s) t) =
    ap (λ cs. read ++ cs) (sym (open_append (bound_in names s) (trees_of names s) ahead (at ∷ []))) ∙ i.reads t g in
    let n1 : length (read ++ (read_cells (bound_in names s) (trees_of names s) at ++ open_cells (bound_in names s) (trees_of names s) ahead)) ≡ cells (value (bound_in names s) t) = ap length whole ∙ length_bare (value (bound_in names s) t) in
    let n2 : length (read_cells (bound_in names s) (trees_of names s) at) ≡ suc (length (row_cells (bound_in names s) (trees_of names s) args)) = ap length v in
    let n3 : length args ≤ length (row_cells (bound_in names s) (trees_of names s) args) = row_least (bound_in names s) (trees_of names s) args in
    let n4 : length ahead ≤ length (open_cells (bound_in names s) (trees_of names s) ahead) = open_least (bound_in names s) (trees_of names s) ahead in
    omega (arith, length-append read (read_cells (bound_in names s) (trees_of names s) at ++ open_cells (bound_in names s) (trees_of names s) ahead), length-append (read_cells (bound_in names s) (trees_of names s) at) (open_cells (bound_in names s) (trees_of names s) ahead))

pub none_left : (xs : List Ref) → length xs ≡ 0 → xs ≡ []
none_left [] e = refl
none_left (x ∷ xs) e = absurd (omega arith)
