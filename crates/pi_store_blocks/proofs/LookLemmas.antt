-- What is read of a term is what its tree says.
use Rattle.std.proofs.Common.{◌≡◌, ℕ, zero, suc, ◌+◌, ◌-◌, ◌<◌, ◌≤◌, Bool, true, false, cond, nat_lt, nat_le, ◌&&◌, List, [], ◌∷◌, ◌++◌, length, drop, Some, None, refl, ap, sym, ◌∙◌, arith, ℤ}
use Rattle.std.specs.Prelude.{◌↔◌, slice_index, IsTrue}
use Rattle.std.proofs.lemmas.Bool.{and_parts}
use Rattle.std.proofs.lemmas.Option.{cond_some}
use Rattle.std.proofs.lemmas.List.{append-nil, length-drop, length-take-le, get_or-take, get_or-drop}
use Rattle.pi_terms.specs.Tree.{Tree, var, int, atom, comp, Trees, no_trees, tree, tree_count, tree_at, args, arity, arg_at}
use Rattle.pi_terms.specs.Variables.{IsGround, occurrences, occurrences_all, firsts}
use Rattle.pi_constraints.specs.declared.store.Cell.{Cell}
use Rattle.pi_store_blocks.specs.Form.{form_of, is_ground_form, all_ground, header_of}
use Rattle.pi_store_blocks.specs.Heap.{Heap, all_trees, compound_at, wide_at, headed, is_same, block, is_block, tree_with, tree_for, term_at, Grows, Shows}
use Rattle.pi_store_blocks.specs.Look.{headed_cell, headed_arg}
use Rattle.pi_store_blocks.specs.declared.form.Form.{Form}
use Rattle.pi_store_blocks.specs.declared.header.Header.{Header}
use Rattle.pi_store_blocks.proofs.HeapLemmas.{TreeOf, compound_is, block_is, front_is, mapped_is, guarded_is, tree_more, tree_by}

-- the tree of a Ref whose form is known
by_form : (h : Heap) (r : ℕ) (f : Form) (t : Tree) → form_of r ≡ f → term_at h r ≡ Some t → tree_with (tree_for (length h.words) h) h f ≡ Some t
by_form h r f t e is = sym (tree_by h r f e) ∙ is

pub shows_var : (h : Heap) (r n : ℕ) (t : Tree) → form_of r ≡ Form.Var n → term_at h r ≡ Some t → t ≡ var n
shows_var h r n t e is = sym (cond_some (nat_lt n h.next) (var n) t (by_form h r (Form.Var n) t e is)).1

pub shows_int : (h : Heap) (r : ℕ) (n : ℤ) (t : Tree) → form_of r ≡ Form.Int n → term_at h r ≡ Some t → t ≡ int n
shows_int h r n t e is = let same : Some (int n) ≡ Some t = by_form h r (Form.Int n) t e is in cc

pub shows_atom : (h : Heap) (r k : ℕ) (t : Tree) → form_of r ≡ Form.Atom k → term_at h r ≡ Some t → Shows h.names t (Cell.Atom k)
shows_atom h r k t e is = let p = mapped_is atom (h.names k) t (by_form h r (Form.Atom k) t e is) in (p.it, p.here, p.is)

length_block : (ws : List ℕ) (place count : ℕ) → place + count ≤ length ws → length (block ws place count) ≡ count
length_block ws place count h = let l : length (drop place ws) ≡ length ws - place = length-drop place ws in length-take-le count (drop place ws) (omega arith)

count_all : (f : TreeOf) (rs : List ℕ) (ts : Trees) → all_trees f rs ≡ Some ts → tree_count ts ≡ length rs
unfolding all_trees tree_count
count_all f [] no_trees e = refl
count_all f [] (tree t ts) e = absurd (cc)
count_all f (r ∷ rs) no_trees e = let p = front_is (f r) (all_trees f rs) no_trees e in absurd (cc)
count_all f (r ∷ rs) (tree t ts) e =
    let p = front_is (f r) (all_trees f rs) (tree t ts) e in
    let same : ts ≡ p.rest = cc in
    ap suc (count_all f rs ts (p.behind ∙ ap Some (sym same)))

shows_compound : (f : TreeOf) (h : Heap) (name place count : ℕ) (flag : Bool) (t : Tree) → compound_at f h name place count flag ≡ Some t → Shows h.names t (Cell.Comp name count)
shows_compound f h name place count flag t e =
    let c = compound_is (is_block h.words place count flag) (h.names name) (all_trees f (block h.words place count)) t e in
    let b = block_is h.words place count flag c.holds in
    let counts : arity t ≡ count = ap arity c.is ∙ (count_all f (block h.words place count) c.trees c.args ∙ length_block h.words place count b.within) in
    (c.text, c.named, c.is ∙ ap (λ u. comp c.text (args u)) (sym c.is), sym counts)

pub shows_pair : (h : Heap) (r place : ℕ) (flag : Bool) (t : Tree) → form_of r ≡ Form.Pair place flag → term_at h r ≡ Some t → Shows h.names t (Cell.Comp 0 2)
shows_pair h r place flag t e is = shows_compound (tree_for (length h.words) h) h 0 place 2 flag t (by_form h r (Form.Pair place flag) t e is)

headed_shows : (f : TreeOf) (h : Heap) (place : ℕ) (flag : Bool) (header : Header) (t : Tree) → headed f h place flag header ≡ Some t → Shows h.names t (headed_cell h.words place header)
headed_shows f h place flag Header.Nothing t e = absurd (cc)
headed_shows f h place flag (Header.Comp name count own) t e =
    shows_compound f h name (place - count) count flag t (guarded_is (nat_le count place) (compound_at f h name (place - count) count flag) t e).1
headed_shows f h place flag (Header.Wide top) t e = sym (cond_some (nat_le 2 place && flag) (wide_at h place top) t e).1

pub shows_comp : (h : Heap) (r place : ℕ) (flag : Bool) (t : Tree) → form_of r ≡ Form.Comp place flag → term_at h r ≡ Some t
    → Shows h.names t (headed_cell h.words place (header_of (slice_index h.words place)))
shows_comp h r place flag t e is = headed_shows (tree_for (length h.words) h) h place flag (header_of (slice_index h.words place)) t (by_form h r (Form.Comp place flag) t e is)

pub no_data : (h : Heap) (r n : ℕ) (t : Tree) → form_of r ≡ Form.Data n → term_at h r ≡ Some t → ⊥
no_data h r n t e is = let gone : None ≡ Some t = by_form h r (Form.Data n) t e is in cc

-- Arguments

all_at : (f : TreeOf) (rs : List ℕ) (ts : Trees) (i : ℕ) (u : Tree) → all_trees f rs ≡ Some ts → tree_at ts i ≡ Some u → (f (slice_index rs i) ≡ Some u) × (i < length rs)
unfolding all_trees tree_at
all_at f rs no_trees i u e a = absurd (cc)
all_at f [] (tree t ts) i u e a = absurd (cc)
all_at f (r ∷ rs) (tree t ts) zero u e a =
    let p = front_is (f r) (all_trees f rs) (tree t ts) e in
    let same : p.first ≡ u = cc in
    (p.here ∙ ap Some same, omega arith)
all_at f (r ∷ rs) (tree t ts) (suc i) u e a =
    let p = front_is (f r) (all_trees f rs) (tree t ts) e in
    let same : p.rest ≡ ts = cc in
    let q = all_at f rs ts i u (p.behind ∙ ap Some same) a in
    (q.0, omega (arith, q.1))

itself : (h : Heap) → Grows h h
itself h = record { names = λ k name e. e; next = omega arith; words = ([], sym (append-nil h.words)) }

compound_arg : (h : Heap) (name place count : ℕ) (flag : Bool) (t u : Tree) (i : ℕ) → compound_at (tree_for (length h.words) h) h name place count flag ≡ Some t → arg_at t i ≡ Some u
    → (term_at h (slice_index h.words (place + i)) ≡ Some u) × (place + i < length h.words)
compound_arg h name place count flag t u i e a =
    let F : TreeOf = tree_for (length h.words) h in
    let c = compound_is (is_block h.words place count flag) (h.names name) (all_trees F (block h.words place count)) t e in
    let b = block_is h.words place count flag c.holds in
    let rs : List ℕ = block h.words place count in
    let q = all_at F rs c.trees i u c.args (ap (λ v. tree_at (args v) i) (sym c.is) ∙ a) in
    let long : length rs ≡ count = length_block h.words place count b.within in
    let le : place + count ≤ length h.words = b.within in
    let lt : i < count = omega (arith, q.1) in
    let read : slice_index rs i ≡ slice_index h.words (place + i) = get_or-take count (drop place h.words) i 0 lt ∙ get_or-drop place h.words i 0 in
    let found : F (slice_index h.words (place + i)) ≡ Some u = ap F (sym read) ∙ q.0 in
    (tree_more (length h.words) (suc (length h.words)) h h (itself h) (omega arith) (slice_index h.words (place + i)) u found, omega arith)

pub pair_arg : (h : Heap) (r place : ℕ) (flag : Bool) (t u : Tree) (i : ℕ) → form_of r ≡ Form.Pair place flag → term_at h r ≡ Some t → arg_at t i ≡ Some u
    → (term_at h (slice_index h.words (place + i)) ≡ Some u) × (place + i < length h.words)
pair_arg h r place flag t u i e is a = compound_arg h 0 place 2 flag t u i (by_form h r (Form.Pair place flag) t e is) a

-- what has no arguments
no_arg : (t u : Tree) (i : ℕ) → args t ≡ no_trees → arg_at t i ≡ Some u → ⊥
unfolding tree_at
no_arg t u i e a = let n : None ≡ Some u = ap (λ ts. tree_at ts i) (sym e) ∙ a in cc

pub var_arg : (h : Heap) (r n : ℕ) (t u : Tree) (i : ℕ) → form_of r ≡ Form.Var n → term_at h r ≡ Some t → arg_at t i ≡ Some u → ⊥
var_arg h r n t u i e is a = no_arg t u i (ap args (shows_var h r n t e is)) a

pub int_arg : (h : Heap) (r : ℕ) (n : ℤ) (t u : Tree) (i : ℕ) → form_of r ≡ Form.Int n → term_at h r ≡ Some t → arg_at t i ≡ Some u → ⊥
int_arg h r n t u i e is a = no_arg t u i (ap args (shows_int h r n t e is)) a

pub atom_arg : (h : Heap) (r k : ℕ) (t u : Tree) (i : ℕ) → form_of r ≡ Form.Atom k → term_at h r ≡ Some t → arg_at t i ≡ Some u → ⊥
atom_arg h r k t u i e is a = let p = shows_atom h r k t e is in no_arg t u i (ap args p.2) a

headed_arg_is : (h : Heap) (r place : ℕ) (flag : Bool) (header : Header) (t u : Tree) (i : ℕ) → headed (tree_for (length h.words) h) h place flag header ≡ Some t → arg_at t i ≡ Some u
    → term_at h (headed_arg h.words r place i header) ≡ Some u
headed_arg_is h r place flag Header.Nothing t u i e a = absurd (cc)
headed_arg_is h r place flag (Header.Comp name count own) t u i e a =
    (compound_arg h name (place - count) count flag t u i (guarded_is (nat_le count place) (compound_at (tree_for (length h.words) h) h name (place - count) count flag) t e).1 a).0
headed_arg_is h r place flag (Header.Wide top) t u i e a = absurd (no_arg t u i (ap args (sym (cond_some (nat_le 2 place && flag) (wide_at h place top) t e).1)) a)

pub comp_arg : (h : Heap) (r place : ℕ) (flag : Bool) (t u : Tree) (i : ℕ) → form_of r ≡ Form.Comp place flag → term_at h r ≡ Some t → arg_at t i ≡ Some u
    → term_at h (headed_arg h.words r place i (header_of (slice_index h.words place))) ≡ Some u
comp_arg h r place flag t u i e is a = headed_arg_is h r place flag (header_of (slice_index h.words place)) t u i (by_form h r (Form.Comp place flag) t e is) a

-- Terms without variables

firsts_none : (ns : List ℕ) → firsts ns ≡ [] → ns ≡ []
unfolding firsts
firsts_none [] e = refl
firsts_none (n ∷ ns) e = absurd (cc)

none_firsts : (ns : List ℕ) → ns ≡ [] → firsts ns ≡ []
unfolding firsts
none_firsts ns e = ap firsts e

append_none : (xs ys : List ℕ) → xs ++ ys ≡ [] → (xs ≡ []) × (ys ≡ [])
append_none [] ys e = (refl, e)
append_none (x ∷ xs) ys e = absurd (cc)

-- a Ref says of itself whether its term is ground
abbrev Says : TreeOf → Type 0
Says f = (q : ℕ) (u : Tree) → f q ≡ Some u → IsTrue (is_ground_form (form_of q)) ↔ (occurrences u ≡ [])

cond_true : (a b : Bool) → IsTrue (cond a b false) → IsTrue a × IsTrue b
cond_true true b h = (refl, h)
cond_true false b h = absurd (cc)

true_cond : (a b : Bool) → IsTrue a → IsTrue b → IsTrue (cond a b false)
true_cond true b h i = i
true_cond false b h i = absurd (cc)

all_say : (f : TreeOf) → Says f → (rs : List ℕ) (ts : Trees) → all_trees f rs ≡ Some ts → IsTrue (all_ground rs) ↔ (occurrences_all ts ≡ [])
unfolding all_trees all_ground occurrences_all
all_say f says [] no_trees e = (λ b. refl, λ o. refl)
all_say f says [] (tree t ts) e = absurd (cc)
all_say f says (r ∷ rs) no_trees e = let p = front_is (f r) (all_trees f rs) no_trees e in absurd (cc)
all_say f says (r ∷ rs) (tree t ts) e =
    let p = front_is (f r) (all_trees f rs) (tree t ts) e in
    let first : p.first ≡ t = cc in
    let rest : p.rest ≡ ts = cc in
    let here = says r t (p.here ∙ ap Some first) in
    let behind = all_say f says rs ts (p.behind ∙ ap Some rest) in (
      λ b. let q = cond_true (is_ground_form (form_of r)) (all_ground rs) b in ap (λ ns. ns ++ occurrences_all ts) (here.0 q.0) ∙ behind.0 q.1,
      λ o. let q = append_none (occurrences t) (occurrences_all ts) o in true_cond (is_ground_form (form_of r)) (all_ground rs) (here.1 q.0) (behind.1 q.1),
    )

same_is : (a b : Bool) → is_same a b ≡ true → b ≡ a
same_is true b e = e
same_is false true e = absurd (cc)
same_is false false e = refl

compound_says : (f : TreeOf) → Says f → (h : Heap) (name place count : ℕ) (flag : Bool) (t : Tree) → compound_at f h name place count flag ≡ Some t → IsTrue flag ↔ (occurrences t ≡ [])
unfolding occurrences
compound_says f says h name place count flag t e =
    let c = compound_is (is_block h.words place count flag) (h.names name) (all_trees f (block h.words place count)) t e in
    let b = block_is h.words place count flag c.holds in
    let s : all_ground (block h.words place count) ≡ flag = same_is flag (all_ground (block h.words place count)) b.same in
    let a = all_say f says (block h.words place count) c.trees c.args in
    (λ x. ap occurrences c.is ∙ a.0 (s ∙ x), λ o. sym s ∙ a.1 (sym (ap occurrences c.is) ∙ o))

headed_says : (f : TreeOf) → Says f → (h : Heap) (place : ℕ) (flag : Bool) (header : Header) (t : Tree) → headed f h place flag header ≡ Some t → IsTrue flag ↔ (occurrences t ≡ [])
unfolding occurrences
headed_says f says h place flag Header.Nothing t e = absurd (cc)
headed_says f says h place flag (Header.Comp name count own) t e =
    compound_says f says h name (place - count) count flag t (guarded_is (nat_le count place) (compound_at f h name (place - count) count flag) t e).1
headed_says f says h place flag (Header.Wide top) t e =
    let v = cond_some (nat_le 2 place && flag) (wide_at h place top) t e in
    (λ b. ap occurrences (sym v.1), λ o. (and_parts (nat_le 2 place) flag v.0).1)

with_says : (f : TreeOf) → Says f → (h : Heap) (form : Form) (t : Tree) → tree_with f h form ≡ Some t → IsTrue (is_ground_form form) ↔ (occurrences t ≡ [])
unfolding occurrences
with_says f says h (Form.Var n) t e =
    let v = cond_some (nat_lt n h.next) (var n) t e in
    (λ b. absurd (cc), λ o. let w : n ∷ [] ≡ [] = ap occurrences v.1 ∙ o in absurd (cc))
with_says f says h (Form.Int n) t e =
    let v : int n ≡ t = cc in (λ b. ap occurrences (sym v), λ o. refl)
with_says f says h (Form.Atom k) t e =
    let p = mapped_is atom (h.names k) t e in (λ b. ap occurrences p.is, λ o. refl)
with_says f says h (Form.Pair place flag) t e = compound_says f says h 0 place 2 flag t e
with_says f says h (Form.Comp place flag) t e = headed_says f says h place flag (header_of (slice_index h.words place)) t e
with_says f says h (Form.Data n) t e = absurd (cc)

for_says : (d : ℕ) (h : Heap) → Says (tree_for d h)
unfolding tree_for
for_says zero h q u e = absurd (cc)
for_says (suc d) h q u e = with_says (tree_for d h) (for_says d h) h (form_of q) u e

pub says_ground : (h : Heap) (r : ℕ) (t : Tree) → term_at h r ≡ Some t → IsTrue (is_ground_form (form_of r)) ↔ IsGround t
says_ground h r t e =
    let s = for_says (suc (length h.words)) h r t e in
    (λ b. none_firsts (occurrences t) (s.0 b), λ g. s.1 (firsts_none (occurrences t) g))
