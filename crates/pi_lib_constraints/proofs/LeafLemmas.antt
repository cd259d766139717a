-- The integers and variables in a term, as a walk finds them: each term by its root, and what is left by the last Ref first.
use Rattle.std.specs.Prelude.{◌≡◌, ⊤, ℕ, zero, suc, ◌<◌, ◌≤◌, Bool, true, false, cond, List, [], ◌∷◌, ◌++◌, length, drop, get_or, reverse, Option, Some, None, option_map, option_and_then, Result, Ok, Err, Vec, codes, refl}
use Rattle.std.specs.Option.{option_or}
use Rattle.std.specs.Str.{bytes_eq}
use Rattle.std.specs.Result.{IsErrAnd}
use Rattle.std.specs.declared.alloc.Global.{Global}
use Rattle.std.proofs.Common.{arith, sym, ◌∙◌, ap, subst, append_assoc, append-nil}
use Rattle.std.proofs.lemmas.List.{reverse-append}
use Rattle.pi_terms.specs.Tree.{Tree, var, int, atom, comp, Trees, no_trees, tree, cells, cells_all}
use Rattle.pi_terms.specs.ListNames.{nil, cell_name}
use Rattle.pi_terms.specs.Substitution.{instance}
use Rattle.pi_terms.specs.Copy.{copy}
use Rattle.pi_terms.proofs.TermLemmas.{cells-positive}
use Rattle.pi_syntax.specs.PrintTerm.{array_name}
use Rattle.pi_constraints.specs.declared.constraint.Item.{Item}
use Rattle.pi_constraints.specs.declared.store.Ref.{Ref}
use Rattle.pi_constraints.specs.declared.store.Cell.{Cell}
use Rattle.pi_constraints.specs.State.{State, bindings, followed}
use Rattle.pi_constraints.specs.Store.{StoreView, IsTerm, ShowsCell}
use Rattle.pi_constraints.specs.Value.{Bindings, IsAcyclic, value}
use Rattle.pi_constraints.proofs.FollowLemmas.{followed_other}
use Rattle.pi_constraints.proofs.RootLemmas.{with_values, value_comp, value_at_root}
use Rattle.pi_constraints.proofs.ValueLemmas.{value_goes_by_variables}
use Rattle.pi_effects.specs.Answer.{found_or}
use Rattle.pi_effects.specs.Balls.{IsBall}
use Rattle.pi_effects.specs.Collections.{collection_then}
use Rattle.pi_effects.specs.Exception.{raised_of, type_error}
use Rattle.pi_effects.specs.declared.fault.Fault.{Fault}
use Rattle.pi_effects.specs.declared.fault.Stop.{Stop}
use Rattle.pi_effects.specs.Items.{each_tree, in_front_of, items_of_root, items_for, list_items, array_parts, collection_items}
use Rattle.pi_effects.proofs.ItemLemmas.{items-by_root}
use Rattle.pi_settling.specs.Asked.{Flat, flat, no_item, joined, flat_all, flat_parts, flat_variable, flat_for, flat_items}
use Rattle.pi_lib_builtin.specs.Items.{AreItems}
use Rattle.pi_unify.specs.Terms.{IsGiven, term_of}
use Rattle.pi_unify.proofs.TermValues.{given_term, term_given, term_is}
use Rattle.pi_lib_constraints.specs.Kept.{item_term, AreRefsOf}
use Rattle.pi_lib_constraints.specs.Flattened.{AreGiven, flat_at, flat_left, IsFlattened, AreLeft, ShowsFlat, ShowsStep, ShowsLeft}

-- ---- the items of a collection have smaller values

unfoldable AllSmaller : Bindings → ℕ → List Tree → Type 0
AllSmaller b m [] = ⊤
AllSmaller b m (t ∷ ts) = (cells (value b t) < m) × AllSmaller b m ts

more-smaller : (b : Bindings) (m n : ℕ) (ts : List Tree) → m ≤ n → AllSmaller b m ts → AllSmaller b n ts
unfolding AllSmaller
more-smaller b m n [] l h = tt
more-smaller b m n (t ∷ ts) l h = (omega (arith, l, h.0), more-smaller b m n ts l h.1)

none-smaller : (b : Bindings) (m : ℕ) → AllSmaller b m []
unfolding AllSmaller
none-smaller b m = tt

one-smaller : (b : Bindings) (m : ℕ) (t : Tree) (ts : List Tree) → cells (value b t) < m → AllSmaller b m ts → AllSmaller b m (t ∷ ts)
unfolding AllSmaller
one-smaller b m t ts l h = (l, h)

args-smaller : (b : Bindings) (ts : Trees) → AllSmaller b (suc (cells_all (with_values b ts))) (each_tree ts)
unfolding cells instance each_tree
args-smaller b no_trees = none-smaller b _
args-smaller b (tree t ts) =
    let rest : AllSmaller b (suc (cells_all (with_values b ts))) (each_tree ts) = args-smaller b ts in
    let one : cells (value b t) ≡ cells (instance (λ n. value b (var n)) t) = ap cells (value_goes_by_variables b t) in
    one-smaller b (suc (cells_all (with_values b (tree t ts)))) t (each_tree ts) (omega (arith, one)) (more-smaller b (suc (cells_all (with_values b ts))) (suc (cells_all (with_values b (tree t ts)))) (each_tree ts) (omega arith) rest)

comp-smaller : (b : Bindings) (t : Tree) (name : List ℕ) (ts : Trees) → IsAcyclic b → followed b t ≡ comp name ts → AllSmaller b (cells (value b t)) (each_tree ts)
unfolding cells
comp-smaller b t name ts a e =
    let whole : value b t ≡ comp name (with_values b ts) = value_at_root b t (comp name ts) a e ∙ value_comp b name ts in
    subst (λ (n : ℕ). AllSmaller b n (each_tree ts)) (sym (ap cells whole)) (args-smaller b ts)

parts-smaller : (b : Bindings) (t : Tree) (name : List ℕ) (x r : Tree) → IsAcyclic b → followed b t ≡ comp name (tree x (tree r no_trees)) → (cells (value b x) < cells (value b t)) × (cells (value b r) < cells (value b t))
unfolding AllSmaller each_tree
parts-smaller b t name x r a e = let both = comp-smaller b t name (tree x (tree r no_trees)) a e in (both.0, both.1.0)

front-smaller : (b : Bindings) (t x r : Tree) (o : Option (List Tree)) (ts : List Tree) → (cells (value b x) < cells (value b t)) × (cells (value b r) < cells (value b t)) → ((us : List Tree) → o ≡ Some us → AllSmaller b (cells (value b r)) us) →
    option_map (λ us. x ∷ us) o ≡ Some ts → AllSmaller b (cells (value b t)) ts
front-smaller b t x r None ts l h e = absurd cc
front-smaller b t x r (Some us) ts l h e =
    let same : x ∷ us ≡ ts = cc in
    subst (AllSmaller b (cells (value b t))) same (one-smaller b (cells (value b t)) x us l.0 (more-smaller b (cells (value b r)) (cells (value b t)) us (omega (arith, l.1)) (h us refl)))

cell-smaller : (b : Bindings) (t x r : Tree) (c : Bool) (items : Tree → Option (List Tree)) (ts : List Tree) → (cells (value b x) < cells (value b t)) × (cells (value b r) < cells (value b t)) → ((us : List Tree) → items r ≡ Some us → AllSmaller b (cells (value b r)) us) →
    option_and_then (in_front_of items) (cond c (Some (x, r)) None) ≡ Some ts → AllSmaller b (cells (value b t)) ts
cell-smaller b t x r true items ts l h e = front-smaller b t x r (items r) ts l h e
cell-smaller b t x r false items ts l h e = absurd cc

nil-smaller : (b : Bindings) (m : ℕ) (c : Bool) (ts : List Tree) → option_or (cond c (Some []) None) None ≡ Some ts → AllSmaller b m ts
nil-smaller b m true ts e = let same : [] ≡ ts = cc in subst (AllSmaller b m) same (none-smaller b m)
nil-smaller b m false ts e = absurd cc

root-smaller : (b : Bindings) (t u : Tree) (items : Tree → Option (List Tree)) (ts : List Tree) → IsAcyclic b → followed b t ≡ u → ((r : Tree) (us : List Tree) → items r ≡ Some us → AllSmaller b (cells (value b r)) us) → items_of_root items u ≡ Some ts →
    AllSmaller b (cells (value b t)) ts
root-smaller b t (var n) items ts a at h e = absurd cc
root-smaller b t (int i) items ts a at h e = absurd cc
root-smaller b t (atom name) items ts a at h e = nil-smaller b (cells (value b t)) (bytes_eq name nil) ts e
root-smaller b t (comp name no_trees) items ts a at h e = absurd cc
root-smaller b t (comp name (tree x no_trees)) items ts a at h e = absurd cc
root-smaller b t (comp name (tree x (tree r no_trees))) items ts a at h e = cell-smaller b t x r (bytes_eq name cell_name) items ts (parts-smaller b t name x r a at) (h r) e
root-smaller b t (comp name (tree x (tree r (tree y ys)))) items ts a at h e = absurd cc

list-smaller : (k : ℕ) (b : Bindings) (t : Tree) (ts : List Tree) → IsAcyclic b → items_for k b t ≡ Some ts → AllSmaller b (cells (value b t)) ts
unfolding items_for
list-smaller zero b t ts a e = absurd cc
list-smaller (suc k) b t ts a e = root-smaller b t (followed b t) (items_for k b) ts a refl (λ r us h. list-smaller k b r us a h) e

listed-smaller : (b : Bindings) (t : Tree) (ts : List Tree) → IsAcyclic b → list_items b t ≡ Some ts → AllSmaller b (cells (value b t)) ts
unfolding list_items
listed-smaller b t ts a e = list-smaller (cells (value b t)) b t ts a e

array-smaller : (b : Bindings) (t : Tree) (name : List ℕ) (us : Trees) (c : Bool) (ts : List Tree) → IsAcyclic b → followed b t ≡ comp name us → option_or (cond c (Some (each_tree us)) None) (list_items b t) ≡ Some ts → AllSmaller b (cells (value b t)) ts
array-smaller b t name us true ts a at e = let same : each_tree us ≡ ts = cc in subst (AllSmaller b (cells (value b t))) same (comp-smaller b t name us a at)
array-smaller b t name us false ts a at e = listed-smaller b t ts a e

collected-smaller : (b : Bindings) (t u : Tree) (ts : List Tree) → IsAcyclic b → followed b t ≡ u → option_or (array_parts u) (list_items b t) ≡ Some ts → AllSmaller b (cells (value b t)) ts
collected-smaller b t (var n) ts a at e = listed-smaller b t ts a e
collected-smaller b t (int i) ts a at e = listed-smaller b t ts a e
collected-smaller b t (atom name) ts a at e = listed-smaller b t ts a e
collected-smaller b t (comp name us) ts a at e = array-smaller b t name us (bytes_eq name array_name) ts a at e

collection-smaller : (b : Bindings) (t : Tree) (ts : List Tree) → IsAcyclic b → collection_items b t ≡ Some ts → AllSmaller b (cells (value b t)) ts
collection-smaller b t ts a e = collected-smaller b t (followed b t) ts a refl e

-- ---- a term by its root

abbrev flat_by : (Tree → Flat) → Bindings → Tree → Flat
flat_by f b (var n) = flat_variable f b n (followed b (var n))
flat_by f b (int i) = flat (Item.Int i ∷ [])
flat_by f b (atom name) = flat_parts f (atom name) (collection_items b (atom name))
flat_by f b (comp name ts) = flat_parts f (comp name ts) (collection_items b (comp name ts))

flat-more : (k : ℕ) (b : Bindings) (t : Tree) → flat_for (suc k) b t ≡ flat_by (flat_for k b) b t
unfolding flat_for
flat-more k b (var n) = refl
flat-more k b (int i) = refl
flat-more k b (atom name) = refl
flat-more k b (comp name ts) = refl

-- two ways that agree on smaller values
abbrev Agree : Bindings → ℕ → (Tree → Flat) → (Tree → Flat) → Type 0
Agree b m f g = (u : Tree) → cells (value b u) < m → f u ≡ g u

all-agree : (f g : Tree → Flat) (b : Bindings) (m : ℕ) (ts : List Tree) → Agree b m f g → AllSmaller b m ts → flat_all f ts ≡ flat_all g ts
unfolding AllSmaller flat_all
all-agree f g b m [] h l = refl
all-agree f g b m (t ∷ ts) h l = (λ i. joined (h t l.0 i) (all-agree f g b m ts h l.1 i))

parts-agree : (f g : Tree → Flat) (b : Bindings) (m : ℕ) (t : Tree) (o : Option (List Tree)) → Agree b m f g → ((ts : List Tree) → o ≡ Some ts → AllSmaller b m ts) → flat_parts f t o ≡ flat_parts g t o
parts-agree f g b m t None h l = refl
parts-agree f g b m t (Some ts) h l = all-agree f g b m ts h (l ts refl)

at-root : (b : Bindings) (t u : Tree) (ts : List Tree) → IsAcyclic b → followed b t ≡ u → collection_items b u ≡ Some ts → AllSmaller b (cells (value b t)) ts
at-root b t u ts a at e = subst (λ (n : ℕ). AllSmaller b n ts) (sym (ap cells (value_at_root b t u a at))) (collection-smaller b u ts a e)

variable-agree : (f g : Tree → Flat) (b : Bindings) (n : ℕ) (u : Tree) → IsAcyclic b → followed b (var n) ≡ u → Agree b (cells (value b (var n))) f g → flat_variable f b n u ≡ flat_variable g b n u
variable-agree f g b n (var m) a at h = refl
variable-agree f g b n (int i) a at h = refl
variable-agree f g b n (atom name) a at h = parts-agree f g b (cells (value b (var n))) (atom name) (collection_items b (atom name)) h (λ ts e. at-root b (var n) (atom name) ts a at e)
variable-agree f g b n (comp name us) a at h = parts-agree f g b (cells (value b (var n))) (comp name us) (collection_items b (comp name us)) h (λ ts e. at-root b (var n) (comp name us) ts a at e)

by-agree : (f g : Tree → Flat) (b : Bindings) (t : Tree) → IsAcyclic b → Agree b (cells (value b t)) f g → flat_by f b t ≡ flat_by g b t
by-agree f g b (var n) a h = variable-agree f g b n (followed b (var n)) a refl h
by-agree f g b (int i) a h = refl
by-agree f g b (atom name) a h = parts-agree f g b (cells (value b (atom name))) (atom name) (collection_items b (atom name)) h (λ ts e. collection-smaller b (atom name) ts a e)
by-agree f g b (comp name us) a h = parts-agree f g b (cells (value b (comp name us))) (comp name us) (collection_items b (comp name us)) h (λ ts e. collection-smaller b (comp name us) ts a e)

same-flat : (j k : ℕ) (b : Bindings) (t : Tree) → IsAcyclic b → cells (value b t) ≤ j → cells (value b t) ≤ k → flat_for j b t ≡ flat_for k b t
same-flat zero k b t a h g = absurd (omega (arith, cells-positive (value b t)))
same-flat (suc j) zero b t a h g = absurd (omega (arith, cells-positive (value b t)))
same-flat (suc j) (suc k) b t a h g =
    flat-more j b t ∙ (by-agree (flat_for j b) (flat_for k b) b t a (λ u l. same-flat j k b u a (omega (arith, l, h)) (omega (arith, l, g))) ∙ sym (flat-more k b t))

from-root : (n : ℕ) (b : Bindings) (t : Tree) → IsAcyclic b → cells (value b t) ≡ n → flat_for n b t ≡ flat_by (flat_items b) b t
from-root zero b t a e = absurd (omega (arith, cells-positive (value b t)))
from-root (suc k) b t a e = flat-more k b t ∙ by-agree (flat_for k b) (flat_items b) b t a (λ u l. same-flat k (cells (value b u)) b u a (omega (arith, l, e)) (omega arith))

flat-by_root : (b : Bindings) (t : Tree) → IsAcyclic b → flat_items b t ≡ flat_by (flat_items b) b t
flat-by_root b t a = from-root (cells (value b t)) b t a refl

-- ---- what the root is

-- a term that is an item
pub record IsLeaf (b : Bindings) (t : Tree) : Type 0 where
  pub item : Item
  pub is : item_term item ≡ t
  pub flat : flat_items b t ≡ Flat.flat (item ∷ [])

variable-leaf : (b : Bindings) (n : ℕ) (u : Tree) → IsAcyclic b → followed b (var n) ≡ u → ((f : Tree → Flat) → flat_variable f b n u ≡ Flat.flat (Item.Var n ∷ [])) → IsLeaf b (var n)
variable-leaf b n u a at e = record { item = Item.Var n; is = refl; flat = flat-by_root b (var n) a ∙ (ap (flat_variable (flat_items b) b n) at ∙ e (flat_items b)) }

pub leaf-var : (b : Bindings) (t : Tree) (m : ℕ) → IsAcyclic b → followed b t ≡ var m → IsLeaf b t
leaf-var b (var n) m a at = variable-leaf b n (var m) a at (λ f. refl)
leaf-var b (int i) m a at = absurd (let same : int i ≡ var m = sym (followed_other b (int i) (λ j h. cc)) ∙ at in cc)
leaf-var b (atom name) m a at = absurd (let same : atom name ≡ var m = sym (followed_other b (atom name) (λ j h. cc)) ∙ at in cc)
leaf-var b (comp name ts) m a at = absurd (let same : comp name ts ≡ var m = sym (followed_other b (comp name ts) (λ j h. cc)) ∙ at in cc)

pub leaf-int : (b : Bindings) (t : Tree) (i : _) → IsAcyclic b → followed b t ≡ int i → IsLeaf b t
leaf-int b (var n) i a at = variable-leaf b n (int i) a at (λ f. refl)
leaf-int b (int j) i a at = record { item = Item.Int j; is = refl; flat = flat-by_root b (int j) a }
leaf-int b (atom name) i a at = absurd (let same : atom name ≡ int i = sym (followed_other b (atom name) (λ j h. cc)) ∙ at in cc)
leaf-int b (comp name ts) i a at = absurd (let same : comp name ts ≡ int i = sym (followed_other b (comp name ts) (λ j h. cc)) ∙ at in cc)

-- the items of a term are those of its root
root-items : (b : Bindings) (t u : Tree) → IsAcyclic b → followed b t ≡ u → followed b u ≡ u → collection_items b u ≡ collection_items b t
root-items b t u a at own =
    ap (λ (w : Tree). option_or (array_parts w) (list_items b u)) (own ∙ sym at)
    ∙ ap (option_or (array_parts (followed b t))) (items-by_root b u a ∙ (ap (items_of_root (list_items b)) (own ∙ sym at) ∙ sym (items-by_root b t a)))

-- an atom or a compound
pub data IsWhole : Tree → Type 0 where
  whole_atom : (name : List ℕ) → IsWhole (atom name)
  whole_comp : (name : List ℕ) (ts : Trees) → IsWhole (comp name ts)

whole-own : (b : Bindings) (u : Tree) → IsWhole u → followed b u ≡ u
whole-own b u (whole_atom name) = followed_other b (atom name) (λ j h. cc)
whole-own b u (whole_comp name ts) = followed_other b (comp name ts) (λ j h. cc)

variable-whole : (f : Tree → Flat) (b : Bindings) (n : ℕ) (u : Tree) → IsWhole u → flat_variable f b n u ≡ flat_parts f u (collection_items b u)
variable-whole f b n u (whole_atom name) = refl
variable-whole f b n u (whole_comp name ts) = refl

no-integer : (i : _) (u : Tree) → IsWhole u → int i ≡ u → ⊥
no-integer i u (whole_atom name) e = cc
no-integer i u (whole_comp name ts) e = cc

by-whole : (f : Tree → Flat) (b : Bindings) (t u : Tree) → IsWhole u → followed b t ≡ u → flat_by f b t ≡ flat_parts f u (collection_items b u)
by-whole f b (var n) u w at = ap (flat_variable f b n) at ∙ variable-whole f b n u w
by-whole f b (int i) u w at = absurd (no-integer i u w (sym (followed_other b (int i) (λ j h. cc)) ∙ at))
by-whole f b (atom name) u w at = let same : atom name ≡ u = sym (followed_other b (atom name) (λ j h. cc)) ∙ at in ap (λ (x : Tree). flat_parts f x (collection_items b x)) same
by-whole f b (comp name ts) u w at = let same : comp name ts ≡ u = sym (followed_other b (comp name ts) (λ j h. cc)) ∙ at in ap (λ (x : Tree). flat_parts f x (collection_items b x)) same

pub flat-whole : (b : Bindings) (t u : Tree) → IsAcyclic b → IsWhole u → followed b t ≡ u → flat_items b t ≡ flat_parts (flat_items b) u (collection_items b t)
flat-whole b t u a w at = flat-by_root b t a ∙ (by-whole (flat_items b) b t u w at ∙ ap (flat_parts (flat_items b) u) (root-items b t u a at (whole-own b u w)))

-- ---- joined

joined-assoc : (x y z : Flat) → joined (joined x y) z ≡ joined x (joined y z)
joined-assoc (flat xs) (flat ys) (flat zs) = ap Flat.flat (append_assoc xs ys zs)
joined-assoc (flat xs) (flat ys) (no_item t) = refl
joined-assoc (flat xs) (no_item t) z = refl
joined-assoc (no_item t) y z = refl

joined-none : (x : Flat) → joined x (flat []) ≡ x
joined-none (flat xs) = ap Flat.flat (append-nil xs)
joined-none (no_item t) = refl

none-joined : (x : Flat) → joined (flat []) x ≡ x
none-joined (flat xs) = refl
none-joined (no_item t) = refl

-- ---- what is left

pub flat-last : {M : Type 0} (v : StoreView M) (rs : List Ref) (q : Ref) → flat_left v (rs ++ q ∷ []) ≡ joined (flat_at v q) (flat_left v rs)
unfolding flat_left
flat-last v [] q = none-joined (flat_at v q) ∙ sym (joined-none (flat_at v q))
flat-last v (r ∷ rs) q = ap (λ (x : Flat). joined x (flat_at v r)) (flat-last v rs q) ∙ joined-assoc (flat_at v q) (flat_left v rs) (flat_at v r)

pub given-last : {M : Type 0} (v : StoreView M) (rs : List Ref) (q : Ref) → AreGiven v rs → IsGiven v q → AreGiven v (rs ++ q ∷ [])
unfolding AreGiven
given-last v [] q gs g = (g, tt)
given-last v (r ∷ rs) q gs g = (gs.0, given-last v rs q gs.1 g)

pub given-before : {M : Type 0} (v : StoreView M) (rs : List Ref) (q : Ref) → AreGiven v (rs ++ q ∷ []) → AreGiven v rs × IsGiven v q
unfolding AreGiven
given-before v [] q gs = (tt, gs.0)
given-before v (r ∷ rs) q gs = let before = given-before v rs q gs.1 in ((gs.0, before.0), before.1)

-- ---- items that are left, the first one last

reverse-more : (r : Ref) (rs : List Ref) → reverse (r ∷ rs) ≡ reverse rs ++ r ∷ []
reverse-more r rs = reverse-append (r ∷ []) rs

drop-more : (qs : List Ref) (j : ℕ) (q : Ref) → j < length qs → q ≡ get_or qs j q → drop j qs ≡ q ∷ drop (suc j) qs
drop-more [] j q h g = absurd (omega (arith, h))
drop-more (p ∷ qs) zero q h g = ap (λ (x : Ref). x ∷ qs) (sym g)
drop-more (p ∷ qs) (suc j) q h g = drop-more qs j q (omega (arith, h)) g

drop-all : (rs : List Ref) (k : ℕ) → k ≡ length rs → drop k rs ≡ []
drop-all [] zero e = refl
drop-all [] (suc k) e = refl
drop-all (r ∷ rs) zero e = absurd (omega (arith, e))
drop-all (r ∷ rs) (suc k) e = drop-all rs k (omega (arith, e))

pub pushed-more : (old now new rs : List Ref) (k : ℕ) (r : Ref) → k < length rs → r ≡ get_or rs k r → now ≡ old ++ reverse (drop (suc k) rs) → new ≡ now ++ r ∷ [] → new ≡ old ++ reverse (drop k rs)
pushed-more old now new rs k r l e is pushed =
    pushed ∙ (ap (λ (qs : List Ref). qs ++ r ∷ []) is
    ∙ (append_assoc old (reverse (drop (suc k) rs)) (r ∷ [])
    ∙ (ap (λ (qs : List Ref). old ++ qs) (sym (reverse-more r (drop (suc k) rs))) ∙ ap (λ (qs : List Ref). old ++ reverse qs) (sym (drop-more rs k r l e)))))

pub pushed-none : (old rs : List Ref) (k : ℕ) → k ≡ length rs → old ≡ old ++ reverse (drop k rs)
pushed-none old rs k e = sym (ap (λ (qs : List Ref). old ++ reverse qs) (drop-all rs k e) ∙ append-nil old)

flat-reversed : {M : Type 0} (v : StoreView M) (old rs : List Ref) (ts : List Tree) → AreItems v rs ts → flat_left v (old ++ reverse rs) ≡ joined (flat_all (flat_items (bindings v.now.state)) ts) (flat_left v old)
unfolding flat_all
flat-reversed v old [] [] h = ap (flat_left v) (append-nil old) ∙ sym (none-joined (flat_left v old))
flat-reversed v old [] (t ∷ ts) h = absurd h
flat-reversed v old (r ∷ rs) [] h = absurd h
flat-reversed v old (r ∷ rs) (t ∷ ts) h =
    let f : Tree → Flat = flat_items (bindings v.now.state) in
    ap (flat_left v) (ap (λ (qs : List Ref). old ++ qs) (reverse-more r rs) ∙ sym (append_assoc old (reverse rs) (r ∷ [])))
    ∙ (flat-last v (old ++ reverse rs) r
    ∙ (ap (joined (flat_at v r)) (flat-reversed v old rs ts h.1)
    ∙ (ap (λ (u : Tree). joined (f u) (joined (flat_all f ts) (flat_left v old))) (term_is v r t h.0) ∙ sym (joined-assoc (f t) (flat_all f ts) (flat_left v old)))))

given-reversed : {M : Type 0} (v : StoreView M) (old rs : List Ref) (ts : List Tree) → AreItems v rs ts → AreGiven v old → AreGiven v (old ++ reverse rs)
given-reversed v old [] [] h gs = subst (AreGiven v) (sym (append-nil old)) gs
given-reversed v old [] (t ∷ ts) h gs = absurd h
given-reversed v old (r ∷ rs) [] h gs = absurd h
given-reversed v old (r ∷ rs) (t ∷ ts) h gs =
    subst (AreGiven v) (sym (ap (λ (qs : List Ref). old ++ qs) (reverse-more r rs) ∙ sym (append_assoc old (reverse rs) (r ∷ []))))
    (given-last v (old ++ reverse rs) r (given-reversed v old rs ts h.1 gs) (term_given v r t h.0))

are-found : (o : Option (List Tree)) (ball : Tree) (ts : List Tree) → found_or o ball (λ us. Ok us) ≡ Ok ts → o ≡ Some ts
are-found None ball ts e = absurd cc
are-found (Some us) ball ts e = cc

pub left-all : {M : Type 0} (v : StoreView M) (at : Ref) (old new rs lent : List Ref) (ts : List Tree) → collection_then v.now.state (term_of v at) (λ us. Ok us) ≡ Ok ts → AreItems v rs ts → lent ≡ rs → AreGiven v old → new ≡ old ++ reverse lent → AreLeft v at old new
left-all v at old new rs lent ts found are same gs pushed =
    let whole : new ≡ old ++ reverse rs = pushed ∙ ap (λ (qs : List Ref). old ++ reverse qs) same in
    record {
      items = ts;
      are = are-found (collection_items (bindings v.now.state) (term_of v at)) _ ts found;
      given = subst (AreGiven v) (sym whole) (given-reversed v old rs ts are gs);
      flat = ap (flat_left v) whole ∙ flat-reversed v old rs ts are;
    }

-- ---- a step

pub same-type_error : (kind : List ℕ) (s : State) (t u : Tree) → value (bindings s) t ≡ value (bindings s) u → type_error kind t s ≡ type_error kind u s
unfolding type_error
same-type_error kind s t u e = ap (λ (x : Tree). raised_of x (comp (codes "type_error") (tree (atom kind) (tree (copy 0 x) no_trees)))) e

one-more : {M : Type 0} (v : StoreView M) (rs : List Ref) (xs : List Item) (r : Ref) (x : Item) → AreRefsOf v rs xs → IsTerm v r (item_term x) → AreRefsOf v (rs ++ r ∷ []) (xs ++ x ∷ [])
one-more v [] [] r x h is = (is, tt)
one-more v [] (y ∷ xs) r x h is = absurd h
one-more v (q ∷ rs) [] r x h is = absurd h
one-more v (q ∷ rs) (y ∷ xs) r x h is = (h.0, one-more v rs xs r x h.1 is)

pub leaf-step : {M : Type 0} (v : StoreView M) (at : Ref) (found left new : List Ref) → IsLeaf (bindings v.now.state) (term_of v at) → IsGiven v at → AreGiven v left → new ≡ found ++ at ∷ [] → ShowsStep v at found left new left (Ok tt)
leaf-step v at found left new leaf given gs pushed whole items are e =
    let x : Item = leaf.item in
    let is : IsTerm v at (item_term x) = subst (IsTerm v at) (sym leaf.is) (given_term v at given) in
    record {
      items = items ++ x ∷ [];
      are = subst (λ (rs : List Ref). AreRefsOf v rs (items ++ x ∷ [])) (sym pushed) (one-more v found items at x are is);
      given = gs;
      goes = e ∙ (ap (λ (y : Flat). joined (flat items) (joined y (flat_left v left))) leaf.flat ∙ sym (joined-assoc (flat items) (flat (x ∷ [])) (flat_left v left)));
    }

pub whole-step : {M : Type 0} (v : StoreView M) (at : Ref) (found left next : List Ref) (result : Result (Unit {0}) Stop) (u : Tree) → IsAcyclic (bindings v.now.state) → IsWhole u → followed (bindings v.now.state) (term_of v at) ≡ u → IsGiven v at →
    ShowsLeft v at left next result → ShowsStep v at found left found next result
whole-step v at found left next (Ok done) u a w root given l = λ whole items are e.
    let b : Bindings = bindings v.now.state in
    record {
      items = items;
      are = are;
      given = l.given;
      goes =
          e
          ∙ ap (joined (flat items)) (ap (λ (y : Flat). joined y (flat_left v left)) (flat-whole b (term_of v at) u a w root ∙ ap (flat_parts (flat_items b) u) l.are) ∙ sym l.flat);
    }
whole-step v at found left next (Err (Stop.Raised fault)) u a w root given (none, is) =
    let b : Bindings = bindings v.now.state in
    let t : Tree = term_of v at in (
      u,
      flat-whole b t u a w root ∙ ap (flat_parts (flat_items b) u) none,
      subst (λ (f : Fault). IsBall v f (type_error (codes "integer") u v.now.state)) (sym is) (t, given_term v at given, same-type_error (codes "integer") v.now.state u t (sym (value_at_root b t u a root))),
    )
whole-step v at found left next (Err Stop.Memory) u a w root given l = tt

-- a root that a store shows
pub shown-root : {M : Type 0} (v : StoreView M) (at : Ref) (cell : Cell) → ((t : Tree) → IsTerm v at t → IsAcyclic (bindings v.now.state) → ShowsCell v (followed (bindings v.now.state) t) cell) → IsAcyclic (bindings v.now.state) → IsGiven v at →
    ShowsCell v (followed (bindings v.now.state) (term_of v at)) cell
shown-root v at cell shows a given = shows (term_of v at) (given_term v at given) a

-- ---- the whole walk

pub walk-none : {M : Type 0} (v : StoreView M) (term : Ref) (t : Tree) (found empty left : List Ref) → found ≡ [] → empty ≡ [] → left ≡ empty ++ term ∷ [] → IsTerm v term t → IsFlattened v found left (flat_items (bindings v.now.state) t)
unfolding flat_left AreGiven
walk-none v term t found empty left none nothing pushed is =
    let one : left ≡ term ∷ [] = pushed ∙ ap (λ (qs : List Ref). qs ++ term ∷ []) nothing in
    record {
      items = [];
      are = subst (λ (rs : List Ref). AreRefsOf v rs []) (sym none) tt;
      given = subst (AreGiven v) (sym one) (term_given v term t is, tt);
      goes =
          ap (flat_items (bindings v.now.state)) (sym (term_is v term t is))
          ∙ (sym (none-joined (flat_at v term)) ∙ (sym (none-joined (joined (flat []) (flat_at v term))) ∙ ap (λ (rs : List Ref). joined (flat []) (flat_left v rs)) (sym one)));
    }

empty-list : (rs : List Ref) → length rs ≡ 0 → rs ≡ []
empty-list [] e = refl
empty-list (r ∷ rs) e = absurd (omega (arith, e))

pub walk-ends : {M : Type 0} (v : StoreView M) (found left : List Ref) (whole : Flat) → IsFlattened v found left whole → length left ≡ 0 → (xs : List Item) × (whole ≡ flat xs) × AreRefsOf v found xs
unfolding flat_left
walk-ends v found left whole h none = (h.items, h.goes ∙ (ap (λ (rs : List Ref). joined (flat h.items) (flat_left v rs)) (empty-list left none) ∙ joined-none (flat h.items)), h.are)

pub walk-more : {M : Type 0} (v : StoreView M) (at : Ref) (found left older now next : List Ref) (whole : Flat) → IsFlattened v found left whole → left ≡ older ++ at ∷ [] → (IsGiven v at → AreGiven v older → ShowsStep v at found older now next (Ok tt)) →
    IsFlattened v now next whole
walk-more v at found left older now next whole h last steps =
    let before = given-before v older at (subst (AreGiven v) last h.given) in
    steps before.1 before.0 whole h.items h.are (h.goes ∙ ap (joined (flat h.items)) (ap (flat_left v) last ∙ flat-last v older at))

pub walk-stops : {M : Type 0} (v : StoreView M) (at : Ref) (found left older now next : List Ref) (whole : Flat) (stop : Stop) (result : Result (Vec Ref Global) Stop) → IsErrAnd result (λ e. e ≡ stop) → IsFlattened v found left whole → left ≡ older ++ at ∷ [] →
    (IsGiven v at → AreGiven v older → ShowsStep v at found older now next (Err stop)) → ShowsFlat v result whole
walk-stops v at found left older now next whole stop (Ok x) is h last steps = absurd is
walk-stops v at found left older now next whole (Stop.Raised fault) (Err other) is h last steps =
    let before = given-before v older at (subst (AreGiven v) last h.given) in
    let refused = steps before.1 before.0 in
    subst (λ (e : Stop). ShowsFlat v (Err e) whole) (sym is) (
      refused.0,
      h.goes ∙ (ap (joined (flat h.items)) (ap (flat_left v) last ∙ flat-last v older at) ∙ ap (λ (x : Flat). joined (flat h.items) (joined x (flat_left v older))) refused.1),
      refused.2,
    )
walk-stops v at found left older now next whole Stop.Memory (Err other) is h last steps = subst (λ (e : Stop). ShowsFlat v (Err e) whole) (sym is) tt
