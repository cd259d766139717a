-- Where a labelling begins: each item of a call comes to an integer or to an unbound variable that was made, and, once the variables are confined, that has a domain.
use Rattle.std.specs.Prelude.{◌≡◌, ◌⊎◌, ℕ, zero, suc, ◌<◌, ℤ, nat_lt, Bool, true, false, cond, List, [], ◌∷◌, map, Option, Some, None, option_map, option_and_then, Contains, ⊤, refl}
use Rattle.std.specs.Option.{option_or}
use Rattle.std.specs.Str.{bytes_eq}
use Rattle.std.proofs.Common.{arith, ◌∙◌, ap, subst, inl, inr}
use Rattle.std.proofs.lemmas.List.Elements.{Contains-append_cases}
use Rattle.pi_terms.specs.Tree.{Tree, var, int, atom, comp, Trees, no_trees, tree, cells, most_cells}
use Rattle.pi_terms.specs.Variables.{Occurs, OccursInAny}
use Rattle.pi_terms.specs.ListNames.{nil, cell_name}
use Rattle.pi_terms.specs.Places.{held}
use Rattle.pi_constraints.specs.declared.constraint.Item.{Item}
use Rattle.pi_constraints.specs.Value.{value}
use Rattle.pi_constraints.specs.State.{State, next, bindings, followed, SpeaksBelow, IsState}
use Rattle.pi_constraints.proofs.FollowLemmas.{followed_below, followed_unbound}
use Rattle.pi_constraints.proofs.StateLemmas.{bound_below}
use Rattle.pi_effects.specs.Items.{each_tree, is_nil, array_parts, cell_parts, in_front_of, items_for, list_items, collection_items}
use Rattle.pi_settling.specs.Roots.{root_item, item_of}
use Rattle.pi_settling.specs.Options.{Options, ReadOptions, options, bad_option, read_options}
use Rattle.pi_settling.specs.Confined.{confined_at, confined}
use Rattle.pi_settling.specs.Asked.{Flat, flat, no_item, joined, flat_all, flat_parts, flat_variable, flat_for, flat_items, Asked, labels, raises, with_items, with_options, with_words, asked}
use Rattle.pi_settling.proofs.ConfinedLemmas.{confining_binds_nothing, confined_have_domains, root-same}
use Rattle.pi_label_laws.proofs.PickLemmas.{AreOut}

-- an item comes to an unbound variable that was made, or to an integer
abbrev pub IsGood : State → Item → Type 0
IsGood s x = ((v : ℕ) × (root_item s x ≡ Item.Var v) × (v < next s) × (held (bindings s) v ≡ None)) ⊎ ((i : ℤ) × (root_item s x ≡ Item.Int i))

abbrev FlatGood : State → Flat → Type 0
FlatGood s (flat xs) = (x : Item) → Contains xs x → IsGood s x
FlatGood s (no_item t) = ⊤

-- ---- the items of lists and arrays are parts of them

unfoldable pub EachBelow : ℕ → List Tree → Type 0
EachBelow n [] = ⊤
EachBelow n (t ∷ ts) = SpeaksBelow n t × EachBelow n ts

abbrev pub SomeBelow : ℕ → Option (List Tree) → Type 0
SomeBelow n None = ⊤
SomeBelow n (Some ts) = EachBelow n ts

each-below : (n : ℕ) (ts : Trees) → ((m : ℕ) → OccursInAny m ts → m < n) → EachBelow n (each_tree ts)
unfolding EachBelow each_tree Occurs
each-below n no_trees h = tt
each-below n (tree t ts) h = ((λ m o. h m (inl o)), each-below n ts (λ m o. h m (inr o)))

front-below : (n : ℕ) (t : Tree) (o : Option (List Tree)) → SpeaksBelow n t → SomeBelow n o → SomeBelow n (option_map (λ ts. t ∷ ts) o)
unfolding EachBelow
front-below n t None s r = tt
front-below n t (Some ts) s r = (s, r)

empty-below : (n : ℕ) (b : Bool) → SomeBelow n (option_or (cond b (Some []) None) None)
unfolding EachBelow
empty-below n true = tt
empty-below n false = tt

cell-below : (n : ℕ) (b : Bool) (items : Tree → Option (List Tree)) (t u : Tree) → SomeBelow n (option_map (λ ts. t ∷ ts) (items u)) → SomeBelow n (option_or None (option_and_then (in_front_of items) (cond b (Some (t, u)) None)))
cell-below n true items t u h = h
cell-below n false items t u h = tt

root-below : (n : ℕ) (items : Tree → Option (List Tree)) (t : Tree) → ((u : Tree) → SpeaksBelow n u → SomeBelow n (items u)) → SpeaksBelow n t →
    SomeBelow n (option_or (cond (is_nil t) (Some []) None) (option_and_then (in_front_of items) (cell_parts t)))
unfolding Occurs
root-below n items (var m) rest h = tt
root-below n items (int i) rest h = tt
root-below n items (atom name) rest h = empty-below n (bytes_eq name nil)
root-below n items (comp name no_trees) rest h = tt
root-below n items (comp name (tree t no_trees)) rest h = tt
root-below n items (comp name (tree t (tree u no_trees))) rest h = cell-below n (bytes_eq name cell_name) items t u (front-below n t (items u) (λ m o. h m (inl o)) (rest u (λ m o. h m (inr (inl o)))))
root-below n items (comp name (tree t (tree u (tree w ts)))) rest h = tt

-- what a term is followed to
pub below-followed : (s : State) (t : Tree) → IsState s → SpeaksBelow (next s) t → SpeaksBelow (next s) (followed (bindings s) t)
below-followed s t is h = followed_below (next s) (bindings s) t (λ n u e. bound_below s n u is e) h

pub list-below : (s : State) (k : ℕ) (t : Tree) → IsState s → SpeaksBelow (next s) t → SomeBelow (next s) (items_for k (bindings s) t)
unfolding items_for
list-below s zero t is h = tt
list-below s (suc k) t is h = root-below (next s) (items_for k (bindings s)) (followed (bindings s) t) (λ u below. list-below s k u is below) (below-followed s t is h)

array-below : (n : ℕ) (b : Bool) (ts : Trees) (o : Option (List Tree)) → ((m : ℕ) → OccursInAny m ts → m < n) → SomeBelow n o → SomeBelow n (option_or (cond b (Some (each_tree ts)) None) o)
array-below n true ts o h r = each-below n ts h
array-below n false ts o h r = r

either-below : (n : ℕ) (t : Tree) (o : Option (List Tree)) → SpeaksBelow n t → SomeBelow n o → SomeBelow n (option_or (array_parts t) o)
unfolding Occurs
either-below n (var m) o h r = r
either-below n (int i) o h r = r
either-below n (atom name) o h r = r
either-below n (comp name ts) o h r = array-below n _ ts o h r

collection-below : (s : State) (t : Tree) → IsState s → SpeaksBelow (next s) t → SomeBelow (next s) (collection_items (bindings s) t)
unfolding list_items
collection-below s t is h = either-below (next s) (followed (bindings s) t) (list_items (bindings s) t) (below-followed s t is h) (list-below s (cells (value (bindings s) t)) t is h)

-- ---- the items of the variables

joined-good : (s : State) (f g : Flat) → FlatGood s f → FlatGood s g → FlatGood s (joined f g)
joined-good s (flat xs) (flat ys) h k = λ x at. elim (Contains-append_cases xs ys x at) [ inl here ↦ h x here | inr there ↦ k x there ]
joined-good s (flat xs) (no_item t) h k = tt
joined-good s (no_item t) g h k = tt

all-good : (s : State) (f : Tree → Flat) (ts : List Tree) → ((t : Tree) → SpeaksBelow (next s) t → FlatGood s (f t)) → EachBelow (next s) ts → FlatGood s (flat_all f ts)
unfolding flat_all EachBelow
all-good s f [] each h = λ x at. absurd (let l = at.1 in omega arith)
all-good s f (t ∷ ts) each h = joined-good s (f t) (flat_all f ts) (each t h.0) (all-good s f ts each h.1)

parts-good : (s : State) (f : Tree → Flat) (t : Tree) (o : Option (List Tree)) → ((t : Tree) → SpeaksBelow (next s) t → FlatGood s (f t)) → SomeBelow (next s) o → FlatGood s (flat_parts f t o)
parts-good s f t None each h = tt
parts-good s f t (Some ts) each h = all-good s f ts each h

one-good : (s : State) (y : Item) → IsGood s y → FlatGood s (flat (y ∷ []))
one-good s y h x (zero, l, e) = subst (IsGood s) e h
one-good s y h x (suc k, l, e) = absurd (omega arith)

variable-good : (s : State) (f : Tree → Flat) (n : ℕ) (u : Tree) → IsState s → ((t : Tree) → SpeaksBelow (next s) t → FlatGood s (f t)) → followed (bindings s) (var n) ≡ u → SpeaksBelow (next s) u →
    FlatGood s (flat_variable f (bindings s) n u)
unfolding Occurs
variable-good s f n (var m) is each e h = one-good s (Item.Var n) (inl (m, ap (item_of n) e, h m refl, followed_unbound (bindings s) (var n) m is.acyclic e))
variable-good s f n (int i) is each e h = one-good s (Item.Var n) (inr (i, ap (item_of n) e))
variable-good s f n (atom name) is each e h = parts-good s f (atom name) (collection_items (bindings s) (atom name)) each (collection-below s (atom name) is h)
variable-good s f n (comp name ts) is each e h = parts-good s f (comp name ts) (collection_items (bindings s) (comp name ts)) each (collection-below s (comp name ts) is h)

flat-good : (s : State) (k : ℕ) (t : Tree) → IsState s → SpeaksBelow (next s) t → FlatGood s (flat_for k (bindings s) t)
unfolding flat_for
flat-good s zero t is h = tt
flat-good s (suc k) (var n) is h =
    variable-good s (flat_for k (bindings s)) n (followed (bindings s) (var n)) is (λ t below. flat-good s k t is below) refl (below-followed s (var n) is h)
flat-good s (suc k) (int i) is h = one-good s (Item.Int i) (inr (i, refl))
flat-good s (suc k) (atom name) is h =
    parts-good s (flat_for k (bindings s)) (atom name) (collection_items (bindings s) (atom name)) (λ t below. flat-good s k t is below) (collection-below s (atom name) is h)
flat-good s (suc k) (comp name ts) is h =
    parts-good s (flat_for k (bindings s)) (comp name ts) (collection_items (bindings s) (comp name ts)) (λ t below. flat-good s k t is below) (collection-below s (comp name ts) is h)

-- ---- the call

items_or : List Item → Asked → List Item
items_or xs (labels o ys) = ys
items_or xs (raises t) = xs

of-items : (s : State) (o : Options) (f : Flat) (q : Options) (items : List Item) → with_items s o f ≡ labels q items → f ≡ flat items
unfolding items_or
of-items s o (flat xs) q items e = ap (λ (a : Asked). flat (items_or xs a)) e
of-items s o (no_item t) q items e = absurd cc

of-options : (s : State) (vars : Tree) (r : ReadOptions) (q : Options) (items : List Item) → with_options s vars r ≡ labels q items → flat_items (bindings s) vars ≡ flat items
of-options s vars (options o) q items e = of-items s o (flat_items (bindings s) vars) q items e
of-options s vars (bad_option t) q items e = absurd cc

of-words : (s : State) (words vars : Tree) (o : Option (List Tree)) (q : Options) (items : List Item) → with_words s words vars o ≡ labels q items → flat_items (bindings s) vars ≡ flat items
of-words s words vars None q items e = absurd cc
of-words s words vars (Some ts) q items e = of-options s vars (read_options (map (followed (bindings s)) ts)) q items e

of-size : (s : State) (words vars t : Tree) (b : Bool) (q : Options) (items : List Item) → cond b (raises t) (with_words s words vars (list_items (bindings s) words)) ≡ labels q items → flat_items (bindings s) vars ≡ flat items
of-size s words vars t true q items e = absurd cc
of-size s words vars t false q items e = of-words s words vars (list_items (bindings s) words) q items e

pub asked-good : (s : State) (words vars : Tree) (q : Options) (items : List Item) → IsState s → SpeaksBelow (next s) vars → asked s words vars ≡ labels q items → (x : Item) → Contains items x → IsGood s x
asked-good s words vars q items is h e =
    let same : flat_items (bindings s) vars ≡ flat items = of-size s words vars _ (nat_lt most_cells (cells (value (bindings s) words))) q items e in
    subst (FlatGood s) same (flat-good s (cells (value (bindings s) vars)) vars is h)

-- ---- confined

pub good-out : (s : State) (items : List Item) → ((x : Item) → Contains items x → IsGood s x) → AreOut (confined s items) items
good-out s items good x at = elim (good x at) [
  | inl (v, e, made, none) ↦ inl (v, root-same s (confined s items) (confining_binds_nothing s items) x ∙ e, confined_have_domains s items x v at e made none)
  | inr (i, e) ↦ inr (i, root-same s (confined s items) (confining_binds_nothing s items) x ∙ e)
]

-- where all items come to integers nothing changes
pub integers-stay : (items : List Item) (s : State) → ((x : Item) → Contains items x → (i : ℤ) × (root_item s x ≡ Item.Int i)) → confined s items ≡ s
unfolding confined
integers-stay [] s told = refl
integers-stay (x ∷ items) s told =
    let first = told x (0, omega arith, refl) in
    let same : confined_at s (root_item s x) ≡ s = ap (confined_at s) first.1 in
    ap (λ (q : State). confined q items) same ∙ integers-stay items s (λ y at. told y (suc at.0, omega (arith, at.1), at.2))
