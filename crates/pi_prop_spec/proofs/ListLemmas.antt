-- What `all_different`, `all_distinct` and `element` post.
use Rattle.std.specs.Prelude.{◌≡◌, ⊤, ℕ, zero, suc, ◌<◌, ◌≤◌, Bool, true, false, cond, List, [], ◌∷◌, ◌++◌, length, map, get_or, ℤ, pos, Option, Some, None, IsSomeAnd, option_map, option_and_then, Ok, refl, ◌⊎◌}
use Rattle.std.specs.Option.{option_or}
use Rattle.std.specs.Str.{bytes_eq}
use Rattle.std.proofs.Common.{arith, ◌∙◌, ap, sym, subst, inl, inr}
use Rattle.pi_terms.specs.Tree.{Tree, var, int, atom, comp, Trees, no_trees, tree, cells}
use Rattle.pi_terms.specs.ListNames.{nil, cell_name}
use Rattle.pi_terms.specs.Variables.{Occurs, OccursInAny}
use Rattle.pi_syntax.specs.PrintTerm.{array_name}
use Rattle.pi_constraints.specs.declared.constraint.Item.{Item}
use Rattle.pi_constraints.specs.declared.constraint.Constraint.{Constraint}
use Rattle.pi_constraints.specs.Constraint.{HoldVariable}
use Rattle.pi_prop_spec.specs.Solutions.{value_of, values_of_items, AreDifferent, Holds}
use Rattle.pi_constraints.specs.Value.{value}
use Rattle.pi_constraints.specs.State.{SpeaksBelow, followed_for, followed}
use Rattle.pi_effects.specs.Items.{each_tree, in_front_of, items_for, list_items, collection_items}
use Rattle.pi_prop_spec.specs.Steps.{Made, Known, gives, then, posting}
use Rattle.pi_prop_spec.specs.Lists.{read_item, read_each, items_or_refused, read_collection, posts_different, posts_distinct, posts_element}
use Rattle.pi_prop_spec.specs.Says.{item_value, IsItemWith, AllHold}
use Rattle.pi_prop_spec.proofs.FormLemmas.{ItemBelow, ItemsBelow}
use Rattle.pi_prop_spec.proofs.GrowLemmas.{AreFormed, grows_posted, hold-added, after_is, is_known}
use Rattle.pi_prop_spec.proofs.RelationLemmas.{Posts}

-- ---- the items of a list or an array are parts of it

unfoldable pub AllBelow : ℕ → List Tree → Type 0
AllBelow n [] = ⊤
AllBelow n (t ∷ ts) = SpeaksBelow n t × AllBelow n ts

-- where there are items
abbrev pub SomeBelow : ℕ → Option (List Tree) → Type 0
SomeBelow n None = ⊤
SomeBelow n (Some ts) = AllBelow n ts

each_below : (n : ℕ) (ts : Trees) → ((m : ℕ) → OccursInAny m ts → m < n) → AllBelow n (each_tree ts)
unfolding AllBelow each_tree Occurs
each_below n no_trees h = tt
each_below n (tree t ts) h = ((λ m o. h m (inl o)), each_below n ts (λ m o. h m (inr o)))

front_below : (n : ℕ) (t : Tree) (o : Option (List Tree)) → SpeaksBelow n t → SomeBelow n o → SomeBelow n (option_map (λ ts. t ∷ ts) o)
unfolding AllBelow
front_below n t None s r = tt
front_below n t (Some ts) s r = (s, r)

empty_below : (n : ℕ) (b : Bool) → SomeBelow n (option_or (cond b (Some []) None) None)
unfolding AllBelow
empty_below n true = tt
empty_below n false = tt

cell_below : (n : ℕ) (b : Bool) (items : Tree → Option (List Tree)) (t u : Tree) → SomeBelow n (option_map (λ ts. t ∷ ts) (items u)) → SomeBelow n (option_or None (option_and_then (in_front_of items) (cond b (Some (t, u)) None)))
cell_below n true items t u h = h
cell_below n false items t u h = tt

list_below : (n k : ℕ) (t : Tree) → SpeaksBelow n t → SomeBelow n (items_for k [] t)
unfolding items_for followed followed_for Occurs
list_below n zero t h = tt
list_below n (suc k) (var m) h = tt
list_below n (suc k) (int i) h = tt
list_below n (suc k) (atom name) h = empty_below n (bytes_eq name nil)
list_below n (suc k) (comp name no_trees) h = tt
list_below n (suc k) (comp name (tree t no_trees)) h = tt
list_below n (suc k) (comp name (tree t (tree u no_trees))) h =
    cell_below n (bytes_eq name cell_name) (items_for k []) t u (front_below n t (items_for k [] u) (λ m o. h m (inl o)) (list_below n k u (λ m o. h m (inr (inl o)))))
list_below n (suc k) (comp name (tree t (tree u (tree v ts)))) h = tt

array_below : (n : ℕ) (b : Bool) (ts : Trees) (o : Option (List Tree)) → ((m : ℕ) → OccursInAny m ts → m < n) → SomeBelow n o → SomeBelow n (option_or (cond b (Some (each_tree ts)) None) o)
array_below n true ts o h r = each_below n ts h
array_below n false ts o h r = r

pub items_below : (n : ℕ) (t : Tree) → SpeaksBelow n t → SomeBelow n (collection_items [] t)
unfolding list_items followed followed_for Occurs
items_below n (var m) h = list_below n (cells (value [] (var m))) (var m) h
items_below n (int i) h = list_below n (cells (value [] (int i))) (int i) h
items_below n (atom name) h = list_below n (cells (value [] (atom name))) (atom name) h
items_below n (comp name ts) h = array_below n (bytes_eq name array_name) ts (list_items [] (comp name ts)) h (list_below n (cells (value [] (comp name ts))) (comp name ts) h)

-- ---- items that were read: nothing is made

record ItemRead (n : ℕ) (m : Made) (l : Known Item) (t : Tree) : Type 0 where
  same : l.made ≡ m
  below : ItemBelow n l.what
  value : (a : ℕ → ℤ) → value_of a l.what ≡ item_value a t

item-read : (n : ℕ) (t : Tree) (m : Made) (l : Known Item) → SpeaksBelow n t → read_item t m ≡ Ok l → ItemRead n m l t
unfolding Occurs
item-read n (var v) m l s e = subst (λ k. ItemRead n m k (var v)) (is_known (record { what = Item.Var v; made = m }) l e) (record { same = refl; below = λ k f. s k f; value = λ a. refl })
item-read n (int i) m l s e = subst (λ k. ItemRead n m k (int i)) (is_known (record { what = Item.Int i; made = m }) l e) (record { same = refl; below = λ k f. absurd f; value = λ a. refl })
item-read n (atom name) m l s e = absurd cc
item-read n (comp name ts) m l s e = absurd cc

record EachRead (n : ℕ) (m : Made) (l : Known (List Item)) (ts : List Tree) : Type 0 where
  same : l.made ≡ m
  below : ItemsBelow n l.what
  value : (a : ℕ → ℤ) → values_of_items a l.what ≡ map (item_value a) ts
  count : length l.what ≡ length ts

each-read : (n : ℕ) (ts : List Tree) (m : Made) (l : Known (List Item)) → AllBelow n ts → read_each ts m ≡ Ok l → EachRead n m l ts
unfolding read_each AllBelow HoldVariable
each-read n [] m l s e = subst (λ k. EachRead n m k []) (is_known (record { what = []; made = m }) l e) (record { same = refl; below = λ k f. absurd f; value = λ a. refl; count = refl })
each-read n (t ∷ ts) m l s e =
    let first = after_is (read_item t m) (λ x. then (read_each ts) (λ xs. gives (x ∷ xs))) l e in
    let second = after_is (read_each ts first.0.made) (λ xs. gives (first.0.what ∷ xs)) l first.2 in
    let x : ItemRead n m first.0 t = item-read n t m first.0 s.0 first.1 in
    let xs : EachRead n first.0.made second.0 ts = each-read n ts first.0.made second.0 s.1 second.1 in
    subst (λ k. EachRead n m k (t ∷ ts)) (is_known (record { what = first.0.what ∷ second.0.what; made = second.0.made }) l second.2) (record {
      same = xs.same ∙ x.same;
      below = λ k f. below k (x.below k) (xs.below k) f;
      value = λ a. (λ i. x.value a i ∷ xs.value a i);
      count = ap suc xs.count;
    })
  where
    below : (k : ℕ) {P Q : Type 0} → (P → k < n) → (Q → k < n) → P ⊎ Q → k < n
    below k f g (inl h) = f h
    below k f g (inr h) = g h

-- ---- the items of a list or an array

record CollectionRead (n : ℕ) (m : Made) (k : Known (List Tree)) (t : Tree) : Type 0 where
  same : k.made ≡ m
  items : collection_items [] t ≡ Some k.what
  below : AllBelow n k.what

collection-read : (n : ℕ) (t : Tree) (m : Made) (k : Known (List Tree)) → SpeaksBelow n t → read_collection t m ≡ Ok k → CollectionRead n m k t
collection-read n t m k s e = by (collection_items [] t) refl (items_below n t s) e
  where
    by : (o : Option (List Tree)) → collection_items [] t ≡ o → SomeBelow n o → items_or_refused t o m ≡ Ok k → CollectionRead n m k t
    by None f b e = absurd cc
    by (Some ts) f b e = subst (λ k. CollectionRead n m k t) (is_known (record { what = ts; made = m }) k e) (record { same = refl; items = f; below = b })

-- what is said of the items
some_and : (o : Option (List Tree)) (ts : List Tree) (P : List Tree → Type 0) → o ≡ Some ts → P ts → IsSomeAnd o P
some_and o ts P e h = subst (λ (o : Option (List Tree)). IsSomeAnd o P) (sym e) h

and_some : (o : Option (List Tree)) (ts : List Tree) (P : List Tree → Type 0) → o ≡ Some ts → IsSomeAnd o P → P ts
and_some o ts P e h = subst (λ (o : Option (List Tree)). IsSomeAnd o P) e h

-- ---- what is posted

-- one constraint over variables below n
one-posts : (n : ℕ) (m : Made) (c : Constraint) (l : Known (Unit {0})) (p : (ℕ → ℤ) → Type 0) → AreFormed m.unused (c ∷ []) → ((a : ℕ → ℤ) → p a → Holds c a) → ((a : ℕ → ℤ) → Holds c a → p a) →
    posting c (gives tt) m ≡ Ok l → Posts m l p
unfolding AreFormed AllHold
one-posts n m c l p f to from e = subst (λ k. Posts m k p) (is_known (record { what = tt; made = record { unused = m.unused; constraints = m.constraints ++ c ∷ [] } }) l e) (record {
  grows = grows_posted p m (c ∷ []) f (λ a h. (to a h, tt));
  says = λ a h. from a (hold-added m.constraints (c ∷ []) a h).0;
})

-- `all_different` and `all_distinct`
abbrev DifferentItems : Tree → (ℕ → ℤ) → Type 0
DifferentItems t a = IsSomeAnd (collection_items [] t) (λ ts. AreDifferent (map (item_value a) ts))

pub different-posts : (n : ℕ) (t : Tree) (m : Made) (l : Known (Unit {0})) → SpeaksBelow n t → n ≤ m.unused → posts_different t m ≡ Ok l → Posts m l (DifferentItems t)
unfolding AreFormed
different-posts n t m l s b e =
    let first = after_is (read_collection t m) (λ ts. then (read_each ts) (λ xs. posting (Constraint.Different xs) (gives tt))) l e in
    let ts : CollectionRead n m first.0 t = collection-read n t m first.0 s first.1 in
    let second = after_is (read_each first.0.what first.0.made) (λ xs. posting (Constraint.Different xs) (gives tt)) l first.2 in
    let xs : EachRead n first.0.made second.0 first.0.what = each-read n first.0.what first.0.made second.0 ts.below second.1 in
    let same : second.0.made ≡ m = xs.same ∙ ts.same in
    let more : n ≤ second.0.made.unused = subst (λ (w : Made). n ≤ w.unused) (sym same) b in
    subst (λ w. Posts w l (DifferentItems t)) same (one-posts n second.0.made (Constraint.Different second.0.what) l (DifferentItems t) ((λ k f. omega (arith, xs.below k f, more)), tt)
    (λ a h. subst AreDifferent (sym (xs.value a)) (and_some (collection_items [] t) first.0.what (λ ts. AreDifferent (map (item_value a) ts)) ts.items h))
    (λ a h. some_and (collection_items [] t) first.0.what (λ ts. AreDifferent (map (item_value a) ts)) ts.items (subst AreDifferent (xs.value a) h)) second.2)

pub distinct-posts : (n : ℕ) (t : Tree) (m : Made) (l : Known (Unit {0})) → SpeaksBelow n t → n ≤ m.unused → posts_distinct t m ≡ Ok l → Posts m l (DifferentItems t)
unfolding AreFormed
distinct-posts n t m l s b e =
    let first = after_is (read_collection t m) (λ ts. then (read_each ts) (λ xs. posting (Constraint.Distinct xs) (gives tt))) l e in
    let ts : CollectionRead n m first.0 t = collection-read n t m first.0 s first.1 in
    let second = after_is (read_each first.0.what first.0.made) (λ xs. posting (Constraint.Distinct xs) (gives tt)) l first.2 in
    let xs : EachRead n first.0.made second.0 first.0.what = each-read n first.0.what first.0.made second.0 ts.below second.1 in
    let same : second.0.made ≡ m = xs.same ∙ ts.same in
    let more : n ≤ second.0.made.unused = subst (λ (w : Made). n ≤ w.unused) (sym same) b in
    subst (λ w. Posts w l (DifferentItems t)) same (one-posts n second.0.made (Constraint.Distinct second.0.what) l (DifferentItems t) ((λ k f. omega (arith, xs.below k f, more)), tt)
    (λ a h. subst AreDifferent (sym (xs.value a)) (and_some (collection_items [] t) first.0.what (λ ts. AreDifferent (map (item_value a) ts)) ts.items h))
    (λ a h. some_and (collection_items [] t) first.0.what (λ ts. AreDifferent (map (item_value a) ts)) ts.items (subst AreDifferent (xs.value a) h)) second.2)

-- `element`
abbrev ElementIs : Tree → Tree → Tree → (ℕ → ℤ) → Type 0
ElementIs i l v a = IsSomeAnd (collection_items [] l) (λ ts. IsItemWith (map (item_value a) ts) (item_value a i) (item_value a v))

count_of_values : (f : Tree → ℤ) (ts : List Tree) → length (map f ts) ≡ length ts
count_of_values f [] = refl
count_of_values f (t ∷ ts) = ap suc (count_of_values f ts)

pub element-posts : (n : ℕ) (i c v : Tree) (m : Made) (l : Known (Unit {0})) → SpeaksBelow n i → SpeaksBelow n c → SpeaksBelow n v → n ≤ m.unused → posts_element i c v m ≡ Ok l → Posts m l (ElementIs i c v)
unfolding AreFormed
element-posts n i c v m l si sc sv b e =
    let first = after_is (read_item i m) (λ index. then (read_collection c) (λ ts. then (read_item v) (λ value. then (read_each ts) (λ xs. posting (Constraint.Element index xs value) (gives tt))))) l e in
    let x : ItemRead n m first.0 i = item-read n i m first.0 si first.1 in
    let second = after_is (read_collection c first.0.made) (λ ts. then (read_item v) (λ value. then (read_each ts) (λ xs. posting (Constraint.Element first.0.what xs value) (gives tt)))) l first.2 in
    let ts : CollectionRead n first.0.made second.0 c = collection-read n c first.0.made second.0 sc second.1 in
    let third = after_is (read_item v second.0.made) (λ value. then (read_each second.0.what) (λ xs. posting (Constraint.Element first.0.what xs value) (gives tt))) l second.2 in
    let y : ItemRead n second.0.made third.0 v = item-read n v second.0.made third.0 sv third.1 in
    let fourth = after_is (read_each second.0.what third.0.made) (λ xs. posting (Constraint.Element first.0.what xs third.0.what) (gives tt)) l third.2 in
    let xs : EachRead n third.0.made fourth.0 second.0.what = each-read n second.0.what third.0.made fourth.0 ts.below fourth.1 in
    let same : fourth.0.made ≡ m = xs.same ∙ (y.same ∙ (ts.same ∙ x.same)) in
    let more : n ≤ fourth.0.made.unused = subst (λ (w : Made). n ≤ w.unused) (sym same) b in
    subst (λ w. Posts w l (ElementIs i c v)) same (one-posts n fourth.0.made (Constraint.Element first.0.what fourth.0.what third.0.what) l (ElementIs i c v)
    (((λ k f. omega (arith, x.below k f, more)), (λ k f. omega (arith, xs.below k f, more)), (λ k f. omega (arith, y.below k f, more))), tt)
    (λ a h.
    let is : IsItemWith (map (item_value a) second.0.what) (item_value a i) (item_value a v) =
    and_some (collection_items [] c) second.0.what (λ ts. IsItemWith (map (item_value a) ts) (item_value a i) (item_value a v)) ts.items h in (
      is.0,
      subst (λ (w : ℕ). is.0 < w) (count_of_values (item_value a) second.0.what ∙ sym xs.count) is.1,
      x.value a ∙ is.2,
      ap (λ vs. get_or vs is.0 (pos 0)) (xs.value a) ∙ (is.3 ∙ sym (y.value a)),
    ))
    (λ a h.
    some_and (collection_items [] c) second.0.what (λ ts. IsItemWith (map (item_value a) ts) (item_value a i) (item_value a v)) ts.items (
      h.0,
      subst (λ (w : ℕ). h.0 < w) (xs.count ∙ sym (count_of_values (item_value a) second.0.what)) h.1,
      sym (x.value a) ∙ h.2,
      ap (λ vs. get_or vs h.0 (pos 0)) (sym (xs.value a)) ∙ (h.3 ∙ y.value a),
    ))
    fourth.2)
