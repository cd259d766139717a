-- Terms that are made of terms, and parts and items that are taken out of them: where the whole speaks of variables below a number, so do the parts, and the
-- other way round.
use Rattle.std.proofs.Common.{ℕ, ℤ, zero, suc, ◌+◌, ◌*◌, ◌≤◌, Bool, true, false, cond, List, [], ◌∷◌, map, arith}
use Rattle.std.specs.Prelude.{Option, Some, None, option_and_then, option_map, slice_get, filter, zip, pos, negsuc, IsPermutation, ⊤}
use Rattle.std.specs.List.{AllByRecursion, fold, reduce, last_or}
use Rattle.std.specs.Option.{option_or}
use Rattle.std.specs.Str.{bytes_eq}
use Rattle.std.proofs.lemmas.List.Elements.{All-filter, All-from_recursion, recursion_from_All}
use Rattle.std.proofs.lemmas.List.Sorted.{All-permutation}
use Rattle.pi_terms.specs.Tree.{Tree, var, int, atom, comp, Trees, no_trees, tree, trees_of}
use Rattle.pi_terms.specs.ListNames.{nil, cell_name}
use Rattle.pi_terms.specs.ListCopies.{list_cell}
use Rattle.pi_constraints.specs.Value.{Bindings}
use Rattle.pi_constraints.specs.State.{SpeaksBelow, followed}
use Rattle.pi_effects.specs.Items.{each_tree, list_onto, list_of, array_of, is_nil, cell_parts, array_parts, structure_parts, in_front_of, items_of_root, items_for, list_items, collection_items, indexed_items}
use Rattle.pi_effects.specs.Collections.{pair}
use Rattle.pi_effects.specs.Indexing.{item_at}
use Rattle.pi_effects.specs.Ranges.{values_by}
use Rattle.pi_effects.specs.Making.{new_from, new_rows}
use Rattle.pi_effects.specs.Naming.{name_at, arity_at}
use Rattle.pi_constraints.proofs.KeepsLemmas.{TreesBelow, BindingsBelow, speaks-more, var-below, no-trees-below, trees-below, first-below, rest-below, comp-below, args-below, int-below, atom-below}
use Rattle.pi_constraints.proofs.FollowLemmas.{followed_below}

-- items that speak of variables below n alone
abbrev pub ItemsBelow : ℕ → List Tree → Type 0
ItemsBelow n ts = AllByRecursion (SpeaksBelow n) ts

-- a term, a pair of terms or items, where there are such
abbrev pub SomeBelow : ℕ → Option Tree → Type 0
SomeBelow n None = ⊤
SomeBelow n (Some t) = SpeaksBelow n t

abbrev pub PairBelow : ℕ → Tree × Tree → Type 0
PairBelow n p = SpeaksBelow n p.0 × SpeaksBelow n p.1

abbrev pub SomePairBelow : ℕ → Option (Tree × Tree) → Type 0
SomePairBelow n None = ⊤
SomePairBelow n (Some p) = PairBelow n p

abbrev pub SomeItemsBelow : ℕ → Option (List Tree) → Type 0
SomeItemsBelow n None = ⊤
SomeItemsBelow n (Some ts) = ItemsBelow n ts

pub items-more : (m n : ℕ) (ts : List Tree) → m ≤ n → ItemsBelow m ts → ItemsBelow n ts
items-more m n [] h below = tt
items-more m n (t ∷ ts) h below = (speaks-more m n t h below.0, items-more m n ts h below.1)

pub chosen-below : (n : ℕ) (c : Bool) (t u : Tree) → SpeaksBelow n t → SpeaksBelow n u → SpeaksBelow n (cond c t u)
chosen-below n true t u a b = a
chosen-below n false t u a b = b

-- ---- terms that are made

pub arguments-below : (n : ℕ) (ts : List Tree) → ItemsBelow n ts → TreesBelow n (trees_of ts)
arguments-below n [] all = no-trees-below n
arguments-below n (t ∷ ts) all = trees-below n t (trees_of ts) all.0 (arguments-below n ts all.1)

pub array-below : (n : ℕ) (ts : List Tree) → ItemsBelow n ts → SpeaksBelow n (array_of ts)
array-below n ts all = comp-below n _ (trees_of ts) (arguments-below n ts all)

cell-below : (n : ℕ) (t rest : Tree) → SpeaksBelow n t → SpeaksBelow n rest → SpeaksBelow n (list_cell t rest)
cell-below n t rest a b = comp-below n cell_name (tree t (tree rest no_trees)) (trees-below n t (tree rest no_trees) a (trees-below n rest no_trees b (no-trees-below n)))

pub onto-below : (n : ℕ) (ts : List Tree) (rest : Tree) → ItemsBelow n ts → SpeaksBelow n rest → SpeaksBelow n (list_onto ts rest)
unfolding list_onto
onto-below n [] rest all behind = behind
onto-below n (t ∷ ts) rest all behind = cell-below n t (list_onto ts rest) all.0 (onto-below n ts rest all.1 behind)

pub list-below : (n : ℕ) (ts : List Tree) → ItemsBelow n ts → SpeaksBelow n (list_of ts)
list-below n ts all = onto-below n ts (atom nil) all (atom-below n nil)

-- ---- parts of a term at its root

pub each-below : (n : ℕ) (ts : Trees) → TreesBelow n ts → ItemsBelow n (each_tree ts)
unfolding each_tree
each-below n no_trees all = tt
each-below n (tree t ts) all = (first-below n t ts all, each-below n ts (rest-below n t ts all))

two-below : (n : ℕ) (t u : Tree) → TreesBelow n (tree t (tree u no_trees)) → PairBelow n (t, u)
two-below n t u all = (first-below n t (tree u no_trees) all, first-below n u no_trees (rest-below n t (tree u no_trees) all))

pair-where : (n : ℕ) (c : Bool) (p : Tree × Tree) → PairBelow n p → SomePairBelow n (cond c (Some p) None)
pair-where n true p both = both
pair-where n false p both = tt

pub parts-below : (n : ℕ) (t : Tree) → SpeaksBelow n t → SomePairBelow n (cell_parts t)
parts-below n (var m) below = tt
parts-below n (int i) below = tt
parts-below n (atom name) below = tt
parts-below n (comp name no_trees) below = tt
parts-below n (comp name (tree t no_trees)) below = tt
parts-below n (comp name (tree t (tree u no_trees))) below = pair-where n (bytes_eq name cell_name) (t, u) (two-below n t u (args-below n name (tree t (tree u no_trees)) below))
parts-below n (comp name (tree t (tree u (tree w ws)))) below = tt

items-where : (n : ℕ) (c : Bool) (ts : List Tree) → ItemsBelow n ts → SomeItemsBelow n (cond c (Some ts) None)
items-where n true ts all = all
items-where n false ts all = tt

items-unless : (n : ℕ) (c : Bool) (ts : List Tree) → ItemsBelow n ts → SomeItemsBelow n (cond c None (Some ts))
items-unless n true ts all = tt
items-unless n false ts all = all

array-parts-below : (n : ℕ) (t : Tree) → SpeaksBelow n t → SomeItemsBelow n (array_parts t)
array-parts-below n (var m) below = tt
array-parts-below n (int i) below = tt
array-parts-below n (atom name) below = tt
array-parts-below n (comp name ts) below = items-where n _ (each_tree ts) (each-below n ts (args-below n name ts below))

structure-parts-below : (n : ℕ) (t : Tree) → SpeaksBelow n t → SomeItemsBelow n (structure_parts t)
structure-parts-below n (var m) below = tt
structure-parts-below n (int i) below = tt
structure-parts-below n (atom name) below = tt
structure-parts-below n (comp name no_trees) below = each-below n no_trees (args-below n name no_trees below)
structure-parts-below n (comp name (tree t no_trees)) below = each-below n (tree t no_trees) (args-below n name (tree t no_trees) below)
structure-parts-below n (comp name (tree t (tree u no_trees))) below =
    let both : PairBelow n (t, u) = two-below n t u (args-below n name (tree t (tree u no_trees)) below) in
    items-unless n (bytes_eq name cell_name) (t ∷ u ∷ []) (both.0, (both.1, tt))
structure-parts-below n (comp name (tree t (tree u (tree w ws)))) below =
    each-below n (tree t (tree u (tree w ws))) (args-below n name (tree t (tree u (tree w ws))) below)

pub name-below : (n : ℕ) (t : Tree) → SomeBelow n (name_at t)
name-below n (var m) = tt
name-below n (int i) = tt
name-below n (atom name) = atom-below n name
name-below n (comp name ts) = atom-below n name

pub arity-below : (n : ℕ) (t : Tree) → SomeBelow n (arity_at t)
arity-below n (var m) = tt
arity-below n (int i) = tt
arity-below n (atom name) = int-below n _
arity-below n (comp name ts) = int-below n _

-- ---- items in a state

either-below : (n : ℕ) (o p : Option (List Tree)) → SomeItemsBelow n o → SomeItemsBelow n p → SomeItemsBelow n (option_or o p)
either-below n None p a b = b
either-below n (Some ts) p a b = a

-- `items` gives those of the rest
in-front-below : (n : ℕ) (t : Tree) (o : Option (List Tree)) → SpeaksBelow n t → SomeItemsBelow n o → SomeItemsBelow n (option_map (λ ts. t ∷ ts) o)
in-front-below n t None a b = tt
in-front-below n t (Some ts) a b = (a, b)

behind-below : (n : ℕ) (items : Tree → Option (List Tree)) → ((t : Tree) → SpeaksBelow n t → SomeItemsBelow n (items t)) → (o : Option (Tree × Tree)) → SomePairBelow n o →
    SomeItemsBelow n (option_and_then (in_front_of items) o)
behind-below n items all None both = tt
behind-below n items all (Some p) both = in-front-below n p.0 (items p.1) both.0 (all p.1 both.1)

root-below : (n : ℕ) (items : Tree → Option (List Tree)) → ((t : Tree) → SpeaksBelow n t → SomeItemsBelow n (items t)) → (t : Tree) → SpeaksBelow n t →
    SomeItemsBelow n (items_of_root items t)
root-below n items all t below =
    either-below n (cond (is_nil t) (Some []) None) (option_and_then (in_front_of items) (cell_parts t)) (items-where n (is_nil t) [] tt)
    (behind-below n items all (cell_parts t) (parts-below n t below))

items-for-below : (n : ℕ) (b : Bindings) → BindingsBelow n b → (k : ℕ) (t : Tree) → SpeaksBelow n t → SomeItemsBelow n (items_for k b t)
unfolding items_for
items-for-below n b all zero t below = tt
items-for-below n b all (suc k) t below = root-below n (items_for k b) (items-for-below n b all k) (followed b t) (followed_below n b t all below)

pub list-items-below : (n : ℕ) (b : Bindings) → BindingsBelow n b → (t : Tree) → SpeaksBelow n t → SomeItemsBelow n (list_items b t)
unfolding list_items
list-items-below n b all t below = items-for-below n b all _ t below

pub collection-items-below : (n : ℕ) (b : Bindings) → BindingsBelow n b → (t : Tree) → SpeaksBelow n t → SomeItemsBelow n (collection_items b t)
collection-items-below n b all t below =
    either-below n (array_parts (followed b t)) (list_items b t) (array-parts-below n (followed b t) (followed_below n b t all below)) (list-items-below n b all t below)

pub indexed-items-below : (n : ℕ) (b : Bindings) → BindingsBelow n b → (t : Tree) → SpeaksBelow n t → SomeItemsBelow n (indexed_items b t)
indexed-items-below n b all t below =
    either-below n (structure_parts (followed b t)) (list_items b t) (structure-parts-below n (followed b t) (followed_below n b t all below)) (list-items-below n b all t below)

-- ---- lists of items

pub permuted-below : (n : ℕ) (ts us : List Tree) → IsPermutation ts us → ItemsBelow n ts → ItemsBelow n us
permuted-below n ts us same all =
    recursion_from_All (SpeaksBelow n) us (All-permutation (SpeaksBelow n) ts us same (All-from_recursion (SpeaksBelow n) ts all))

pub filtered-below : (n : ℕ) (test : Tree → Bool) (ts : List Tree) → ItemsBelow n ts → ItemsBelow n (filter test ts)
filtered-below n test ts all =
    recursion_from_All (SpeaksBelow n) (filter test ts) (All-filter test (SpeaksBelow n) ts (All-from_recursion (SpeaksBelow n) ts all))

pub mapped-below : {A : Type 0} (n : ℕ) (f : A → Tree) → ((x : A) → SpeaksBelow n (f x)) → (xs : List A) → ItemsBelow n (map f xs)
mapped-below n f each [] = tt
mapped-below n f each (x ∷ xs) = (each x, mapped-below n f each xs)

pub pairs-below : (n : ℕ) (ts us : List Tree) → ItemsBelow n ts → ItemsBelow n us → ItemsBelow n (map pair (zip ts us))
pairs-below n [] us all others = tt
pairs-below n (t ∷ ts) [] all others = tt
pairs-below n (t ∷ ts) (u ∷ us) all others = (array-below n (t ∷ u ∷ []) (all.0, (others.0, tt)), pairs-below n ts us all.1 others.1)

pub item-below : (n : ℕ) (ts : List Tree) (i : ℕ) → ItemsBelow n ts → SomeBelow n (slice_get ts i)
item-below n [] i all = tt
item-below n (t ∷ ts) zero all = all.0
item-below n (t ∷ ts) (suc i) all = item-below n ts i all.1

pub numbered-below : (n : ℕ) (ts : List Tree) (i : ℤ) → ItemsBelow n ts → SomeBelow n (item_at ts i)
numbered-below n ts (pos zero) all = tt
numbered-below n ts (pos (suc i)) all = item-below n ts i all
numbered-below n ts (negsuc i) all = tt

pub last-below : (n : ℕ) (o : Option Tree) (ts : List Tree) → SomeBelow n o → ItemsBelow n ts → SomeBelow n (last_or o ts)
last-below n o [] before all = before
last-below n o (t ∷ ts) before all = last-below n (Some t) ts all.0 all.1

folded-below : (n : ℕ) (f : Tree → Tree → Tree) → ((t u : Tree) → SpeaksBelow n t → SpeaksBelow n u → SpeaksBelow n (f t u)) → (t : Tree) (ts : List Tree) → SpeaksBelow n t → ItemsBelow n ts →
    SpeaksBelow n (fold f t ts)
folded-below n f each t [] first all = first
folded-below n f each t (u ∷ us) first all = folded-below n f each (f t u) us (each t u first all.0) all.1

pub reduced-below : (n : ℕ) (f : Tree → Tree → Tree) → ((t u : Tree) → SpeaksBelow n t → SpeaksBelow n u → SpeaksBelow n (f t u)) → (ts : List Tree) → ItemsBelow n ts → SomeBelow n (reduce f ts)
reduced-below n f each [] all = tt
reduced-below n f each (t ∷ ts) all = folded-below n f each t ts all.0 all.1

pub values-below : (n k : ℕ) (low step : ℤ) → ItemsBelow n (values_by k low step)
unfolding values_by
values-below n zero low step = tt
values-below n (suc k) low step = (int-below n low, values-below n k _ step)

-- ---- new variables

pub new-below : (first n : ℕ) → ItemsBelow (first + n) (new_from first n)
new-below first zero = tt
new-below first (suc n) =
    (var-below (first + suc n) first (omega arith), items-more ((first + 1) + n) (first + suc n) (new_from (first + 1) n) (omega arith) (new-below (first + 1) n))

pub rows-below : (m n first : ℕ) → ItemsBelow (first + m * n) (new_rows m n first)
unfolding new_rows
rows-below zero n first = tt
rows-below (suc m) n first =
    let row : SpeaksBelow (first + n) (array_of (new_from first n)) = array-below (first + n) (new_from first n) (new-below first n) in (
      speaks-more (first + n) (first + suc m * n) (array_of (new_from first n)) (omega arith) row,
      items-more ((first + n) + m * n) (first + suc m * n) (new_rows m n (first + n)) (omega arith) (rows-below m n (first + n)),
    )
