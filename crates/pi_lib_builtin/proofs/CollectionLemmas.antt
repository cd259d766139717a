-- The items of collections: how many they are, the one in a place, all of them.
use Rattle.std.proofs.Common.{◌≡◌, ℕ, ℤ, zero, suc, ◌+◌, ◌-◌, ◌<◌, ◌≤◌, true, true≢false, List, [], ◌∷◌, ◌++◌, length, take, refl, sym, ap, ◌∙◌, subst, arith, add-one}
use Rattle.std.specs.Prelude.{Option, Some, None, Ok, slice_get, option_map, ok_or, codes}
use Rattle.std.specs.Option.{option_or}
use Rattle.std.specs.List.{last_or}
use Rattle.pi_terms.specs.Tree.{Tree, var, int, atom, comp, Trees, no_trees, tree, tree_count, tree_at, args, arity, arg_at}
use Rattle.pi_terms.specs.ListCopies.{list_cell}
use Rattle.pi_terms.proofs.TermLemmas.{TreeAt, tree_at-below}
use Rattle.pi_constraints.specs.Value.{IsAcyclic}
use Rattle.pi_constraints.specs.State.{bindings, followed}
use Rattle.pi_constraints.specs.Store.{StoreView, IsTerm}
use Rattle.pi_constraints.specs.declared.store.Ref.{Ref}
use Rattle.pi_effects.specs.Items.{each_tree, is_nil, array_parts, structure_parts, cell_parts, list_items, collection_items, indexed_items}
use Rattle.pi_effects.specs.Exception.{type_error, bad_index}
use Rattle.pi_effects.specs.Answer.{Answer, found_or, or_raised}
use Rattle.pi_effects.specs.Collections.{collection_then, list_then, cell_part}
use Rattle.pi_effects.specs.Indexing.{item_at as numbered, indexed}
use Rattle.pi_effects.specs.Answer.{integer_then}
use Rattle.pi_effects.specs.Balls.{IsBall}
use Rattle.pi_effects.specs.Results.{Stops, Shows, ShowsTerm}
use Rattle.pi_effects.specs.declared.fault.Fault.{Fault}
use Rattle.pi_effects.specs.declared.fault.Kind.{Kind}
use Rattle.pi_effects.specs.declared.fault.Stop.{Stop}
use Rattle.pi_unify.specs.Terms.{HoldsNoCycle}
use Rattle.pi_lib_builtin.specs.Items.{AreItems, HasItems, ShowsItem, ShowsPart, ShowsSize}
use Rattle.pi_lib_builtin.specs.declared.parts.Part.{Part}
use Rattle.pi_lib_builtin.specs.declared.collection.Collection.{Collection}
use Rattle.pi_lib_builtin.proofs.RowLemmas.{one-more, none-past, all-before}
use Rattle.pi_effects.proofs.FaultLemmas.{stops-whole, found-raised, found-is}

-- ---- arguments as items

length-each_tree : (ts : Trees) → length (each_tree ts) ≡ tree_count ts
unfolding each_tree tree_count
length-each_tree no_trees = refl
length-each_tree (tree t ts) = ap suc (length-each_tree ts)

get-each_tree : (ts : Trees) (i : ℕ) → slice_get (each_tree ts) i ≡ tree_at ts i
unfolding each_tree tree_at
get-each_tree no_trees i = refl
get-each_tree (tree t ts) zero = refl
get-each_tree (tree t ts) (suc i) = get-each_tree ts i

taken-more : (ts : List Tree) (i : ℕ) (t : Tree) → slice_get ts i ≡ Some t → take (suc i) ts ≡ take i ts ++ t ∷ []
taken-more [] i t e = cc
taken-more (u ∷ ts) zero t e = ap (λ x. x ∷ []) (cc)
taken-more (u ∷ ts) (suc i) t e = ap (λ xs. u ∷ xs) (taken-more ts i t e)

-- what `arg` of a store answers
abbrev IsArg : {M : Type 0} → StoreView M → Ref → ℕ → Ref → Type 0
IsArg v r i q = (t u : Tree) → IsTerm v r t → IsAcyclic (bindings v.now.state) → arg_at (followed (bindings v.now.state) t) i ≡ Some u → IsTerm v q u

pub argument-shown : {M : Type 0} (v : StoreView M) (r q : Ref) (many i : ℕ) (ts : List Tree) → HoldsNoCycle v → HasItems v (Collection.Arguments r many) ts → i < many → IsArg v r i q → ShowsItem v (slice_get ts i) (Some q)
argument-shown v r q many i ts a (t, is, e, size) low arg =
    let us : Trees = args (followed (bindings v.now.state) t) in
    let below : i < tree_count us = omega (arith, size, ap length e, length-each_tree us) in
    let at : TreeAt us i = tree_at-below us i below in
    (at.it, ap (λ xs. slice_get xs i) e ∙ (get-each_tree us i ∙ at.is), arg t at.it is a at.is)

pub argument-past : {M : Type 0} (v : StoreView M) (r : Ref) (many i : ℕ) (ts : List Tree) → HasItems v (Collection.Arguments r many) ts → many ≤ i → slice_get ts i ≡ None
argument-past v r many i ts (t, is, e, size) high = none-past ts i (omega (arith, size))

pub arguments-more : {M : Type 0} (v : StoreView M) (rs new : List Ref) (r q : Ref) (many i : ℕ) (ts : List Tree) → HoldsNoCycle v → HasItems v (Collection.Arguments r many) ts → i < many → IsArg v r i q → AreItems v rs (take i ts) → new ≡ rs ++ q ∷ [] → AreItems v new (take (i + 1) ts)
arguments-more v rs new r q many i ts a has low arg before pushed =
    let item : ShowsItem v (slice_get ts i) (Some q) = argument-shown v r q many i ts a has low arg in
    subst (λ us. AreItems v new us) (sym (ap (λ k. take k ts) (add-one i) ∙ taken-more ts i item.0 item.1))
    (subst (λ (qs : List Ref). AreItems v qs (take i ts ++ item.0 ∷ [])) (sym pushed) (one-more v rs (take i ts) q item.0 before item.2))

pub arguments-all : {M : Type 0} (v : StoreView M) (rs : List Ref) (r : Ref) (many i : ℕ) (ts : List Tree) → HasItems v (Collection.Arguments r many) ts → many ≤ i → AreItems v rs (take i ts) → AreItems v rs ts
arguments-all v rs r many i ts (t, is, e, size) high h = subst (λ us. AreItems v rs us) (all-before ts i (omega (arith, size))) h

-- ---- collections that are read

abbrev collection_error : {M : Type 0} → StoreView M → Tree → Tree
collection_error v t = type_error (codes "collection") t v.now.state

abbrev list_error : {M : Type 0} → StoreView M → Tree → Tree
list_error v t = type_error (codes "list") t v.now.state

abbrev items_or : List Tree → Answer (List Tree)
items_or ts = Ok ts

has-arguments : {M : Type 0} (v : StoreView M) (r : Ref) (t : Tree) (many : ℕ) → IsTerm v r t → many ≡ arity (followed (bindings v.now.state) t) → HasItems v (Collection.Arguments r many) (each_tree (args (followed (bindings v.now.state) t)))
has-arguments v r t many is size = (t, is, refl, size ∙ sym (length-each_tree (args (followed (bindings v.now.state) t))))

pub array-given : {M : Type 0} (v : StoreView M) (r : Ref) (t : Tree) (many : ℕ) → IsTerm v r t → ShowsSize array_parts (followed (bindings v.now.state) t) (Some many) → Shows (HasItems v) v (Ok (Collection.Arguments r many)) (collection_then v.now.state t items_or)
array-given v r t many is size = (
  each_tree (args (followed (bindings v.now.state) t)),
  ap (λ o. found_or (option_or o (list_items (bindings v.now.state) t)) (collection_error v t) items_or) size.0,
  has-arguments v r t many is size.1,
)

-- what isn't an array has the items of a list
pub no-array : {M : Type 0} (v : StoreView M) (t : Tree) → array_parts (followed (bindings v.now.state) t) ≡ None
    → found_or (list_items (bindings v.now.state) t) (collection_error v t) items_or ≡ collection_then v.now.state t items_or
no-array v t none = sym (ap (λ p. found_or (option_or p (list_items (bindings v.now.state) t)) (collection_error v t) items_or) none)

-- ---- what is indexed

abbrev indexed_then : {M : Type 0} → StoreView M → Tree → Answer (List Tree)
indexed_then v t = found_or (indexed_items (bindings v.now.state) t) (type_error (codes "list") t v.now.state) (λ ts. Ok ts)

pub structure-given : {M : Type 0} (v : StoreView M) (r : Ref) (t : Tree) (many : ℕ) → IsTerm v r t → ShowsSize structure_parts (followed (bindings v.now.state) t) (Some many) → Shows (HasItems v) v (Ok (Collection.Arguments r many)) (indexed_then v t)
structure-given v r t many is size = (
  each_tree (args (followed (bindings v.now.state) t)),
  ap (λ o. found_or (option_or o (list_items (bindings v.now.state) t)) (list_error v t) items_or) size.0,
  has-arguments v r t many is size.1,
)

pub no-structure : {M : Type 0} (v : StoreView M) (t : Tree) → structure_parts (followed (bindings v.now.state) t) ≡ None → found_or (list_items (bindings v.now.state) t) (list_error v t) items_or ≡ indexed_then v t
no-structure v t none = sym (ap (λ p. found_or (option_or p (list_items (bindings v.now.state) t)) (list_error v t) items_or) none)

-- ---- what follows from items

pub collection-stops : {M B : Type 0} (v : StoreView M) (stop : Stop) (t : Tree) (f : List Tree → Answer B) → Stops v stop (collection_then v.now.state t (λ ts. Ok ts)) → Stops v stop (collection_then v.now.state t f)
collection-stops v stop t f h = stops-whole v stop _ _ (λ ball. found-raised (collection_items (bindings v.now.state) t) (collection_error v t) ball f) h

pub collection-is : {M B : Type 0} (v : StoreView M) (t : Tree) (f : List Tree → Answer B) (ts : List Tree) → collection_then v.now.state t (λ us. Ok us) ≡ Ok ts → collection_then v.now.state t f ≡ f ts
collection-is v t f ts e = found-is (collection_items (bindings v.now.state) t) (collection_error v t) f ts e

pub list-stops : {M B : Type 0} (v : StoreView M) (stop : Stop) (t : Tree) (f : List Tree → Answer B) → Stops v stop (list_then v.now.state t (λ ts. Ok ts)) → Stops v stop (list_then v.now.state t f)
list-stops v stop t f h = stops-whole v stop _ _ (λ ball. found-raised (list_items (bindings v.now.state) t) (list_error v t) ball f) h

pub list-is : {M B : Type 0} (v : StoreView M) (t : Tree) (f : List Tree → Answer B) (ts : List Tree) → list_then v.now.state t (λ us. Ok us) ≡ Ok ts → list_then v.now.state t f ≡ f ts
list-is v t f ts e = found-is (list_items (bindings v.now.state) t) (list_error v t) f ts e

-- ---- an item, or none

pub item-or : {M : Type 0} (v : StoreView M) (item : Option Tree) (found : Option Ref) (fault : Fault) (ball : Tree) → ShowsItem v item found → IsBall v fault ball → ShowsTerm v v (ok_or found (Stop.Raised fault)) (or_raised item ball)
item-or v item None fault ball none is = (ball, ap (λ o. or_raised o ball) none, is)
item-or v item (Some r) fault ball (t, e, is) told = (t, ap (λ o. or_raised o ball) e, is)

-- an integer of the code stands for its bits, so that what is said of it comes with an equation
pub numbered-or : {M : Type 0} (v : StoreView M) (ts : List Tree) (n seen : ℤ) (found : Option Ref) (fault : Fault) (ball : Tree) → ShowsItem v (numbered ts seen) found → seen ≡ n → IsBall v fault ball
    → ShowsTerm v v (ok_or found (Stop.Raised fault)) (or_raised (numbered ts n) ball)
numbered-or v ts n seen found fault ball item is told = item-or v (numbered ts n) found fault ball (subst (λ m. ShowsItem v (numbered ts m) found) is item) told

last-from : (t : Tree) (ts : List Tree) → last_or (Some t) ts ≡ slice_get (t ∷ ts) (length ts)
last-from t [] = refl
last-from t (u ∷ ts) = last-from u ts

pub last-is : (ts : List Tree) (many : ℕ) → many ≡ length ts → last_or None ts ≡ slice_get ts (many - 1)
last-is [] many e = refl
last-is (t ∷ ts) many e = last-from t ts ∙ ap (slice_get (t ∷ ts)) (omega (arith, e))

-- ---- the parts of a cell

nil-has-none : (u : Tree) → is_nil u ≡ true → cell_parts u ≡ None
nil-has-none (var n) h = refl
nil-has-none (int n) h = refl
nil-has-none (atom name) h = refl
nil-has-none (comp name ts) h = absurd (true≢false (sym h))

no-part : (u : Tree) (part : Part) → ShowsPart u part → (part ≡ Part.Cell → ⊥) → cell_parts u ≡ None
no-part u Part.Nil h not = nil-has-none u h
no-part u Part.Cell h not = absurd (not refl)
no-part u Part.Other h not = h.1

abbrev part_or : {M : Type 0} → StoreView M → (Tree × Tree → Tree) → Tree → Answer Tree
part_or v part t = or_raised (option_map part (cell_parts (followed (bindings v.now.state) t))) (list_error v t)

pub part-shown : {M : Type 0} (v : StoreView M) (r q : Ref) (t : Tree) (i : ℕ) (part : Tree × Tree → Tree) (ts : List Tree) → HoldsNoCycle v → IsTerm v r t → ((item rest : Tree) → arg_at (list_cell item rest) i ≡ Some (part (item, rest)))
    → list_then v.now.state t (λ us. Ok us) ≡ Ok ts → ShowsPart (followed (bindings v.now.state) t) Part.Cell → IsArg v r i q → ShowsTerm v v (Ok q) (cell_part part v.now.state t)
part-shown v r q t i part ts a is at items (item, rest, e) arg = (
  part (item, rest),
  list-is v t (λ us. part_or v part t) ts items ∙ ap (λ u. or_raised (option_map part (cell_parts u)) (list_error v t)) e,
  arg t (part (item, rest)) is a (ap (λ u. arg_at u i) e ∙ at item rest),
)

pub part-raised : {M : Type 0} (v : StoreView M) (r : Ref) (t : Tree) (found : Part) (part : Tree × Tree → Tree) (ts : List Tree) → IsTerm v r t
    → list_then v.now.state t (λ us. Ok us) ≡ Ok ts → ShowsPart (followed (bindings v.now.state) t) found → (found ≡ Part.Cell → ⊥) → Stops v (Stop.Raised (Fault.WrongKind Kind.ProperList r)) (cell_part part v.now.state t)
part-raised v r t found part ts is items shows not = (
  list_error v t,
  list-is v t (λ us. part_or v part t) ts items ∙ ap (λ o. or_raised (option_map part o) (list_error v t)) (no-part (followed (bindings v.now.state) t) found shows not),
  (t, is, refl),
)

-- ---- `X[I]`: the items, then the index

pub index-stops : {M : Type 0} (v : StoreView M) (stop : Stop) (t i : Tree) → Stops v stop (indexed_then v t) → Stops v stop (indexed v.now.state t i)
unfolding indexed
index-stops v stop t i h =
    stops-whole v stop _ _ (λ ball. found-raised (indexed_items (bindings v.now.state) t) (list_error v t) ball (λ ts. integer_then v.now.state i (λ n. or_raised (numbered ts n) (bad_index i v.now.state)))) h

pub indexed-is : {M : Type 0} (v : StoreView M) (t i : Tree) (ts : List Tree) → indexed_then v t ≡ Ok ts → indexed v.now.state t i ≡ integer_then v.now.state i (λ n. or_raised (numbered ts n) (bad_index i v.now.state))
unfolding indexed
indexed-is v t i ts e = found-is (indexed_items (bindings v.now.state) t) (list_error v t) (λ us. integer_then v.now.state i (λ n. or_raised (numbered us n) (bad_index i v.now.state))) ts e
