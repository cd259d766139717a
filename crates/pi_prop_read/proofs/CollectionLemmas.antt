-- The operands of `sum` are those of the items of a list or an array.
use Rattle.std.specs.Prelude.{◌≡◌, ⊤, ℕ, Bool, true, false, cond, List, [], ◌∷◌, map, Option, Some, None, option_map, option_and_then, refl}
use Rattle.std.specs.Option.{option_or}
use Rattle.std.specs.Str.{bytes_eq}
use Rattle.std.specs.List.{AllZip}
use Rattle.std.proofs.Common.{◌∙◌, ap, sym}
use Rattle.pi_terms.specs.Tree.{Tree, var, int, atom, comp, Trees, no_trees, tree}
use Rattle.pi_terms.specs.ListNames.{nil, cell_name}
use Rattle.pi_terms.specs.Substitution.{instance}
use Rattle.pi_syntax.specs.PrintTerm.{array_name}
use Rattle.pi_constraints.specs.Value.{Bindings, IsAcyclic, value}
use Rattle.pi_constraints.specs.State.{followed, followed_for}
use Rattle.pi_constraints.specs.Store.{Moment, StoreView, IsTerm}
use Rattle.pi_constraints.specs.declared.store.Ref.{Ref}
use Rattle.pi_constraints.specs.State.{bindings}
use Rattle.pi_constraints.proofs.ValueLemmas.{value_goes_by_variables, unbound_is_its_own_value}
use Rattle.pi_constraints.proofs.FollowLemmas.{followed_unbound}
use Rattle.pi_constraints.proofs.RootLemmas.{with_values, value_int, value_atom, value_comp, value_at_root}
use Rattle.pi_effects.specs.Items.{each_tree, in_front_of, items_of_root, array_parts, list_items, collection_items}
use Rattle.pi_effects.proofs.ItemLemmas.{items-by_root, items-by_value}
use Rattle.pi_prop_spec.specs.Operands.{Operand, total, no_operand, Operands, no_operands, operand}
use Rattle.pi_prop_spec.specs.Terms.{total_of, operand_of, operands_of, operands_of_array, operands_of_list}
use Rattle.pi_prop_read.specs.Refs.{IsThere, tree_of, value_at, operands_at}
use Rattle.pi_prop_read.specs.OperandNodes.{sum_at}
use Rattle.pi_prop_read.specs.OperandFrames.{AreThere}
use Rattle.pi_prop_read.proofs.RootLemmas.{there, value_is}

operands_from : List Tree → Operands
operands_from [] = no_operands
operands_from (t ∷ ts) = operand (operand_of t) (operands_from ts)

no-bindings : IsAcyclic []
no-bindings = record { rank = λ n. 0; falls = λ n m u h o. absurd (cc) }

-- a list without bindings, by its root
bare-root : (t : Tree) → list_items [] t ≡ items_of_root (list_items []) t
unfolding followed followed_for
bare-root t = items-by_root [] t no-bindings

atom-list : (b : Bool) → cond b (Some no_operands) None ≡ option_map operands_from (option_or (cond b (Some []) None) None)
unfolding operands_from
atom-list true = refl
atom-list false = refl

front-list : (t : Tree) (o : Option (List Tree)) (p : Option Operands) → p ≡ option_map operands_from o → option_map (operand (operand_of t)) p ≡ option_map operands_from (option_map (λ ts. t ∷ ts) o)
unfolding operands_from
front-list t None p e = ap (option_map (operand (operand_of t))) e
front-list t (Some ts) p e = ap (option_map (operand (operand_of t))) e

cell-list : (b : Bool) (items : Tree → Option (List Tree)) (t u : Tree) (p : Option Operands) → p ≡ option_map operands_from (option_map (λ ts. t ∷ ts) (items u)) → cond b p None ≡ option_map operands_from (option_or None (option_and_then (in_front_of items) (cond b (Some (t, u)) None)))
cell-list true items t u p e = e
cell-list false items t u p e = refl

list-operands : (t : Tree) → operands_of_list t ≡ option_map operands_from (list_items [] t)
unfolding operand_of
list-operands (var n) = ap (option_map operands_from) (sym (bare-root (var n)))
list-operands (int i) = ap (option_map operands_from) (sym (bare-root (int i)))
list-operands (atom name) = atom-list (bytes_eq name nil) ∙ ap (option_map operands_from) (sym (bare-root (atom name)))
list-operands (comp name no_trees) = ap (option_map operands_from) (sym (bare-root (comp name no_trees)))
list-operands (comp name (tree t no_trees)) = ap (option_map operands_from) (sym (bare-root (comp name (tree t no_trees))))
list-operands (comp name (tree t (tree u no_trees))) =
    cell-list (bytes_eq name cell_name) (list_items []) t u (option_map (operand (operand_of t)) (operands_of_list u)) (front-list t (list_items [] u) (operands_of_list u) (list-operands u))
    ∙ ap (option_map operands_from) (sym (bare-root (comp name (tree t (tree u no_trees)))))
list-operands (comp name (tree t (tree u (tree v ts)))) = ap (option_map operands_from) (sym (bare-root (comp name (tree t (tree u (tree v ts))))))

each-operands : (ts : Trees) → operands_of ts ≡ operands_from (each_tree ts)
unfolding operand_of operands_from each_tree
each-operands no_trees = refl
each-operands (tree t ts) = ap (operand (operand_of t)) (each-operands ts)

array-cond : (b : Bool) (xs : Operands) (ts : List Tree) → xs ≡ operands_from ts → cond b (Some xs) None ≡ option_map operands_from (cond b (Some ts) None)
array-cond true xs ts e = ap Some e
array-cond false xs ts e = refl

array-operands : (t : Tree) → operands_of_array t ≡ option_map operands_from (array_parts t)
unfolding operand_of
array-operands (var n) = refl
array-operands (int i) = refl
array-operands (atom name) = refl
array-operands (comp name ts) = array-cond (bytes_eq name array_name) (operands_of ts) (each_tree ts) (each-operands ts)

or-mapped : {A B : Type 0} (f : A → B) (o p : Option A) → option_or (option_map f o) (option_map f p) ≡ option_map f (option_or o p)
or-mapped f None p = refl
or-mapped f (Some x) p = refl

-- the items of a value are the values of the items
each-values : (b : Bindings) (ts : Trees) → each_tree (with_values b ts) ≡ map (value b) (each_tree ts)
unfolding each_tree instance
each-values b no_trees = refl
each-values b (tree t ts) = let own = sym (value_goes_by_variables b t) in let rest = each-values b ts in (λ i. own i ∷ rest i)

array-values-cond : (p : Bool) (f : Tree → Tree) (ts us : List Tree) → us ≡ map f ts → cond p (Some us) None ≡ option_map (map f) (cond p (Some ts) None)
array-values-cond true f ts us e = ap Some e
array-values-cond false f ts us e = refl

array-values : (b : Bindings) (t u : Tree) → IsAcyclic b → followed b t ≡ u → array_parts (value b u) ≡ option_map (map (value b)) (array_parts u)
array-values b t (var n) a e = ap array_parts (unbound_is_its_own_value b n (followed_unbound b t n a e))
array-values b t (int i) a e = ap array_parts (value_int b i)
array-values b t (atom name) a e = ap array_parts (value_atom b name)
array-values b t (comp name ts) a e = ap array_parts (value_comp b name ts) ∙ array-values-cond (bytes_eq name array_name) (value b) (each_tree ts) (each_tree (with_values b ts)) (each-values b ts)

pub collection-values : (b : Bindings) (t : Tree) → IsAcyclic b → collection_items [] (value b t) ≡ option_map (map (value b)) (collection_items b t)
unfolding followed followed_for
collection-values b t a =
    (λ i. option_or (arrays i) (lists i))
    ∙ or-mapped (map (value b)) (array_parts (followed b t)) (list_items b t)
  where
    arrays : array_parts (value b t) ≡ option_map (map (value b)) (array_parts (followed b t))
    arrays = ap array_parts (value_at_root b t (followed b t) a refl) ∙ array-values b t (followed b t) a refl

    lists : list_items [] (value b t) ≡ option_map (map (value b)) (list_items b t)
    lists = sym (items-by_value b t a)

operands-of-value : (t : Tree) → option_or (operands_of_array t) (operands_of_list t) ≡ option_map operands_from (collection_items [] t)
unfolding followed followed_for
operands-of-value t = (λ i. option_or (array-operands t i) (list-operands t i)) ∙ or-mapped operands_from (array_parts t) (list_items [] t)

-- ---- by Refs

pub are-there : {M : Type 0} (v : StoreView M) (rs : List Ref) (ts : List Tree) → AllZip (IsTerm v) rs ts → AreThere v.now rs
unfolding AreThere
are-there v [] [] h = tt
are-there v [] (t ∷ ts) h = absurd h
are-there v (r ∷ rs) [] h = absurd h
are-there v (r ∷ rs) (t ∷ ts) h = (there v.now r t h.0, are-there v rs ts h.1)

operands-are : {M : Type 0} (v : StoreView M) (rs : List Ref) (ts : List Tree) → AllZip (IsTerm v) rs ts → operands_from (map (value (bindings v.now.state)) ts) ≡ operands_at v.now rs
unfolding operands_from operands_at
operands-are v [] [] h = refl
operands-are v [] (t ∷ ts) h = absurd h
operands-are v (r ∷ rs) [] h = absurd h
operands-are v (r ∷ rs) (t ∷ ts) h = let own = sym (value_is v.now r t h.0) in let rest = operands-are v rs ts h.1 in (λ i. operand (operand_of (own i)) (rest i))

sum-by : {M : Type 0} (v : StoreView M) (r : Ref) (t : Tree) → IsAcyclic (bindings v.now.state) → IsTerm v r t → sum_at v.now r ≡ total_of (value_at v.now r) (option_map operands_from (option_map (map (value (bindings v.now.state))) (collection_items (bindings v.now.state) t)))
sum-by v r t a is =
    let b : Bindings = bindings v.now.state in
    ap (total_of (value_at v.now r)) (operands-of-value (value_at v.now r) ∙ ap (option_map operands_from) (ap (collection_items []) (value_is v.now r t is) ∙ collection-values b t a))

pub no-sum : {M : Type 0} (v : StoreView M) (r : Ref) (t : Tree) → IsAcyclic (bindings v.now.state) → IsTerm v r t → collection_items (bindings v.now.state) t ≡ None → sum_at v.now r ≡ no_operand (value_at v.now r)
no-sum v r t a is none = sum-by v r t a is ∙ ap (λ o. total_of (value_at v.now r) (option_map operands_from (option_map (map (value (bindings v.now.state))) o))) none

pub sum-of-items : {M : Type 0} (v : StoreView M) (r : Ref) (t : Tree) (rs : List Ref) (ts : List Tree) → IsAcyclic (bindings v.now.state) → IsTerm v r t → collection_items (bindings v.now.state) t ≡ Some ts → AllZip (IsTerm v) rs ts → sum_at v.now r ≡ total (operands_at v.now rs)
sum-of-items v r t rs ts a is some are =
    sum-by v r t a is
    ∙ (ap (λ o. total_of (value_at v.now r) (option_map operands_from (option_map (map (value (bindings v.now.state))) o))) some
    ∙ ap total (operands-are v rs ts are))
