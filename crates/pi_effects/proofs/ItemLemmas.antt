-- The items of lists: as many cells as the value has are enough, and values go by values.
use Rattle.std.proofs.Common.{◌≡◌, ℕ, zero, suc, ◌≤◌, ◌<◌, Bool, true, false, cond, List, [], ◌∷◌, map, refl, ap, ap₂, sym, subst, ◌∙◌, arith}
use Rattle.std.specs.Prelude.{Option, Some, None, option_map, option_and_then}
use Rattle.std.specs.Option.{option_or}
use Rattle.std.specs.Str.{bytes_eq}
use Rattle.pi_terms.specs.Tree.{Tree, var, int, atom, comp, no_trees, tree, cells}
use Rattle.pi_terms.specs.ListNames.{nil, cell_name}
use Rattle.pi_terms.specs.Substitution.{instance}
use Rattle.pi_terms.proofs.TermLemmas.{cells-positive}
use Rattle.pi_constraints.specs.Value.{Bindings, value, IsAcyclic}
use Rattle.pi_constraints.specs.State.{followed, followed_for}
use Rattle.pi_constraints.proofs.ValueLemmas.{value_goes_by_variables, unbound_is_its_own_value}
use Rattle.pi_constraints.proofs.FollowLemmas.{followed_unbound}
use Rattle.pi_constraints.proofs.RootLemmas.{with_values, value_int, value_atom, value_comp, value_at_root}
use Rattle.pi_effects.specs.Items.{in_front_of, items_of_root, items_for, list_items, ItemsGoByRoot, ItemsGoByValue}

-- the value of the rest of a cell is smaller than that of the list
rest-smaller : (b : Bindings) (t : Tree) (name : List ℕ) (x r : Tree) → IsAcyclic b → followed b t ≡ comp name (tree x (tree r no_trees)) → cells (value b r) < cells (value b t)
unfolding cells instance
rest-smaller b t name x r a e =
    let whole : value b t ≡ comp name (with_values b (tree x (tree r no_trees))) =
    value_at_root b t (comp name (tree x (tree r no_trees))) a e ∙ value_comp b name (tree x (tree r no_trees)) in
    omega (arith, ap cells whole, ap cells (value_goes_by_variables b r), cells-positive (instance (λ n. value b (var n)) x))

-- two ways to the items of a rest that agree on smaller values
parts-agree : (f g : Tree → Option (List Tree)) (c : Bool) (x r : Tree) → f r ≡ g r
    → option_and_then (in_front_of f) (cond c (Some (x, r)) None) ≡ option_and_then (in_front_of g) (cond c (Some (x, r)) None)
parts-agree f g true x r e = ap (option_map (λ ts. x ∷ ts)) e
parts-agree f g false x r e = refl

roots-agree : (b : Bindings) (t : Tree) (f g : Tree → Option (List Tree)) → IsAcyclic b → ((r : Tree) → cells (value b r) < cells (value b t) → f r ≡ g r)
    → (u : Tree) → followed b t ≡ u → items_of_root f u ≡ items_of_root g u
roots-agree b t f g a h (var n) e = refl
roots-agree b t f g a h (int n) e = refl
roots-agree b t f g a h (atom name) e = refl
roots-agree b t f g a h (comp name no_trees) e = refl
roots-agree b t f g a h (comp name (tree x no_trees)) e = refl
roots-agree b t f g a h (comp name (tree x (tree r no_trees))) e = parts-agree f g (bytes_eq name cell_name) x r (h r (rest-smaller b t name x r a e))
roots-agree b t f g a h (comp name (tree x (tree r (tree y ys)))) e = refl

-- more cells than the value has change nothing
same-items : (j k : ℕ) (b : Bindings) (t : Tree) → IsAcyclic b → cells (value b t) ≤ j → cells (value b t) ≤ k → items_for j b t ≡ items_for k b t
unfolding items_for
same-items zero k b t a h g = absurd (omega (arith, cells-positive (value b t)))
same-items (suc j) zero b t a h g = absurd (omega (arith, cells-positive (value b t)))
same-items (suc j) (suc k) b t a h g =
    roots-agree b t (items_for j b) (items_for k b) a (λ r less. same-items j k b r a (omega arith) (omega arith)) (followed b t) refl

from-root : (n : ℕ) (b : Bindings) (t : Tree) → IsAcyclic b → cells (value b t) ≡ n → items_for n b t ≡ items_of_root (list_items b) (followed b t)
unfolding items_for list_items
from-root zero b t a e = absurd (omega (arith, cells-positive (value b t)))
from-root (suc k) b t a e =
    roots-agree b t (items_for k b) (list_items b) a (λ r less. same-items k (cells (value b r)) b r a (omega arith) (omega arith)) (followed b t) refl

pub items-by_root : ItemsGoByRoot
unfolding list_items
items-by_root b t a = from-root (cells (value b t)) b t a refl

-- ---- values

no-bindings : IsAcyclic []
no-bindings = record { rank = λ n. 0; falls = λ n m u h o. absurd (cc) }

-- a term without bindings to follow
bare-root : (t : Tree) → list_items [] t ≡ items_of_root (list_items []) t
unfolding followed followed_for
bare-root t = items-by_root [] t no-bindings

abbrev values : Bindings → Option (List Tree) → Option (List Tree)
values b items = option_map (map (value b)) items

fronts-agree : (b : Bindings) (x r : Tree) (xs ys : Option (List Tree)) → values b xs ≡ ys
    → values b (option_map (λ ts. x ∷ ts) xs) ≡ option_map (λ ts. value b x ∷ ts) ys
fronts-agree b x r None ys e = ap (option_map (λ ts. value b x ∷ ts)) e
fronts-agree b x r (Some ts) ys e = ap (option_map (λ ts. value b x ∷ ts)) e

parts-by_value : (b : Bindings) (c : Bool) (x r : Tree) → values b (list_items b r) ≡ list_items [] (value b r)
    → values b (option_and_then (in_front_of (list_items b)) (cond c (Some (x, r)) None)) ≡ option_and_then (in_front_of (list_items [])) (cond c (Some (value b x, value b r)) None)
parts-by_value b true x r e = fronts-agree b x r (list_items b r) (list_items [] (value b r)) e
parts-by_value b false x r e = refl

atom-ends : (b : Bindings) (c : Bool) → values b (option_or (cond c (Some []) None) None) ≡ option_or (cond c (Some []) None) None
atom-ends b true = refl
atom-ends b false = refl

abbrev AtRoot : Bindings → Tree → Tree → Type 0
AtRoot b u v = values b (items_of_root (list_items b) u) ≡ items_of_root (list_items []) v

root-by_value : (b : Bindings) (t : Tree) → IsAcyclic b → ((r : Tree) → cells (value b r) < cells (value b t) → values b (list_items b r) ≡ list_items [] (value b r))
    → (u : Tree) → followed b t ≡ u → AtRoot b u (value b u)
unfolding instance
root-by_value b t a h (var n) e = subst (AtRoot b (var n)) (sym (unbound_is_its_own_value b n (followed_unbound b t n a e))) refl
root-by_value b t a h (int n) e = subst (AtRoot b (int n)) (sym (value_int b n)) refl
root-by_value b t a h (atom name) e = subst (AtRoot b (atom name)) (sym (value_atom b name)) (atom-ends b (bytes_eq name nil))
root-by_value b t a h (comp name no_trees) e = subst (AtRoot b (comp name no_trees)) (sym (value_comp b name no_trees)) refl
root-by_value b t a h (comp name (tree x no_trees)) e = subst (AtRoot b (comp name (tree x no_trees))) (sym (value_comp b name (tree x no_trees))) refl
root-by_value b t a h (comp name (tree x (tree r no_trees))) e =
    subst (AtRoot b (comp name (tree x (tree r no_trees))))
    (sym (value_comp b name (tree x (tree r no_trees)) ∙ ap₂ (λ y z. comp name (tree y (tree z no_trees))) (sym (value_goes_by_variables b x)) (sym (value_goes_by_variables b r))))
    (parts-by_value b (bytes_eq name cell_name) x r (h r (rest-smaller b t name x r a e)))
root-by_value b t a h (comp name (tree x (tree r (tree y ys)))) e =
    subst (AtRoot b (comp name (tree x (tree r (tree y ys))))) (sym (value_comp b name (tree x (tree r (tree y ys))))) refl

by-value : (n : ℕ) (b : Bindings) (t : Tree) → IsAcyclic b → cells (value b t) ≤ n → values b (list_items b t) ≡ list_items [] (value b t)
by-value zero b t a h = absurd (omega (arith, cells-positive (value b t)))
by-value (suc n) b t a h =
    ap (values b) (items-by_root b t a)
    ∙ (root-by_value b t a (λ r less. by-value n b r a (omega arith)) (followed b t) refl
    ∙ (ap (items_of_root (list_items [])) (sym (value_at_root b t (followed b t) a refl)) ∙ sym (bare-root (value b t))))

pub items-by_value : ItemsGoByValue
items-by_value b t a = by-value (cells (value b t)) b t a (omega arith)
