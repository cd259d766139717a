-- The value of a Ref by what a store shows at its root.
use Rattle.std.specs.Prelude.{◌≡◌, ℕ, suc, ◌==◌, ◌<◌, Bool, true, false, List, [], Some, unwrap_or, refl}
use Rattle.std.proofs.Common.{arith, tests, eqb-true, ◌∙◌, ap, sym, subst}
use Rattle.pi_terms.specs.Tree.{Tree, var, int, atom, comp, Trees, no_trees, tree, tree_count, tree_at, args, arity, arg_at}
use Rattle.pi_terms.specs.Substitution.{instance}
use Rattle.pi_terms.specs.Variables.{Occurs}
use Rattle.pi_constraints.specs.Value.{Bindings, IsAcyclic, value}
use Rattle.pi_constraints.specs.State.{IsState, SpeaksBelow, bindings, next, followed}
use Rattle.pi_constraints.specs.Store.{Moment, StoreView, IsTerm, IsName, ShowsCell}
use Rattle.pi_constraints.specs.declared.store.Ref.{Ref}
use Rattle.pi_constraints.specs.declared.store.Cell.{Cell}
use Rattle.pi_constraints.proofs.ValueLemmas.{value_goes_by_variables, unbound_is_its_own_value}
use Rattle.pi_constraints.proofs.FollowLemmas.{followed_unbound, followed_below}
use Rattle.pi_constraints.proofs.RootLemmas.{with_values, value_int, value_atom, value_comp, value_at_root}
use Rattle.pi_constraints.proofs.StateLemmas.{bound_below}
use Rattle.pi_prop_read.specs.Refs.{tree_of, IsThere, value_at}

-- what the root of a Ref's term is, and what `arg` and `name` of a store answer
abbrev pub root_of : Moment → Ref → Tree
root_of w r = followed (bindings w.state) (tree_of w r)

abbrev pub IsArg : {M : Type 0} → StoreView M → Ref → ℕ → Ref → Type 0
IsArg v r i q = (t u : Tree) → IsTerm v r t → IsAcyclic (bindings v.now.state) → arg_at (followed (bindings v.now.state) t) i ≡ Some u → IsTerm v q u

abbrev pub Names : {M : Type 0} → StoreView M → ℕ → List ℕ → Type 0
Names v k text = (name : List ℕ) → IsName v k name → text ≡ name

-- ---- a Ref with a term

pub tree_is : (w : Moment) (r : Ref) (t : Tree) → w.terms r.number ≡ Some t → tree_of w r ≡ t
tree_is w r t is = ap (λ o. unwrap_or o (atom [])) is

pub there : (w : Moment) (r : Ref) (t : Tree) → w.terms r.number ≡ Some t → IsThere w r
there w r t is = is ∙ ap Some (sym (tree_is w r t is))

pub value_is : (w : Moment) (r : Ref) (t : Tree) → w.terms r.number ≡ Some t → value_at w r ≡ value (bindings w.state) t
value_is w r t is = ap (value (bindings w.state)) (tree_is w r t is)

-- ---- what is at its root

pub variable-root : (w : Moment) (r : Ref) (n : ℕ) → IsAcyclic (bindings w.state) → root_of w r ≡ var n → value_at w r ≡ var n
variable-root w r n a e =
    let b : Bindings = bindings w.state in
    value_at_root b (tree_of w r) (var n) a e ∙ unbound_is_its_own_value b n (followed_unbound b (tree_of w r) n a e)

pub integer-root : (w : Moment) (r : Ref) (i : _) → IsAcyclic (bindings w.state) → root_of w r ≡ int i → value_at w r ≡ int i
integer-root w r i a e = value_at_root (bindings w.state) (tree_of w r) (int i) a e ∙ value_int (bindings w.state) i

pub atom-root : (w : Moment) (r : Ref) (name : List ℕ) → IsAcyclic (bindings w.state) → root_of w r ≡ atom name → value_at w r ≡ atom name
atom-root w r name a e = value_at_root (bindings w.state) (tree_of w r) (atom name) a e ∙ value_atom (bindings w.state) name

pub compound-root : (w : Moment) (r : Ref) (name : List ℕ) (ts : Trees) → IsAcyclic (bindings w.state) → root_of w r ≡ comp name ts → value_at w r ≡ comp name (with_values (bindings w.state) ts)
compound-root w r name ts a e = value_at_root (bindings w.state) (tree_of w r) (comp name ts) a e ∙ value_comp (bindings w.state) name ts

-- a variable there was made
pub variable-made : (w : Moment) (r : Ref) (n : ℕ) → IsState w.state → SpeaksBelow (next w.state) (tree_of w r) → root_of w r ≡ var n → n < next w.state
unfolding Occurs
variable-made w r n s below e =
    let whole : SpeaksBelow (next w.state) (root_of w r) = followed_below (next w.state) (bindings w.state) (tree_of w r) (λ k u is. bound_below w.state k u s is) below in
    (subst (SpeaksBelow (next w.state)) e whole) n refl

-- ---- arguments

pub one-argument : (ts : Trees) → tree_count ts ≡ 1 → (x : Tree) × (ts ≡ tree x no_trees)
unfolding tree_count
one-argument no_trees h = absurd (omega arith)
one-argument (tree x no_trees) h = (x, refl)
one-argument (tree x (tree y ys)) h = absurd (omega arith)

pub two-arguments : (ts : Trees) → tree_count ts ≡ 2 → (x : Tree) × (y : Tree) × (ts ≡ tree x (tree y no_trees))
unfolding tree_count
two-arguments no_trees h = absurd (omega arith)
two-arguments (tree x no_trees) h = absurd (omega arith)
two-arguments (tree x (tree y no_trees)) h = (x, y, refl)
two-arguments (tree x (tree y (tree z zs))) h = absurd (omega arith)

pub three-arguments : (ts : Trees) → tree_count ts ≡ 3 → (x : Tree) × (y : Tree) × (z : Tree) × (ts ≡ tree x (tree y (tree z no_trees)))
unfolding tree_count
three-arguments no_trees h = absurd (omega arith)
three-arguments (tree x no_trees) h = absurd (omega arith)
three-arguments (tree x (tree y no_trees)) h = absurd (omega arith)
three-arguments (tree x (tree y (tree z no_trees))) h = (x, y, z, refl)
three-arguments (tree x (tree y (tree z (tree u us)))) h = absurd (omega arith)

-- a compound that a store shows
pub record IsCompound {M : Type 0} (v : StoreView M) (r : Ref) (text : List ℕ) (count : ℕ) : Type 0 where
  pub trees : Trees
  pub root : root_of v.now r ≡ comp text trees
  pub size : count ≡ tree_count trees
  pub value : value_at v.now r ≡ comp text (with_values (bindings v.now.state) trees)

pub compound-shown : {M : Type 0} (v : StoreView M) (r : Ref) (k count : ℕ) (text : List ℕ) → IsAcyclic (bindings v.now.state) → ShowsCell v (root_of v.now r) (Cell.Comp k count) → Names v k text → IsCompound v r text count
compound-shown v r k count text a (name, is, e, many) named =
    let root : root_of v.now r ≡ comp text (args (root_of v.now r)) = e ∙ ap (λ (f : List ℕ). comp f (args (root_of v.now r))) (sym (named name is)) in
    record { trees = args (root_of v.now r); root = root; size = many; value = compound-root v.now r text (args (root_of v.now r)) a root }

pub argument-there : {M : Type 0} (v : StoreView M) (r q : Ref) (i : ℕ) (u x : Tree) → IsThere v.now r → IsAcyclic (bindings v.now.state) → root_of v.now r ≡ u → arg_at u i ≡ Some x → IsArg v r i q → IsTerm v q x
argument-there v r q i u x here a e f arg = arg (tree_of v.now r) x here a (ap (λ t. arg_at t i) e ∙ f)

-- a term with one argument
pub record HasOne {M : Type 0} (v : StoreView M) (r q : Ref) (text : List ℕ) : Type 0 where
  pub value : value_at v.now r ≡ comp text (tree (value_at v.now q) no_trees)
  pub first : IsThere v.now q

pub argument-value : (w : Moment) (q : Ref) (x : Tree) → w.terms q.number ≡ Some x → instance (λ n. value (bindings w.state) (var n)) x ≡ value_at w q
argument-value w q x is = sym (value_goes_by_variables (bindings w.state) x) ∙ sym (value_is w q x is)

pub has-one : {M : Type 0} (v : StoreView M) (r q : Ref) (count : ℕ) (text : List ℕ) → IsAcyclic (bindings v.now.state) → IsThere v.now r → IsCompound v r text count → count ≡ 1 → IsArg v r 0 q → HasOne v r q text
unfolding instance tree_at
has-one v r q count text a here c size arg =
    let b : Bindings = bindings v.now.state in
    let one : (x : Tree) × (c.trees ≡ tree x no_trees) = one-argument c.trees (sym c.size ∙ size) in
    let is : IsTerm v q one.0 = argument-there v r q 0 (comp text c.trees) one.0 here a c.root (ap (λ ts. tree_at ts 0) one.1) arg in
    record {
      value = c.value ∙ (ap (λ ts. comp text (with_values b ts)) one.1 ∙ ap (λ x. comp text (tree x no_trees)) (argument-value v.now q one.0 is));
      first = there v.now q one.0 is;
    }

-- a term with two arguments
pub record HasTwo {M : Type 0} (v : StoreView M) (r p q : Ref) (text : List ℕ) : Type 0 where
  pub value : value_at v.now r ≡ comp text (tree (value_at v.now p) (tree (value_at v.now q) no_trees))
  pub first : IsThere v.now p
  pub second : IsThere v.now q

pub has-two : {M : Type 0} (v : StoreView M) (r p q : Ref) (count : ℕ) (text : List ℕ) → IsAcyclic (bindings v.now.state) → IsThere v.now r → IsCompound v r text count → count ≡ 2 → IsArg v r 0 p → IsArg v r 1 q → HasTwo v r p q text
unfolding instance tree_at
has-two v r p q count text a here c size arg more =
    let b : Bindings = bindings v.now.state in
    let two : (x : Tree) × (y : Tree) × (c.trees ≡ tree x (tree y no_trees)) = two-arguments c.trees (sym c.size ∙ size) in
    let x : Tree = two.0 in
    let y : Tree = two.1 in
    let is : IsTerm v p x = argument-there v r p 0 (comp text c.trees) x here a c.root (ap (λ ts. tree_at ts 0) two.2) arg in
    let so : IsTerm v q y = argument-there v r q 1 (comp text c.trees) y here a c.root (ap (λ ts. tree_at ts 1) two.2) more in
    record {
      value = c.value ∙ (ap (λ ts. comp text (with_values b ts)) two.2 ∙ (λ i. comp text (tree (argument-value v.now p x is i) (tree (argument-value v.now q y so i) no_trees))));
      first = there v.now p x is;
      second = there v.now q y so;
    }
