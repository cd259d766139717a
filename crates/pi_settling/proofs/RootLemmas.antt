-- What an item comes to in a state, and in one that binds more variables.
use Rattle.std.specs.Prelude.{◌≡◌, ◌⊎◌, ℕ, ℤ, Some, None, refl}
use Rattle.std.proofs.Common.{sym, ◌∙◌, ap, inl, inr}
use Rattle.pi_terms.specs.Tree.{Tree, var, int, atom, comp}
use Rattle.pi_terms.specs.Places.{held}
use Rattle.pi_terms.specs.Substitution.{instance}
use Rattle.pi_constraints.specs.declared.constraint.Item.{Item}
use Rattle.pi_constraints.specs.Value.{Bindings, IsAcyclic, value}
use Rattle.pi_constraints.specs.State.{State, bindings, followed}
use Rattle.pi_constraints.proofs.ValueLemmas.{values_solve, value_has_same_instances, unbound_is_its_own_value}
use Rattle.pi_constraints.proofs.FollowLemmas.{followed_value, followed_unbound}
use Rattle.pi_constraints.proofs.RootLemmas.{value_int, value_atom, value_comp, with_values}
use Rattle.pi_settling.specs.Roots.{item_of, root_item}

-- an item goes by the value of its variable
by_root : (b : Bindings) (t : Tree) (n : ℕ) (u : Tree) → IsAcyclic b → followed b t ≡ u → item_of n u ≡ item_of n (value b u)
by_root b t n (var m) a e = sym (ap (item_of n) (unbound_is_its_own_value b m (followed_unbound b t m a e)))
by_root b t n (int i) a e = sym (ap (item_of n) (value_int b i))
by_root b t n (atom name) a e = sym (ap (item_of n) (value_atom b name))
by_root b t n (comp name ts) a e = sym (ap (item_of n) (value_comp b name ts))

pub root-by_value : (b : Bindings) (n : ℕ) → IsAcyclic b → item_of n (followed b (var n)) ≡ item_of n (value b (var n))
root-by_value b n a = by_root b (var n) n (followed b (var n)) a refl ∙ ap (item_of n) (followed_value b (var n) a)

-- bindings that are kept give the value under more of them
pub value_later : (b c : Bindings) (t : Tree) → IsAcyclic c → ((n : ℕ) (u : Tree) → held b n ≡ Some u → held c n ≡ Some u) → instance (λ n. value c (var n)) (value b t) ≡ instance (λ n. value c (var n)) t
value_later b c t a keeps = value_has_same_instances b (λ n. value c (var n)) t (λ n u is. values_solve c a n u (keeps n u is))

-- a term that is an unbound variable or an integer
pub data IsItem : Tree → Type 0 where
  is_variable : (n : ℕ) → IsItem (var n)
  is_integer : (i : ℤ) → IsItem (int i)

item_at_any : (m n : ℕ) (t : Tree) → IsItem t → item_of m t ≡ item_of n t
item_at_any m n t (is_variable k) = refl
item_at_any m n t (is_integer i) = refl

-- what more bindings make of a variable that was unbound is still an item
abbrev pub Items : Bindings → Bindings → Type 0
Items b c = (k : ℕ) → held b k ≡ None → IsItem (value c (var k))

abbrev pub Kept : Bindings → Bindings → Type 0
Kept b c = (n : ℕ) (u : Tree) → held b n ≡ Some u → held c n ≡ Some u

later_by : (s r : State) (n : ℕ) (w : Tree) → IsAcyclic (bindings s) → IsAcyclic (bindings r) → Kept (bindings s) (bindings r) → Items (bindings s) (bindings r) →
    value (bindings s) (var n) ≡ w → followed (bindings s) (var n) ≡ w ⊎ ((m : ℕ) → w ≡ var m → ⊥) → root_item s (Item.Var n) ≡ item_of n w → root_item r (item_of n w) ≡ root_item r (Item.Var n)
unfolding instance
later_by s r n (var m) a a' keeps items is (inl at) e =
    let c : Bindings = bindings r in
    let same : value c (var n) ≡ value c (var m) = sym (value_later (bindings s) c (var n) a' keeps) ∙ ap (instance (λ k. value c (var k))) is in
    root-by_value c m a' ∙ (item_at_any m n (value c (var m)) (items m (followed_unbound (bindings s) (var n) m a at)) ∙ (ap (item_of n) (sym same) ∙ sym (root-by_value c n a')))
later_by s r n (var m) a a' keeps items is (inr none) e = absurd (none m refl)
later_by s r n (int i) a a' keeps items is at e =
    let c : Bindings = bindings r in
    let same : value c (var n) ≡ int i = sym (value_later (bindings s) c (var n) a' keeps) ∙ ap (instance (λ k. value c (var k))) is in
    sym (root-by_value c n a' ∙ ap (item_of n) same)
later_by s r n (atom name) a a' keeps items is at e = refl
later_by s r n (comp name ts) a a' keeps items is at e = refl

variable_or_not : (b : Bindings) (n : ℕ) (w : Tree) → IsAcyclic b → followed b (var n) ≡ w → (followed b (var n) ≡ value b (var n)) ⊎ ((m : ℕ) → value b (var n) ≡ var m → ⊥)
variable_or_not b n (var m) a e = inl (e ∙ (sym (unbound_is_its_own_value b m (followed_unbound b (var n) m a e)) ∙ (ap (value b) (sym e) ∙ followed_value b (var n) a)))
variable_or_not b n (int i) a e = inr (λ m is. let f : value b (var n) ≡ int i = sym (followed_value b (var n) a) ∙ (ap (value b) e ∙ value_int b i) in absurd (cc))
variable_or_not b n (atom name) a e = inr (λ m is. let f : value b (var n) ≡ atom name = sym (followed_value b (var n) a) ∙ (ap (value b) e ∙ value_atom b name) in absurd (cc))
variable_or_not b n (comp name ts) a e = inr (λ m is. let f : value b (var n) ≡ comp name (with_values b ts) = sym (followed_value b (var n) a) ∙ (ap (value b) e ∙ value_comp b name ts) in absurd (cc))

-- what an item comes to in a state comes, where more variables are bound to integers, to what the item comes to there
pub root_later : (s r : State) → IsAcyclic (bindings s) → IsAcyclic (bindings r) → Kept (bindings s) (bindings r) → Items (bindings s) (bindings r) → (x : Item) → root_item r (root_item s x) ≡ root_item r x
root_later s r a a' keeps items (Item.Var n) =
    let e : root_item s (Item.Var n) ≡ item_of n (value (bindings s) (var n)) = root-by_value (bindings s) n a in
    ap (root_item r) e ∙ later_by s r n (value (bindings s) (var n)) a a' keeps items refl (variable_or_not (bindings s) n (followed (bindings s) (var n)) a refl) e
root_later s r a a' keeps items (Item.Int i) = refl
