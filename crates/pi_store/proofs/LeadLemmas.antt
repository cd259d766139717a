-- Chains of variables: whether one leads to another.
use Rattle.std.proofs.Common.{◌≡◌, ℕ, zero, suc, ◌<◌, Bool, true, false, List, length, Option, Some, None, refl, ap, sym, subst, ◌∙◌, ◌⊎◌, inl, inr, arith, cond}
use Rattle.std.specs.Prelude.{option_map, IsTrue, ◌↔◌, ◌==◌}
use Rattle.std.proofs.lemmas.Bool.Decides.{Decides-eqb}
use Rattle.pi_terms.specs.Tree.{Tree, var}
use Rattle.pi_terms.specs.Variables.{Occurs}
use Rattle.pi_terms.specs.Places.{held}
use Rattle.pi_constraints.specs.Value.{Bindings, IsAcyclic}
use Rattle.pi_constraints.specs.State.{LeadsTo, is_it, through}
use Rattle.pi_constraints.specs.declared.store.Ref.{Ref}
use Rattle.pi_constraints.proofs.ValueLemmas.{Ranked, ranked}
use Rattle.pi_store_blocks.specs.declared.form.Form.{Form}
use Rattle.pi_store_blocks.specs.Form.{form_of}
use Rattle.pi_store_blocks.specs.Heap.{Heap, term_at}
use Rattle.pi_store_blocks.proofs.LookLemmas.{shows_var}
use Rattle.pi_store.specs.Walk.{binding_at, variable_of, variable_at, variable_of_any, next_at, any_of, leads_for, leads_at}
use Rattle.pi_store.specs.Bindings.{HasBound, bound_in}
use Rattle.pi_store.proofs.LookLemmas.{tree_at_ref, held_is, binding_tree, length_bound, form_var}

-- One step of a chain, by words and by terms

variable_form : (f : Form) (m : ℕ) → variable_of f ≡ Some m → f ≡ Form.Var m
variable_form (Form.Var n) m e = ap Form.Var (some_same n m e)
  where
    some_same : (a b : ℕ) → Some a ≡ Some b → a ≡ b
    some_same a b e = cc
variable_form (Form.Int n) m e = absurd (cc)
variable_form (Form.Atom k) m e = absurd (cc)
variable_form (Form.Pair place flag) m e = absurd (cc)
variable_form (Form.Comp place flag) m e = absurd (cc)
variable_form (Form.Data n) m e = absurd (cc)

-- a Ref that is a variable has this tree
variable_tree : (h : Heap) (q : Ref) (m : ℕ) (t : Tree) → variable_at q ≡ Some m → term_at h q.number ≡ Some t → t ≡ var m
variable_tree h q m t e is = shows_var h q.number m t (variable_form (form_of q.number) m e) is

next_by : (h : Heap) (vs : List ℕ) → HasBound h vs → (n m : ℕ) (o : Option Ref) → binding_at vs n ≡ o → variable_of_any o ≡ Some m → held (bound_in h vs) n ≡ Some (var m)
next_by h vs has n m None e f = absurd (cc)
next_by h vs has n m (Some q) e f =
    let t : tree_at_ref h q ≡ var m = variable_tree h q m (tree_at_ref h q) f (binding_tree h vs has n q e) in
    held_is h vs n ∙ (ap (option_map (tree_at_ref h)) e ∙ ap Some t)

next_held : (h : Heap) (vs : List ℕ) → HasBound h vs → (n m : ℕ) → next_at vs n ≡ Some m → held (bound_in h vs) n ≡ Some (var m)
next_held h vs has n m e = next_by h vs has n m (binding_at vs n) refl e

variable_of_tree : (h : Heap) (q : Ref) (m : ℕ) → term_at h q.number ≡ Some (var m) → variable_at q ≡ Some m
variable_of_tree h q m is = ap variable_of (form_var h q.number m is)

back_by : (h : Heap) (vs : List ℕ) → HasBound h vs → (n m : ℕ) (o : Option Ref) → binding_at vs n ≡ o → option_map (tree_at_ref h) o ≡ Some (var m) → variable_of_any o ≡ Some m
back_by h vs has n m None e f = absurd (cc)
back_by h vs has n m (Some q) e f = variable_of_tree h q m (binding_tree h vs has n q e ∙ f)

held_next : (h : Heap) (vs : List ℕ) → HasBound h vs → (n m : ℕ) → held (bound_in h vs) n ≡ Some (var m) → next_at vs n ≡ Some m
held_next h vs has n m e = back_by h vs has n m (binding_at vs n) refl (sym (held_is h vs n) ∙ e)

-- What a chain comes to

here : (b : Bindings) (n v : ℕ) → (n == v) ≡ true → LeadsTo b (var n) v
here b n v e = let P : ℕ → Type 0 = λ x. LeadsTo b (var n) x in subst P ((Decides-eqb n v).0 e) (is_it n)

true_by : (h : Heap) (vs : List ℕ) → HasBound h vs → (k n v : ℕ) → ((m : ℕ) → leads_for k vs m v ≡ true → LeadsTo (bound_in h vs) (var m) v)
    → (e : Bool) → (n == v) ≡ e → (o : Option ℕ) → next_at vs n ≡ o → cond e true (any_of (λ m. leads_for k vs m v) o) ≡ true → LeadsTo (bound_in h vs) (var n) v
true_by h vs has k n v ih true e o f g = here (bound_in h vs) n v e
true_by h vs has k n v ih false e None f g = absurd (cc)
true_by h vs has k n v ih false e (Some m) f g = through n (var m) (next_held h vs has n m f) (ih m g)

leads_true : (h : Heap) (vs : List ℕ) → HasBound h vs → (k n v : ℕ) → leads_for k vs n v ≡ true → LeadsTo (bound_in h vs) (var n) v
unfolding leads_for
leads_true h vs has zero n v e = here (bound_in h vs) n v e
leads_true h vs has (suc k) n v e = true_by h vs has k n v (λ m f. leads_true h vs has k m v f) (n == v) refl (next_at vs n) refl e

-- a chain that leads to a variable is a variable at its head
abbrev Heads : Bindings → Tree → ℕ → Type 0
Heads b t v = (t ≡ var v) ⊎ ((m : ℕ) × (u : Tree) × (t ≡ var m) × (held b m ≡ Some u) × LeadsTo b u v)

heads : (b : Bindings) {t : Tree} {v : ℕ} → LeadsTo b t v → Heads b t v
heads b (is_it n) = inl refl
heads b (through m u e l) = inr (m, u, refl, e, l)

root_of : (b : Bindings) (t : Tree) (v : ℕ) → LeadsTo b t v → (m : ℕ) × (t ≡ var m)
root_of b t v l = elim (heads b l) [ inl e ↦ (v, e) | inr p ↦ (p.0, p.2) ]

by_test : (a b : Bool) → b ≡ true → cond a true b ≡ true
by_test true b e = refl
by_test false b e = e

step_true : (vs : List ℕ) (k n v m : ℕ) → next_at vs n ≡ Some m → leads_for k vs m v ≡ true → leads_for (suc k) vs n v ≡ true
unfolding leads_for
step_true vs k n v m e f = by_test (n == v) (any_of (λ j. leads_for k vs j v) (next_at vs n)) (ap (any_of (λ j. leads_for k vs j v)) e ∙ f)

here_for : (vs : List ℕ) (k n v : ℕ) → n ≡ v → leads_for k vs n v ≡ true
unfolding leads_for
here_for vs zero n v e = (Decides-eqb n v).1 e
here_for vs (suc k) n v e = ap (λ b. cond b true (any_of (λ m. leads_for k vs m v) (next_at vs n))) ((Decides-eqb n v).1 e)

leads_back : (h : Heap) (vs : List ℕ) → HasBound h vs → (r : Ranked (bound_in h vs)) (k n v : ℕ) → ((w : Tree) → held (bound_in h vs) n ≡ Some w → r.rank n < k) → LeadsTo (bound_in h vs) (var n) v → leads_for k vs n v ≡ true
unfolding Occurs
leads_back h vs has r zero n v below l = elim (heads (bound_in h vs) l) [
  | inl e ↦ let same : n ≡ v = cc in here_for vs zero n v same
  | inr p ↦ let same : n ≡ p.0 = let q : var n ≡ var p.0 = p.2 in cc in
      let bound : held (bound_in h vs) n ≡ Some p.1 = ap (held (bound_in h vs)) same ∙ p.3 in
      let low : r.rank n < 0 = below p.1 bound in absurd (omega arith)
]
leads_back h vs has r (suc k) n v below l = elim (heads (bound_in h vs) l) [
  | inl e ↦ let same : n ≡ v = cc in here_for vs (suc k) n v same
  | inr p ↦
      let same : n ≡ p.0 = let q : var n ≡ var p.0 = p.2 in cc in
      let root : (m : ℕ) × (p.1 ≡ var m) = root_of (bound_in h vs) p.1 v p.4 in
      let bound : held (bound_in h vs) n ≡ Some (var root.0) = ap (held (bound_in h vs)) same ∙ (p.3 ∙ ap (λ x. Some x) root.1) in
      let low : r.rank n < suc k = below (var root.0) bound in
      let P : Tree → Type 0 = λ u. LeadsTo (bound_in h vs) u v in
      step_true vs k n v root.0 (held_next h vs has n root.0 bound)
      (leads_back h vs has r k root.0 v (λ w f. let fall : r.rank root.0 < r.rank n = r.falls n root.0 (var root.0) w bound refl f in omega arith) (subst P root.1 p.4))
]

-- a variable leads to another one exactly where the chain comes to it
pub leads_is : (h : Heap) (vs : List ℕ) → HasBound h vs → (n v : ℕ) → IsAcyclic (bound_in h vs) → IsTrue (leads_at vs n v) ↔ LeadsTo (bound_in h vs) (var n) v
leads_is h vs has n v a =
    let r : Ranked (bound_in h vs) = ranked (bound_in h vs) a in
    let l : length (bound_in h vs) ≡ length vs = length_bound h vs in
    (λ e. leads_true h vs has (length vs) n v e, λ e. leads_back h vs has r (length vs) n v (λ w f. let low : r.rank n < length (bound_in h vs) = r.below n w f in omega arith) e)

leads_any : (h : Heap) (vs : List ℕ) → HasBound h vs → (t : Tree) (v : ℕ) (o : Option ℕ) → IsAcyclic (bound_in h vs) → ((m : ℕ) → o ≡ Some m → t ≡ var m) → ((m : ℕ) → t ≡ var m → o ≡ Some m) → IsTrue (any_of (λ n. leads_at vs n v) o) ↔ LeadsTo (bound_in h vs) t v
leads_any h vs has t v None a f g = (λ e. absurd (cc), λ l. let root = root_of (bound_in h vs) t v l in let x = g root.0 root.1 in absurd (cc))
leads_any h vs has t v (Some m) a f g = let P : Tree → Type 0 = λ u. IsTrue (leads_at vs m v) ↔ LeadsTo (bound_in h vs) u v in subst P (sym (f m refl)) (leads_is h vs has m v a)

pub leads_term : (h : Heap) (vs : List ℕ) → HasBound h vs → (r : Ref) (t : Tree) (v : ℕ) (b : Bool) → b ≡ any_of (λ n. leads_at vs n v) (variable_at r) → term_at h r.number ≡ Some t → IsAcyclic (bound_in h vs) → IsTrue b ↔ LeadsTo (bound_in h vs) t v
leads_term h vs has r t v b f e a =
    let P : Bool → Type 0 = λ x. IsTrue x ↔ LeadsTo (bound_in h vs) t v in
    subst P (sym f) (leads_any h vs has t v (variable_at r) a (λ m g. variable_tree h r m t g e) (λ m g. variable_of_tree h r m (e ∙ ap (λ x. Some x) g)))
