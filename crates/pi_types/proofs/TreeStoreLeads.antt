-- Chains of variables in a copying store, and the constraints in which a variable stands.
use Rattle.std.proofs.Common.{◌≡◌, ℕ, zero, suc, ◌<◌, Bool, true, false, List, length, Option, Some, None, refl, ap, sym, subst, ◌∙◌, ◌⊎◌, inl, inr, arith, map, cond}
use Rattle.std.specs.Prelude.{slice_get, option_map, IsTrue, ◌↔◌, ◌==◌}
use Rattle.std.proofs.lemmas.List.{length-map}
use Rattle.std.proofs.lemmas.Bool.Decides.{Decides-eqb}
use Rattle.pi_terms.specs.Tree.{Tree, var}
use Rattle.pi_terms.specs.Variables.{Occurs}
use Rattle.pi_terms.specs.Places.{held}
use Rattle.pi_constraints.specs.Value.{Bindings, IsAcyclic}
use Rattle.pi_constraints.specs.State.{binding, LeadsTo, is_it, through}
use Rattle.pi_types.specs.TreeStore.{tree_in, term_tree, trees_of, variable_of}
use Rattle.pi_types.specs.TreeStoreWalks.{binding_in, variable_at, variable_in, variable_of_any, any_in, leads_for, leads_in}
use Rattle.pi_types.specs.TreeStoreSound.{IsSoundState}
use Rattle.pi_constraints.specs.declared.store.Ref.{Ref}
use Rattle.pi_types.specs.declared.tree_store.state.StoredTerm.{StoredTerm}
use Rattle.pi_types.specs.declared.tree_store.state.TreeState.{TreeState}
use Rattle.pi_types.proofs.TreeStoreTrees.{Names, IsTermOf, term_at, tree_in_is}
use Rattle.pi_types.proofs.TreeStoreGround.{valid_tree}
use Rattle.pi_types.proofs.TreeStoreLooks.{bound_in, held_is, binding_below, own_tree}
use Rattle.pi_constraints.proofs.ValueLemmas.{Ranked, ranked}

-- One step of a chain, by numbers and by terms

next_by : (names : Names) (s : TreeState) (h : IsSoundState names s) (n m : ℕ) (o : Option Ref) → binding_in s n ≡ o → variable_of_any s o ≡ Some m → held (bound_in names s) n ≡ Some (var m)
next_by names s h n m None e f = absurd (cc)
next_by names s h n m (Some q) e f =
    let t : tree_in (trees_of names s) q ≡ var m = tree_in_is (trees_of names s) q (var m) (own_tree names s h q.number m (slice_get s.terms q.number) refl f) in
    held_is (trees_of names s) s n ∙ (ap (λ x. option_map (tree_in (trees_of names s)) x) e ∙ ap (λ x. Some x) t)

next_held : (names : Names) (s : TreeState) (h : IsSoundState names s) (n m : ℕ) → variable_of_any s (binding_in s n) ≡ Some m → held (bound_in names s) n ≡ Some (var m)
next_held names s h n m e = next_by names s h n m (binding_in s n) refl e

variable_is : (names : Names) (trees : List Tree) (c : StoredTerm) (m : ℕ) → var m ≡ term_tree names trees c → variable_at (Some c) ≡ Some m
variable_is names trees (StoredTerm.Var j) m e = let same : m ≡ j = cc in ap (λ x. Some x) (sym same)
variable_is names trees (StoredTerm.Int j) m e = absurd (cc)
variable_is names trees (StoredTerm.Atom k) m e = absurd (cc)
variable_is names trees (StoredTerm.Comp k args g) m e = absurd (cc)

pub variable_of_tree : (names : Names) (s : TreeState) (h : IsSoundState names s) (r : Ref) (m : ℕ) → slice_get (trees_of names s) r.number ≡ Some (var m) → variable_in s r ≡ Some m
variable_of_tree names s h r m e =
    let c : IsTermOf names s r.number (var m) = term_at names s h r.number (var m) e in
    ap variable_at c.stored ∙ variable_is names (trees_of names s) c.term m c.is

back_by : (names : Names) (s : TreeState) (h : IsSoundState names s) (n m : ℕ) (o : Option Ref) → binding_in s n ≡ o → option_map (tree_in (trees_of names s)) o ≡ Some (var m) → variable_of_any s o ≡ Some m
back_by names s h n m None e f = absurd (cc)
back_by names s h n m (Some q) e f =
    let t : tree_in (trees_of names s) q ≡ var m = cc in
    variable_of_tree names s h q m (valid_tree names s q (binding_below names s h n q e) ∙ ap (λ x. Some x) t)

held_next : (names : Names) (s : TreeState) (h : IsSoundState names s) (n m : ℕ) → held (bound_in names s) n ≡ Some (var m) → variable_of_any s (binding_in s n) ≡ Some m
held_next names s h n m e = back_by names s h n m (binding_in s n) refl (sym (held_is (trees_of names s) s n) ∙ e)

-- What a chain comes to

here : (b : Bindings) (n v : ℕ) → (n == v) ≡ true → LeadsTo b (var n) v
here b n v e = let P : ℕ → Type 0 = λ x. LeadsTo b (var n) x in subst P ((Decides-eqb n v).0 e) (is_it n)

true_by : (names : Names) (s : TreeState) (h : IsSoundState names s) (k n v : ℕ) → ((m : ℕ) → leads_for k s m v ≡ true → LeadsTo (bound_in names s) (var m) v)
    → (e : Bool) → (n == v) ≡ e → (o : Option ℕ) → variable_of_any s (binding_in s n) ≡ o → cond e true (any_in (λ m. leads_for k s m v) o) ≡ true → LeadsTo (bound_in names s) (var n) v
true_by names s h k n v ih true e o f g = here (bound_in names s) n v e
true_by names s h k n v ih false e None f g = absurd (cc)
true_by names s h k n v ih false e (Some m) f g = through n (var m) (next_held names s h n m f) (ih m g)

leads_true : (names : Names) (s : TreeState) (h : IsSoundState names s) (k n v : ℕ) → leads_for k s n v ≡ true → LeadsTo (bound_in names s) (var n) v
unfolding leads_for
leads_true names s h zero n v e = here (bound_in names s) n v e
leads_true names s h (suc k) n v e = true_by names s h k n v (λ m f. leads_true names s h k m v f) (n == v) refl (variable_of_any s (binding_in s n)) refl e

-- a chain that leads to a variable is a variable at its head
abbrev Heads : Bindings → Tree → ℕ → Type 0
Heads b t v = (t ≡ var v) ⊎ ((m : ℕ) × (u : Tree) × (t ≡ var m) × (held b m ≡ Some u) × LeadsTo b u v)

heads : (b : Bindings) {t : Tree} {v : ℕ} → LeadsTo b t v → Heads b t v
heads b (is_it n) = inl refl
heads b (through m u e l) = inr (m, u, refl, e, l)

root_of : (b : Bindings) (t : Tree) (v : ℕ) → LeadsTo b t v → (m : ℕ) × (t ≡ var m)
root_of b t v l = elim (heads b l) [ inl e ↦ (v, e) | inr p ↦ (p.0, p.2) ]

by_test : (a b : Bool) → b ≡ true → cond a true b ≡ true
by_test true b e = refl
by_test false b e = e

false_by : (names : Names) (s : TreeState) (h : IsSoundState names s) (k n v m : ℕ) → variable_of_any s (binding_in s n) ≡ Some m → leads_for k s m v ≡ true → leads_for (suc k) s n v ≡ true
unfolding leads_for
false_by names s h k n v m e f = by_test (n == v) (any_in (λ j. leads_for k s j v) (variable_of_any s (binding_in s n))) (ap (any_in (λ j. leads_for k s j v)) e ∙ f)

here_for : (s : TreeState) (k n v : ℕ) → n ≡ v → leads_for k s n v ≡ true
unfolding leads_for
here_for s zero n v e = (Decides-eqb n v).1 e
here_for s (suc k) n v e = ap (λ b. cond b true (any_in (λ m. leads_for k s m v) (variable_of_any s (binding_in s n)))) ((Decides-eqb n v).1 e)

leads_back : (names : Names) (s : TreeState) (h : IsSoundState names s) (r : Ranked (bound_in names s)) (k n v : ℕ) → ((w : Tree) → held (bound_in names s) n ≡ Some w → r.rank n < k) → LeadsTo (bound_in names s) (var n) v → leads_for k s n v ≡ true
unfolding Occurs
leads_back names s h r zero n v below l = elim (heads (bound_in names s) l) [
  | inl e ↦ let same : n ≡ v = cc in here_for s zero n v same
  | inr p ↦ let same : n ≡ p.0 = let q : var n ≡ var p.0 = p.2 in cc in
      let bound : held (bound_in names s) n ≡ Some p.1 = ap (held (bound_in names s)) same ∙ p.3 in
      let low : r.rank n < 0 = below p.1 bound in absurd (omega arith)
]
leads_back names s h r (suc k) n v below l = elim (heads (bound_in names s) l) [
  | inl e ↦ let same : n ≡ v = cc in here_for s (suc k) n v same
  | inr p ↦
      let same : n ≡ p.0 = let q : var n ≡ var p.0 = p.2 in cc in
      let root : (m : ℕ) × (p.1 ≡ var m) = root_of (bound_in names s) p.1 v p.4 in
      let bound : held (bound_in names s) n ≡ Some (var root.0) = ap (held (bound_in names s)) same ∙ (p.3 ∙ ap (λ x. Some x) root.1) in
      let low : r.rank n < suc k = below (var root.0) bound in
      let P : Tree → Type 0 = λ u. LeadsTo (bound_in names s) u v in
      false_by names s h k n v root.0 (held_next names s h n root.0 bound)
      (leads_back names s h r k root.0 v (λ w f. let fall : r.rank root.0 < r.rank n = r.falls n root.0 (var root.0) w bound refl f in omega arith) (subst P root.1 p.4))
]

-- a variable leads to another one exactly where the chain comes to it
pub leads_is : (names : Names) (s : TreeState) (h : IsSoundState names s) (n v : ℕ) → IsAcyclic (bound_in names s) → IsTrue (leads_in s n v) ↔ LeadsTo (bound_in names s) (var n) v
leads_is names s h n v a =
    let r : Ranked (bound_in names s) = ranked (bound_in names s) a in
    let l : length (bound_in names s) ≡ length s.variables = length-map (map (variable_of (trees_of names s)) s.variables) binding ∙ length-map s.variables (variable_of (trees_of names s)) in
    (λ e. leads_true names s h (length s.variables) n v e, λ e. leads_back names s h r (length s.variables) n v (λ w f. let low : r.rank n < length (bound_in names s) = r.below n w f in omega arith) e)

leads_any : (names : Names) (s : TreeState) (h : IsSoundState names s) (t : Tree) (v : ℕ) (o : Option ℕ) → IsAcyclic (bound_in names s) → ((m : ℕ) → o ≡ Some m → t ≡ var m) → ((m : ℕ) → t ≡ var m → o ≡ Some m) → IsTrue (any_in (λ n. leads_in s n v) o) ↔ LeadsTo (bound_in names s) t v
leads_any names s h t v None a f g = (λ e. absurd (cc), λ l. let root = root_of (bound_in names s) t v l in let x = g root.0 root.1 in absurd (cc))
leads_any names s h t v (Some m) a f g = let P : Tree → Type 0 = λ u. IsTrue (leads_in s m v) ↔ LeadsTo (bound_in names s) u v in subst P (sym (f m refl)) (leads_is names s h m v a)

variable_tree_of : (names : Names) (s : TreeState) (h : IsSoundState names s) (r : Ref) (t : Tree) (m : ℕ) → slice_get (trees_of names s) r.number ≡ Some t → variable_in s r ≡ Some m → t ≡ var m
variable_tree_of names s h r t m e f = let d : slice_get (trees_of names s) r.number ≡ Some (var m) = own_tree names s h r.number m (slice_get s.terms r.number) refl f in cc

pub leads_term : (names : Names) (s : TreeState) (h : IsSoundState names s) (r : Ref) (t : Tree) (v : ℕ) (b : Bool) → b ≡ any_in (λ n. leads_in s n v) (variable_in s r) → slice_get (trees_of names s) r.number ≡ Some t → IsAcyclic (bound_in names s) → IsTrue b ↔ LeadsTo (bound_in names s) t v
leads_term names s h r t v b f e a =
    let P : Bool → Type 0 = λ x. IsTrue x ↔ LeadsTo (bound_in names s) t v in
    subst P (sym f) (leads_any names s h t v (variable_in s r) a (λ m g. variable_tree_of names s h r t m e g) (λ m g. variable_of_tree names s h r m (e ∙ ap (λ x. Some x) g)))
