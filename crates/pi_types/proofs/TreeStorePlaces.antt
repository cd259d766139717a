-- The constraints on a variable of a copying store, and the variables that changed.
use Rattle.std.proofs.Common.{◌≡◌, ℕ, ◌<◌, Bool, true, false, List, [], ◌∷◌, length, Option, Some, None, refl, ap, sym, subst, ◌∙◌, ◌⊎◌, inl, inr, arith, map, cond}
use Rattle.std.specs.Prelude.{slice_get, option_map, IsTrue, ◌↔◌, ℤ}
use Rattle.std.specs.Option.{is_some}
use Rattle.std.proofs.lemmas.List.{length-map}
use Rattle.std.proofs.lemmas.Option.{slice_get_within}
use Rattle.pi_terms.specs.Tree.{Tree, var}
use Rattle.pi_terms.specs.Places.{held}
use Rattle.pi_constraints.specs.Value.{IsAcyclic}
use Rattle.pi_constraints.specs.Constraint.{HoldsVariable, HoldVariable, SumHasVariable, SpeaksOf}
use Rattle.pi_constraints.specs.State.{bindings, LeadsTo}
use Rattle.pi_constraints.specs.Store.{Lists, IsPostedOn, HasChanged}
use Rattle.pi_types.specs.TreeStore.{tree_in, trees_of, variable_of, state_of}
use Rattle.pi_types.specs.TreeStoreWalks.{bound_ref, bound_ref_of, binding_in, leads_in, item_leads, items_lead, sum_leads, constraint_leads, posted_of, posted_in, HasChangedIn, ListsBelow, unbound_of, unless_bound, is_unbound_in}
use Rattle.pi_types.specs.TreeStoreSound.{IsSoundState}
use Rattle.pi_constraints.specs.declared.constraint.Item.{Item}
use Rattle.pi_constraints.specs.declared.constraint.Constraint.{Constraint}
use Rattle.pi_constraints.specs.declared.store.Ref.{Ref}
use Rattle.pi_types.specs.declared.tree_store.state.StoredVariable.{StoredVariable}
use Rattle.pi_types.specs.declared.tree_store.state.TreeState.{TreeState}
use Rattle.pi_terms.proofs.GetLemmas.{get_some}
use Rattle.pi_types.proofs.TreeStoreTrees.{Names}
use Rattle.pi_types.proofs.TreeStoreLooks.{bound_in, held_is}
use Rattle.pi_types.proofs.TreeStoreLeads.{leads_is}
use Rattle.pi_types.proofs.TreeStoreBinds.{domain_is}
use Rattle.pi_types.proofs.PlaceLemmas.{lists_all}

-- a variable of this kind leads to v
abbrev Reaches : Names → TreeState → (ℕ → Type 0) → ℕ → Type 0
Reaches names s P v = (n : ℕ) × P n × LeadsTo (bound_in names s) (var n) v

or_true : (a b : Bool) → cond a true b ≡ true → (a ≡ true) ⊎ (b ≡ true)
or_true true b e = inl refl
or_true false b e = inr e

true_or : (a b : Bool) → (a ≡ true) ⊎ (b ≡ true) → cond a true b ≡ true
true_or true b h = refl
true_or false b (inl e) = absurd (cc)
true_or false b (inr e) = e

item_is : (names : Names) (s : TreeState) (h : IsSoundState names s) (a : IsAcyclic (bound_in names s)) (i : Item) (v : ℕ) → (item_leads s i v ≡ true) ↔ Reaches names s (HoldsVariable i) v
item_is names s h a (Item.Var n) v = (λ e. (n, refl, (leads_is names s h n v a).0 e), λ r. let P : ℕ → Type 0 = λ m. LeadsTo (bound_in names s) (var m) v in (leads_is names s h n v a).1 (subst P (sym r.1) r.2))
item_is names s h a (Item.Int n) v = (λ e. absurd (cc), λ r. absurd r.1)

-- one of two kinds
either : (names : Names) (s : TreeState) (P Q : ℕ → Type 0) (x y : Bool) (v : ℕ) → (x ≡ true) ↔ Reaches names s P v → (y ≡ true) ↔ Reaches names s Q v → (cond x true y ≡ true) ↔ Reaches names s (λ n. P n ⊎ Q n) v
either names s P Q x y v f g = (
  λ e. elim (or_true x y e) [ inl p ↦ let r = f.0 p in (r.0, inl r.1, r.2) | inr p ↦ let r = g.0 p in (r.0, inr r.1, r.2) ],
  λ r. true_or x y (elim r.1 [ inl p ↦ inl (f.1 (r.0, p, r.2)) | inr p ↦ inr (g.1 (r.0, p, r.2)) ]),
)

items_are : (names : Names) (s : TreeState) (h : IsSoundState names s) (a : IsAcyclic (bound_in names s)) (is : List Item) (v : ℕ) → (items_lead s is v ≡ true) ↔ Reaches names s (HoldVariable is) v
unfolding items_lead HoldVariable
items_are names s h a [] v = (λ e. absurd (cc), λ r. absurd r.1)
items_are names s h a (i ∷ is) v = either names s (HoldsVariable i) (HoldVariable is) (item_leads s i v) (items_lead s is v) v (item_is names s h a i v) (items_are names s h a is v)

term_is : (names : Names) (s : TreeState) (h : IsSoundState names s) (a : IsAcyclic (bound_in names s)) (n v : ℕ) → (leads_in s n v ≡ true) ↔ Reaches names s (λ m. n ≡ m) v
term_is names s h a n v = item_is names s h a (Item.Var n) v

sum_is : (names : Names) (s : TreeState) (h : IsSoundState names s) (a : IsAcyclic (bound_in names s)) (ts : List (ℤ × ℕ)) (v : ℕ) → (sum_leads s ts v ≡ true) ↔ Reaches names s (SumHasVariable ts) v
unfolding sum_leads SumHasVariable
sum_is names s h a [] v = (λ e. absurd (cc), λ r. absurd r.1)
sum_is names s h a ((c, n) ∷ ts) v = either names s (λ m. n ≡ m) (SumHasVariable ts) (leads_in s n v) (sum_leads s ts v) v (term_is names s h a n v) (sum_is names s h a ts v)

constraint_is : (names : Names) (s : TreeState) (h : IsSoundState names s) (a : IsAcyclic (bound_in names s)) (c : Constraint) (v : ℕ) → (constraint_leads s c v ≡ true) ↔ Reaches names s (SpeaksOf c) v
constraint_is names s h a (Constraint.Linear rel terms constant) v = sum_is names s h a terms v
constraint_is names s h a (Constraint.Product z x y) v = either names s (HoldsVariable z) (λ n. HoldsVariable x n ⊎ HoldsVariable y n) (item_leads s z v) (cond (item_leads s x v) true (item_leads s y v)) v
    (item_is names s h a z v) (either names s (HoldsVariable x) (HoldsVariable y) (item_leads s x v) (item_leads s y v) v (item_is names s h a x v) (item_is names s h a y v))
constraint_is names s h a (Constraint.Absolute z x) v = either names s (HoldsVariable z) (HoldsVariable x) (item_leads s z v) (item_leads s x v) v (item_is names s h a z v) (item_is names s h a x v)
constraint_is names s h a (Constraint.Different items) v = items_are names s h a items v
constraint_is names s h a (Constraint.Element index items value) v = either names s (HoldsVariable index) (λ n. HoldVariable items n ⊎ HoldsVariable value n) (item_leads s index v) (cond (items_lead s items v) true (item_leads s value v)) v
    (item_is names s h a index v) (either names s (HoldVariable items) (HoldsVariable value) (items_lead s items v) (item_leads s value v) v (items_are names s h a items v) (item_is names s h a value v))
constraint_is names s h a (Constraint.Reified truth rel terms constant) v = either names s (HoldsVariable truth) (SumHasVariable terms) (item_leads s truth v) (sum_leads s terms v) v (item_is names s h a truth v) (sum_is names s h a terms v)
constraint_is names s h a (Constraint.Distinct items) v = items_are names s h a items v

posted_by : (names : Names) (s : TreeState) (h : IsSoundState names s) (a : IsAcyclic (bound_in names s)) (v i : ℕ) (o : Option Constraint) → slice_get s.constraints i ≡ o → posted_of s v o ≡ true → IsPostedOn (state_of (trees_of names s) s) v i
posted_by names s h a v i None e f = absurd (cc)
posted_by names s h a v i (Some c) e f = let r = (constraint_is names s h a c v).0 f in (c, r.0, e, r.1, r.2)

by_posted : (names : Names) (s : TreeState) (h : IsSoundState names s) (a : IsAcyclic (bound_in names s)) (v i : ℕ) → IsPostedOn (state_of (trees_of names s) s) v i → (i < length s.constraints) × IsTrue (posted_in s v i)
by_posted names s h a v i p =
    (slice_get_within s.constraints i p.0 p.2, ap (posted_of s v) p.2 ∙ (constraint_is names s h a p.0 v).1 (p.1, p.3, p.4))

pub posted_are : (names : Names) (s : TreeState) (h : IsSoundState names s) (v : ℕ) (found : List ℕ) → ListsBelow (λ i. IsTrue (posted_in s v i)) (length s.constraints) found → IsAcyclic (bound_in names s) → Lists (IsPostedOn (state_of (trees_of names s) s) v) found
posted_are names s h v found l a = lists_all (λ i. IsTrue (posted_in s v i)) (IsPostedOn (state_of (trees_of names s) s) v) (length s.constraints) found l
    (λ i _ p. posted_by names s h a v i (slice_get s.constraints i) refl p) (λ i p. by_posted names s h a v i p)

-- what changed

free_known : (n : ℕ) (o : Option Ref) → IsTrue (is_some (unless_bound n o)) → o ≡ None
free_known n None f = refl
free_known n (Some q) f = absurd (cc)

unbound_by : (s : TreeState) (n : ℕ) (o : Option StoredVariable) → slice_get s.variables n ≡ o → IsTrue (is_some (unbound_of n o)) → (n < length s.variables) × (binding_in s n ≡ None)
unbound_by s n None e f = absurd (cc)
unbound_by s n (Some v) e f = (slice_get_within s.variables n v e, ap bound_ref_of e ∙ free_known n (bound_ref v.known) f)

by_unbound : (s : TreeState) (n : ℕ) → n < length s.variables → binding_in s n ≡ None → IsTrue (is_unbound_in s n)
by_unbound s n l b =
    let v = get_some s.variables n l in
    let x : bound_ref v.0.known ≡ None = ap bound_ref_of (sym v.1) ∙ b in
    ap (λ o. is_some (unbound_of n o)) v.1 ∙ ap (λ o. is_some (unless_bound n o)) x

none_mapped : (trees : List Tree) (o : Option Ref) → option_map (tree_in trees) o ≡ None → o ≡ None
none_mapped trees None e = refl
none_mapped trees (Some q) e = absurd (cc)

some_is : (o : Option Ref) → IsTrue (is_some o) → o ≡ None → ⊥
some_is None f e = absurd (cc)
some_is (Some q) f e = absurd (cc)

is_some_if : (o : Option Ref) → (o ≡ None → ⊥) → IsTrue (is_some o)
is_some_if None f = absurd (f refl)
is_some_if (Some q) f = refl

held_none : (trees : List Tree) (s : TreeState) (n : ℕ) → held (bindings (state_of trees s)) n ≡ None → binding_in s n ≡ None
held_none trees s n e = none_mapped trees (binding_in s n) (sym (held_is trees s n) ∙ e)

none_held : (trees : List Tree) (s : TreeState) (n : ℕ) → binding_in s n ≡ None → held (bindings (state_of trees s)) n ≡ None
none_held trees s n e = held_is trees s n ∙ ap (λ o. option_map (tree_in trees) o) e

changed_to_is : (ts us : List Tree) (s u : TreeState) (n : ℕ) → HasChangedIn s u n → HasChanged (state_of ts s) (state_of us u) n
changed_to_is ts us s u n h =
    let q = unbound_by s n (slice_get s.variables n) refl h.0 in
    let l : length (map (variable_of ts) s.variables) ≡ length s.variables = length-map s.variables (variable_of ts) in
    let w : n < length s.variables = q.0 in (
      (omega arith, none_held ts s n q.1),
      elim h.1 [
        | inl b ↦ inl (λ e. some_is (binding_in u n) b (held_none us u n e))
        | inr d ↦ inr (λ e. d (sym (domain_is us u n) ∙ (e ∙ domain_is ts s n)))
      ],
    )

is_changed_to : (ts us : List Tree) (s u : TreeState) (n : ℕ) → HasChanged (state_of ts s) (state_of us u) n → (n < length s.variables) × (HasChangedIn s u n)
is_changed_to ts us s u n h =
    let l : length (map (variable_of ts) s.variables) ≡ length s.variables = length-map s.variables (variable_of ts) in
    let w : n < length (map (variable_of ts) s.variables) = h.0.0 in (
      omega arith,
      (
        by_unbound s n (omega arith) (held_none ts s n h.0.1),
        elim h.1 [
          | inl b ↦ inl (is_some_if (binding_in u n) (λ e. b (none_held us u n e)))
          | inr d ↦ inr (λ e. d (domain_is us u n ∙ (e ∙ sym (domain_is ts s n))))
        ],
      ),
    )

pub changed_are : (ts us : List Tree) (s u : TreeState) (found : List ℕ) → ListsBelow (HasChangedIn s u) (length s.variables) found → Lists (HasChanged (state_of ts s) (state_of us u)) found
changed_are ts us s u found l = lists_all (HasChangedIn s u) (HasChanged (state_of ts s) (state_of us u)) (length s.variables) found l
    (λ n _ h. changed_to_is ts us s u n h) (λ n h. is_changed_to ts us s u n h)

pub changed_since_is : (names : Names) (s q u : TreeState) (found : List ℕ) → q ≡ s → ListsBelow (HasChangedIn q u) (length q.variables) found → Lists (HasChanged (state_of (trees_of names s) s) (state_of (trees_of names u) u)) found
changed_since_is names s q u found e l = let P : TreeState → Type 0 = λ w. Lists (HasChanged (state_of (trees_of names w) w) (state_of (trees_of names u) u)) found in
    subst P e (changed_are (trees_of names q) (trees_of names u) q u found l)
