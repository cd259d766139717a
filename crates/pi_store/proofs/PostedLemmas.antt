-- The constraints on a variable.
use Rattle.std.proofs.Common.{◌≡◌, ℕ, ◌<◌, Bool, true, false, List, [], ◌∷◌, length, refl, ap, sym, subst, ◌∙◌, ◌⊎◌, inl, inr, cond}
use Rattle.std.specs.Prelude.{slice_index, IsTrue, ◌↔◌, ℤ}
use Rattle.pi_terms.specs.Tree.{var}
use Rattle.pi_constraints.specs.Value.{IsAcyclic}
use Rattle.pi_constraints.specs.Constraint.{HoldsVariable, HoldVariable, SumHasVariable, SpeaksOf}
use Rattle.pi_constraints.specs.declared.constraint.Item.{Item}
use Rattle.pi_constraints.specs.declared.constraint.Constraint.{Constraint}
use Rattle.pi_constraints.specs.State.{LeadsTo}
use Rattle.pi_constraints.specs.Store.{Lists, IsPostedOn}
use Rattle.pi_region.specs.Image.{Image}
use Rattle.pi_store_blocks.specs.Heap.{Heap}
use Rattle.pi_store_blocks.specs.ConstraintTable.{constraint_at}
use Rattle.pi_store_blocks.specs.NameTable.{NameTable}
use Rattle.pi_store.specs.Walk.{leads_at}
use Rattle.pi_store.specs.Posted.{item_leads, items_lead, sum_leads, constraint_leads, posted_at, ListsBelow}
use Rattle.pi_store.specs.Holding.{heap_of, view_of}
use Rattle.pi_store.specs.Bindings.{HasBound, bound_in}
use Rattle.pi_store.proofs.LeadLemmas.{leads_is}
use Rattle.pi_store.proofs.TableLemmas.{get_mapped, mapped}
use Rattle.pi_store.proofs.FoundLemmas.{lists_all}

-- a variable of this kind leads to v
abbrev Reaches : Heap → List ℕ → (ℕ → Type 0) → ℕ → Type 0
Reaches h vs P v = (n : ℕ) × P n × LeadsTo (bound_in h vs) (var n) v

pub or_true : (a b : Bool) → cond a true b ≡ true → (a ≡ true) ⊎ (b ≡ true)
or_true true b e = inl refl
or_true false b e = inr e

true_or : (a b : Bool) → (a ≡ true) ⊎ (b ≡ true) → cond a true b ≡ true
true_or true b h = refl
true_or false b (inl e) = absurd (cc)
true_or false b (inr e) = e

item_is : (h : Heap) (vs : List ℕ) (has : HasBound h vs) (a : IsAcyclic (bound_in h vs)) (i : Item) (v : ℕ) → (item_leads vs i v ≡ true) ↔ Reaches h vs (HoldsVariable i) v
item_is h vs has a (Item.Var n) v = (λ e. (n, refl, (leads_is h vs has n v a).0 e), λ r. let P : ℕ → Type 0 = λ m. LeadsTo (bound_in h vs) (var m) v in (leads_is h vs has n v a).1 (subst P (sym r.1) r.2))
item_is h vs has a (Item.Int n) v = (λ e. absurd (cc), λ r. absurd r.1)

-- one of two kinds
either : (h : Heap) (vs : List ℕ) (P Q : ℕ → Type 0) (x y : Bool) (v : ℕ) → (x ≡ true) ↔ Reaches h vs P v → (y ≡ true) ↔ Reaches h vs Q v → (cond x true y ≡ true) ↔ Reaches h vs (λ n. P n ⊎ Q n) v
either h vs P Q x y v f g = (
  λ e. elim (or_true x y e) [ inl p ↦ let r = f.0 p in (r.0, inl r.1, r.2) | inr p ↦ let r = g.0 p in (r.0, inr r.1, r.2) ],
  λ r. true_or x y (elim r.1 [ inl p ↦ inl (f.1 (r.0, p, r.2)) | inr p ↦ inr (g.1 (r.0, p, r.2)) ]),
)

items_are : (h : Heap) (vs : List ℕ) (has : HasBound h vs) (a : IsAcyclic (bound_in h vs)) (is : List Item) (v : ℕ) → (items_lead vs is v ≡ true) ↔ Reaches h vs (HoldVariable is) v
unfolding items_lead HoldVariable
items_are h vs has a [] v = (λ e. absurd (cc), λ r. absurd r.1)
items_are h vs has a (i ∷ is) v = either h vs (HoldsVariable i) (HoldVariable is) (item_leads vs i v) (items_lead vs is v) v (item_is h vs has a i v) (items_are h vs has a is v)

term_is : (h : Heap) (vs : List ℕ) (has : HasBound h vs) (a : IsAcyclic (bound_in h vs)) (n v : ℕ) → (leads_at vs n v ≡ true) ↔ Reaches h vs (λ m. n ≡ m) v
term_is h vs has a n v = item_is h vs has a (Item.Var n) v

sum_is : (h : Heap) (vs : List ℕ) (has : HasBound h vs) (a : IsAcyclic (bound_in h vs)) (ts : List (ℤ × ℕ)) (v : ℕ) → (sum_leads vs ts v ≡ true) ↔ Reaches h vs (SumHasVariable ts) v
unfolding sum_leads SumHasVariable
sum_is h vs has a [] v = (λ e. absurd (cc), λ r. absurd r.1)
sum_is h vs has a ((c, n) ∷ ts) v = either h vs (λ m. n ≡ m) (SumHasVariable ts) (leads_at vs n v) (sum_leads vs ts v) v (term_is h vs has a n v) (sum_is h vs has a ts v)

constraint_is : (h : Heap) (vs : List ℕ) (has : HasBound h vs) (a : IsAcyclic (bound_in h vs)) (c : Constraint) (v : ℕ) → (constraint_leads vs c v ≡ true) ↔ Reaches h vs (SpeaksOf c) v
constraint_is h vs has a (Constraint.Linear rel terms constant) v = sum_is h vs has a terms v
constraint_is h vs has a (Constraint.Product z x y) v = either h vs (HoldsVariable z) (λ n. HoldsVariable x n ⊎ HoldsVariable y n) (item_leads vs z v) (cond (item_leads vs x v) true (item_leads vs y v)) v
    (item_is h vs has a z v) (either h vs (HoldsVariable x) (HoldsVariable y) (item_leads vs x v) (item_leads vs y v) v (item_is h vs has a x v) (item_is h vs has a y v))
constraint_is h vs has a (Constraint.Absolute z x) v = either h vs (HoldsVariable z) (HoldsVariable x) (item_leads vs z v) (item_leads vs x v) v (item_is h vs has a z v) (item_is h vs has a x v)
constraint_is h vs has a (Constraint.Different items) v = items_are h vs has a items v
constraint_is h vs has a (Constraint.Element index items value) v = either h vs (HoldsVariable index) (λ n. HoldVariable items n ⊎ HoldsVariable value n) (item_leads vs index v) (cond (items_lead vs items v) true (item_leads vs value v)) v
    (item_is h vs has a index v) (either h vs (HoldVariable items) (HoldsVariable value) (items_lead vs items v) (item_leads vs value v) v (items_are h vs has a items v) (item_is h vs has a value v))
constraint_is h vs has a (Constraint.Reified truth rel terms constant) v = either h vs (HoldsVariable truth) (SumHasVariable terms) (item_leads vs truth v) (sum_leads vs terms v) v (item_is h vs has a truth v) (sum_is h vs has a terms v)
constraint_is h vs has a (Constraint.Distinct items) v = items_are h vs has a items v

posted_by : (t : NameTable) (i : Image) → HasBound (heap_of t i) i.variables → IsAcyclic (bound_in (heap_of t i) i.variables) → (v n : ℕ) → n < length i.constraints → posted_at i v n ≡ true → IsPostedOn (view_of t i).now.state v n
posted_by t i has a v n lt e =
    let c : Constraint = constraint_at i.region (slice_index i.constraints n) in
    let r = (constraint_is (heap_of t i) i.variables has a c v).0 e in
    (c, r.0, get_mapped (constraint_at i.region) i.constraints n lt, r.1, r.2)

by_posted : (t : NameTable) (i : Image) → HasBound (heap_of t i) i.variables → IsAcyclic (bound_in (heap_of t i) i.variables) → (v n : ℕ) → IsPostedOn (view_of t i).now.state v n → (n < length i.constraints) × IsTrue (posted_at i v n)
by_posted t i has a v n p =
    let m = mapped (constraint_at i.region) i.constraints n p.0 p.2 in
    (m.0, ap (λ c. constraint_leads i.variables c v) (sym m.1) ∙ (constraint_is (heap_of t i) i.variables has a p.0 v).1 (p.1, p.3, p.4))

pub posted_are : (t : NameTable) (i : Image) → HasBound (heap_of t i) i.variables → (v : ℕ) (found : List ℕ) → ListsBelow (λ n. IsTrue (posted_at i v n)) (length i.constraints) found → IsAcyclic (bound_in (heap_of t i) i.variables)
    → Lists (IsPostedOn (view_of t i).now.state v) found
posted_are t i has v found l a = lists_all (λ n. IsTrue (posted_at i v n)) (IsPostedOn (view_of t i).now.state v) (length i.constraints) found l (λ n lt p. posted_by t i has a v n lt p) (λ n p. by_posted t i has a v n p)
