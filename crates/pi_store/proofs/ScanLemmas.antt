-- The numbers of a list in ascending order, of which those are kept that are posted on a variable.
use Rattle.std.proofs.Common.{◌≡◌, ◌⊎◌, inl, inr, ⊎_elim, ℕ, zero, suc, ◌+◌, ◌<◌, ◌≤◌, Bool, true, false, List, [], ◌∷◌, length, slice_index, refl, ap, sym, subst, ◌∙◌, arith, cond}
use Rattle.std.specs.List.Sorted.{IsNonDecreasing}
use Rattle.std.specs.Prelude.{IsTrue, Contains, ℤ, ◌==◌, Option, Some, None}
use Rattle.std.proofs.lemmas.Bool.{cases_lt}
use Rattle.std.proofs.lemmas.Bool.Decides.{Decides-eqb}
use Rattle.pi_constraints.specs.Constraint.{HoldsVariable, HoldVariable, SumHasVariable, SpeaksOf}
use Rattle.pi_constraints.specs.declared.constraint.Item.{Item}
use Rattle.pi_constraints.specs.declared.constraint.Constraint.{Constraint}
use Rattle.pi_region.specs.Image.{Image}
use Rattle.pi_store_blocks.specs.ConstraintTable.{constraint_at}
use Rattle.pi_store.specs.Walk.{next_at, any_of, leads_for, leads_at}
use Rattle.pi_store.specs.Lists.{Leads, at_once, by_next, IsOnList, IsComplete}
use Rattle.pi_store.specs.Posted.{item_leads, items_lead, sum_leads, constraint_leads, posted_at, ListsBelow, Passes, sought}
use Rattle.pi_store.proofs.FoundLemmas.{lists_more, lists_jump, lists_none}
use Rattle.pi_store.proofs.PostedLemmas.{or_true}

-- What is posted on a variable is in its list

leads_by : (vs : List ℕ) (k n v : ℕ) → ((m : ℕ) → leads_for k vs m v ≡ true → Leads vs m v) → (e : Bool) → (n == v) ≡ e → (o : Option ℕ) → next_at vs n ≡ o → cond e true (any_of (λ m. leads_for k vs m v) o) ≡ true → Leads vs n v
leads_by vs k n v ih true e o f g = subst (Leads vs n) ((Decides-eqb n v).0 e) (at_once n)
leads_by vs k n v ih false e None f g = absurd (cc)
leads_by vs k n v ih false e (Some m) f g = by_next n m f (ih m g)

leads_there : (vs : List ℕ) (k n v : ℕ) → leads_for k vs n v ≡ true → Leads vs n v
unfolding leads_for
leads_there vs zero n v e = subst (Leads vs n) ((Decides-eqb n v).0 e) (at_once n)
leads_there vs (suc k) n v e = leads_by vs k n v (λ m f. leads_there vs k m v f) (n == v) refl (next_at vs n) refl e

-- a variable of this kind leads to v
abbrev From : List ℕ → (ℕ → Type 0) → ℕ → Type 0
From vs P v = (n : ℕ) × P n × Leads vs n v

from_variable : (vs : List ℕ) (n v : ℕ) → leads_at vs n v ≡ true → From vs (λ m. n ≡ m) v
from_variable vs n v e = (n, refl, leads_there vs (length vs) n v e)

from_item : (vs : List ℕ) (i : Item) (v : ℕ) → item_leads vs i v ≡ true → From vs (HoldsVariable i) v
from_item vs (Item.Var n) v e = from_variable vs n v e
from_item vs (Item.Int n) v e = absurd (cc)

from_either : (vs : List ℕ) (P Q : ℕ → Type 0) (x y : Bool) (v : ℕ) → (x ≡ true → From vs P v) → (y ≡ true → From vs Q v) → cond x true y ≡ true → From vs (λ n. P n ⊎ Q n) v
from_either vs P Q x y v f g e = elim (or_true x y e) [ inl a ↦ let r = f a in (r.0, inl r.1, r.2) | inr b ↦ let r = g b in (r.0, inr r.1, r.2) ]

from_items : (vs : List ℕ) (is : List Item) (v : ℕ) → items_lead vs is v ≡ true → From vs (HoldVariable is) v
unfolding items_lead HoldVariable
from_items vs [] v e = absurd (cc)
from_items vs (i ∷ is) v e = from_either vs (HoldsVariable i) (HoldVariable is) (item_leads vs i v) (items_lead vs is v) v (from_item vs i v) (from_items vs is v) e

from_sum : (vs : List ℕ) (ts : List (ℤ × ℕ)) (v : ℕ) → sum_leads vs ts v ≡ true → From vs (SumHasVariable ts) v
unfolding sum_leads SumHasVariable
from_sum vs [] v e = absurd (cc)
from_sum vs ((c, n) ∷ ts) v e = from_either vs (λ m. n ≡ m) (SumHasVariable ts) (leads_at vs n v) (sum_leads vs ts v) v (from_variable vs n v) (from_sum vs ts v) e

from_constraint : (vs : List ℕ) (c : Constraint) (v : ℕ) → constraint_leads vs c v ≡ true → From vs (SpeaksOf c) v
from_constraint vs (Constraint.Linear rel terms constant) v e = from_sum vs terms v e
from_constraint vs (Constraint.Product z x y) v e =
    from_either vs (HoldsVariable z) (λ n. HoldsVariable x n ⊎ HoldsVariable y n) (item_leads vs z v) (cond (item_leads vs x v) true (item_leads vs y v)) v (from_item vs z v)
    (from_either vs (HoldsVariable x) (HoldsVariable y) (item_leads vs x v) (item_leads vs y v) v (from_item vs x v) (from_item vs y v)) e
from_constraint vs (Constraint.Absolute z x) v e = from_either vs (HoldsVariable z) (HoldsVariable x) (item_leads vs z v) (item_leads vs x v) v (from_item vs z v) (from_item vs x v) e
from_constraint vs (Constraint.Different items) v e = from_items vs items v e
from_constraint vs (Constraint.Element index items value) v e =
    from_either vs (HoldsVariable index) (λ n. HoldVariable items n ⊎ HoldsVariable value n) (item_leads vs index v) (cond (items_lead vs items v) true (item_leads vs value v)) v (from_item vs index v)
    (from_either vs (HoldVariable items) (HoldsVariable value) (items_lead vs items v) (item_leads vs value v) v (from_items vs items v) (from_item vs value v)) e
from_constraint vs (Constraint.Reified truth rel terms constant) v e =
    from_either vs (HoldsVariable truth) (SumHasVariable terms) (item_leads vs truth v) (sum_leads vs terms v) v (from_item vs truth v) (from_sum vs terms v) e
from_constraint vs (Constraint.Distinct items) v e = from_items vs items v e

posted_listed : (i : Image) (v n : ℕ) → IsComplete i → n < length i.constraints → posted_at i v n ≡ true → IsOnList i v n
posted_listed i v n c lt e =
    let from = from_constraint i.variables (constraint_at i.region (slice_index i.constraints n)) v e in
    c.listed n from.0 v lt from.1 from.2

-- The scan

-- the place of a number in a list
placed : (xs : List ℕ) (x : ℕ) → Contains xs x → (k : ℕ) × (k < length xs) × (slice_index xs k ≡ x)
placed [] x (k, l, e) = absurd (omega arith)
placed (y ∷ ys) x (zero, l, e) = (0, l, e)
placed (y ∷ ys) x (suc k, l, e) = let p = placed ys x (k, omega arith, e) in let lt : p.0 < length ys = p.1 in (suc p.0, omega arith, p.2)

-- so far: those below the least that is looked for were found that are posted; what was passed is below it, or of no constraint
pub record Scanned (i : Image) (v : ℕ) (numbers : List ℕ) (at least : ℕ) (found : List ℕ) : Type 0 where
  pub lists : IsComplete i → ListsBelow (λ n. IsTrue (posted_at i v n)) least found
  pub passed : (k : ℕ) → k < at → (slice_index numbers k < least) ⊎ (length i.constraints ≤ slice_index numbers k)
  pub within : least ≤ length i.constraints

pub scan_starts : (i : Image) (v : ℕ) (numbers found : List ℕ) → found ≡ [] → Scanned i v numbers 0 0 found
scan_starts i v numbers found none = record {
  lists = λ c. subst (ListsBelow (λ n. IsTrue (posted_at i v n)) 0) (sym none) (lists_none (λ n. IsTrue (posted_at i v n)));
  passed = λ k lt. absurd (omega arith);
  within = omega arith;
}

-- between the least that is looked for and what comes next in the list is nothing that is posted
gap : (i : Image) (v : ℕ) (numbers : List ℕ) (at least : ℕ) (found : List ℕ) → Scanned i v numbers at least found → IsNonDecreasing numbers → ((k : ℕ) → IsOnList i v k → Contains numbers k) → IsComplete i
    → (bound : ℕ) → bound ≤ length i.constraints → (at < length numbers → bound ≤ slice_index numbers at) → (m : ℕ) → least ≤ m → m < bound → IsTrue (posted_at i v m) → ⊥
gap i v numbers at least found so up all c bound within next m low below posted =
    let p = placed numbers m (all m (posted_listed i v m c (omega arith) posted)) in
    let there : p.0 < length numbers = p.1 in
    let is : slice_index numbers p.0 ≡ m = p.2 in
    ⊎_elim
    (λ early. elim (so.passed p.0 early) [
      | inl less ↦ let lt : slice_index numbers p.0 < least = less in absurd (omega arith)
      | inr none ↦ let le : length i.constraints ≤ slice_index numbers p.0 = none in absurd (omega arith)
    ])
    (λ late.
    let rise : slice_index numbers at ≤ slice_index numbers p.0 = up at p.0 0 late there in
    let from : bound ≤ slice_index numbers at = next (omega arith) in
    absurd (omega arith))
    (cases_lt p.0 at)

last_or_before : (k at : ℕ) → k < at + 1 → (k < at) ⊎ (k ≡ at)
last_or_before k at lt = ⊎_elim (λ less. inl less) (λ more. let e : k ≡ at = omega arith in inr e) (cases_lt k at)

pub scan_turns : (i : Image) (v : ℕ) (numbers : List ℕ) (at least : ℕ) (found : List ℕ) (n next : ℕ) (new : List ℕ) → Scanned i v numbers at least found → IsNonDecreasing numbers → ((k : ℕ) → IsOnList i v k → Contains numbers k)
    → n ≡ slice_index numbers at → Passes i (sought v least) n found new next → Scanned i v numbers (at + 1) next new
scan_turns i v numbers at least found n next new so up all is (inl p) =
    let least_is : next ≡ least = p.1 in
    let within : least ≤ length i.constraints = so.within in
    record {
      lists = λ c. subst (λ (ns : List ℕ). ListsBelow (λ m. IsTrue (posted_at i v m)) next ns) (sym p.2) (subst (λ (m : ℕ). ListsBelow (λ x. IsTrue (posted_at i v x)) m found) (sym least_is) (so.lists c));
      passed = λ k lt. elim (last_or_before k at lt) [
        | inl early ↦ elim (so.passed k early) [ inl less ↦ inl (omega arith) | inr none ↦ inr none ]
        | inr last ↦
            let here : slice_index numbers k ≡ n = ap (slice_index numbers) last ∙ sym is in
            elim p.0 [ inl less ↦ inl (omega arith) | inr none ↦ inr (omega arith) ]
      ];
      within = omega arith;
    }
scan_turns i v numbers at least found n next new so up all is (inr p) =
    let low : least ≤ n = p.0 in
    let below : n < length i.constraints = p.1 in
    let then : next ≡ n + 1 = p.2 in
    let P : ℕ → Type 0 = λ m. IsTrue (posted_at i v m) in
    record {
      lists = λ c. subst (λ (m : ℕ). ListsBelow (λ x. IsTrue (posted_at i v x)) m new) (sym then)
          (lists_more (λ m. IsTrue (posted_at i v m)) n found new (posted_at i v n)
          (lists_jump (λ m. IsTrue (posted_at i v m)) least n found (so.lists c) low (gap i v numbers at least found so up all c n (omega arith) (λ lt. omega arith))) (λ h. h, λ h. h) p.3);
      passed = λ k lt. elim (last_or_before k at lt) [
        | inl early ↦ elim (so.passed k early) [ inl less ↦ inl (omega arith) | inr none ↦ inr none ]
        | inr last ↦ let here : slice_index numbers k ≡ n = ap (slice_index numbers) last ∙ sym is in inl (omega arith)
      ];
      within = omega arith;
    }

pub scan_ends : (i : Image) (v : ℕ) (numbers : List ℕ) (at least : ℕ) (found : List ℕ) → Scanned i v numbers at least found → IsNonDecreasing numbers → ((k : ℕ) → IsOnList i v k → Contains numbers k) → length numbers ≤ at
    → IsComplete i → ListsBelow (λ n. IsTrue (posted_at i v n)) (length i.constraints) found
scan_ends i v numbers at least found so up all end c =
    lists_jump (λ n. IsTrue (posted_at i v n)) least (length i.constraints) found (so.lists c) so.within (gap i v numbers at least found so up all c (length i.constraints) (omega arith) (λ lt. absurd (omega arith)))
