-- Matching fills exactly the slots of a pattern, and where it fails nothing makes the pattern the term.
use Rattle.std.proofs.Common.{◌≡◌, ℕ, ◌==◌, ◌<◌, Bool, true, false, cond, List, Option, Some, None, length, set, nat_lt, refl, ap, sym, ◌∙◌, subst, inl, inr, arith, eq-eqb, length-set}
use Rattle.std.proofs.lemmas.Bool.{cases_Bool, eqb-true, ltb-true, ltb-false}
use Rattle.std.proofs.lemmas.List.{same_lists, get_or_past, get_or_default, get_or-set_same, get_or-set_other}
use Rattle.std.proofs.lemmas.Option.{option_and_then_some}
use Rattle.std.proofs.lemmas.Cmp.{nat_list_cmp_total, tied_itself}
use Rattle.std.specs.Option.{option_and_then}
use Rattle.std.specs.Cmp.{Equal-is}
use Rattle.std.specs.Ordering.{is_eq}
use Rattle.pi_terms.specs.Tree.{Tree, var, int, atom, comp, Trees, no_trees, tree}
use Rattle.pi_terms.specs.Order.{name_order, order, identical}
use Rattle.pi_terms.specs.PatternTree.{PatternTree, slot, exact_int, exact_atom, compound, named, PatternTrees, no_patterns, pattern, HasSlot, HaveSlot}
use Rattle.pi_terms.specs.Places.{held}
use Rattle.pi_constraints.specs.Match.{Slots, taken, filled, matched, matched_all, IsUnder, AreUnder, Extends, IsMatch, AreMatch, MatchFills, MatchIsLeast, MatchFails, IsSlot, VariableWantsSlot, HeadMatchFills, HeadMatchIsLeast, HeadMatchFails, SlotTakesIdentical}
use Rattle.pi_terms.proofs.OrderLemmas.{equal_is_identity, names_same}

-- ---- terms and names that are the same

pub same_from_identical : (t u : Tree) → identical t u ≡ true → t ≡ u
same_from_identical t u e = (equal_is_identity t u).0 ((Equal-is (order t u)).0 e)

pub differs : (t u : Tree) → (t ≡ u → ⊥) → identical t u ≡ false
differs t u apart = elim (cases_Bool (identical t u)) [ inl hit ↦ absurd (apart (same_from_identical t u hit)) | inr miss ↦ miss ]

pub identical_from_same : (t u : Tree) → t ≡ u → identical t u ≡ true
identical_from_same t u e = ap is_eq ((equal_is_identity t u).1 e)

pub same_name : (f g : List ℕ) → is_eq (name_order f g) ≡ true → f ≡ g
same_name f g e = names_same f g ((Equal-is (name_order f g)).0 e)

pub name_itself : (f : List ℕ) → is_eq (name_order f f) ≡ true
name_itself f = ap is_eq (tied_itself nat_list_cmp_total f)

-- a test passed where there is an answer
passed : (b : Bool) (o : Option Slots) (r : Slots) → cond b o None ≡ Some r → (b ≡ true) × (o ≡ Some r)
passed true o r e = (refl, e)
passed false o r e = cc

-- ---- slots that hold more

pub extends_itself : (s : Slots) → Extends s s
extends_itself s = record { as_many = refl; keeps = λ k t h. h }

pub extends_further : (s r q : Slots) → Extends s r → Extends r q → Extends s q
extends_further s r q a b = record { as_many = b.as_many ∙ a.as_many; keeps = λ k t h. b.keeps k t (a.keeps k t h) }

mutual
  unfolding IsUnder

  under_kept : (p : PatternTree) (s r : Slots) (t : Tree) → Extends s r → IsUnder s p t → IsUnder r p t
  under_kept (slot k) s r t x h = x.keeps k t h
  under_kept (exact_int n) s r t x h = h
  under_kept (exact_atom name) s r t x h = h
  under_kept (compound name ps) s r t x h = (h.0, h.1, all_under_kept ps s r h.0 x h.2)
  under_kept (named k p) s r t x h = (x.keeps k t h.0, under_kept p s r t x h.1)

  all_under_kept : (ps : PatternTrees) (s r : Slots) (ts : Trees) → Extends s r → AreUnder s ps ts → AreUnder r ps ts
  all_under_kept no_patterns s r no_trees x h = tt
  all_under_kept no_patterns s r (tree t ts) x h = absurd h
  all_under_kept (pattern p ps) s r no_trees x h = absurd h
  all_under_kept (pattern p ps) s r (tree t ts) x h = (under_kept p s r t x h.0, all_under_kept ps s r ts x h.1)

-- ---- one slot

record Filled (k : ℕ) (t : Tree) (s r : Slots) : Type 0 where
  pub extends : Extends s r
  pub holds : held r k ≡ Some t
  pub others : (j : ℕ) → (k ≡ j → ⊥) → held r j ≡ held s j

-- an empty slot is filled
filled_empty : (k : ℕ) (t : Tree) (s : Slots) → held s k ≡ None → k < length s → Filled k t s (set s k (Some t))
filled_empty k t s empty below = record {
  extends = record {
    as_many = length-set s k (Some t);
    keeps = λ j u h. elim (cases_Bool (j == k)) [
      | inl hit ↦ let e : held s j ≡ held s k = ap (held s) (eqb-true j k hit) in cc
      | inr miss ↦ get_or-set_other s k j (Some t) None (λ e. cc (eq-eqb j k e)) ∙ h
    ];
  };
  holds = get_or-set_same s k (Some t) None below;
  others = λ j apart. get_or-set_other s k j (Some t) None (λ e. apart (sym e));
}

taken_is : (o : Option Tree) (k : ℕ) (t : Tree) (s r : Slots) → held s k ≡ o → taken o s k t ≡ Some r → Filled k t s r
taken_is (Some u) k t s r was e =
    let h : (identical u t ≡ true) × (Some s ≡ Some r) = passed (identical u t) (Some s) r e in
    let same : s ≡ r = cc (h.1) in
    let P : Slots → Type 0 = λ q. Filled k t s q in
    subst P same (record { extends = extends_itself s; holds = was ∙ ap Some (same_from_identical u t h.0); others = λ j apart. refl })
taken_is None k t s r was e =
    let h : (nat_lt k (length s) ≡ true) × (Some (set s k (Some t)) ≡ Some r) = passed (nat_lt k (length s)) (Some (set s k (Some t))) r e in
    let same : set s k (Some t) ≡ r = cc (h.1) in
    let P : Slots → Type 0 = λ q. Filled k t s q in
    subst P same (filled_empty k t s was (ltb-true k (length s) h.0))

filled_is : (k : ℕ) (t : Tree) (s r : Slots) → filled k t s ≡ Some r → Filled k t s r
filled_is k t s r e = taken_is (held s k) k t s r refl e

-- an answer that slots extend
record Found (o : Option Slots) (q : Slots) : Type 0 where
  pub slots : Slots
  pub is : o ≡ Some slots
  pub within : Extends slots q

taken_found : (o : Option Tree) (k : ℕ) (t : Tree) (s q : Slots) → held s k ≡ o → Extends s q → held q k ≡ Some t → Found (taken o s k t) q
taken_found (Some u) k t s q was x h =
    let kept : held q k ≡ Some u = x.keeps k u was in
    let same : u ≡ t = cc in
    record { slots = s; is = rw (identical_from_same u t same) refl; within = x }
taken_found None k t s q was x h = elim (cases_Bool (nat_lt k (length s))) [
  | inl hit ↦
      let f : Filled k t s (set s k (Some t)) = filled_empty k t s was (ltb-true k (length s) hit) in
      record {
        slots = set s k (Some t);
        is = rw hit refl;
        within = record {
          as_many = x.as_many ∙ sym f.extends.as_many;
          keeps = λ j u l. elim (cases_Bool (k == j)) [
            | inl here ↦
                let e : k ≡ j = eqb-true k j here in
                let now : held (set s k (Some t)) k ≡ held (set s k (Some t)) j = ap (held (set s k (Some t))) e in
                let then' : held q k ≡ held q j = ap (held q) e in
                cc (f.holds)
            | inr there ↦ x.keeps j u (sym (f.others j (λ e. cc (eq-eqb k j e))) ∙ l)
          ];
        };
      }
  | inr miss ↦
      let past : held q k ≡ None = get_or_past q k None (omega (arith, ltb-false k (length s) miss, x.as_many)) in
      absurd (cc)
]

filled_found : (k : ℕ) (t : Tree) (s q : Slots) → Extends s q → held q k ≡ Some t → Found (filled k t s) q
filled_found k t s q x h = taken_found (held s k) k t s q refl x h

-- ---- a match makes the pattern the term

record Matched (P : Type 0) (Mine : ℕ → Type 0) (s r : Slots) : Type 0 where
  pub extends : Extends s r
  pub only : (k : ℕ) → (Mine k → ⊥) → held r k ≡ held s k
  pub under : P

mutual
  unfolding matched IsUnder HasSlot

  matched_is : (p : PatternTree) (t : Tree) (s r : Slots) → matched p t s ≡ Some r → Matched (IsUnder r p t) (HasSlot p) s r
  matched_is (slot k) t s r e =
      let f : Filled k t s r = filled_is k t s r e in record { extends = f.extends; only = f.others; under = f.holds }
  matched_is (exact_int n) t s r e =
      let h : (identical (int n) t ≡ true) × (Some s ≡ Some r) = passed (identical (int n) t) (Some s) r e in
      let same : s ≡ r = cc (h.1) in
      let P : Slots → Type 0 = λ q. Extends s q in
      record { extends = subst P same (extends_itself s); only = λ k apart. ap (λ q. held q k) (sym same); under = sym (same_from_identical (int n) t h.0) }
  matched_is (exact_atom name) t s r e =
      let h : (identical (atom name) t ≡ true) × (Some s ≡ Some r) = passed (identical (atom name) t) (Some s) r e in
      let same : s ≡ r = cc (h.1) in
      let P : Slots → Type 0 = λ q. Extends s q in
      record { extends = subst P same (extends_itself s); only = λ k apart. ap (λ q. held q k) (sym same); under = sym (same_from_identical (atom name) t h.0) }
  matched_is (compound f ps) (comp g ts) s r e =
      let h : (is_eq (name_order f g) ≡ true) × (matched_all ps ts s ≡ Some r) = passed (is_eq (name_order f g)) (matched_all ps ts s) r e in
      let rest : Matched (AreUnder r ps ts) (HaveSlot ps) s r = matched_all_is ps ts s r h.1 in
      record { extends = rest.extends; only = rest.only; under = (ts, ap (λ name. comp name ts) (sym (same_name f g h.0)), rest.under) }
  matched_is (compound f ps) t s r e = cc
  matched_is (named k p) t s r e = option_and_then_some (matched p t) (filled k t s) r e (λ q first then'.
      let f : Filled k t s q = filled_is k t s q first in
      let m : Matched (IsUnder r p t) (HasSlot p) q r = matched_is p t q r then' in
      record {
        extends = extends_further s q r f.extends m.extends;
        only = λ j apart. m.only j (λ h. apart (inr h)) ∙ f.others j (λ h. apart (inl h));
        under = (m.extends.keeps k t f.holds, m.under);
      })

  matched_all_is : (ps : PatternTrees) (ts : Trees) (s r : Slots) → matched_all ps ts s ≡ Some r → Matched (AreUnder r ps ts) (HaveSlot ps) s r
  matched_all_is no_patterns no_trees s r e =
      let same : s ≡ r = cc in
      let P : Slots → Type 0 = λ q. Extends s q in
      record { extends = subst P same (extends_itself s); only = λ k apart. ap (λ q. held q k) (sym same); under = tt }
  matched_all_is no_patterns (tree t ts) s r e = cc
  matched_all_is (pattern p ps) no_trees s r e = cc
  matched_all_is (pattern p ps) (tree t ts) s r e = option_and_then_some (matched_all ps ts) (matched p t s) r e (λ q first then'.
      let m : Matched (IsUnder q p t) (HasSlot p) s q = matched_is p t s q first in
      let n : Matched (AreUnder r ps ts) (HaveSlot ps) q r = matched_all_is ps ts q r then' in
      record {
        extends = extends_further s q r m.extends n.extends;
        only = λ j apart. n.only j (λ h. apart (inr h)) ∙ m.only j (λ h. apart (inl h));
        under = (under_kept p q r t n.extends m.under, n.under);
      })

-- ---- whatever makes the pattern the term extends a match

found_then : (f : Slots → Option Slots) (o : Option Slots) (q : Slots) (a : Found o q) → Found (f a.slots) q → Found (option_and_then f o) q
found_then f o q a b = record { slots = b.slots; is = rw a.is b.is; within = b.within }

mutual
  unfolding matched IsUnder

  matched_found : (p : PatternTree) (t : Tree) (s q : Slots) → Extends s q → IsUnder q p t → Found (matched p t s) q
  matched_found (slot k) t s q x h = filled_found k t s q x h
  matched_found (exact_int n) t s q x h = record { slots = s; is = rw (identical_from_same (int n) t (sym h)) refl; within = x }
  matched_found (exact_atom name) t s q x h = record { slots = s; is = rw (identical_from_same (atom name) t (sym h)) refl; within = x }
  matched_found (compound f ps) t s q x h =
      let rest : Found (matched_all ps h.0 s) q = matched_all_found ps h.0 s q x h.2 in
      record { slots = rest.slots; is = rw (h.1, name_itself f) rest.is; within = rest.within }
  matched_found (named k p) t s q x h =
      let first : Found (filled k t s) q = filled_found k t s q x h.0 in
      found_then (matched p t) (filled k t s) q first (matched_found p t first.slots q first.within h.1)

  matched_all_found : (ps : PatternTrees) (ts : Trees) (s q : Slots) → Extends s q → AreUnder q ps ts → Found (matched_all ps ts s) q
  matched_all_found no_patterns no_trees s q x h = record { slots = s; is = refl; within = x }
  matched_all_found no_patterns (tree t ts) s q x h = absurd h
  matched_all_found (pattern p ps) no_trees s q x h = absurd h
  matched_all_found (pattern p ps) (tree t ts) s q x h =
      let first : Found (matched p t s) q = matched_found p t s q x h.0 in
      found_then (matched_all ps ts) (matched p t s) q first (matched_all_found ps ts first.slots q first.within h.1)

-- ---- the pattern's slots are all filled

mutual
  unfolding IsUnder HasSlot

  slot_holds : (p : PatternTree) (t : Tree) (s : Slots) (k : ℕ) → IsUnder s p t → HasSlot p k → (u : Tree) × (held s k ≡ Some u)
  slot_holds (slot j) t s k h l = (t, ap (held s) (sym l) ∙ h)
  slot_holds (exact_int n) t s k h l = absurd l
  slot_holds (exact_atom name) t s k h l = absurd l
  slot_holds (compound name ps) t s k h l = some_slot_holds ps h.0 s k h.2 l
  slot_holds (named j p) t s k h (inl l) = (t, ap (held s) (sym l) ∙ h.0)
  slot_holds (named j p) t s k h (inr l) = slot_holds p t s k h.1 l

  some_slot_holds : (ps : PatternTrees) (ts : Trees) (s : Slots) (k : ℕ) → AreUnder s ps ts → HaveSlot ps k → (u : Tree) × (held s k ≡ Some u)
  some_slot_holds no_patterns ts s k h l = absurd l
  some_slot_holds (pattern p ps) no_trees s k h l = absurd h
  some_slot_holds (pattern p ps) (tree t ts) s k h (inl l) = slot_holds p t s k h.0 l
  some_slot_holds (pattern p ps) (tree t ts) s k h (inr l) = some_slot_holds ps ts s k h.1 l

-- ---- the laws

-- a slot that the least match leaves empty is empty in each match
both_hold : (p : PatternTree) (t : Tree) (s r q : Slots) → IsMatch p t s r → IsMatch p t s q → Extends r q → (k : ℕ) (a b : Option Tree) → held r k ≡ a → held q k ≡ b → a ≡ b
both_hold p t s r q m n x k (Some u) b e f = sym (x.keeps k u e) ∙ f
both_hold p t s r q m n x k None None e f = refl
both_hold p t s r q m n x k None (Some v) e f =
    let other : HasSlot p k → ⊥ = λ h. let l : (u : Tree) × (held r k ≡ Some u) = slot_holds p t r k m.under h in cc (e, l.1) in
    sym e ∙ (m.only k other ∙ (sym (n.only k other) ∙ f))

match_from_matched : (p : PatternTree) (t : Tree) (s r : Slots) → matched p t s ≡ Some r → IsMatch p t s r
match_from_matched p t s r e =
    let m : Matched (IsUnder r p t) (HasSlot p) s r = matched_is p t s r e in record { extends = m.extends; only = m.only; under = m.under }

one_match : (p : PatternTree) (t : Tree) (s r q : Slots) → IsMatch p t s r → IsMatch p t s q → Extends r q → r ≡ q
one_match p t s r q m n x = same_lists r q (sym x.as_many) (λ k d below.
    get_or_default r k d None below ∙ (both_hold p t s r q m n x k (held r k) (held q k) refl refl
    ∙ get_or_default q k None d (omega (arith, x.as_many))))

pub match_fills : MatchFills
match_fills p t s r = (
  match_from_matched p t s r,
  λ m.
      let f : Found (matched p t s) r = matched_found p t s r m.extends m.under in
      f.is ∙ ap Some (one_match p t s f.slots r (match_from_matched p t s f.slots f.is) m f.within),
)

pub match_is_least : MatchIsLeast
match_is_least p t s r q e x h =
    let f : Found (matched p t s) q = matched_found p t s q x h in
    let same : f.slots ≡ r = cc (f.is, e) in
    let P : Slots → Type 0 = λ v. Extends v q in
    subst P same f.within

none_matches : (p : PatternTree) (t : Tree) (s : Slots) (o : Option Slots) → matched p t s ≡ o → ((r : Slots) → Extends s r → IsUnder r p t → ⊥) → matched p t s ≡ None
none_matches p t s None e h = e
none_matches p t s (Some r) e h = let m : IsMatch p t s r = match_from_matched p t s r e in absurd (h r m.extends m.under)

pub match_fails : MatchFails
match_fails p t s = (
  λ e r x h. let f : Found (matched p t s) r = matched_found p t s r x h in cc (f.is, e),
  none_matches p t s (matched p t s) refl,
)

slot_from_under : (p : PatternTree) (n : ℕ) (s : Slots) → IsUnder s p (var n) → IsSlot p
unfolding IsUnder
slot_from_under (slot k) n s h = tt
slot_from_under (exact_int m) n s h = cc
slot_from_under (exact_atom name) n s h = cc
slot_from_under (compound name ps) n s h = let e : var n ≡ comp name h.0 = h.1 in cc
slot_from_under (named k p) n s h = slot_from_under p n s h.1

pub variable_wants_slot : VariableWantsSlot
variable_wants_slot p n s r e = slot_from_under p n r (match_from_matched p (var n) s r e).under

-- ---- the laws of a head's patterns

heads_both_hold : (ps : PatternTrees) (ts : Trees) (s r q : Slots) → AreMatch ps ts s r → AreMatch ps ts s q → Extends r q → (k : ℕ) (a b : Option Tree) → held r k ≡ a → held q k ≡ b → a ≡ b
heads_both_hold ps ts s r q m n x k (Some u) b e f = sym (x.keeps k u e) ∙ f
heads_both_hold ps ts s r q m n x k None None e f = refl
heads_both_hold ps ts s r q m n x k None (Some v) e f =
    let other : HaveSlot ps k → ⊥ = λ h. let l : (u : Tree) × (held r k ≡ Some u) = some_slot_holds ps ts r k m.under h in cc (e, l.1) in
    sym e ∙ (m.only k other ∙ (sym (n.only k other) ∙ f))

head_match_from_matched : (ps : PatternTrees) (ts : Trees) (s r : Slots) → matched_all ps ts s ≡ Some r → AreMatch ps ts s r
head_match_from_matched ps ts s r e =
    let m : Matched (AreUnder r ps ts) (HaveSlot ps) s r = matched_all_is ps ts s r e in record { extends = m.extends; only = m.only; under = m.under }

one_head_match : (ps : PatternTrees) (ts : Trees) (s r q : Slots) → AreMatch ps ts s r → AreMatch ps ts s q → Extends r q → r ≡ q
one_head_match ps ts s r q m n x = same_lists r q (sym x.as_many) (λ k d below.
    get_or_default r k d None below ∙ (heads_both_hold ps ts s r q m n x k (held r k) (held q k) refl refl
    ∙ get_or_default q k None d (omega (arith, x.as_many))))

pub head_match_fills : HeadMatchFills
head_match_fills ps ts s r = (
  head_match_from_matched ps ts s r,
  λ m.
      let f : Found (matched_all ps ts s) r = matched_all_found ps ts s r m.extends m.under in
      f.is ∙ ap Some (one_head_match ps ts s f.slots r (head_match_from_matched ps ts s f.slots f.is) m f.within),
)

pub head_match_is_least : HeadMatchIsLeast
head_match_is_least ps ts s r q e x h =
    let f : Found (matched_all ps ts s) q = matched_all_found ps ts s q x h in
    let same : f.slots ≡ r = cc (f.is, e) in
    let P : Slots → Type 0 = λ v. Extends v q in
    subst P same f.within

no_head_matches : (ps : PatternTrees) (ts : Trees) (s : Slots) (o : Option Slots) → matched_all ps ts s ≡ o → ((r : Slots) → Extends s r → AreUnder r ps ts → ⊥) → matched_all ps ts s ≡ None
no_head_matches ps ts s None e h = e
no_head_matches ps ts s (Some r) e h = let m : AreMatch ps ts s r = head_match_from_matched ps ts s r e in absurd (h r m.extends m.under)

pub head_match_fails : HeadMatchFails
head_match_fails ps ts s = (
  λ e r x h. let f : Found (matched_all ps ts s) r = matched_all_found ps ts s r x h in cc (f.is, e),
  no_head_matches ps ts s (matched_all ps ts s) refl,
)

pub slot_takes_identical : SlotTakesIdentical
unfolding IsUnder
slot_takes_identical k t u s r e =
    let ps : PatternTrees = pattern (slot k) (pattern (slot k) no_patterns) in
    let ts : Trees = tree t (tree u no_trees) in
    let m : Matched (AreUnder r ps ts) (HaveSlot ps) s r = matched_all_is ps ts s r e in
    let first : held r k ≡ Some t = m.under.0 in
    let second : held r k ≡ Some u = m.under.1.0 in
    cc
