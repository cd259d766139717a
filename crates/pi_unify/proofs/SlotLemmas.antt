-- Slots of a store's terms, and the root of a pattern.
use Rattle.std.proofs.Common.{◌≡◌, ℕ, ℤ, zero, suc, ◌<◌, Bool, true, false, cond, List, [], ◌∷◌, length, set, get_or, nat_lt, Option, Some, None, inl, inr, refl, ap, sym, ◌∙◌, subst, arith, length-set}
use Rattle.std.specs.Prelude.{slice_get}
use Rattle.std.specs.Ordering.{is_eq, int_eq}
use Rattle.std.specs.declared.cmp.Ordering.{Ordering}
use Rattle.std.proofs.lemmas.Bool.{cases_Bool, ltb-false}
use Rattle.pi_terms.specs.Tree.{Tree, int, atom}
use Rattle.pi_terms.specs.Places.{Places, held}
use Rattle.pi_terms.specs.Order.{order, name_order, identical}
use Rattle.pi_constraints.specs.Value.{Bindings, value}
use Rattle.pi_constraints.specs.State.{bindings}
use Rattle.pi_constraints.specs.Store.{StoreView, IsTerm, IsName, ShowsCell}
use Rattle.pi_constraints.specs.HeadMatch.{taken_in, filled_in}
use Rattle.pi_constraints.specs.declared.store.Ref.{Ref}
use Rattle.pi_constraints.specs.declared.store.Cell.{Cell}
use Rattle.std.specs.Str.{bytes_eq}
use Rattle.std.proofs.lemmas.Slice.Eq.{bytes_eq-Decides}
use Rattle.pi_constraints.proofs.MatchLemmas.{same_from_identical, identical_from_same, same_name, name_itself}
use Rattle.pi_unify.specs.Terms.{IsGiven, term_of}
use Rattle.pi_unify.specs.Matching.{slot_term, slot_terms, HoldsGiven, HoldAllGiven, FillsEmpty, TellsMatch, is_int_in}
use Rattle.pi_unify.proofs.TermValues.{given_term}

-- ---- what slots hold

pub held-terms : {M : Type 0} (v : StoreView M) (slots : List (Option Ref)) (k : ℕ) → held (slot_terms v slots) k ≡ slot_term v (get_or slots k None)
held-terms v [] k = refl
held-terms v (o ∷ slots) zero = refl
held-terms v (o ∷ slots) (suc k) = held-terms v slots k

length-terms : {M : Type 0} (v : StoreView M) (slots : List (Option Ref)) → length (slot_terms v slots) ≡ length slots
length-terms v [] = refl
length-terms v (o ∷ slots) = ap suc (length-terms v slots)

set-terms : {M : Type 0} (v : StoreView M) (slots : List (Option Ref)) (k : ℕ) (o : Option Ref) → slot_terms v (set slots k o) ≡ set (slot_terms v slots) k (slot_term v o)
set-terms v [] k o = refl
set-terms v (p ∷ slots) zero o = refl
set-terms v (p ∷ slots) (suc k) o = ap (λ r. slot_term v p ∷ r) (set-terms v slots k o)

pub given_at : {M : Type 0} (v : StoreView M) (slots : List (Option Ref)) (k : ℕ) (r : Ref) → HoldAllGiven v slots → get_or slots k None ≡ Some r → IsGiven v r
unfolding HoldAllGiven
given_at v [] k r all e = cc
given_at v (o ∷ slots) zero r all e = subst (HoldsGiven v) e all.0
given_at v (o ∷ slots) (suc k) r all e = given_at v slots k r all.1 e

pub given_set : {M : Type 0} (v : StoreView M) (slots : List (Option Ref)) (k : ℕ) (r : Ref) → HoldAllGiven v slots → IsGiven v r → HoldAllGiven v (set slots k (Some r))
unfolding HoldAllGiven
given_set v [] k r all given = tt
given_set v (o ∷ slots) zero r all given = (given, all.1)
given_set v (o ∷ slots) (suc k) r all given = (all.0, given_set v slots k r all.1 given)

kept_set : (slots : List (Option Ref)) (k : ℕ) (r : Ref) → get_or slots k None ≡ None → (j : ℕ) (q : Ref) → slice_get slots j ≡ Some (Some q) → slice_get (set slots k (Some r)) j ≡ Some (Some q)
kept_set [] k r empty j q h = h
kept_set (o ∷ slots) zero r empty zero q h = absurd (let same : o ≡ Some q = cc in cc)
kept_set (o ∷ slots) zero r empty (suc j) q h = h
kept_set (o ∷ slots) (suc k) r empty zero q h = h
kept_set (o ∷ slots) (suc k) r empty (suc j) q h = kept_set slots k r empty j q h

-- ---- filling

pub fills_none : (slots : List (Option Ref)) → FillsEmpty slots slots
fills_none slots = record { as_many = refl; keeps = λ k r h. h }

pub fills_then : (old middle new : List (Option Ref)) → FillsEmpty old middle → FillsEmpty middle new → FillsEmpty old new
fills_then old middle new a b = record { as_many = b.as_many ∙ a.as_many; keeps = λ k r h. b.keeps k r (a.keeps k r h) }

pub fills_one : (old new : List (Option Ref)) (k : ℕ) (r : Ref) → new ≡ set old k (Some r) → get_or old k None ≡ None → FillsEmpty old new
fills_one old new k r e empty = subst (FillsEmpty old) (sym e) (record { as_many = length-set old k (Some r); keeps = kept_set old k r empty })

tells_cond : (c : Bool) (e : Places) → TellsMatch c (cond c (Some e) None) e
tells_cond true e = refl
tells_cond false e = refl

pub tells_test : (c d : Bool) (e : Places) → c ≡ d → TellsMatch c (cond d (Some e) None) e
tells_test c d e same = subst (λ (b : Bool). TellsMatch c (cond b (Some e) None) e) same (tells_cond c e)

-- a filled slot takes a term of the same value
pub filled_told : {M : Type 0} (v : StoreView M) (slots : List (Option Ref)) (k : ℕ) (r term : Ref) (c : Bool) (o : Ordering) → get_or slots k None ≡ Some r → IsGiven v r → IsGiven v term → c ≡ is_eq o → ((t u : Tree) → IsTerm v r t → IsTerm v term u → o ≡ order (value (bindings v.now.state) t) (value (bindings v.now.state) u)) → TellsMatch c (filled_in (bindings v.now.state) k (term_of v term) (slot_terms v slots)) (slot_terms v slots)
filled_told v slots k r term c o holds given given_term' test compared =
    let b : Bindings = bindings v.now.state in
    let u : Tree = term_of v r in
    let t : Tree = term_of v term in
    let here : held (slot_terms v slots) k ≡ Some u = held-terms v slots k ∙ (ap (slot_term v) holds ∙ given_term v r given) in
    let same : c ≡ identical (value b u) (value b t) = test ∙ ap is_eq (compared u t (given_term v r given) (given_term v term given_term')) in
    subst (λ (o : Option Tree). TellsMatch c (taken_in b o (slot_terms v slots) k t) (slot_terms v slots)) (sym here) (tells_test c (identical (value b u) (value b t)) (slot_terms v slots) same)

-- an empty slot takes every term
pub empty_told : {M : Type 0} (v : StoreView M) (slots new : List (Option Ref)) (k : ℕ) (term : Ref) → get_or slots k None ≡ None → k < length slots → IsGiven v term → new ≡ set slots k (Some term) → filled_in (bindings v.now.state) k (term_of v term) (slot_terms v slots) ≡ Some (slot_terms v new)
empty_told v slots new k term empty within given e =
    let b : Bindings = bindings v.now.state in
    let t : Tree = term_of v term in
    let here : held (slot_terms v slots) k ≡ None = held-terms v slots k ∙ ap (slot_term v) empty in
    let hit : nat_lt k (length (slot_terms v slots)) ≡ true = elim (cases_Bool (nat_lt k (length (slot_terms v slots)))) [
      | inl hit ↦ hit
      | inr miss ↦ absurd (omega (arith, ltb-false k (length (slot_terms v slots)) miss, length-terms v slots))
    ] in
    ap (λ o. taken_in b o (slot_terms v slots) k t) here
    ∙ (ap (λ c. cond c (Some (set (slot_terms v slots) k (Some t))) None) hit
    ∙ ap Some (sym (ap (slot_terms v) e ∙ (set-terms v slots k (Some term) ∙ ap (set (slot_terms v slots) k) (given_term v term given)))))

-- ---- constants at a root

identical-sym : (t u : Tree) → identical t u ≡ identical u t
identical-sym t u = elim (cases_Bool (identical t u)) [
  | inl hit ↦ hit ∙ sym (identical_from_same u t (sym (same_from_identical t u hit)))
  | inr miss ↦ elim (cases_Bool (identical u t)) [
    | inl other ↦ cc (identical_from_same t u (sym (same_from_identical u t other)))
    | inr other ↦ miss ∙ sym other
  ]
]

same_integers : (m n : ℤ) → int_eq m n ≡ identical (int n) (int m)
unfolding order
same_integers m n = identical-sym (int m) (int n)

pub int_told : {M : Type 0} (v : StoreView M) (t : Tree) (c : Cell) (n : ℤ) → ShowsCell v t c → is_int_in n c ≡ identical (int n) t
unfolding order
int_told v t (Cell.Var m) n h = sym (ap (identical (int n)) h)
int_told v t (Cell.Int m) n h = same_integers m n ∙ sym (ap (identical (int n)) h)
int_told v t (Cell.Atom k) n (name, is, h) = sym (ap (identical (int n)) h)
int_told v t (Cell.Comp k count) n (name, is, h, many) = sym (ap (identical (int n)) h)

pub atom_told : {M : Type 0} (v : StoreView M) (t : Tree) (c : Cell) (k : ℕ) (name : List ℕ) (found : Bool) → c ≡ Cell.Atom k → ShowsCell v t c → ((f : List ℕ) → IsName v k f → found ≡ is_eq (name_order name f)) → found ≡ identical (atom name) t
unfolding order
atom_told v t c k name found is shown named =
    let h : (f : List ℕ) × IsName v k f × (t ≡ atom f) = subst (ShowsCell v t) is shown in
    named h.0 h.1 ∙ sym (ap (identical (atom name)) h.2)

pub no_atom_told : {M : Type 0} (v : StoreView M) (t : Tree) (c : Cell) (name : List ℕ) → ((k : ℕ) → c ≡ Cell.Atom k → ⊥) → ShowsCell v t c → false ≡ identical (atom name) t
unfolding order
no_atom_told v t (Cell.Var m) name other h = sym (ap (identical (atom name)) h)
no_atom_told v t (Cell.Int m) name other h = sym (ap (identical (atom name)) h)
no_atom_told v t (Cell.Atom k) name other h = absurd (other k refl)
no_atom_told v t (Cell.Comp k count) name other (f, is, h, many) = sym (ap (identical (atom name)) h)

-- names that are the same are equal in their order
pub names_told : (f g : List ℕ) → bytes_eq f g ≡ is_eq (name_order f g)
names_told f g = elim (cases_Bool (bytes_eq f g)) [
  | inl hit ↦ hit ∙ sym (subst (λ (h : List ℕ). is_eq (name_order f h) ≡ true) ((bytes_eq-Decides f g).0 hit) (name_itself f))
  | inr miss ↦ elim (cases_Bool (is_eq (name_order f g))) [
    | inl other ↦ absurd (let same : bytes_eq f g ≡ true = (bytes_eq-Decides f g).1 (same_name f g other) in cc)
    | inr other ↦ miss ∙ sym other
  ]
]
