-- One more name in an environment, and its slot.
use Rattle.std.proofs.Common.{◌≡◌, ℕ, zero, suc, ◌+◌, ◌<◌, ◌≤◌, Bool, true, false, cond, List, [], ◌∷◌, length, refl, sym, ◌∙◌, ap, subst, arith, length-append}
use Rattle.std.specs.Prelude.{Option, Some, None, option_map, option_and_then, slice_set, replicate}
use Rattle.std.specs.Str.{bytes_eq}
use Rattle.std.proofs.lemmas.Bool.{cond-true, cond-false, false≢true}
use Rattle.std.proofs.lemmas.List.{length-set, get_or-set_same}
use Rattle.pi_terms.specs.Tree.{Tree}
use Rattle.pi_terms.specs.Places.{Places, held}
use Rattle.pi_meaning.specs.OverNames.Environment.{Environment, meant, known, with_name}
use Rattle.pi_rewrite_spec.specs.Slots.{SlotNames, unnamed, slot_of, slot_known, slot_or_next, slots_with, slot_for, slots_for}
use Rattle.pi_rewrite_spec.proofs.AgreeLemmas.{Room, free_room, fixed-for, text_itself, text_same, or_last, finds, slot-among, slot-below, slot-alone, slot-one, Agrees, agrees-known, meant-more, set-other, set-firm}

-- the slot of a name that is new is empty
pub new-empty : (n : Room) (h : ℕ) (ns : SlotNames) (e : Environment) (slots : Places) → Agrees n h ns e slots → (name : List ℕ) → known name e ≡ None → held slots (slot_for name ns) ≡ None
new-empty n h ns e slots a name new = go (slot_known name ns) (sym (agrees-known n h ns e slots a name) ∙ new)
  where
    go : (o : Option ℕ) → option_and_then (held slots) o ≡ None → held slots (slot_or_next o ns) ≡ None
    go None is = a.empty (length ns) (omega arith)
    go (Some k) is = is

named : (name : List ℕ) (ns : SlotNames) → bytes_eq name unnamed ≡ false → slot_known name ns ≡ slot_of name ns
named name ns is = cond-false (bytes_eq name unnamed) None (slot_of name ns) is

-- it is what the name finds then
slot-found : (name : List ℕ) (ns : SlotNames) → bytes_eq name unnamed ≡ false → slot_of name (slots_for name ns) ≡ Some (slot_for name ns)
slot-found name ns is = go (slot_of name ns) refl
  where
    first-one : (name : List ℕ) → slot_of name (name ∷ []) ≡ Some 0
    first-one name = slot-alone name name ∙ cond-true (bytes_eq name name) (Some 0) None (text_itself name)

    at : (o : Option ℕ) → slot_of name ns ≡ o → slot_known name ns ≡ o
    at o e = named name ns is ∙ e

    go : (o : Option ℕ) → slot_of name ns ≡ o → slot_of name (slots_for name ns) ≡ Some (slot_for name ns)
    go (Some k) e =
        ap (λ (o : Option ℕ). slot_of name (slots_with o name ns)) (at (Some k) e) ∙ e ∙ sym (ap (λ (o : Option ℕ). Some (slot_or_next o ns)) (at (Some k) e))
    go None e =
        ap (λ (o : Option ℕ). slot_of name (slots_with o name ns)) (at None e)
        ∙ slot-among name ns (name ∷ [])
        ∙ ap (λ (o : Option ℕ). or_last o (option_map (λ k. length ns + k) (slot_of name (name ∷ [])))) e
        ∙ ap (option_map (λ k. length ns + k)) (first-one name)
        ∙ ap Some (omega arith)
        ∙ sym (ap (λ (o : Option ℕ). Some (slot_or_next o ns)) (at None e))

-- another name finds the same slot as before
slot-stays : (name other : List ℕ) (ns : SlotNames) → bytes_eq other name ≡ false → slot_of other (slots_for name ns) ≡ slot_of other ns
slot-stays name other ns apart = go (slot_known name ns)
  where
    alone : slot_of other (name ∷ []) ≡ None
    alone = slot-alone other name ∙ cond-false (bytes_eq other name) (Some 0) None apart

    last : (o : Option ℕ) → or_last o None ≡ o
    last None = refl
    last (Some k) = refl

    go : (o : Option ℕ) → slot_of other (slots_with o name ns) ≡ slot_of other ns
    go (Some k) = refl
    go None = slot-among other ns (name ∷ []) ∙ ap (λ (p : Option ℕ). or_last (slot_of other ns) (option_map (λ k. length ns + k) p)) alone ∙ last (slot_of other ns)

-- and that isn't the slot of the new one
slot-apart : (name other : List ℕ) (ns : SlotNames) → bytes_eq other name ≡ false → (k : ℕ) → slot_of other ns ≡ Some k → k ≡ slot_for name ns → ⊥
slot-apart name other ns apart k at = go (bytes_eq name unnamed) refl (slot_of name ns) refl
  where
    same-name : slot_of name ns ≡ Some k → ⊥
    same-name e = false≢true (sym apart ∙ subst (λ (x : List ℕ). bytes_eq x name ≡ true) (sym (slot-one name other ns k e at)) (text_itself name))

    go : (b : Bool) → bytes_eq name unnamed ≡ b → (o : Option ℕ) → slot_of name ns ≡ o → k ≡ slot_or_next (cond (bytes_eq name unnamed) None (slot_of name ns)) ns → ⊥
    go true is o e same =
        let last : k ≡ length ns = same ∙ ap (λ b. slot_or_next (cond b None (slot_of name ns)) ns) is in
        omega (arith, last, slot-below other ns k at)
    go false is None e same =
        let last : k ≡ length ns = same ∙ ap (λ b. slot_or_next (cond b None (slot_of name ns)) ns) is ∙ ap (λ (o : Option ℕ). slot_or_next o ns) e in
        omega (arith, last, slot-below other ns k at)
    go false is (Some j) e same =
        let is-j : k ≡ j = same ∙ ap (λ b. slot_or_next (cond b None (slot_of name ns)) ns) is ∙ ap (λ (o : Option ℕ). slot_or_next o ns) e in
        same-name (e ∙ ap Some (sym is-j))

pub from_known : (b : Bool) (o : Option ℕ) (j : ℕ) → cond b None o ≡ Some j → o ≡ Some j
from_known true o j e = absurd cc
from_known false o j e = e

kept : (slots : Places) (k : ℕ) (x : Option Tree) (o : Option ℕ) → ((j : ℕ) → o ≡ Some j → j ≡ k → ⊥) → option_and_then (held (slice_set slots k x)) o ≡ option_and_then (held slots) o
kept slots k x None apart = refl
kept slots k x (Some j) apart = set-other slots k x j (apart j refl)

named-known : (name : List ℕ) (e : Environment) → bytes_eq name unnamed ≡ false → known name e ≡ meant name e
named-known name e is = cond-false (bytes_eq name unnamed) None (meant name e) is

pub agrees-new : (n : Room) (h : ℕ) (ns : SlotNames) (e : Environment) (slots : Places) → Agrees n h ns e slots → (name : List ℕ) (t : Tree) → known name e ≡ None → slot_for name ns < n.slots →
    Agrees n h (slots_for name ns) (with_name e name t) (slice_set slots (slot_for name ns) (Some t))
agrees-new n h ns e slots a name t new room = record {
  long = length-set slots (slot_for name ns) (Some t) ∙ a.long;
  names = λ other is. found other is (bytes_eq other name) refl;
  empty = λ k past. ahead k past;
  firm = λ k less. set-firm slots (slot_for name ns) t k (a.firm k less);
  fixed = λ k u is. fixed-for k u name ns slots (Some t) (a.fixed k u is);
}
  where
    fits : slot_for name ns < length slots
    fits = subst (λ (m : ℕ). slot_for name ns < m) (sym a.long) room

    found : (other : List ℕ) → bytes_eq other unnamed ≡ false → (b : Bool) → bytes_eq other name ≡ b →
        meant other (with_name e name t) ≡ finds other (slots_for name ns) (slice_set slots (slot_for name ns) (Some t))
    found other is true same =
        let it : other ≡ name = text_same other name same in
        let plain : bytes_eq name unnamed ≡ false = subst (λ (x : List ℕ). bytes_eq x unnamed ≡ false) it is in
        subst (λ (x : List ℕ). meant x (with_name e name t) ≡ finds x (slots_for name ns) (slice_set slots (slot_for name ns) (Some t))) (sym it)
        (meant-more name e name t
        ∙ ap (λ (o : Option Tree). or_last o (cond (bytes_eq name name) (Some t) None)) (sym (named-known name e plain) ∙ new)
        ∙ cond-true (bytes_eq name name) (Some t) None (text_itself name)
        ∙ sym (get_or-set_same slots (slot_for name ns) (Some t) None fits)
        ∙ sym (ap (option_and_then (held (slice_set slots (slot_for name ns) (Some t)))) (slot-found name ns plain)))
    found other is false apart =
        meant-more other e name t
        ∙ ap (λ b. or_last (meant other e) (cond b (Some t) None)) apart
        ∙ without (meant other e)
        ∙ a.names other is
        ∙ sym (kept slots (slot_for name ns) (Some t) (slot_of other ns) (slot-apart name other ns apart))
        ∙ sym (ap (option_and_then (held (slice_set slots (slot_for name ns) (Some t)))) (slot-stays name other ns apart))
      where
        without : (o : Option Tree) → or_last o None ≡ o
        without None = refl
        without (Some u) = refl

    -- the slot is no more ahead
    ahead : (k : ℕ) → length (slots_for name ns) ≤ k → held (slice_set slots (slot_for name ns) (Some t)) k ≡ None
    ahead k past = go (bytes_eq name unnamed) refl (slot_of name ns) refl
      where
        go : (b : Bool) → bytes_eq name unnamed ≡ b → (o : Option ℕ) → slot_of name ns ≡ o → held (slice_set slots (slot_for name ns) (Some t)) k ≡ None
        go b is o at = by-slot (slot_known name ns) refl
          where
            by-slot : (p : Option ℕ) → slot_known name ns ≡ p → held (slice_set slots (slot_for name ns) (Some t)) k ≡ None
            by-slot None p =
                let long : length (slots_for name ns) ≡ suc (length ns) = ap (λ (q : Option ℕ). length (slots_with q name ns)) p ∙ (length-append ns (name ∷ []) ∙ omega arith) in
                let last : slot_for name ns ≡ length ns = ap (λ (q : Option ℕ). slot_or_next q ns) p in
                set-other slots (slot_for name ns) (Some t) k (λ same. omega (arith, past, long, last, same)) ∙ a.empty k (omega (arith, past, long))
            by-slot (Some j) p =
                let long : length (slots_for name ns) ≡ length ns = ap (λ (q : Option ℕ). length (slots_with q name ns)) p in
                let it : slot_for name ns ≡ j = ap (λ (q : Option ℕ). slot_or_next q ns) p in
                let low : j < length ns = slot-below name ns j (from_known (bytes_eq name unnamed) (slot_of name ns) j p) in
                set-other slots (slot_for name ns) (Some t) k (λ same. omega (arith, past, long, it, low, same)) ∙ a.empty k (omega (arith, past, long))

-- the slots of a clause where nothing is known
empty-held : (m k : ℕ) → held (replicate m None) k ≡ None
empty-held zero k = refl
empty-held (suc m) zero = refl
empty-held (suc m) (suc k) = empty-held m k

replicate-length : (m : ℕ) → length (replicate {A = Option Tree} m None) ≡ m
replicate-length zero = refl
replicate-length (suc m) = ap suc (replicate-length m)

pub agrees-nothing : (n : ℕ) → Agrees (free_room n) 0 [] [] (replicate n None)
unfolding slot_of meant
agrees-nothing n = record {
  long = replicate-length n;
  names = λ name is. refl;
  empty = λ k past. empty-held n k;
  firm = λ k less. absurd (omega (arith, less));
  fixed = λ k t is. absurd (cc is);
}
