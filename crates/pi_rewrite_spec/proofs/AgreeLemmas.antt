-- Slots against an environment: each name finds the same in both, and the slots that no text has come to are empty.
use Rattle.std.proofs.Common.{◌≡◌, ℕ, zero, suc, ◌+◌, ◌<◌, ◌≤◌, Bool, true, false, cond, List, [], ◌∷◌, ◌++◌, length, refl, sym, ◌∙◌, ap, subst, arith, length-append, append_assoc, nat_lt}
use Rattle.std.specs.Prelude.{◌==◌, Option, Some, None, option_map, option_and_then, IsSome, slice_set}
use Rattle.std.specs.Str.{bytes_eq}
use Rattle.std.proofs.lemmas.List.{length-set, append-nil, get_or-set_same}
use Rattle.std.proofs.lemmas.Bool.{true≢false}
use Rattle.std.proofs.lemmas.Bool.Decides.{Decides-eqb, Decides-ltb}
use Rattle.std.proofs.lemmas.Slice.Eq.{bytes_eq-Decides}
use Rattle.pi_terms.specs.Tree.{Tree}
use Rattle.pi_terms.specs.Places.{Places, held}
use Rattle.pi_meaning.specs.OverNames.Environment.{Environment, meant, known, with_name}
use Rattle.pi_meaning.specs.OverNames.Assigning as assigning
use Rattle.pi_meaning.proofs.OverNames.OtherEnvironments.{meant-value}
use Rattle.pi_rewrite_spec.specs.Slots.{SlotNames, unnamed, slot_of, slot_known, slot_or_next, slots_with, slot_for, slots_for, with_value}

pub text_itself : (a : List ℕ) → bytes_eq a a ≡ true
text_itself a = (bytes_eq-Decides a a).1 refl

pub text_same : (a b : List ℕ) → bytes_eq a b ≡ true → a ≡ b
text_same a b h = (bytes_eq-Decides a b).0 h

-- what stands first, else what stands behind
abbrev pub or_last : {A : Type 0} → Option A → Option A → Option A
or_last (Some k) last = Some k
or_last None last = last

-- ---- more slots

-- slots that are added behind
pub data Grows (ns : SlotNames) : SlotNames → Type 0 where
  by : (more : SlotNames) → Grows ns (ns ++ more)

pub grows-none : (ns : SlotNames) → Grows ns ns
grows-none ns = subst (λ (ms : SlotNames). Grows ns ms) (append-nil ns) (by [])

pub grows-then : (ns ms ks : SlotNames) → Grows ns ms → Grows ms ks → Grows ns ks
grows-then ns _ _ (by more) (by further) = subst (λ (ms : SlotNames). Grows ns ms) (sym (append_assoc ns more further)) (by (more ++ further))

pub grows-length : (ns ms : SlotNames) → Grows ns ms → length ns ≤ length ms
grows-length ns _ (by more) = omega (arith, length-append ns more)

pub grows-for : (name : List ℕ) (ns : SlotNames) → Grows ns (slots_for name ns)
grows-for name ns = go (slot_known name ns)
  where
    go : (o : Option ℕ) → Grows ns (slots_with o name ns)
    go None = by (name ∷ [])
    go (Some k) = grows-none ns

-- ---- what a name finds

abbrev pub finds : List ℕ → SlotNames → Places → Option Tree
finds name ns slots = option_and_then (held slots) (slot_of name ns)

map-last : (found last : Option ℕ) → option_map (λ k. suc k) (or_last found last) ≡ or_last (option_map (λ k. suc k) found) (option_map (λ k. suc k) last)
map-last (Some k) last = refl
map-last None last = refl

step : (b : Bool) (found last : Option ℕ) → cond b (Some 0) (or_last (option_map (λ k. suc k) found) last) ≡ or_last (cond b (Some 0) (option_map (λ k. suc k) found)) last
step true found last = refl
step false found last = refl

later : (n : ℕ) (o : Option ℕ) → option_map (λ k. suc k) (option_map (λ k. n + k) o) ≡ option_map (λ k. suc n + k) o
later n None = refl
later n (Some k) = ap Some (omega arith)

first-again : (o : Option ℕ) → o ≡ option_map (λ k. 0 + k) o
first-again None = refl
first-again (Some k) = ap Some (omega arith)

-- the slot of a name among more
pub slot-among : (name : List ℕ) (ns ms : SlotNames) → slot_of name (ns ++ ms) ≡ or_last (slot_of name ns) (option_map (λ k. length ns + k) (slot_of name ms))
unfolding slot_of
slot-among name [] ms = first-again (slot_of name ms)
slot-among name (m ∷ ns) ms =
    ap (λ o. cond (bytes_eq name m) (Some 0) (option_map (λ k. suc k) o)) (slot-among name ns ms)
    ∙ ap (λ o. cond (bytes_eq name m) (Some 0) o) (map-last (slot_of name ns) (option_map (λ k. length ns + k) (slot_of name ms)) ∙ ap (or_last (option_map (λ k. suc k) (slot_of name ns))) (later (length ns) (slot_of name ms)))
    ∙ step (bytes_eq name m) (slot_of name ns) (option_map (λ k. suc (length ns) + k) (slot_of name ms))

abbrev some-value : Option ℕ → ℕ
some-value None = 0
some-value (Some j) = j

some-inj : {i j : ℕ} → Some i ≡ Some j → i ≡ j
some-inj h = ap some-value h

-- a slot is one of those
pub slot-below : (name : List ℕ) (ns : SlotNames) (k : ℕ) → slot_of name ns ≡ Some k → k < length ns
unfolding slot_of
slot-below name [] k e = absurd cc
slot-below name (m ∷ ns) k e = go (bytes_eq name m) (slot_of name ns) (λ j at. slot-below name ns j at) e
  where
    go : (b : Bool) (o : Option ℕ) → ((j : ℕ) → o ≡ Some j → j < length ns) → cond b (Some 0) (option_map (λ j. suc j) o) ≡ Some k → k < suc (length ns)
    go true o below h = let z : 0 ≡ k = some-inj h in omega arith
    go false None below h = absurd cc
    go false (Some j) below h = let z : suc j ≡ k = some-inj h in omega (arith, below j refl)

-- what a slot has for its name: names that find one slot are one
abbrev pub name_at : SlotNames → ℕ → List ℕ
name_at [] k = []
name_at (n ∷ ns) zero = n
name_at (n ∷ ns) (suc k) = name_at ns k

pub slot-name : (name : List ℕ) (ns : SlotNames) (k : ℕ) → slot_of name ns ≡ Some k → name_at ns k ≡ name
unfolding slot_of
slot-name name [] k e = absurd cc
slot-name name (m ∷ ns) k e = go (bytes_eq name m) refl (slot_of name ns) (λ j at. slot-name name ns j at) e
  where
    go : (b : Bool) → bytes_eq name m ≡ b → (o : Option ℕ) → ((j : ℕ) → o ≡ Some j → name_at ns j ≡ name) → cond b (Some 0) (option_map (λ j. suc j) o) ≡ Some k → name_at (m ∷ ns) k ≡ name
    go true same o below h = subst (λ (j : ℕ). name_at (m ∷ ns) j ≡ name) (some-inj h) (sym (text_same name m same))
    go false other None below h = absurd cc
    go false other (Some j) below h = subst (λ (j : ℕ). name_at (m ∷ ns) j ≡ name) (some-inj h) (below j refl)

pub slot-one : (name other : List ℕ) (ns : SlotNames) (k : ℕ) → slot_of name ns ≡ Some k → slot_of other ns ≡ Some k → other ≡ name
slot-one name other ns k a b = sym (slot-name other ns k b) ∙ slot-name name ns k a

-- ---- the relation

-- the slots of a clause: how many there are, and what those have that stay as they are, filled or empty
pub record Room : Type 0 where
  pub slots : ℕ
  pub fixed : ℕ → Option (Option Tree)

-- no slots stay
abbrev pub free_room : ℕ → Room
free_room n = record { slots = n; fixed = λ k. None }

-- no name finds a slot, so that no assignment goes there
pub record Fixed (k : ℕ) (t : Option Tree) (ns : SlotNames) (slots : Places) : Type 0 where
  pub has : held slots k ≡ t
  pub below : k < length ns
  pub nameless : (name : List ℕ) → bytes_eq name unnamed ≡ false → slot_of name ns ≡ Some k → ⊥

pub record Agrees (n : Room) (h : ℕ) (ns : SlotNames) (e : Environment) (slots : Places) : Type 0 where
  -- so many slots in all
  pub long : length slots ≡ n.slots
  pub names : (name : List ℕ) → bytes_eq name unnamed ≡ false → meant name e ≡ finds name ns slots
  -- those ahead
  pub empty : (k : ℕ) → length ns ≤ k → held slots k ≡ None
  -- those that the head fills
  pub firm : (k : ℕ) → k < h → IsSome (held slots k)
  -- those that stay
  pub fixed : (k : ℕ) (t : Option Tree) → n.fixed k ≡ Some t → Fixed k t ns slots

-- an occurrence finds the same
pub agrees-known : (n : Room) (h : ℕ) (ns : SlotNames) (e : Environment) (slots : Places) → Agrees n h ns e slots → (name : List ℕ) → known name e ≡ option_and_then (held slots) (slot_known name ns)
agrees-known n h ns e slots a name = go (bytes_eq name unnamed) refl
  where
    go : (b : Bool) → bytes_eq name unnamed ≡ b → cond b None (meant name e) ≡ option_and_then (held slots) (cond b None (slot_of name ns))
    go true is = refl
    go false is = a.names name is

-- ---- one more name

pub meant-more : (name : List ℕ) (e : Environment) (other : List ℕ) (t : Tree) → meant name (with_name e other t) ≡ or_last (meant name e) (cond (bytes_eq name other) (Some t) None)
unfolding meant
meant-more name [] other t = refl
meant-more name (m ∷ e) other t = go (bytes_eq name m.name) (meant-more name e other t)
  where
    go : (b : Bool) → meant name (with_name e other t) ≡ or_last (meant name e) (cond (bytes_eq name other) (Some t) None) →
        cond b (Some m.tree) (meant name (with_name e other t)) ≡ or_last (cond b (Some m.tree) (meant name e)) (cond (bytes_eq name other) (Some t) None)
    go true rest = refl
    go false rest = rest

pub set-other : (e : Places) (k : ℕ) (x : Option Tree) (i : ℕ) → (i ≡ k → ⊥) → held (slice_set e k x) i ≡ held e i
set-other [] k x i apart = refl
set-other (y ∷ e) zero x zero apart = absurd (apart refl)
set-other (y ∷ e) zero x (suc i) apart = refl
set-other (y ∷ e) (suc k) x zero apart = refl
set-other (y ∷ e) (suc k) x (suc i) apart = set-other e k x i (λ same. apart (ap suc same))

pub set-firm : (e : Places) (k : ℕ) (t : Tree) (i : ℕ) → IsSome (held e i) → IsSome (held (slice_set e k (Some t)) i)
set-firm [] k t i h = h
set-firm (y ∷ e) zero t zero h = refl
set-firm (y ∷ e) zero t (suc i) h = h
set-firm (y ∷ e) (suc k) t zero h = h
set-firm (y ∷ e) (suc k) t (suc i) h = set-firm e k t i h

-- slots ahead are found by no name, so that more of them change nothing
pub finds-more : (name : List ℕ) (ns more : SlotNames) (slots : Places) → ((k : ℕ) → length ns ≤ k → held slots k ≡ None) → finds name (ns ++ more) slots ≡ finds name ns slots
finds-more name ns more slots ahead = ap (option_and_then (held slots)) (slot-among name ns more) ∙ go (slot_of name ns) (slot_of name more)
  where
    go : (o p : Option ℕ) → option_and_then (held slots) (or_last o (option_map (λ k. length ns + k) p)) ≡ option_and_then (held slots) o
    go (Some k) p = refl
    go None None = refl
    go None (Some k) = ahead (length ns + k) (omega arith)

pub fixed-more : (k : ℕ) (t : Option Tree) (ns ms : SlotNames) (slots : Places) → Grows ns ms → Fixed k t ns slots → Fixed k t ms slots
fixed-more k t ns _ slots (by more) f =
    record { has = f.has; below = omega (arith, f.below, length-append ns more); nameless = λ name is at. go name is (slot_of name ns) refl (slot_of name more) (sym (slot-among name ns more) ∙ at) }
  where
    go : (name : List ℕ) → bytes_eq name unnamed ≡ false → (o : Option ℕ) → slot_of name ns ≡ o → (p : Option ℕ) → or_last (slot_of name ns) (option_map (λ j. length ns + j) p) ≡ Some k → ⊥
    go name is (Some j) at p found = f.nameless name is (at ∙ sym (ap (λ o. or_last o (option_map (λ j. length ns + j) p)) at) ∙ found)
    go name is None at None found = absurd (cc (sym (ap (λ o. or_last o None) at) ∙ found))
    go name is None at (Some j) found = let past : length ns + j ≡ k = some-inj (sym (ap (λ o. or_last o (Some (length ns + j))) at) ∙ found) in omega (arith, past, f.below)

pub fixed-set : (k : ℕ) (t : Option Tree) (ns : SlotNames) (slots : Places) (j : ℕ) (x : Option Tree) → (k ≡ j → ⊥) → Fixed k t ns slots → Fixed k t ns (slice_set slots j x)
fixed-set k t ns slots j x apart f = record { has = set-other slots j x k apart ∙ f.has; below = f.below; nameless = f.nameless }

-- the slot of a name is another one
pub fixed-apart : (k : ℕ) (t : Option Tree) (name : List ℕ) (ns : SlotNames) (slots : Places) → Fixed k t ns slots → k ≡ slot_for name ns → ⊥
fixed-apart k t name ns slots f same = go (bytes_eq name unnamed) refl (slot_of name ns) refl
  where
    go : (b : Bool) → bytes_eq name unnamed ≡ b → (o : Option ℕ) → slot_of name ns ≡ o → ⊥
    go true is o at = let last : k ≡ length ns = same ∙ ap (λ (c : Bool). slot_or_next (cond c None (slot_of name ns)) ns) is in omega (arith, f.below, last)
    go false is None at =
        let last : k ≡ length ns = same ∙ ap (λ (c : Bool). slot_or_next (cond c None (slot_of name ns)) ns) is ∙ ap (λ (o : Option ℕ). slot_or_next o ns) at in omega (arith, f.below, last)
    go false is (Some j) at = f.nameless name is (at ∙ ap Some (sym (same ∙ ap (λ (c : Bool). slot_or_next (cond c None (slot_of name ns)) ns) is ∙ ap (λ (o : Option ℕ). slot_or_next o ns) at)))

pub fixed-for : (k : ℕ) (t : Option Tree) (name : List ℕ) (ns : SlotNames) (slots : Places) (x : Option Tree) → Fixed k t ns slots → Fixed k t (slots_for name ns) (slice_set slots (slot_for name ns) x)
fixed-for k t name ns slots x f =
    fixed-set k t (slots_for name ns) slots (slot_for name ns) x (fixed-apart k t name ns slots f) (fixed-more k t ns (slots_for name ns) slots (grows-for name ns) f)

pub agrees-more : (n : Room) (h : ℕ) (ns ms : SlotNames) (e : Environment) (slots : Places) → Grows ns ms → Agrees n h ns e slots → Agrees n h ms e slots
agrees-more n h ns _ e slots (by more) a = record {
  long = a.long;
  names = λ name is. a.names name is ∙ sym (finds-more name ns more slots a.empty);
  empty = λ k past. a.empty k (omega (arith, past, length-append ns more));
  firm = a.firm;
  fixed = λ k t is. fixed-more k t ns (ns ++ more) slots (by more) (a.fixed k t is);
}

pub slot-alone : (name other : List ℕ) → slot_of name (other ∷ []) ≡ cond (bytes_eq name other) (Some 0) None
unfolding slot_of
slot-alone name other = refl

-- a value in the next slot
pub agrees-value : (n : Room) (h : ℕ) (ns : SlotNames) (e : Environment) (slots : Places) (t : Tree) → Agrees n h ns e slots → Agrees n h (with_value ns) e (slice_set slots (length ns) (Some t))
agrees-value n h ns e slots t a = record {
  long = length-set slots (length ns) (Some t) ∙ a.long;
  names = λ name is. a.names name is ∙ other name is;
  empty = λ k past. set-other slots (length ns) (Some t) k (λ same. beyond k past same) ∙ a.empty k (omega (arith, past, length-append ns (unnamed ∷ [])));
  firm = λ k less. set-firm slots (length ns) t k (a.firm k less);
  fixed = λ k u is. fixed-set k u (with_value ns) slots (length ns) (Some t) (λ same. omega (arith, same, (a.fixed k u is).below)) (fixed-more k u ns (with_value ns) slots (by (unnamed ∷ [])) (a.fixed k u is));
}
  where
    beyond : (k : ℕ) → length (ns ++ unnamed ∷ []) ≤ k → k ≡ length ns → ⊥
    beyond k past same = omega (arith, past, same, length-append ns (unnamed ∷ []))

    apart : (name : List ℕ) (k : ℕ) → slot_of name ns ≡ Some k → k ≡ length ns → ⊥
    apart name k at same = omega (arith, slot-below name ns k at, same)

    kept : (name : List ℕ) (o : Option ℕ) → slot_of name ns ≡ o → option_and_then (held slots) o ≡ option_and_then (held (slice_set slots (length ns) (Some t))) o
    kept name None at = refl
    kept name (Some k) at = sym (set-other slots (length ns) (Some t) k (apart name k at))

    last : (name : List ℕ) (o : Option ℕ) → bytes_eq name unnamed ≡ false → or_last o (option_map (λ k. length ns + k) (cond (bytes_eq name unnamed) (Some 0) None)) ≡ o
    last name (Some k) is = refl
    last name None is = ap (λ b. option_map (λ k. length ns + k) (cond b (Some 0) None)) is

    slot-same : (name : List ℕ) → bytes_eq name unnamed ≡ false → slot_of name (ns ++ unnamed ∷ []) ≡ slot_of name ns
    slot-same name is = slot-among name ns (unnamed ∷ []) ∙ ap (λ o. or_last (slot_of name ns) (option_map (λ k. length ns + k) o)) (slot-alone name unnamed) ∙ last name (slot_of name ns) is

    other : (name : List ℕ) → bytes_eq name unnamed ≡ false → finds name ns slots ≡ finds name (ns ++ unnamed ∷ []) (slice_set slots (length ns) (Some t))
    other name is = kept name (slot_of name ns) refl ∙ sym (ap (option_and_then (held (slice_set slots (length ns) (Some t)))) (slot-same name is))

-- ---- a name that stands for another value from here on

known-some : (name : List ℕ) (ns : SlotNames) (k : ℕ) → slot_known name ns ≡ Some k → slot_of name ns ≡ Some k
known-some name ns k is = go (bytes_eq name unnamed) is
  where
    go : (b : Bool) → cond b None (slot_of name ns) ≡ Some k → slot_of name ns ≡ Some k
    go true h = absurd cc
    go false h = h

known-none : (name : List ℕ) (ns : SlotNames) → bytes_eq name unnamed ≡ false → slot_known name ns ≡ None → slot_of name ns ≡ None
known-none name ns named is = sym (ap (λ b. cond b None (slot_of name ns)) named) ∙ is

-- the slot that it has, or the next one, has the value, and each other name has its own
assigned-finds : (n : Room) (h : ℕ) (ns : SlotNames) (e : Environment) (slots : Places) (name : List ℕ) (t : Tree) → Agrees n h ns e slots → (o : Option ℕ) → slot_known name ns ≡ o → length (slots_with o name ns) ≤ n.slots →
    (other : List ℕ) → bytes_eq other unnamed ≡ false → (b : Bool) → bytes_eq other name ≡ b →
    cond b (Some t) (meant other e) ≡ finds other (slots_with o name ns) (slice_set slots (slot_or_next o ns) (Some t))
assigned-finds n h ns e slots name t a (Some k) at room other is true same =
    let found : slot_of other ns ≡ Some k = ap (λ x. slot_of x ns) (text_same other name same) ∙ known-some name ns k at in
    sym (ap (option_and_then (held (slice_set slots k (Some t)))) found ∙ get_or-set_same slots k (Some t) None (omega (arith, slot-below other ns k found, room, a.long)))
assigned-finds n h ns e slots name t a (Some k) at room other is false apart = a.names other is ∙ kept (slot_of other ns) refl
  where
    differs : (i : ℕ) → slot_of other ns ≡ Some i → i ≡ k → ⊥
    differs i found same =
        let one : other ≡ name = slot-one name other ns k (known-some name ns k at) (found ∙ ap Some same) in
        absurd (true≢false (sym (text_itself name) ∙ ap (λ x. bytes_eq x name) (sym one) ∙ apart))

    kept : (p : Option ℕ) → slot_of other ns ≡ p → option_and_then (held slots) p ≡ option_and_then (held (slice_set slots k (Some t))) p
    kept None found = refl
    kept (Some i) found = sym (set-other slots k (Some t) i (differs i found))
assigned-finds n h ns e slots name t a None at room other is true same =
    let one : other ≡ name = text_same other name same in
    let new : slot_of other ns ≡ None = ap (λ x. slot_of x ns) one ∙ known-none name ns (ap (λ x. bytes_eq x unnamed) (sym one) ∙ is) at in
    let found : slot_of other (ns ++ name ∷ []) ≡ Some (length ns + 0) =
    slot-among other ns (name ∷ []) ∙ ap (λ p. or_last p (option_map (λ k. length ns + k) (slot_of other (name ∷ [])))) new
    ∙ ap (λ p. option_map (λ k. length ns + k) p) (slot-alone other name ∙ ap (λ b. cond b (Some 0) None) same) in
    let next : length ns + 0 ≡ length ns = omega arith in
    sym (ap (option_and_then (held (slice_set slots (length ns) (Some t)))) (found ∙ ap Some next)
    ∙ get_or-set_same slots (length ns) (Some t) None (omega (arith, room, a.long, length-append ns (name ∷ []))))
assigned-finds n h ns e slots name t a None at room other is false apart = a.names other is ∙ kept (slot_of other ns) refl ∙ sym (ap (option_and_then (held (slice_set slots (length ns) (Some t)))) same)
  where
    kept : (p : Option ℕ) → slot_of other ns ≡ p → option_and_then (held slots) p ≡ option_and_then (held (slice_set slots (length ns) (Some t))) p
    kept None found = refl
    kept (Some i) found = sym (set-other slots (length ns) (Some t) i (λ beyond. omega (arith, slot-below other ns i found, beyond)))

    last : (p : Option ℕ) → or_last p (option_map (λ k. length ns + k) (cond (bytes_eq other name) (Some 0) None)) ≡ p
    last (Some k) = refl
    last None = ap (λ b. option_map (λ k. length ns + k) (cond b (Some 0) None)) apart

    same : slot_of other (ns ++ name ∷ []) ≡ slot_of other ns
    same = slot-among other ns (name ∷ []) ∙ ap (λ p. or_last (slot_of other ns) (option_map (λ k. length ns + k) p)) (slot-alone other name) ∙ last (slot_of other ns)

assigned-empty : (n : Room) (h : ℕ) (ns : SlotNames) (e : Environment) (slots : Places) (name : List ℕ) (t : Tree) → Agrees n h ns e slots → (o : Option ℕ) → slot_known name ns ≡ o → (k : ℕ) → length (slots_with o name ns) ≤ k →
    held (slice_set slots (slot_or_next o ns) (Some t)) k ≡ None
assigned-empty n h ns e slots name t a (Some j) at k past = set-other slots j (Some t) k (λ same. omega (arith, slot-below name ns j (known-some name ns j at), past, same)) ∙ a.empty k past
assigned-empty n h ns e slots name t a None at k past =
    set-other slots (length ns) (Some t) k (λ same. omega (arith, past, same, length-append ns (name ∷ []))) ∙ a.empty k (omega (arith, past, length-append ns (name ∷ [])))

pub agrees-assigned : (n : Room) (h : ℕ) (ns : SlotNames) (e : Environment) (slots : Places) (name : List ℕ) (t : Tree) → Agrees n h ns e slots → length (slots_for name ns) ≤ n.slots →
    Agrees n h (slots_for name ns) (assigning.with_value e name t) (slice_set slots (slot_for name ns) (Some t))
agrees-assigned n h ns e slots name t a room = record {
  long = length-set slots (slot_for name ns) (Some t) ∙ a.long;
  names = λ other is. meant-value other name t e ∙ assigned-finds n h ns e slots name t a (slot_known name ns) refl room other is (bytes_eq other name) refl;
  empty = λ k past. assigned-empty n h ns e slots name t a (slot_known name ns) refl k past;
  firm = λ k less. set-firm slots (slot_for name ns) t k (a.firm k less);
  fixed = λ k u is. fixed-for k u name ns slots (Some t) (a.fixed k u is);
}

-- ---- slots without names

name-at-below : (ns : SlotNames) (k : ℕ) → bytes_eq (name_at ns k) unnamed ≡ true → k < length ns
name-at-below [] k is = absurd (true≢false (sym is))
name-at-below (n ∷ ns) zero is = omega arith
name-at-below (n ∷ ns) (suc k) is = omega (arith, name-at-below ns k is)

-- a name finds this slot
abbrev is_slot : Option ℕ → ℕ → Bool
is_slot None k = false
is_slot (Some j) k = j == k

abbrev pub is_found : SlotNames → ℕ → Bool
is_found ns k = cond (bytes_eq (name_at ns k) unnamed) false (is_slot (slot_of (name_at ns k) ns) k)

-- a room in which all slots that no name finds stay as they are
abbrev pub holding : Room → SlotNames → Places → Room
holding n ns slots = record { slots = n.slots; fixed = λ k. cond (nat_lt k (length ns)) (cond (is_found ns k) None (Some (held slots k))) None }

pub finds-slot : (name : List ℕ) (ns : SlotNames) (k : ℕ) → bytes_eq name unnamed ≡ false → slot_of name ns ≡ Some k → is_found ns k ≡ true
finds-slot name ns k named at =
    ap (λ (x : List ℕ). cond (bytes_eq x unnamed) false (is_slot (slot_of x ns) k)) (slot-name name ns k at) ∙ ap (λ (b : Bool). cond b false (is_slot (slot_of name ns) k)) named ∙ ap (λ (o : Option ℕ). is_slot o k) at ∙ (Decides-eqb k k).1 refl

-- and a slot that is found has the name that finds it
pub found-slot : (ns : SlotNames) (k : ℕ) → is_found ns k ≡ true → (bytes_eq (name_at ns k) unnamed ≡ false) × (slot_of (name_at ns k) ns ≡ Some k)
found-slot ns k is = go (bytes_eq (name_at ns k) unnamed) refl (slot_of (name_at ns k) ns) refl is
  where
    go : (b : Bool) → bytes_eq (name_at ns k) unnamed ≡ b → (o : Option ℕ) → slot_of (name_at ns k) ns ≡ o → cond b false (is_slot o k) ≡ true → (b ≡ false) × (o ≡ Some k)
    go true named o at h = absurd (true≢false (sym h))
    go false named None at h = absurd (true≢false (sym h))
    go false named (Some j) at h = (refl, ap Some ((Decides-eqb j k).0 h))

pub agrees-holding : (n : Room) (h : ℕ) (ns : SlotNames) (e : Environment) (slots : Places) → Agrees n h ns e slots → Agrees (holding n ns slots) h ns e slots
agrees-holding n h ns e slots a = record { long = a.long; names = a.names; empty = a.empty; firm = a.firm; fixed = λ k t is. go k t (nat_lt k (length ns)) refl (is_found ns k) refl is }
  where
    value : Option (Option Tree) → Option Tree
    value None = None
    value (Some t) = t

    go : (k : ℕ) (t : Option Tree) (b : Bool) → nat_lt k (length ns) ≡ b → (c : Bool) → is_found ns k ≡ c → cond b (cond c None (Some (held slots k))) None ≡ Some t → Fixed k t ns slots
    go k t true less false other found = record { has = ap value found; below = (Decides-ltb k (length ns)).0 less; nameless = λ name named at. true≢false (sym (finds-slot name ns k named at) ∙ other) }
    go k t true less true is found = absurd (cc found)
    go k t false past c is found = absurd (cc found)

-- what stays
pub held-still : (n : Room) (h : ℕ) (ns ms : SlotNames) (e : Environment) (slots after : Places) → Agrees (holding n ns slots) h ms e after → (k : ℕ) → k < length ns → is_found ns k ≡ false → held after k ≡ held slots k
held-still n h ns ms e slots after a k less other =
    (a.fixed k (held slots k) (ap (λ (b : Bool). cond b (cond (is_found ns k) None (Some (held slots k))) None) ((Decides-ltb k (length ns)).1 less) ∙ ap (λ (b : Bool). cond b None (Some (held slots k))) other)).has

pub unnamed-still : (n : Room) (h : ℕ) (ns ms : SlotNames) (e : Environment) (slots after : Places) → Agrees (holding n ns slots) h ms e after → (k : ℕ) → bytes_eq (name_at ns k) unnamed ≡ true → held after k ≡ held slots k
unnamed-still n h ns ms e slots after a k is = held-still n h ns ms e slots after a k (name-at-below ns k is) (ap (λ (b : Bool). cond b false (is_slot (slot_of (name_at ns k) ns) k)) is)
