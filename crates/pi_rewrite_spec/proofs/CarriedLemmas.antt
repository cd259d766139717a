-- What helpers of an iterator hand on: the names of the loop and the variables of those that it keeps, behind other slots, from clause to clause.
use Rattle.std.proofs.Common.{◌≡◌, ℕ, zero, suc, ◌+◌, ◌-◌, ◌≤◌, ◌<◌, Bool, true, false, cond, List, [], ◌∷◌, ◌++◌, length, map, refl, sym, ◌∙◌, ap, arith, length-append, append_assoc}
use Rattle.std.specs.Prelude.{Option, Some, None, option_and_then, option_map, IsSome, is_some, replicate}
use Rattle.std.specs.Str.{bytes_eq}
use Rattle.std.proofs.lemmas.List.{get_or_append_left, get_or-append-add, map-append}
use Rattle.pi_terms.specs.Tree.{Tree}
use Rattle.pi_terms.specs.Places.{Places, held}
use Rattle.pi_meaning.specs.OverNames.Environment.{Environment, meant}
use Rattle.pi_meaning.specs.OverNames.Texts.{Names}
use Rattle.pi_meaning.specs.OverNames.Assigning.{narrowed}
use Rattle.pi_meaning.proofs.OverNames.OtherEnvironments.{meant-narrowed}
use Rattle.pi_rewrite_spec.specs.Slots.{SlotNames, unnamed, slot_of, with_value}
use Rattle.pi_rewrite_spec.specs.Loops.{with_values, Loop, loop_slots}
use Rattle.pi_rewrite_spec.proofs.AgreeLemmas.{Room, free_room, text_itself, Grows, or_last, finds, slot-among, slot-below, name_at, Agrees, holding, unnamed-still}
use Rattle.pi_rewrite_spec.proofs.HandedLemmas.{entered, entered-long, entered-empty, entered-held, entered-firm, values_from, values-count, values-held, some-long, some-held}
use Rattle.pi_rewrite_spec.proofs.EnteredLemmas.{slot-values, values-long, among-slot, slot-stays, variables_from, variables-within}

-- what is handed on, as the names have it
pub record Handed (w : Loop) (base : ℕ) (e : Environment) (hs : List Tree) : Type 0 where
  pub count : length hs ≡ length (loop_slots w)
  pub values : (name : List ℕ) → bytes_eq name unnamed ≡ false → (k : ℕ) → slot_of name w.shared ≡ Some k → meant name e ≡ held (map Some hs) k
  -- and no other name is there
  pub others : (name : List ℕ) → bytes_eq name unnamed ≡ false → slot_of name w.shared ≡ None → meant name e ≡ None
  pub variables : (k : ℕ) (t : Tree) → variables_from (length w.shared) base w.kept k ≡ Some t → held (map Some hs) k ≡ Some t

-- ---- slots without names

pub values-are : (names : Names) (ns : SlotNames) → with_values names ns ≡ ns ++ replicate (length names) unnamed
unfolding with_values
values-are [] ns = sym (append-none ns)
  where
    append-none : (ns : SlotNames) → ns ++ [] ≡ ns
    append-none [] = refl
    append-none (n ∷ ns) = ap (λ (ms : SlotNames). n ∷ ms) (append-none ns)
values-are (name ∷ names) ns = values-are names (with_value ns) ∙ append_assoc ns (unnamed ∷ []) (replicate (length names) unnamed)

pub name-at-behind : (ns ms : SlotNames) (i : ℕ) → name_at (ns ++ ms) (length ns + i) ≡ name_at ms i
name-at-behind [] ms i = ap (name_at ms) (omega arith)
name-at-behind (n ∷ ns) ms i =
    let further : length (n ∷ ns) + i ≡ suc (length ns + i) = omega arith in ap (name_at (n ∷ (ns ++ ms))) further ∙ name-at-behind ns ms i

name-at-front : (ns ms : SlotNames) (i : ℕ) → i < length ns → name_at (ns ++ ms) i ≡ name_at ns i
name-at-front [] ms i less = absurd (omega (arith, less))
name-at-front (n ∷ ns) ms zero less = refl
name-at-front (n ∷ ns) ms (suc i) less = name-at-front ns ms i (omega (arith, less))

pub name-at-unnamed : (n i : ℕ) → i < n → name_at (replicate n unnamed) i ≡ unnamed
name-at-unnamed zero i less = absurd (omega (arith, less))
name-at-unnamed (suc n) zero less = refl
name-at-unnamed (suc n) (suc i) less = name-at-unnamed n i (omega (arith, less))

-- the slots of a clause: some in front, those of the loop's names, and those of its variables
abbrev pub behind_front : Loop → SlotNames → SlotNames
behind_front w front = with_values w.kept (front ++ w.shared)

pub variable-unnamed : (w : Loop) (front : SlotNames) (k : ℕ) → length w.shared ≤ k → k < length w.shared + length w.kept → bytes_eq (name_at (behind_front w front) (length front + k)) unnamed ≡ true
variable-unnamed w front k from less =
    ap (λ (ns : SlotNames). bytes_eq (name_at ns (length front + k)) unnamed) (values-are w.kept (front ++ w.shared))
    ∙ ap (λ (j : ℕ). bytes_eq (name_at ((front ++ w.shared) ++ replicate (length w.kept) unnamed) j) unnamed) place
    ∙ ap (λ (x : List ℕ). bytes_eq x unnamed) (name-at-behind (front ++ w.shared) (replicate (length w.kept) unnamed) (k - length w.shared) ∙ name-at-unnamed (length w.kept) (k - length w.shared) (omega (arith, from, less)))
    ∙ text_itself unnamed
  where
    place : length front + k ≡ length (front ++ w.shared) + (k - length w.shared)
    place = omega (arith, from, length-append front w.shared)

pub front-unnamed : (w : Loop) (front : SlotNames) (k : ℕ) → k < length front → bytes_eq (name_at front k) unnamed ≡ true → bytes_eq (name_at (behind_front w front) k) unnamed ≡ true
front-unnamed w front k less is =
    ap (λ (ns : SlotNames). bytes_eq (name_at ns k) unnamed) (values-are w.kept (front ++ w.shared))
    ∙ ap (λ (x : List ℕ). bytes_eq x unnamed) (name-at-front (front ++ w.shared) (replicate (length w.kept) unnamed) k (omega (arith, less, length-append front w.shared)) ∙ name-at-front front w.shared k less) ∙ is

pub front-long : (w : Loop) (front : SlotNames) → length (behind_front w front) ≡ length front + length (loop_slots w)
front-long w front = values-long w.kept (front ++ w.shared) ∙ omega (arith, length-append front w.shared, values-long w.kept w.shared)

-- ---- a clause begins

meant-behind : (name : List ℕ) (f e : Environment) → meant name (f ++ e) ≡ or_last (meant name f) (meant name e)
unfolding meant
meant-behind name [] e = refl
meant-behind name (m ∷ f) e = go (bytes_eq name m.name) (meant-behind name f e)
  where
    go : (b : Bool) → meant name (f ++ e) ≡ or_last (meant name f) (meant name e) → cond b (Some m.tree) (meant name (f ++ e)) ≡ or_last (cond b (Some m.tree) (meant name f)) (meant name e)
    go true rest = refl
    go false rest = rest

pub held-front : (us hs : List Tree) (k : ℕ) → k < length us → held (map Some (us ++ hs)) k ≡ held (map Some us) k
held-front us hs k less = ap (λ (ps : Places). held ps k) (map-append Some us hs) ∙ get_or_append_left (map Some us) (map Some hs) None k (omega (arith, less, some-long us))

pub held-behind : (us hs : List Tree) (k : ℕ) → held (map Some (us ++ hs)) (length us + k) ≡ held (map Some hs) k
held-behind us hs k = ap (λ (ps : Places). held ps (length us + k)) (map-append Some us hs) ∙ ap (λ (j : ℕ). held (map Some us ++ map Some hs) (j + k)) (sym (some-long us)) ∙ get_or-append-add (map Some us) (map Some hs) k None

-- with slots in front that have what some names have, which hide those that are handed on
pub clause-agrees : (w : Loop) (base : ℕ) (e : Environment) (hs : List Tree) → Handed w base e hs → (front : SlotNames) (us : List Tree) → length us ≡ length front → (f : Environment) →
    ((name : List ℕ) → bytes_eq name unnamed ≡ false → meant name f ≡ option_and_then (held (map Some us)) (slot_of name front)) → (n m : ℕ) → n ≡ (length front + length (loop_slots w)) + m →
    Agrees (free_room n) (length front + length (loop_slots w)) (behind_front w front) (f ++ e) (entered (us ++ hs) m)
clause-agrees w base e hs handed front us count f fronts n m is = record {
  long = entered-long (us ++ hs) m ∙ omega (arith, all, is);
  names = λ name named. meant-behind name f e ∙ found name named (slot_of name front) refl;
  empty = λ k past. entered-empty (us ++ hs) m k (omega (arith, past, all, front-long w front));
  firm = λ k less. entered-firm (us ++ hs) m k (omega (arith, less, all));
  fixed = λ k t at. absurd (cc at);
}
  where
    all : length (us ++ hs) ≡ length front + length (loop_slots w)
    all = length-append us hs ∙ omega (arith, count, handed.count)

    some-stays : (o p : Option Tree) → IsSome o → or_last o p ≡ o
    some-stays None p is = absurd cc
    some-stays (Some t) p is = refl

    slot : (name : List ℕ) → bytes_eq name unnamed ≡ false → slot_of name (behind_front w front) ≡ or_last (slot_of name front) (option_map (λ k. length front + k) (slot_of name w.shared))
    slot name named = slot-values w.kept name (front ++ w.shared) named ∙ slot-among name front w.shared

    shared : (name : List ℕ) → bytes_eq name unnamed ≡ false → (o : Option ℕ) → slot_of name w.shared ≡ o → meant name e ≡ option_and_then (held (entered (us ++ hs) m)) (option_map (λ k. length front + k) o)
    shared name named None at = handed.others name named at
    shared name named (Some k) at =
        handed.values name named k at ∙ sym (held-behind us hs k) ∙ ap (λ (j : ℕ). held (map Some (us ++ hs)) (j + k)) count
        ∙ sym (entered-held (us ++ hs) m (length front + k) (omega (arith, all, slot-below name w.shared k at, values-long w.kept w.shared)))

    found : (name : List ℕ) → bytes_eq name unnamed ≡ false → (o : Option ℕ) → slot_of name front ≡ o → or_last (meant name f) (meant name e) ≡ finds name (behind_front w front) (entered (us ++ hs) m)
    found name named (Some k) at =
        let less : k < length us = omega (arith, slot-below name front k at, count) in
        let is-k : meant name f ≡ held (map Some us) k = fronts name named ∙ ap (option_and_then (held (map Some us))) at in
        ap (λ (o : Option Tree). or_last o (meant name e)) is-k ∙ some-stays (held (map Some us) k) (meant name e) (some-held us k less)
        ∙ sym (held-front us hs k less) ∙ sym (entered-held (us ++ hs) m k (omega (arith, less, all, count)))
        ∙ sym (ap (option_and_then (held (entered (us ++ hs) m))) (slot name named ∙ ap (λ (o : Option ℕ). or_last o (option_map (λ k. length front + k) (slot_of name w.shared))) at))
    found name named None at =
        ap (λ (o : Option Tree). or_last o (meant name e)) (fronts name named ∙ ap (option_and_then (held (map Some us))) at)
        ∙ shared name named (slot_of name w.shared) refl
        ∙ sym (ap (option_and_then (held (entered (us ++ hs) m))) (slot name named ∙ ap (λ (o : Option ℕ). or_last o (option_map (λ k. length front + k) (slot_of name w.shared))) at))

-- ---- and hands on

-- no name that is handed on stands in front
abbrev pub Apart : Loop → SlotNames → Type 0
Apart w front = (name : List ℕ) → bytes_eq name unnamed ≡ false → (k : ℕ) → slot_of name w.shared ≡ Some k → slot_of name front ≡ None

-- what slots have where a clause's goals have come to
pub carried-on : (w : Loop) (base : ℕ) (e after : Environment) (hs : List Tree) → Handed w base e hs → (front : SlotNames) (us : List Tree) → length us ≡ length front → Apart w front → (n : Room) (m : ℕ) (ms : SlotNames) (slots : Places) →
    Grows (behind_front w front) ms → Agrees (holding n (behind_front w front) (entered (us ++ hs) m)) (length front + length (loop_slots w)) ms after slots →
    Handed w base (narrowed w.shared after) (values_from (length front) (length (loop_slots w)) slots)
carried-on w base e after hs handed front us count apart n m ms slots grows a = record {
  count = values-count (length front) (length (loop_slots w)) slots;
  values = λ name named k at.
      meant-narrowed name w.shared after ∙ ap (λ (b : Bool). cond b (meant name after) None) (among-slot name w.shared ∙ ap is_some at) ∙ a.names name named
      ∙ ap (option_and_then (held slots)) (slot-stays name (behind_front w front) ms grows (length front + k) (slot name named k at)) ∙ sym (again k (omega (arith, slot-below name w.shared k at, values-long w.kept w.shared)));
  others = λ name named at. meant-narrowed name w.shared after ∙ ap (λ (b : Bool). cond b (meant name after) None) (among-slot name w.shared ∙ ap is_some at);
  variables = λ k t at.
      let within : (length w.shared ≤ k) × (k < length w.shared + length w.kept) = variables-within (length w.shared) base w.kept k t at in
      let less : k < length (loop_slots w) = omega (arith, within.1, values-long w.kept w.shared) in
      again k less ∙ unnamed-still n (length front + length (loop_slots w)) (behind_front w front) ms after (entered (us ++ hs) m) slots a (length front + k) (variable-unnamed w front k within.0 within.1)
      ∙ entered-held (us ++ hs) m (length front + k) (omega (arith, less, all))
      ∙ ap (λ (j : ℕ). held (map Some (us ++ hs)) (j + k)) (sym count) ∙ held-behind us hs k ∙ handed.variables k t at;
}
  where
    all : length (us ++ hs) ≡ length front + length (loop_slots w)
    all = length-append us hs ∙ omega (arith, count, handed.count)

    slot : (name : List ℕ) → bytes_eq name unnamed ≡ false → (k : ℕ) → slot_of name w.shared ≡ Some k → slot_of name (behind_front w front) ≡ Some (length front + k)
    slot name named k at =
        slot-values w.kept name (front ++ w.shared) named ∙ slot-among name front w.shared
        ∙ ap (λ (o : Option ℕ). or_last o (option_map (λ k. length front + k) (slot_of name w.shared))) (apart name named k at) ∙ ap (option_map (λ k. length front + k)) at

    again : (k : ℕ) → k < length (loop_slots w) → held (map Some (values_from (length front) (length (loop_slots w)) slots)) k ≡ held slots (length front + k)
    again k less = values-held (length front) (length (loop_slots w)) slots (λ i from under. a.firm i under) k less
