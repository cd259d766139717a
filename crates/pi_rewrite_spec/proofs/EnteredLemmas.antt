-- A turn of a loop begins with slots that have what the names have that it is handed.
use Rattle.std.proofs.Common.{◌≡◌, ℕ, suc, ◌+◌, ◌≤◌, ◌<◌, Bool, true, false, cond, List, [], ◌∷◌, length, map, refl, sym, ◌∙◌, ap, arith, length-append}
use Rattle.std.specs.Prelude.{Option, Some, None, option_and_then, option_map, is_some, ◌==◌, ◌||◌}
use Rattle.std.specs.Str.{bytes_eq}
use Rattle.std.proofs.lemmas.Bool.Decides.{Decides-eqb}
use Rattle.pi_terms.specs.Tree.{Tree}
use Rattle.pi_terms.specs.Places.{Places, held}
use Rattle.pi_meaning.specs.OverNames.Environment.{Environment, meant}
use Rattle.pi_meaning.specs.OverNames.Texts.{Names, is_among}
use Rattle.pi_meaning.specs.OverNames.Assigning.{narrowed}
use Rattle.pi_meaning.proofs.OverNames.OtherEnvironments.{meant-narrowed}
use Rattle.pi_rewrite_spec.specs.Slots.{SlotNames, unnamed, slot_of, with_value}
use Rattle.pi_rewrite_spec.specs.Loops.{with_values, Loop, loop_slots}
use Rattle.pi_rewrite_spec.proofs.AgreeLemmas.{Room, Fixed, Grows, by, grows-none, grows-then, or_last, finds, slot-among, slot-alone, slot-below, Agrees}
use Rattle.pi_rewrite_spec.proofs.LoopLemmas.{InSlots}
use Rattle.pi_rewrite_spec.proofs.HandedLemmas.{entered, entered-long, entered-empty, entered-held, entered-firm, values_from, values-count, handed-held}

-- ---- slots without names

slot-value : (name : List ℕ) (ns : SlotNames) → bytes_eq name unnamed ≡ false → slot_of name (with_value ns) ≡ slot_of name ns
slot-value name ns is =
    slot-among name ns (unnamed ∷ []) ∙ ap (λ (o : Option ℕ). or_last (slot_of name ns) (option_map (λ k. length ns + k) o)) (slot-alone name unnamed ∙ ap (λ (b : Bool). cond b (Some 0) None) is) ∙ last (slot_of name ns)
  where
    last : (o : Option ℕ) → or_last o None ≡ o
    last None = refl
    last (Some k) = refl

pub slot-values : (names : Names) (name : List ℕ) (ns : SlotNames) → bytes_eq name unnamed ≡ false → slot_of name (with_values names ns) ≡ slot_of name ns
unfolding with_values
slot-values [] name ns is = refl
slot-values (n ∷ names) name ns is = slot-values names name (with_value ns) is ∙ slot-value name ns is

pub values-long : (names : Names) (ns : SlotNames) → length (with_values names ns) ≡ length ns + length names
unfolding with_values
values-long [] ns = omega arith
values-long (n ∷ names) ns = values-long names (with_value ns) ∙ omega (arith, length-append ns (unnamed ∷ []))

pub values-grow : (names : Names) (ns : SlotNames) → Grows ns (with_values names ns)
unfolding with_values
values-grow [] ns = grows-none ns
values-grow (n ∷ names) ns = grows-then ns (with_value ns) _ (by (unnamed ∷ [])) (values-grow names (with_value ns))

pub among-slot : (name : List ℕ) (ns : SlotNames) → is_among ns name ≡ is_some (slot_of name ns)
unfolding slot_of
among-slot name [] = refl
among-slot name (n ∷ ns) = tested (bytes_eq name n) (slot_of name ns) (is_among ns name) (among-slot name ns)
  where
    tested : (b : Bool) (o : Option ℕ) (c : Bool) → c ≡ is_some o → b || c ≡ is_some (cond b (Some 0) (option_map (λ k. suc k) o))
    tested true o c is = refl
    tested false None c is = is
    tested false (Some k) c is = is

-- a slot that a name has stays its slot
pub slot-stays : (name : List ℕ) (ns ms : SlotNames) → Grows ns ms → (k : ℕ) → slot_of name ns ≡ Some k → slot_of name ms ≡ Some k
slot-stays name ns _ (by more) k is = slot-among name ns more ∙ ap (λ (o : Option ℕ). or_last o (option_map (λ j. length ns + j) (slot_of name more))) is

-- ---- the variables of the names that a loop keeps

-- slots from one on, and the variables from one on that they have
unfoldable pub variables_from : ℕ → ℕ → Names → ℕ → Option Tree
variables_from k base [] i = None
variables_from k base (name ∷ names) i = cond (i == k) (Some (Tree.var base)) (variables_from (suc k) (suc base) names i)

pub variables-within : (k base : ℕ) (names : Names) (i : ℕ) (t : Tree) → variables_from k base names i ≡ Some t → (k ≤ i) × (i < k + length names)
unfolding variables_from
variables-within k base [] i t is = absurd (cc is)
variables-within k base (name ∷ names) i t is = tested (λ at. variables-within (suc k) (suc base) names i t at) (i == k) ((Decides-eqb i k).0) is
  where
    tested : (variables_from (suc k) (suc base) names i ≡ Some t → (suc k ≤ i) × (i < suc k + length names)) → (b : Bool) → (b ≡ true → i ≡ k) → cond b (Some (Tree.var base)) (variables_from (suc k) (suc base) names i) ≡ Some t → (k ≤ i) × (i < k + length (name ∷ names))
    tested later true same found = let one : i ≡ k = same refl in (omega (arith, one), omega (arith, one))
    tested later false same found = let rest : (suc k ≤ i) × (i < suc k + length names) = later found in (omega (arith, rest.0), omega (arith, rest.1))

pub variables-in : (k base : ℕ) (names : Names) (slots : Places) → ((i : ℕ) (t : Tree) → variables_from k base names i ≡ Some t → held slots i ≡ Some t) → InSlots names k base slots
unfolding variables_from InSlots
variables-in k base [] slots each = tt
variables-in k base (name ∷ names) slots each = (
  each k (Tree.var base) (ap (λ (b : Bool). cond b (Some (Tree.var base)) (variables_from (suc k) (suc base) names k)) ((Decides-eqb k k).1 refl)),
  variables-in (suc k) (suc base) names slots (λ i t is. each i t (other i t is (i == k) ((Decides-eqb i k).0))),
)
  where
    other : (i : ℕ) (t : Tree) → variables_from (suc k) (suc base) names i ≡ Some t → (b : Bool) → (b ≡ true → i ≡ k) → cond b (Some (Tree.var base)) (variables_from (suc k) (suc base) names i) ≡ Some t
    other i t is true same = let one : i ≡ k = same refl in absurd (omega (arith, one, (variables-within (suc k) (suc base) names i t is).0))
    other i t is false same = is

-- ---- a turn begins

-- so many slots, of which those of the variables stay
abbrev pub helper_room : Loop → ℕ → ℕ → Room
helper_room w n base = record { slots = n; fixed = λ k. option_map (λ t. Some t) (variables_from (length w.shared) base w.kept k) }

pub entered-agrees : (w : Loop) (n m base : ℕ) (e : Environment) (vs : List Tree) → length vs ≡ length (loop_slots w) → n ≡ length vs + m →
    ((name : List ℕ) → bytes_eq name unnamed ≡ false → (k : ℕ) → slot_of name w.shared ≡ Some k → meant name e ≡ held (map Some vs) k) →
    ((k : ℕ) (t : Tree) → variables_from (length w.shared) base w.kept k ≡ Some t → held (map Some vs) k ≡ Some t) →
    Agrees (helper_room w n base) (length (loop_slots w)) (loop_slots w) (narrowed w.shared e) (entered vs m)
entered-agrees w n m base e vs count is values variables = record {
  long = entered-long vs m ∙ sym is;
  names = λ name named. meant-narrowed name w.shared e ∙ found name named (slot_of name w.shared) refl;
  empty = λ k past. entered-empty vs m k (omega (arith, past, count));
  firm = λ k less. entered-firm vs m k (omega (arith, less, count));
  fixed = λ k t at. stays k t (variables_from (length w.shared) base w.kept k) refl at;
}
  where
    value : Option (Option Tree) → Option Tree
    value None = None
    value (Some t) = t

    stays : (k : ℕ) (t : Option Tree) (o : Option Tree) → variables_from (length w.shared) base w.kept k ≡ o → option_map (λ t. Some t) o ≡ Some t → Fixed k t (loop_slots w) (entered vs m)
    stays k t None at is = absurd (cc is)
    stays k t (Some u) at is = record {
      has = entered-held vs m k (omega (arith, (variables-within (length w.shared) base w.kept k u at).1, count, values-long w.kept w.shared)) ∙ variables k u at ∙ ap value is;
      below = omega (arith, (variables-within (length w.shared) base w.kept k u at).1, values-long w.kept w.shared);
      nameless = λ name named slot. omega (arith, (variables-within (length w.shared) base w.kept k u at).0, slot-below name w.shared k (sym (slot-values w.kept name w.shared named) ∙ slot));
    }

    found : (name : List ℕ) → bytes_eq name unnamed ≡ false → (o : Option ℕ) → slot_of name w.shared ≡ o → cond (is_among w.shared name) (meant name e) None ≡ finds name (loop_slots w) (entered vs m)
    found name named None at =
        ap (λ (b : Bool). cond b (meant name e) None) (among-slot name w.shared ∙ ap is_some at) ∙ sym (ap (option_and_then (held (entered vs m))) (slot-values w.kept name w.shared named ∙ at))
    found name named (Some k) at =
        ap (λ (b : Bool). cond b (meant name e) None) (among-slot name w.shared ∙ ap is_some at) ∙ values name named k at
        ∙ sym (entered-held vs m k (omega (arith, slot-below name w.shared k at, count, values-long w.kept w.shared)))
        ∙ sym (ap (option_and_then (held (entered vs m))) (slot-values w.kept name w.shared named ∙ at))

-- the next turn begins with what slots have where one ends
pub again-agrees : (w : Loop) (n m base : ℕ) (ms : SlotNames) (e : Environment) (slots : Places) → Grows (loop_slots w) ms → n ≡ length (loop_slots w) + m → Agrees (helper_room w n base) (length (loop_slots w)) ms e slots →
    Agrees (helper_room w n base) (length (loop_slots w)) (loop_slots w) (narrowed w.shared e) (entered (values_from 0 (length (loop_slots w)) slots) m)
again-agrees w n m base ms e slots grows is a =
    entered-agrees w n m base e (values_from 0 k slots) (values-count 0 k slots) (is ∙ ap (λ (j : ℕ). j + m) (sym (values-count 0 k slots)))
    (λ name named i at. a.names name named
    ∙ ap (option_and_then (held slots)) (slot-stays name (loop_slots w) ms grows i (slot-values w.kept name w.shared named ∙ at))
    ∙ sym (handed-held k slots (a.firm) i (omega (arith, slot-below name w.shared i at, values-long w.kept w.shared))))
    (λ i t at. handed-held k slots (a.firm) i (omega (arith, (variables-within (length w.shared) base w.kept i t at).1, values-long w.kept w.shared)) ∙ (a.fixed i (Some t) (ap (option_map (λ t. Some t)) at)).has)
  where
    k : ℕ
    k = length (loop_slots w)
