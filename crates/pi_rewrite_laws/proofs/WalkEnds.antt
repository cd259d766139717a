-- Where a walk ends: the loop's variables are unified with what its names have, as they stand behind the slots of the walk.
use Rattle.std.proofs.Common.{◌≡◌, ℕ, suc, ◌+◌, ◌-◌, ◌≤◌, ◌<◌, Bool, true, false, cond, List, [], ◌∷◌, ◌++◌, length, map, refl, sym, ◌∙◌, ap, subst, arith, length-append}
use Rattle.std.specs.Prelude.{Option, Some, None, option_map, is_some, replicate, ◌==◌, unwrap_or}
use Rattle.std.specs.Str.{bytes_eq}
use Rattle.std.proofs.lemmas.Bool.{true≢false}
use Rattle.std.proofs.lemmas.Bool.Decides.{Decides-eqb}
use Rattle.pi_terms.specs.Tree.{Tree, trees_of}
use Rattle.pi_terms.specs.ListNames.{nil}
use Rattle.pi_terms.specs.Places.{Places, held}
use Rattle.pi_constraints.specs.State.{State, bindings, followed}
use Rattle.pi_traces.specs.Trace.{Trace, then}
use Rattle.pi_meaning.specs.Shared.Level.{Level, Point}
use Rattle.pi_meaning.specs.CoreMeaning.Builtins.{Builtins, predicate_by}
use Rattle.pi_meaning.specs.Shared.Given.{Setting}
use Rattle.pi_meaning.specs.CoreMeaning.Meaning.{meaning}
use Rattle.pi_meaning.specs.OverNames.Environment.{Environment}
use Rattle.pi_meaning.specs.OverNames.Texts.{Names, is_among}
use Rattle.pi_meaning.specs.OverNames.Loops.{now}
use Rattle.pi_rewrite_spec.specs.Slots.{SlotNames, unnamed, slot_of, slot_or_next, slot_for}
use Rattle.pi_rewrite_spec.specs.Forms.{Knows}
use Rattle.pi_rewrite_spec.specs.Goals.{in_turn}
use Rattle.pi_rewrite_spec.specs.Loops.{closing, closing_slots, Loop, loop_slots}
use Rattle.pi_rewrite_spec.specs.Iterators.{handed, end_slots, element_helper}
use Rattle.pi_rewrite_spec.proofs.AgreeLemmas.{or_last, slot-among, slot-below}
use Rattle.pi_rewrite_spec.proofs.RunLemmas.{Alike, point, place, turn-runs}
use Rattle.pi_rewrite_spec.proofs.EndLemmas.{finish_of, Stand, closing-room}
use Rattle.pi_rewrite_spec.proofs.LoopLemmas.{InSlots}
use Rattle.pi_rewrite_spec.proofs.HandedLemmas.{entered, entered-long, entered-empty, entered-held, some-again, some-held}
use Rattle.pi_rewrite_spec.proofs.EnteredLemmas.{slot-values, among-slot, values-long, variables_from, variables-within}
use Rattle.pi_rewrite_spec.proofs.CarriedLemmas.{Handed, behind_front, held-behind}
use Rattle.pi_rewrite_laws.proofs.HelperLemmas.{state_of, HelperCalled, count-trees, endings, AreAmong, closing-ends}
use Rattle.pi_rewrite_laws.proofs.ElementLemmas.{walked, unnamed-none, unnamed-long}
use Rattle.pi_rewrite_laws.proofs.MatchedLemmas.{walked-long}
use Rattle.pi_rewrite_laws.proofs.WalkLemmas.{nil-runs}

-- variables that are handed on stand in slots further on
variables-further : (j k base : ℕ) (names : Names) (slots : Places) → ((i : ℕ) (t : Tree) → variables_from k base names i ≡ Some t → held slots (j + i) ≡ Some t) → InSlots names (j + k) base slots
unfolding variables_from InSlots
variables-further j k base [] slots each = tt
variables-further j k base (name ∷ names) slots each = (
  each k (Tree.var base) (ap (λ (b : Bool). cond b (Some (Tree.var base)) (variables_from (suc k) (suc base) names k)) ((Decides-eqb k k).1 refl)),
  subst (λ (n : ℕ). InSlots names n (suc base) slots) further (variables-further j (suc k) (suc base) names slots (λ i t is. each i t (other i t is (i == k) ((Decides-eqb i k).0)))),
)
  where
    further : j + suc k ≡ suc (j + k)
    further = omega arith

    other : (i : ℕ) (t : Tree) → variables_from (suc k) (suc base) names i ≡ Some t → (b : Bool) → (b ≡ true → i ≡ k) → cond b (Some (Tree.var base)) (variables_from (suc k) (suc base) names i) ≡ Some t
    other i t is true same = let one : i ≡ k = same refl in absurd (omega (arith, one, (variables-within (suc k) (suc base) names i t is).0))
    other i t is false same = is

-- what a name has, behind slots without names
name-stands : (w : Loop) (base : ℕ) (e : Environment) (hs : List Tree) → Handed w base e hs → (j : ℕ) (us : List Tree) → length us ≡ j → (m : ℕ) (name : List ℕ) → is_among w.shared name ≡ true → bytes_eq name unnamed ≡ false →
    held (entered (us ++ hs) m) (slot_for name (behind_front w (replicate j unnamed))) ≡ Some (now name e)
name-stands w base e hs given j us count m name among named = go (slot_of name w.shared) refl
  where
    front : SlotNames
    front = replicate j unnamed

    long : length (replicate {A = List ℕ} j unnamed) ≡ j
    long = unnamed-long j

    go : (o : Option ℕ) → slot_of name w.shared ≡ o → held (entered (us ++ hs) m) (slot_for name (behind_front w (replicate j unnamed))) ≡ Some (now name e)
    go None at = absurd (true≢false (sym among ∙ among-slot name w.shared ∙ ap is_some at))
    go (Some k) at =
        let less : k < length hs = omega (arith, given.count, slot-below name w.shared k at, values-long w.kept w.shared) in
        let found : slot_of name (behind_front w front) ≡ Some (length front + k) =
        slot-values w.kept name (front ++ w.shared) named ∙ slot-among name front w.shared
        ∙ ap (λ (o : Option ℕ). or_last o (option_map (λ i. length front + i) (slot_of name w.shared))) (unnamed-none name j named) ∙ ap (option_map (λ i. length front + i)) at in
        let is : slot_for name (behind_front w front) ≡ length us + k =
        ap (λ (c : Bool). slot_or_next (cond c None (slot_of name (behind_front w front))) (behind_front w front)) named ∙ ap (λ (o : Option ℕ). slot_or_next o (behind_front w front)) found ∙ omega (arith, long, count) in
        ap (held (entered (us ++ hs) m)) is ∙ entered-held (us ++ hs) m (length us + k) (omega (arith, less, length-append us hs)) ∙ held-behind us hs k
        ∙ some-again (held (map Some hs) k) (some-held hs k less) ∙ ap (λ (o : Option Tree). Some (unwrap_or o (Tree.atom []))) (sym (given.values name named k at))

names-stand : (w : Loop) (base : ℕ) (e : Environment) (hs : List Tree) → Handed w base e hs → (j : ℕ) (us : List Tree) → length us ≡ j → (m : ℕ) (names : Names) → AreAmong w.shared names → (k first : ℕ) → InSlots names k first (entered (us ++ hs) m) →
    Stand names k first (behind_front w (replicate j unnamed)) e (entered (us ++ hs) m)
unfolding Stand InSlots AreAmong
names-stand w base e hs given j us count m [] among k first ins = tt
names-stand w base e hs given j us count m (name ∷ names) among k first ins =
    (ins.0, name-stands w base e hs given j us count m name among.0 among.1, names-stand w base e hs given j us count m names among.2 (suc k) (suc first) ins.1)

-- The end, where so many slots of the walk stand in front.
pub walk-closes : (known : Knows) (set : Setting) (b : Builtins) (l k : Level) → Alike known set b l k → (w : Loop) → AreAmong w.shared w.kept → (base : ℕ) (e : Environment) (hs : List Tree) → Handed w base e hs → (j : ℕ) (us : List Tree) → length us ≡ j →
    (m next : ℕ) (s : State) → j + length hs ≤ next → closing_slots w.kept next ≤ j + length hs + m →
    then (meaning b (in_turn (closing w.ending w.kept (j + length w.shared) next (behind_front w (replicate j unnamed)))) (point l (entered (us ++ hs) m) s)) state_of ≡ endings (finish_of w.ending) w.kept base (place e s)
walk-closes known set b l k alike w among base e hs given j us count m next s far room =
    ap (λ (t : Trace Point). then t state_of) (turn-runs b l alike.core_drains (closing w.ending w.kept (j + length w.shared) next (behind_front w (replicate j unnamed))) (entered (us ++ hs) m) s)
    ∙ closing-ends known set b l k alike w.ending w.kept (j + length w.shared) base next (behind_front w (replicate j unnamed)) e (entered (us ++ hs) m) s
    (names-stand w base e hs given j us count m w.kept among (j + length w.shared) base (variables-further j (length w.shared) base w.kept (entered (us ++ hs) m) held-there))
    (λ i past. entered-empty (us ++ hs) m i (omega (arith, all, past, far))) (omega (arith, room, entered-long (us ++ hs) m, all))
  where
    all : length (us ++ hs) ≡ j + length hs
    all = length-append us hs ∙ omega (arith, count)

    held-there : (i : ℕ) (t : Tree) → variables_from (length w.shared) base w.kept i ≡ Some t → held (entered (us ++ hs) m) (j + i) ≡ Some t
    held-there i t at =
        let less : i < length hs = omega (arith, given.count, (variables-within (length w.shared) base w.kept i t at).1, values-long w.kept w.shared) in
        ap (λ (n : ℕ). held (entered (us ++ hs) m) (n + i)) (sym count) ∙ entered-held (us ++ hs) m (length us + i) (omega (arith, less, length-append us hs)) ∙ held-behind us hs i ∙ given.variables i t at

-- The end of a list.
pub nil-ends : (known : Knows) (set : Setting) (b : Builtins) (l inner k : Level) (w : Loop) (turn : List ℕ) → HelperCalled b l (element_helper turn w) inner → Alike known set b inner k → AreAmong w.shared w.kept → (base : ℕ) (e : Environment) (hs : List Tree) →
    Handed w base e hs → (t i all : Tree) (s : State) → followed (bindings s) t ≡ Tree.atom nil → predicate_by b l w.name (trees_of (walked t i all hs)) s ≡ endings (finish_of w.ending) w.kept base (place e s)
nil-ends known set b l inner k w turn called alike among base e hs given t i all s root =
    called (trees_of (walked t i all hs)) s (count-trees (walked t i all hs) ∙ walked-long w base e hs given t i all)
    ∙ nil-runs b inner w turn base e hs given t i all s spare root (omega (arith, room, long, values-long w.kept w.shared))
    ∙ walk-closes known set b inner k alike w among base e hs given 2 (i ∷ all ∷ []) refl spare next s (omega (arith, given.count, long)) (omega (arith, room, long, given.count, values-long w.kept w.shared))
  where
    next : ℕ
    next = length (end_slots 2 w)

    spare : ℕ
    spare = closing_slots w.kept (length (end_slots 2 w)) - (handed w - 1)

    long : length (end_slots 2 w) ≡ 2 + length (loop_slots w)
    long = values-long w.kept (replicate 2 unnamed ++ w.shared) ∙ omega (arith, length-append (replicate {A = List ℕ} 2 unnamed) w.shared, values-long w.kept w.shared)

    room : length (end_slots 2 w) ≤ closing_slots w.kept (length (end_slots 2 w))
    room = closing-room w.kept (length (end_slots 2 w))
