-- A range is walked: a call of its first helper does what its values do over names, and ends the loop.
use Rattle.std.proofs.Common.{◌≡◌, ℕ, zero, suc, ◌+◌, ◌-◌, ◌≤◌, ◌<◌, List, [], ◌∷◌, length, refl, sym, ◌∙◌, ap, subst, arith}
use Rattle.std.specs.Prelude.{ℤ, ◌+ℤ◌, Some, None, IsSome, unwrap_or}
use Rattle.pi_terms.specs.Tree.{Tree, trees_of}
use Rattle.pi_terms.specs.Places.{Places, held}
use Rattle.pi_constraints.specs.State.{State}
use Rattle.pi_effects.specs.Ranges.{most_items, values_by}
use Rattle.pi_syntax.specs.ExpTree.{ExpTree}
use Rattle.pi_core.specs.GoalTree.{GoalTree}
use Rattle.pi_traces.specs.Trace.{Trace, note, Tick, one, then}
use Rattle.pi_meaning.specs.Shared.Level.{Level, lowest, over, Calls, lower, ticked, Point}
use Rattle.pi_meaning.specs.CoreMeaning.Builtins.{Builtins, predicate_by}
use Rattle.pi_meaning.specs.Shared.Given.{Setting}
use Rattle.pi_meaning.specs.CoreMeaning.Meaning.{meaning}
use Rattle.pi_meaning.specs.OverNames.Environment.{Environment}
use Rattle.pi_meaning.specs.OverNames.Place.{Place}
use Rattle.pi_meaning.specs.OverNames.Control.{Goal}
use Rattle.pi_meaning.specs.OverNames.Loops.{element, elements}
use Rattle.pi_rewrite_spec.specs.Slots.{SlotNames}
use Rattle.pi_rewrite_spec.specs.Values.{SlotPattern, slot_pattern}
use Rattle.pi_rewrite_spec.specs.Forms.{Knows, IsPattern}
use Rattle.pi_rewrite_spec.specs.Goals.{SlotGoals}
use Rattle.pi_rewrite_spec.specs.Loops.{slots_from, Loop, loop_slots}
use Rattle.pi_rewrite_spec.specs.Iterators.{handed, turn_slots}
use Rattle.pi_rewrite_spec.specs.Ranges.{next_turn, step_helper, range_helper}
use Rattle.pi_rewrite_spec.proofs.FilledLemmas.{AllFilled}
use Rattle.pi_rewrite_spec.proofs.RunLemmas.{Alike, point, place, then-of-one, runs-one, names-not-drained}
use Rattle.pi_rewrite_spec.proofs.ControlLemmas.{Drains}
use Rattle.pi_rewrite_spec.proofs.EndLemmas.{finish_of}
use Rattle.pi_rewrite_spec.proofs.HandedLemmas.{entered, entered-long, entered-empty, some-again, values_from, slots-filled}
use Rattle.pi_rewrite_spec.proofs.CarriedLemmas.{Handed, Apart}
use Rattle.pi_rewrite_laws.proofs.HelperLemmas.{state_of, HelperCalled, endings, AreAmong}
use Rattle.pi_rewrite_laws.proofs.WhileLemmas.{tick-runs, tick-stops}
use Rattle.pi_rewrite_laws.proofs.ElementLemmas.{turn_front, TurnSame, handed-long, front-long, walked}
use Rattle.pi_rewrite_laws.proofs.MatchedLemmas.{slots-hold, walked-long, element-runs}
use Rattle.pi_rewrite_laws.proofs.WalkArrays.{number_of}
use Rattle.pi_rewrite_laws.proofs.RangeCalls.{AllFit, later-fit}
use Rattle.pi_rewrite_laws.proofs.RangeTurns.{call-does, NextReady, NextFound, next-ends, next-found, StepTurns, last_step, next_step, Steps, no_steps, some_steps, range-ends, range-goes-on, range-stops}

-- ---- slots where a turn has ended

abbrev first_of : List Tree → Tree
first_of [] = Tree.atom []
first_of (t ∷ ts) = t

abbrev rest_of : List Tree → List Tree
rest_of [] = []
rest_of (t ∷ ts) = ts

-- behind the goals of a turn
ready-behind : (w : Loop) (p : SlotPattern) (free : ℕ) (places : Places) (v step : ℤ) (n : ℕ) (hs : List Tree) → length places ≡ free + 2 → ((j : ℕ) → j < length (turn_front p) + length (loop_slots w) → IsSome (held places j)) → ((j : ℕ) → free ≤ j → held places j ≡ None) →
    values_from (length p.names) (handed w) places ≡ walked (Tree.int v) (number_of (suc n)) (Tree.int step) hs → NextReady w (length p.names) free places v step n hs
unfolding values_from
ready-behind w p free places v step n hs long firm empty again = record {
  value = there first (omega (arith, front-long p)) ∙ ap (λ (t : Tree). Some t) (ap first_of parts);
  left = there (suc first) (omega (arith, front-long p)) ∙ ap (λ (t : Tree). Some t) (ap (λ (ts : List Tree). first_of (rest_of ts)) parts);
  by = there (suc (suc first)) (omega (arith, front-long p)) ∙ ap (λ (t : Tree). Some t) (ap (λ (ts : List Tree). first_of (rest_of (rest_of ts))) parts);
  handed_on =
      subst (λ (c : ℕ). AllFilled places (trees_of (slots_from (suc (suc first)) c)) (trees_of (Tree.int step ∷ hs))) fewer
      (subst (λ (ts : List Tree). AllFilled places (trees_of (slots_from (suc (suc first)) (suc (length (loop_slots w))))) (trees_of ts)) (ap (λ (ts : List Tree). rest_of (rest_of ts)) parts)
      (slots-filled (suc (suc first)) (suc (length (loop_slots w))) places (λ j from less. firm j (omega (arith, less, front-long p)))));
  empty = empty;
  room = omega (arith, long);
}
  where
    first : ℕ
    first = length p.names

    value_at : ℕ → Tree
    value_at j = unwrap_or (held places j) (Tree.atom [])

    there : (j : ℕ) → j < length (turn_front p) + length (loop_slots w) → held places j ≡ Some (unwrap_or (held places j) (Tree.atom []))
    there j less = some-again (held places j) (firm j less)

    fewer : suc (length (loop_slots w)) ≡ handed w - 2
    fewer = omega (arith, handed-long w)

    parts : value_at (length p.names) ∷ value_at (suc (length p.names)) ∷ value_at (suc (suc (length p.names))) ∷ values_from (suc (suc (suc (length p.names)))) (length (loop_slots w)) places ≡ Tree.int v ∷ number_of (suc n) ∷ Tree.int step ∷ hs
    parts = ap (λ (c : ℕ). values_from (length p.names) c places) (sym (handed-long w)) ∙ again

-- of a value that is passed over
ready-passed : (w : Loop) (base : ℕ) (e : Environment) (hs : List Tree) → Handed w base e hs → (v step : ℤ) (n : ℕ) → NextReady w 1 (suc (handed w)) (entered (Tree.int v ∷ walked (Tree.int v) (number_of (suc n)) (Tree.int step) hs) 2) v step n hs
ready-passed w base e hs given v step n = record {
  value = refl;
  left = refl;
  by = refl;
  handed_on = subst (λ (c : ℕ). AllFilled (entered vs 2) (trees_of (slots_from 3 c)) (trees_of (Tree.int step ∷ hs))) fewer (slots-hold (Tree.int v ∷ Tree.int v ∷ number_of (suc n) ∷ []) (Tree.int step ∷ hs) 2);
  empty = λ j past. entered-empty vs 2 j (omega (arith, past, long));
  room = omega (arith, entered-long vs 2, long);
}
  where
    vs : List Tree
    vs = Tree.int v ∷ walked (Tree.int v) (number_of (suc n)) (Tree.int step) hs

    long : length (Tree.int v ∷ walked (Tree.int v) (number_of (suc n)) (Tree.int step) hs) ≡ suc (handed w)
    long = ap suc (walked-long w base e hs given (Tree.int v) (number_of (suc n)) (Tree.int step))

    fewer : length (Tree.int step ∷ hs) ≡ handed w - 2
    fewer = omega (arith, handed-long w, given.count)

-- ---- what follows a turn

-- the values from one on
abbrev values : Loop → ExpTree → Goal → ℕ → ℤ → ℤ → Goal
values w e0 body n v step = elements w.shared e0 body (values_by n v step)

-- the turn of a value, and those behind it
abbrev turns_from : Loop → ExpTree → Goal → ℕ → ℤ → ℤ → Goal
turns_from w e0 body n v step = element w.shared e0 body (Tree.int v) (values w e0 body n (v +ℤ step) step)

-- what a call of the second helper has to do
abbrev CallsSteps : Builtins → Loop → List ℕ → ExpTree → Goal → ℤ → ℕ → Level → Level → Type 0
CallsSteps b w turn e0 body step base l k = (v : ℤ) (n : ℕ) → AllFit v step (suc n) → suc n ≤ most_items → (e : Environment) (hs : List Tree) (s : State) → Handed w base e hs →
    predicate_by b l turn (trees_of (Tree.int v ∷ walked (Tree.int v) (number_of (suc n)) (Tree.int step) hs)) s ≡ then (turns_from w e0 body n v step k (place e s)) (endings (finish_of w.ending) w.kept base)

-- where no value is left
none-left : (k : Level) → Drains k → (w : Loop) (e0 : ExpTree) (body : Goal) (v step : ℤ) (ends : Place → Trace State) (p : Place) → then (values w e0 body 0 v step k p) ends ≡ ends p
unfolding elements values_by
none-left k drains w e0 body v step ends p = ap (λ (u : Trace Place). then u ends) (names-not-drained (λ m q. one q) k p drains) ∙ then-of-one p ends

-- where no depth is left
next-last : (known : Knows) (set : Setting) (b : Builtins) (inside last : Level) (c : Calls) → Alike known set b inside (lowest c) → lower inside ≡ None → (w : Loop) (turn : List ℕ) (e0 : ExpTree) (body : Goal) → HelperCalled b inside (range_helper turn w) last → Alike known set b last (lowest c) → AreAmong w.shared w.kept →
    (base first free : ℕ) (places : Places) (v step : ℤ) (n : ℕ) → AllFit v step (suc n) → suc n ≤ most_items → (e : Environment) (hs : List Tree) (r : State) → Handed w base e hs → NextReady w first free places v step n hs →
    then (meaning b (next_turn turn w first free) (point inside places r)) state_of ≡ then (values w e0 body n (v +ℤ step) step (lowest c) (place e r)) (endings (finish_of w.ending) w.kept base)
unfolding elements values_by then
next-last known set b inside last c alike is w turn e0 body ends_by alike-last among base first free places v step zero fit few e hs r given ready =
    next-ends known set b inside (lowest c) alike w turn first free places v step hs r ready ∙ range-ends known set b inside last (lowest c) w turn ends_by alike-last among base e hs given v step r
    ∙ sym (none-left (lowest c) alike.names_drain w e0 body (v +ℤ step) step (endings (finish_of w.ending) w.kept base) (place e r))
next-last known set b inside last c alike is w turn e0 body ends_by alike-last among base first free places v step (suc n) fit few e hs r given ready =
    let found : NextFound b inside w turn first free places v step n hs r = next-found known set b inside (lowest c) alike w turn first free places v step n hs r fit few ready in
    found.does
    ∙ ap (λ (t : Trace Point). then t state_of) (tick-stops b inside alike.core_drains is (GoalTree.call turn (Tree.var free ∷ Tree.var free ∷ Tree.var (suc free) ∷ slots_from (suc (suc first)) (handed w - 2)) ∷ []) found.after r)
    ∙ sym (ap (λ (u : Trace Place). then u (endings (finish_of w.ending) w.kept base)) (names-not-drained (λ m q. ticked (lower m) (λ j. turns_from w e0 body n (v +ℤ step) step j q)) (lowest c) (place e r) alike.names_drain))

-- and where some is
next-over : (known : Knows) (set : Setting) (b : Builtins) (inside below last : Level) (c : Calls) (k : Level) → Alike known set b inside (over c k) → lower inside ≡ Some below → Drains below → (w : Loop) (turn : List ℕ) (e0 : ExpTree) (body : Goal) → HelperCalled b inside (range_helper turn w) last →
    Alike known set b last (over c k) → AreAmong w.shared w.kept → (base : ℕ) (step : ℤ) → CallsSteps b w turn e0 body step base below k → (first free : ℕ) (places : Places) (v : ℤ) (n : ℕ) → AllFit v step (suc n) → suc n ≤ most_items → (e : Environment) (hs : List Tree) (r : State) → Handed w base e hs →
    NextReady w first free places v step n hs →
    then (meaning b (next_turn turn w first free) (point inside places r)) state_of ≡ then (values w e0 body n (v +ℤ step) step (over c k) (place e r)) (endings (finish_of w.ending) w.kept base)
unfolding elements values_by then
next-over known set b inside below last c k alike is drains w turn e0 body ends_by alike-last among base step later first free places v zero fit few e hs r given ready =
    next-ends known set b inside (over c k) alike w turn first free places v step hs r ready ∙ range-ends known set b inside last (over c k) w turn ends_by alike-last among base e hs given v step r
    ∙ sym (none-left (over c k) alike.names_drain w e0 body (v +ℤ step) step (endings (finish_of w.ending) w.kept base) (place e r))
next-over known set b inside below last c k alike is drains w turn e0 body ends_by alike-last among base step later first free places v (suc n) fit few e hs r given ready =
    let found : NextFound b inside w turn first free places v step n hs r = next-found known set b inside (over c k) alike w turn first free places v step n hs r fit few ready in
    let args : List Tree = Tree.var free ∷ Tree.var free ∷ Tree.var (suc free) ∷ slots_from (suc (suc first)) (handed w - 2) in
    found.does
    ∙ ap (λ (t : Trace Point). then t state_of) (tick-runs b inside below alike.core_drains is (GoalTree.call turn args ∷ []) found.after r ∙ ap (note Tick) (runs-one b (GoalTree.call turn args) (point below found.after r)))
    ∙ ap (note Tick) (call-does b below drains turn args (Tree.int (v +ℤ step) ∷ walked (Tree.int (v +ℤ step)) (number_of (suc n)) (Tree.int step) hs) found.after r found.filled
    ∙ later (v +ℤ step) n (later-fit v step (suc n) fit) (omega (arith, few)) e hs r given)
    ∙ sym (ap (λ (u : Trace Place). then u (endings (finish_of w.ending) w.kept base)) (names-not-drained (λ m q. ticked (lower m) (λ j. turns_from w e0 body n (v +ℤ step) step j q)) (over c k) (place e r) alike.names_drain))

-- ---- turns

-- the slots behind a turn's goals
abbrev free_slots : Loop → ExpTree → (SlotNames → SlotGoals) → ℕ
free_slots w e0 lb = length (lb (turn_slots w (slot_pattern e0 []))).names

-- A call of the second helper has the turn of its value, and those behind it.
pub steps-call : (known : Knows) (set : Setting) (b : Builtins) (w : Loop) (turn : List ℕ) (e0 : ExpTree) → IsPattern e0 → (body : Goal) (lb : SlotNames → SlotGoals) → AreAmong w.shared w.kept → Apart w (turn_front (slot_pattern e0 [])) → (step : ℤ) (base : ℕ) (l k : Level) →
    StepTurns b (range_helper turn w) (step_helper turn w e0 lb) (TurnSame known set b w (slot_pattern e0 []) body lb) l k → CallsSteps b w turn e0 body step base l k
steps-call known set b w turn e0 is-pattern body lb among apart step base _ _ (last_step l inside last c called bottom at ends_by at-last) v n fit few e hs s given =
    element-runs known set b w turn e0 is-pattern body (values w e0 body n (v +ℤ step) step) lb l inside (lowest c) (next_turn turn w (length (slot_pattern e0 []).names) (free_slots w e0 lb)) (next_turn turn w 1 (suc (handed w))) (free_slots w e0 lb + 2) (suc (handed w) + 2) 2
    (omega arith) (omega arith) called at apart base (endings (finish_of w.ending) w.kept base) e (Tree.int v) hs (Tree.int v) (number_of (suc n)) (Tree.int step) s given
    (λ after places r stay long firm empty again left. next-last known set b inside last c at.alike bottom w turn e0 body ends_by at-last.alike among base (length (slot_pattern e0 []).names) (free_slots w e0 lb) places v step n fit few _ _ r left
    (ready-behind w (slot_pattern e0 []) (free_slots w e0 lb) places v step n _ long firm empty again))
    (next-last known set b inside last c at.alike bottom w turn e0 body ends_by at-last.alike among base 1 (suc (handed w)) _ v step n fit few e hs s given (ready-passed w base e hs given v step n))
steps-call known set b w turn e0 is-pattern body lb among apart step base _ _ (next_step l inside below last c k called deeper drains at ends_by at-last turns) v n fit few e hs s given =
    element-runs known set b w turn e0 is-pattern body (values w e0 body n (v +ℤ step) step) lb l inside (over c k) (next_turn turn w (length (slot_pattern e0 []).names) (free_slots w e0 lb)) (next_turn turn w 1 (suc (handed w))) (free_slots w e0 lb + 2) (suc (handed w) + 2) 2
    (omega arith) (omega arith) called at apart base (endings (finish_of w.ending) w.kept base) e (Tree.int v) hs (Tree.int v) (number_of (suc n)) (Tree.int step) s given
    (λ after places r stay long firm empty again left. next-over known set b inside below last c k at.alike deeper drains w turn e0 body ends_by at-last.alike among base step (steps-call known set b w turn e0 is-pattern body lb among apart step base below k turns) (length (slot_pattern e0 []).names)
    (free_slots w e0 lb) places v n fit few _ _ r left (ready-behind w (slot_pattern e0 []) (free_slots w e0 lb) places v step n _ long firm empty again))
    (next-over known set b inside below last c k at.alike deeper drains w turn e0 body ends_by at-last.alike among base step (steps-call known set b w turn e0 is-pattern body lb among apart step base below k turns) 1 (suc (handed w)) _ v n fit few e hs s given (ready-passed w base e hs given v step n))

-- A call of the first helper does what the values of the range do over names, and ends the loop.
pub range-calls : (known : Knows) (set : Setting) (b : Builtins) (w : Loop) (turn : List ℕ) (e0 : ExpTree) → IsPattern e0 → (body : Goal) (lb : SlotNames → SlotGoals) → AreAmong w.shared w.kept → Apart w (turn_front (slot_pattern e0 [])) → (l k : Level) →
    Steps b (range_helper turn w) (step_helper turn w e0 lb) (TurnSame known set b w (slot_pattern e0 []) body lb) l k → (base : ℕ) (v step : ℤ) (n : ℕ) → AllFit v step n → n ≤ most_items → (e : Environment) (hs : List Tree) (s : State) → Handed w base e hs →
    predicate_by b l w.name (trees_of (walked (Tree.int v) (number_of n) (Tree.int step) hs)) s ≡ then (values w e0 body n v step k (place e s)) (endings (finish_of w.ending) w.kept base)
unfolding elements values_by then
range-calls known set b w turn e0 is-pattern body lb among apart _ _ (no_steps l inner c called bottom at) base v step zero fit few e hs s given =
    range-ends known set b l inner (lowest c) w turn called at.alike among base e hs given v step s ∙ sym (none-left (lowest c) at.alike.names_drain w e0 body v step (endings (finish_of w.ending) w.kept base) (place e s))
range-calls known set b w turn e0 is-pattern body lb among apart _ _ (no_steps l inner c called bottom at) base v step (suc n) fit few e hs s given =
    range-stops known set b l inner (lowest c) w turn called at.alike bottom base e hs given v step n s
    ∙ sym (ap (λ (u : Trace Place). then u (endings (finish_of w.ending) w.kept base)) (names-not-drained (λ m q. ticked (lower m) (λ j. turns_from w e0 body n v step j q)) (lowest c) (place e s) at.alike.names_drain))
range-calls known set b w turn e0 is-pattern body lb among apart _ _ (some_steps l inner below c k called deeper drains at turns) base v step zero fit few e hs s given =
    range-ends known set b l inner (over c k) w turn called at.alike among base e hs given v step s ∙ sym (none-left (over c k) at.alike.names_drain w e0 body v step (endings (finish_of w.ending) w.kept base) (place e s))
range-calls known set b w turn e0 is-pattern body lb among apart _ _ (some_steps l inner below c k called deeper drains at turns) base v step (suc n) fit few e hs s given =
    range-goes-on known set b l inner below (over c k) w turn called at.alike deeper drains base e hs given v step n s
    ∙ ap (note Tick) (steps-call known set b w turn e0 is-pattern body lb among apart step base below k turns v n fit few e hs s given)
    ∙ sym (ap (λ (u : Trace Place). then u (endings (finish_of w.ending) w.kept base)) (names-not-drained (λ m q. ticked (lower m) (λ j. turns_from w e0 body n v step j q)) (over c k) (place e s) at.alike.names_drain))
