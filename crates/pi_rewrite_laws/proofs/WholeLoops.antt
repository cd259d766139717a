-- A `while` and a `do` as goals do over slots what they do over names.
use Rattle.std.proofs.Common.{◌≡◌, ℕ, suc, ◌+◌, ◌-◌, ◌≤◌, Bool, true, false, cond, List, [], ◌∷◌, ◌++◌, length, refl, sym, ◌∙◌, ap, subst, arith}
use Rattle.std.specs.Prelude.{Option, None, IsSome, ◌||◌, ⊤}
use Rattle.std.specs.Str.{bytes_eq}
use Rattle.std.proofs.lemmas.Bool.{true≢false}
use Rattle.pi_terms.specs.Tree.{Tree, trees_of}
use Rattle.pi_terms.specs.Places.{Places}
use Rattle.pi_constraints.specs.State.{State, next}
use Rattle.pi_constraints.specs.Evaluation.{with_new_variables}
use Rattle.pi_effects.specs.Inner.{itself_name}
use Rattle.pi_core.specs.GoalTree.{GoalTree}
use Rattle.pi_traces.specs.Trace.{Trace, one, then}
use Rattle.pi_traces.proofs.TraceLemmas.{then-assoc}
use Rattle.pi_traces.proofs.AnswerLemmas.{EachAnswer}
use Rattle.pi_meaning.specs.Shared.Level.{Level, Point}
use Rattle.pi_meaning.specs.CoreMeaning.Builtins.{Builtins, predicate_by}
use Rattle.pi_meaning.specs.Shared.Given.{Setting}
use Rattle.pi_meaning.specs.CoreMeaning.Meaning.{meaning}
use Rattle.pi_meaning.specs.OverNames.Environment.{Environment, meant}
use Rattle.pi_meaning.specs.OverNames.Place.{Place}
use Rattle.pi_meaning.specs.OverNames.Texts.{Names, is_among}
use Rattle.pi_meaning.specs.OverNames.Assigning.{with_names, narrowed}
use Rattle.pi_meaning.specs.OverNames.Control.{Goal}
use Rattle.pi_meaning.specs.OverNames.Loops as over_names
use Rattle.pi_meaning.specs.OverNames.Loops.{Finish}
use Rattle.pi_rewrite_spec.specs.Slots.{SlotNames, unnamed, slot_of, slot_or_next, slot_for}
use Rattle.pi_rewrite_spec.specs.Forms.{Knows}
use Rattle.pi_rewrite_spec.specs.Goals.{SlotGoals}
use Rattle.pi_rewrite_spec.specs.Loops.{slots_from, slots_for_names, with_values, Loop, loop_slots, while_helper, do_helper, started, kept_goals, loop_goals}
use Rattle.pi_rewrite_spec.proofs.SameLemmas.{SameBy, same-then, same-then_same, same-each}
use Rattle.pi_rewrite_spec.proofs.AgreeLemmas.{Room, text_same, Grows, grows-then, grows-length, Agrees}
use Rattle.pi_rewrite_spec.proofs.NewNameLemmas.{from_known}
use Rattle.pi_rewrite_spec.proofs.ControlLemmas.{Drains}
use Rattle.pi_rewrite_spec.proofs.RunLemmas.{Alike, point, place, AtPlace, at_place, runs, SameGoals, then-of-one, runs-append}
use Rattle.pi_rewrite_spec.proofs.EndLemmas.{finish_of, closed-places, kept_environment, closing-room}
use Rattle.pi_rewrite_spec.proofs.LoopLemmas.{started-grows, started-same, HaveSlots, kept-same}
use Rattle.pi_rewrite_spec.proofs.HandedLemmas.{entered}
use Rattle.pi_rewrite_spec.proofs.EnteredLemmas.{values-long, values-grow, slot-stays, helper_room}
use Rattle.pi_rewrite_laws.proofs.HelperLemmas.{called-runs, endings, closed-ends, AreAmong}
use Rattle.pi_rewrite_laws.proofs.WhileLemmas.{Turns, PartsSame, closes-ends, while_slots, while_room, while-calls, do_slots, do_room, do-calls}
use Rattle.pi_rewrite_laws.proofs.EnterLemmas.{AreFilled, AllThere, names-there, KnownSlot, known-slot, made_slots, variables-agree, variables-stand, handed_on, handed-count, first-agrees, arguments-come}

-- ---- names

pub among-there : (before names : Names) (e : Environment) → AreAmong before names → AllThere before e → AllThere names e
unfolding AreAmong
among-there before [] e among there name is named = absurd (true≢false (sym is))
among-there before (other ∷ names) e among there name is named = tested (λ rest. among-there before names e among.2 there name rest named) (bytes_eq name other) refl is
  where
    tested : (is_among names name ≡ true → IsSome (meant name e)) → (b : Bool) → bytes_eq name other ≡ b → b || is_among names name ≡ true → IsSome (meant name e)
    tested rest true same found = subst (λ (x : List ℕ). IsSome (meant x e)) (sym (text_same name other same)) (there other among.0 among.1)
    tested rest false apart found = rest found

unfoldable HaveNamed : Names → Type 0
HaveNamed [] = ⊤
HaveNamed (name ∷ names) = (bytes_eq name unnamed ≡ false) × HaveNamed names

are-named : (before names : Names) → AreAmong before names → HaveNamed names
unfolding AreAmong HaveNamed
are-named before [] among = tt
are-named before (name ∷ names) among = (among.1, are-named before names among.2)

-- names that are among others that are there have slots
have-slots : (n : Room) (h : ℕ) (ns : SlotNames) (e : Environment) (slots : Places) → Agrees n h ns e slots → (before names : Names) → AreAmong before names → AllThere before e → (k : ℕ) → length ns ≤ k → HaveSlots names k ns
unfolding AreAmong HaveSlots
have-slots n h ns e slots a before [] among there k past = tt
have-slots n h ns e slots a before (name ∷ names) among there k past =
    let s : KnownSlot name ns e slots = known-slot n h ns e slots a name among.1 (there name among.0 among.1) in
    (record { slot = s.slot; is = s.is; below = omega (arith, s.below, past) }, have-slots n h ns e slots a before names among.2 there (suc k) (omega (arith, past)))

-- and the same ones behind more
kept-wider : (n : Room) (h : ℕ) (ns ms : SlotNames) (e : Environment) (slots : Places) → Agrees n h ns e slots → Grows ns ms → (before names : Names) → AreAmong before names → AllThere before e → (k : ℕ) → kept_goals names k ns ≡ kept_goals names k ms
unfolding AreAmong kept_goals
kept-wider n h ns ms e slots a grows before [] among there k = refl
kept-wider n h ns ms e slots a grows before (name ∷ names) among there k =
    ap (λ (j : ℕ). GoalTree.apply itself_name (Tree.var k ∷ []) j ∷ kept_goals names (suc k) ns) same
    ∙ ap (λ (gs : List GoalTree). GoalTree.apply itself_name (Tree.var k ∷ []) (slot_for name ms) ∷ gs) (kept-wider n h ns ms e slots a grows before names among.2 there (suc k))
  where
    known : KnownSlot name ns e slots
    known = known-slot n h ns e slots a name among.1 (there name among.0 among.1)

    same : slot_for name ns ≡ slot_for name ms
    same =
        ap (λ (o : Option ℕ). slot_or_next o ns) known.is
        ∙ sym (ap (λ (c : Bool). slot_or_next (cond c None (slot_of name ms)) ms) among.1
        ∙ ap (λ (o : Option ℕ). slot_or_next o ms) (slot-stays name ns ms grows known.slot (from_known (bytes_eq name unnamed) (slot_of name ns) known.slot known.is)))

have-wider : (names : Names) (k : ℕ) (ns ms : SlotNames) → Grows ns ms → HaveNamed names → HaveSlots names k ns → HaveSlots names k ms
unfolding HaveSlots HaveNamed
have-wider [] k ns ms grows named have = tt
have-wider (name ∷ names) k ns ms grows named have = (
  record {
    slot = have.0.slot;
    is = ap (λ (c : Bool). cond c None (slot_of name ms)) named.0 ∙ slot-stays name ns ms grows have.0.slot (from_known (bytes_eq name unnamed) (slot_of name ns) have.0.slot have.0.is);
    below = have.0.below;
  },
  have-wider names (suc k) ns ms grows named.1 have.1,
)

-- ---- a loop is entered

-- what a loop over names does, where the names before it are there: states, in each of which the names that it keeps stand for their variables
framed-places : (k : Level) → Drains k → (finish : Finish) (inside kept : Names) (turns : Goal) (p : Place) →
    over_names.framed finish inside kept turns k p ≡ then (then (turns k (over_names.opened inside kept p)) (endings finish kept (next p.state))) (λ s. one (place (kept_environment kept (next p.state) p.names) s))
framed-places k drains finish inside kept turns p =
    ap (then (turns k (over_names.opened inside kept p))) (λ i q. (closed-places finish kept (next p.state) p.names k q
    ∙ ap (λ (t : Trace State). then t (λ s. one (place (kept_environment kept (next p.state) p.names) s))) (closed-ends k drains finish kept (next p.state) p.names q)) i)
    ∙ sym (then-assoc (turns k (over_names.opened inside kept p)) (endings finish kept (next p.state)) (λ s. one (place (kept_environment kept (next p.state) p.names) s)))

-- A loop is the call of its helper, and then what its names stand for.
pub entered-same : (known : Knows) (set : Setting) (b : Builtins) (l k : Level) → Alike known set b l k → (w : Loop) (before : Names) (turns : Goal) → AreAmong before w.shared → AreAmong before w.kept →
    (n : Room) (h : ℕ) (ns : SlotNames) (e : Environment) (slots : Places) (s : State) → Agrees n h ns e slots → AllThere before e → length (with_values w.kept ns) ≤ n.slots → (xs us : List Tree) → AreFilled slots xs us →
    predicate_by b l w.name (trees_of (us ++ handed_on w (next s) e)) (with_new_variables (length w.kept) s) ≡ then (turns k (over_names.opened w.shared w.kept (place e s))) (endings (finish_of w.ending) w.kept (next s)) →
    SameBy (AtPlace l n h (with_values w.kept ns)) (runs b (GoalTree.call w.name ((xs ++ slots_for_names w.shared ns) ++ slots_from (length ns) (length w.kept)) ∷ kept_goals w.kept (length ns) ns) (point l slots s))
    (over_names.framed (finish_of w.ending) w.shared w.kept turns k (place e s))
unfolding meaning
entered-same known set b l k alike w before turns shared kept n h ns e slots s a there room xs us filled calls =
    subst (λ (t : Trace Point). SameBy R t (over_names.framed (finish_of w.ending) w.shared w.kept turns k (place e s))) (sym core)
    (subst (λ (t : Trace Place). SameBy R (then called (λ q. runs b goals (point l after q))) t) (sym (framed-places k alike.names_drain (finish_of w.ending) w.shared w.kept turns (place e s)))
    (same-then_same R called (then (turns k (over_names.opened w.shared w.kept (place e s))) (endings (finish_of w.ending) w.kept base)) (λ q. runs b goals (point l after q)) (λ r. one (place (kept_environment w.kept base e) r))
    calls
    (λ r. kept-same known set b l k n h alike w.kept (length ns) base ms e after r agrees room (variables-stand w.kept n h base ns e slots a room)
    (have-wider w.kept (length ns) ns ms (values-grow w.kept ns) (are-named before w.kept kept) (have-slots n h ns e slots a before w.kept kept there (length ns) (omega arith))))))
  where
    base : ℕ
    base = next s

    ms : SlotNames
    ms = with_values w.kept ns

    R : Point → Place → Type 0
    R = AtPlace l n h (with_values w.kept ns)

    after : Places
    after = made_slots w.kept ns (next s) slots

    agrees : Agrees n h (with_values w.kept ns) e (made_slots w.kept ns (next s) slots)
    agrees = variables-agree w.kept n h (next s) ns e slots a

    goals : List GoalTree
    goals = kept_goals w.kept (length ns) (with_values w.kept ns)

    called : Trace State
    called = predicate_by b l w.name (trees_of (us ++ handed_on w (next s) e)) (with_new_variables (length w.kept) s)

    args : List Tree
    args = (xs ++ slots_for_names w.shared ns) ++ slots_from (length ns) (length w.kept)

    core : runs b (GoalTree.call w.name ((xs ++ slots_for_names w.shared ns) ++ slots_from (length ns) (length w.kept)) ∷ kept_goals w.kept (length ns) ns) (point l slots s) ≡
        then (predicate_by b l w.name (trees_of (us ++ handed_on w (next s) e)) (with_new_variables (length w.kept) s)) (λ q. runs b (kept_goals w.kept (length ns) (with_values w.kept ns)) (point l (made_slots w.kept ns (next s) slots) q))
    core =
        ap (λ (gs : List GoalTree). runs b (GoalTree.call w.name args ∷ gs) (point l slots s)) (kept-wider n h ns ms e slots a (values-grow w.kept ns) before w.kept kept there (length ns))
        ∙ ap (λ (t : Trace Point). then t (runs b goals)) (called-runs b l alike.core_drains w.name args (us ++ handed_on w base e) slots after s (with_new_variables (length w.kept) s) (arguments-come w before n h ns e slots s a shared there xs us filled))
        ∙ then-assoc called (λ q. one (point l after q)) (runs b goals)
        ∙ ap (then called) (λ i q. then-of-one (point l after q) (runs b goals) i)

-- what a call of the helper has to do
abbrev pub CallsTurns : Builtins → Level → Level → Loop → Goal → ℕ → ℕ → Type 0
CallsTurns b l k w turns size m = (base : ℕ) (e : Environment) (vs : List Tree) (s : State) → length vs ≡ length (loop_slots w) → Agrees (helper_room w size base) (length (loop_slots w)) (loop_slots w) e (entered vs m) →
    predicate_by b l w.name (trees_of vs) s ≡ then (turns k (place e s)) (endings (finish_of w.ending) w.kept base)

pub loop-same : (known : Knows) (set : Setting) (b : Builtins) (l k : Level) (h : ℕ) → Alike known set b l k → (w : Loop) (before : Names) (turns : Goal) → AreAmong before w.shared → AreAmong before w.kept → (size m : ℕ) → size ≡ length (loop_slots w) + m →
    CallsTurns b l k w turns size m → SameGoals b l k h (over_names.turning (over_names.names_around (finish_of w.ending) before w.shared w.kept) turns) (loop_goals h before w)
unfolding over_names.turning EachAnswer AreFilled
loop-same known set b l k h alike w before turns shared kept size m is calls = record {
  grows = λ ns. grows-then ns _ _ (started-grows known set b l k h alike before ns) (values-grow w.kept (started h before ns).names);
  same = λ n ns e slots s a room. whole n ns e slots s a room;
}
  where
    behind : (n : Room) (ns : SlotNames) → length (with_values w.kept ns) ≤ n.slots → (p : Point) (q : Place) → AtPlace l n h ns p q × AllThere before q.names →
        SameBy (AtPlace l n h (with_values w.kept ns)) (runs b (GoalTree.call w.name (slots_for_names w.shared ns ++ slots_from (length ns) (length w.kept)) ∷ kept_goals w.kept (length ns) ns) p)
        (over_names.framed (finish_of w.ending) w.shared w.kept turns k q)
    behind n ns room _ _ (at_place e slots s a, there) =
        entered-same known set b l k alike w before turns shared kept n h ns e slots s a there room [] [] tt
        (calls (next s) (narrowed w.shared e) (handed_on w (next s) e) (with_new_variables (length w.kept) s) (handed-count w (next s) e) (first-agrees w size m (next s) before e is shared (among-there before w.shared e shared there)))

    whole : (n : Room) (ns : SlotNames) (e : Environment) (slots : Places) (s : State) → Agrees n h ns e slots → length (loop_goals h before w ns).names ≤ n.slots →
        SameBy (AtPlace l n h (loop_goals h before w ns).names) (runs b (loop_goals h before w ns).goals (point l slots s)) (over_names.framed (finish_of w.ending) w.shared w.kept turns k (with_names before (place e s)))
    whole n ns e slots s a room =
        let ms : SlotNames = (started h before ns).names in
        let goals : List GoalTree = GoalTree.call w.name (slots_for_names w.shared ms ++ slots_from (length ms) (length w.kept)) ∷ kept_goals w.kept (length ms) ms in
        subst (λ (t : Trace Point). SameBy (AtPlace l n h (with_values w.kept ms)) t (over_names.framed (finish_of w.ending) w.shared w.kept turns k (with_names before (place e s)))) (sym (runs-append b (started h before ns).goals goals (point l slots s)))
        (subst (λ (t : Trace Place). SameBy (AtPlace l n h (with_values w.kept ms)) (then (runs b (started h before ns).goals (point l slots s)) (runs b goals)) t)
        (then-of-one (with_names before (place e s)) (over_names.framed (finish_of w.ending) w.shared w.kept turns k))
        (same-then (λ p q. AtPlace l n h ms p q × AllThere before q.names) (AtPlace l n h (with_values w.kept ms)) _ _ (runs b goals) (over_names.framed (finish_of w.ending) w.shared w.kept turns k)
        (same-each (AtPlace l n h ms) (λ q. AllThere before q.names) _ _ (started-same known set b l k h alike before n ns e slots s a (omega (arith, room, values-long w.kept ms))) (names-there before (place e s), tt))
        (behind n ms room)))

-- ---- `while` and `do`

pub while-same : (known : Knows) (set : Setting) (b : Builtins) (l k : Level) (h : ℕ) → Alike known set b l k → (w : Loop) (before : Names) (test body : Goal) (lt lb : SlotNames → SlotGoals) →
    AreAmong before w.shared → AreAmong before w.kept → AreAmong w.shared w.kept → Grows (loop_slots w) (while_slots w lt lb) → Turns b (while_helper w lt lb) (PartsSame known set b w test body lt lb) l k →
    SameGoals b l k h (over_names.turning (over_names.names_around (finish_of w.ending) before w.shared w.kept) (over_names.while_turns w.shared test body)) (loop_goals h before w)
while-same known set b l k h alike w before test body lt lb shared kept among grows turns =
    loop-same known set b l k h alike w before (over_names.while_turns w.shared test body) shared kept (while_room w lt lb) m fits
    (λ base e vs s count a. while-calls known set b w test body lt lb m base (endings (finish_of w.ending) w.kept base) (closes-ends known set b w (while_room w lt lb) base among) fits l k turns e vs s count a)
  where
    m : ℕ
    m = while_room w lt lb - length (loop_slots w)

    fits : while_room w lt lb ≡ length (loop_slots w) + (while_room w lt lb - length (loop_slots w))
    fits = omega (arith, closing-room w.kept (length (while_slots w lt lb)), grows-length (loop_slots w) (while_slots w lt lb) grows)

pub do-same : (known : Knows) (set : Setting) (b : Builtins) (l k : Level) (h : ℕ) → Alike known set b l k → (w : Loop) (before : Names) (body test : Goal) (lb lt : SlotNames → SlotGoals) →
    AreAmong before w.shared → AreAmong before w.kept → AreAmong w.shared w.kept → Grows (loop_slots w) (do_slots w lb lt) → Turns b (do_helper w lb lt) (PartsSame known set b w body test lb lt) l k →
    SameGoals b l k h (over_names.turning (over_names.names_around (finish_of w.ending) before w.shared w.kept) (over_names.do_turns w.shared body test)) (loop_goals h before w)
do-same known set b l k h alike w before body test lb lt shared kept among grows turns =
    loop-same known set b l k h alike w before (over_names.do_turns w.shared body test) shared kept (do_room w lb lt) m fits
    (λ base e vs s count a. do-calls known set b w body test lb lt m base (endings (finish_of w.ending) w.kept base) (closes-ends known set b w (do_room w lb lt) base among) fits l k turns e vs s count a)
  where
    m : ℕ
    m = do_room w lb lt - length (loop_slots w)

    fits : do_room w lb lt ≡ length (loop_slots w) + (do_room w lb lt - length (loop_slots w))
    fits = omega (arith, closing-room w.kept (length (do_slots w lb lt)), grows-length (loop_slots w) (do_slots w lb lt) grows)
