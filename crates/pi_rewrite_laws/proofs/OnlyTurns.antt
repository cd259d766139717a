-- A loop that begins with a test: its helper has one turn, without a Tick. And a test that stands in a turn.
use Rattle.std.proofs.Common.{◌≡◌, ℕ, ◌+◌, ◌-◌, ◌≤◌, List, ◌++◌, length, sym, ◌∙◌, ap, arith}
use Rattle.pi_terms.specs.Tree.{Tree, trees_of}
use Rattle.pi_constraints.specs.State.{State}
use Rattle.pi_core.specs.GoalTree.{GoalTree}
use Rattle.pi_core.specs.CoreTree.{PredTree}
use Rattle.pi_traces.specs.Trace.{Trace, one, then}
use Rattle.pi_traces.proofs.RelatedLemmas.{Same}
use Rattle.pi_traces.proofs.TraceLemmas.{then-one, then-assoc}
use Rattle.pi_meaning.specs.Shared.Level.{Level, calls_at, Point}
use Rattle.pi_meaning.specs.CoreMeaning.Builtins.{Builtins, predicate_by}
use Rattle.pi_meaning.specs.Shared.Given.{Setting}
use Rattle.pi_meaning.specs.OverNames.Environment.{Environment}
use Rattle.pi_meaning.specs.OverNames.Place.{Place}
use Rattle.pi_meaning.specs.OverNames.Texts.{Names}
use Rattle.pi_meaning.specs.OverNames.Control.{Goal, choosing, strictly}
use Rattle.pi_meaning.specs.OverNames.Loops as over_names
use Rattle.pi_rewrite_spec.specs.Slots.{SlotNames}
use Rattle.pi_rewrite_spec.specs.Forms.{Knows}
use Rattle.pi_rewrite_spec.specs.Goals.{SlotGoals}
use Rattle.pi_rewrite_spec.specs.Loops.{closing, closing_slots, Loop, loop_slots, only_turn_helper, loop_goals}
use Rattle.pi_rewrite_spec.specs.Iterators.{tested}
use Rattle.pi_rewrite_spec.proofs.SameLemmas.{SameBy, same-then, same-equal, same-equals}
use Rattle.pi_rewrite_spec.proofs.AgreeLemmas.{Grows, grows-length, Agrees}
use Rattle.pi_rewrite_spec.proofs.RunLemmas.{Alike, point, place, AtPlace, at_place, runs, SameGoals, runs-append, names-not-drained, turn-runs}
use Rattle.pi_rewrite_spec.proofs.ControlLemmas.{true-goals, chosen-goals}
use Rattle.pi_rewrite_spec.proofs.EndLemmas.{finish_of, closing-room}
use Rattle.pi_rewrite_spec.proofs.HandedLemmas.{entered}
use Rattle.pi_rewrite_spec.proofs.EnteredLemmas.{helper_room}
use Rattle.pi_rewrite_laws.proofs.HelperLemmas.{state_of, HelperCalled, count-trees, helper-runs, endings, AreAmong}
use Rattle.pi_rewrite_laws.proofs.WhileLemmas.{Closes, closes-ends}
use Rattle.pi_rewrite_laws.proofs.WholeLoops.{loop-same}

-- ---- a loop that begins with a test

-- what stands in the turn
pub record BodySame (known : Knows) (set : Setting) (b : Builtins) (w : Loop) (body : Goal) (lb : SlotNames → SlotGoals) (l k : Level) : Type 0 where
  pub alike : Alike known set b l k
  pub body_same : SameGoals b l k (length (loop_slots w)) body lb

-- the turn's level, inside the call
pub data OnlyTurn (b : Builtins) (p : PredTree) (At : Level → Level → Type 0) : Level → Level → Type 0 where
  in_call : (l inner k : Level) → HelperCalled b l p inner → At inner k → OnlyTurn b p At l k

abbrev only_room : Loop → (SlotNames → SlotGoals) → ℕ
only_room w lb = closing_slots w.kept (length (lb (loop_slots w)).names)

-- where the turn comes to, the loop ends
turn-ends : (known : Knows) (set : Setting) (b : Builtins) (w : Loop) (l k : Level) → Alike known set b l k → (n base next : ℕ) (ends : Place → Trace State) → Closes known set b w n base ends → (ms : SlotNames) → Grows (loop_slots w) ms → length ms ≤ next → closing_slots w.kept next ≤ n →
    (p : Point) (q : Place) → AtPlace l (helper_room w n base) (length (loop_slots w)) ms p q → SameBy Same (then (runs b (closing w.ending w.kept (length w.shared) next (loop_slots w)) p) state_of) (ends q)
turn-ends known set b w l k alike n base next ends closes ms grows far room _ _ (at_place e slots s a) = same-equals _ _ (closes l k alike ms grows next far room e slots s a)

strictly-same : (body : Goal) (k : Level) (p : Place) → ((s : State) → (calls_at k).drained s ≡ one s) → strictly body k p ≡ body k p
unfolding strictly
strictly-same body k p drains = ap (then (body k p)) (λ i q. names-not-drained (λ m r. one r) k q drains i) ∙ then-one (body k p)

-- A call of the helper has the turn, and ends the loop.
pub only-calls : (known : Knows) (set : Setting) (b : Builtins) (w : Loop) (body : Goal) (lb : SlotNames → SlotGoals) (m base : ℕ) (ends : Place → Trace State) → Closes known set b w (only_room w lb) base ends → only_room w lb ≡ length (loop_slots w) + m → (l k : Level) →
    OnlyTurn b (only_turn_helper w lb) (BodySame known set b w body lb) l k → (e : Environment) (vs : List Tree) (s : State) → length vs ≡ length (loop_slots w) → Agrees (helper_room w (only_room w lb) base) (length (loop_slots w)) (loop_slots w) e (entered vs m) →
    predicate_by b l w.name (trees_of vs) s ≡ then (strictly body k (place e s)) ends
only-calls known set b w body lb m base ends closes is _ _ (in_call l inner k called at) e vs s count a =
    called (trees_of vs) s (count-trees vs ∙ count)
    ∙ helper-runs b inner w.name (length (loop_slots w)) (only_room w lb) m _ vs s count is
    ∙ ap (λ (t : Trace Point). then t state_of) (turn-runs b inner at.alike.core_drains (goals ++ last) (entered vs m) s ∙ runs-append b goals last (point inner (entered vs m) s))
    ∙ then-assoc (runs b goals (point inner (entered vs m) s)) (runs b last) state_of
    ∙ same-equal _ _ (same-then (AtPlace inner (helper_room w (only_room w lb) base) (length (loop_slots w)) (lb (loop_slots w)).names) Same _ _ (λ p. then (runs b last p) state_of) ends
    (at.body_same.same (helper_room w (only_room w lb) base) (loop_slots w) e (entered vs m) s a room)
    (turn-ends known set b w inner k at.alike (only_room w lb) base (length (lb (loop_slots w)).names) ends closes (lb (loop_slots w)).names (at.body_same.grows (loop_slots w)) (omega arith) (omega arith)))
    ∙ ap (λ (t : Trace Place). then t ends) (sym (strictly-same body k (place e s) at.alike.names_drain))
  where
    goals : List GoalTree
    goals = (lb (loop_slots w)).goals

    last : List GoalTree
    last = closing w.ending w.kept (length w.shared) (length (lb (loop_slots w)).names) (loop_slots w)

    room : length (lb (loop_slots w)).names ≤ only_room w lb
    room = closing-room w.kept (length (lb (loop_slots w)).names)

pub only-same : (known : Knows) (set : Setting) (b : Builtins) (l k : Level) (h : ℕ) → Alike known set b l k → (w : Loop) (before : Names) (body : Goal) (lb : SlotNames → SlotGoals) → AreAmong before w.shared → AreAmong before w.kept → AreAmong w.shared w.kept →
    Grows (loop_slots w) (lb (loop_slots w)).names → OnlyTurn b (only_turn_helper w lb) (BodySame known set b w body lb) l k → SameGoals b l k h (over_names.turning (over_names.names_around (finish_of w.ending) before w.shared w.kept) (strictly body)) (loop_goals h before w)
only-same known set b l k h alike w before body lb shared kept among grows turn =
    loop-same known set b l k h alike w before (strictly body) shared kept (only_room w lb) m fits
    (λ base e vs s count a. only-calls known set b w body lb m base (endings (finish_of w.ending) w.kept base) (closes-ends known set b w (only_room w lb) base among) fits l k turn e vs s count a)
  where
    m : ℕ
    m = only_room w lb - length (loop_slots w)

    fits : only_room w lb ≡ length (loop_slots w) + (only_room w lb - length (loop_slots w))
    fits = omega (arith, closing-room w.kept (length (lb (loop_slots w)).names), grows-length (loop_slots w) _ grows)

-- ---- a test in a turn

-- where it fails the turn is passed over
pub tested-goals : (known : Knows) (set : Setting) (b : Builtins) (l m : Level) (h : ℕ) (test rest : Goal) (lt lr : SlotNames → SlotGoals) → Alike known set b l m → SameGoals b l m h test lt → SameGoals b l m h rest lr →
    SameGoals b l m h (choosing test rest (λ k p. one p)) (λ ns. tested (lt ns) lr)
tested-goals known set b l m h test rest lt lr alike t r = chosen-goals known set b l m h test rest (λ k p. one p) lt lr _ alike t r (true-goals b l m h alike.core_drains)
