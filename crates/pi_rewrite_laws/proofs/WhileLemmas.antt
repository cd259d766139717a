-- A `while` over slots does what it does over names, turn by turn.
use Rattle.std.proofs.Common.{◌≡◌, ℕ, ◌+◌, ◌≤◌, List, [], ◌∷◌, ◌++◌, length, sym, ◌∙◌, ap, subst, arith}
use Rattle.std.specs.Prelude.{Option, Some, None, option_map}
use Rattle.pi_terms.specs.Tree.{Tree, trees_of}
use Rattle.pi_terms.specs.Places.{Places}
use Rattle.pi_constraints.specs.State.{State}
use Rattle.pi_core.specs.GoalTree.{GoalTree}
use Rattle.pi_core.specs.CoreTree.{PredTree}
use Rattle.pi_traces.specs.Trace.{Trace, end, note, Deep, Tick, one, then}
use Rattle.pi_traces.specs.Control.{chosen}
use Rattle.pi_traces.proofs.RelatedLemmas.{Same}
use Rattle.pi_traces.proofs.TraceLemmas.{then-assoc}
use Rattle.pi_meaning.specs.Shared.Level.{Level, lowest, over, Calls, lower, ticked, Point}
use Rattle.pi_meaning.specs.CoreMeaning.Builtins.{Builtins, predicate_by}
use Rattle.pi_meaning.specs.Shared.Given.{Setting}
use Rattle.pi_meaning.specs.CoreMeaning.Meaning.{ticking, meaning, strictly}
use Rattle.pi_meaning.specs.OverNames.Environment.{Environment}
use Rattle.pi_meaning.specs.OverNames.Place.{Place}
use Rattle.pi_meaning.specs.OverNames.Assigning.{carried}
use Rattle.pi_meaning.specs.OverNames.Control.{Goal, choosing, draining as names_draining, strictly as names_strictly}
use Rattle.pi_meaning.specs.OverNames.Loops as over_names
use Rattle.pi_rewrite_spec.specs.Slots.{SlotNames}
use Rattle.pi_rewrite_spec.specs.Forms.{Knows}
use Rattle.pi_rewrite_spec.specs.Goals.{SlotGoals, in_turn}
use Rattle.pi_rewrite_spec.specs.Loops.{closing, closing_slots, Loop, loop_slots, again, while_helper, do_helper}
use Rattle.pi_rewrite_spec.proofs.SameLemmas.{SameBy, same_note, same-then, same-chosen, same-equal, same-equals}
use Rattle.pi_rewrite_spec.proofs.AgreeLemmas.{Room, Grows, grows-none, grows-then, grows-length, Agrees}
use Rattle.pi_rewrite_spec.proofs.RunLemmas.{Alike, point, place, AtPlace, at_place, runs, SameGoals, then-of-one, runs-append, runs-one, not-drained, names-not-drained, turn-runs, same-strictly}
use Rattle.pi_rewrite_spec.proofs.ControlLemmas.{Drains}
use Rattle.pi_rewrite_spec.proofs.EndLemmas.{finish_of, Stand, closing-room}
use Rattle.pi_rewrite_spec.proofs.HandedLemmas.{entered, values_from, values-count}
use Rattle.pi_rewrite_spec.proofs.EnteredLemmas.{values-long, helper_room, variables-in, again-agrees}
use Rattle.pi_rewrite_laws.proofs.HelperLemmas.{state_of, HelperCalled, count-trees, helper-runs, again-runs, endings, AreAmong, stand-entered, closing-ends, chosen-followed}

-- ---- levels

-- the levels of a loop's turns, from a call of its helper on: each turn runs inside a call, and behind its Tick the next one is called at the level below
pub data Turns (b : Builtins) (p : PredTree) (At : Level → Level → Type 0) : Level → Level → Type 0 where
  last_turn : (l inner : Level) (c : Calls) → HelperCalled b l p inner → lower inner ≡ None → At inner (lowest c) → Turns b p At l (lowest c)
  one_more : (l inner below : Level) (c : Calls) (m : Level) → HelperCalled b l p inner → lower inner ≡ Some below → At inner (over c m) → At below m → Turns b p At below m → Turns b p At l (over c m)

-- where a loop's two parts do the same over slots and over names
pub record PartsSame (known : Knows) (set : Setting) (b : Builtins) (w : Loop) (f g : Goal) (lf lg : SlotNames → SlotGoals) (l m : Level) : Type 0 where
  pub alike : Alike known set b l m
  pub first : SameGoals b l m (length (loop_slots w)) f lf
  pub second : SameGoals b l m (length (loop_slots w)) g lg

-- the end of a loop over slots is one over names, wherever its turns come to
abbrev pub Closes : Knows → Setting → Builtins → Loop → ℕ → ℕ → (Place → Trace State) → Type 0
Closes known set b w n base ends = (l m : Level) → Alike known set b l m → (ms : SlotNames) → Grows (loop_slots w) ms → (next : ℕ) → length ms ≤ next → closing_slots w.kept next ≤ n → (e : Environment) (slots : Places) (s : State) →
    Agrees (helper_room w n base) (length (loop_slots w)) ms e slots → then (runs b (closing w.ending w.kept (length w.shared) next (loop_slots w)) (point l slots s)) state_of ≡ ends (place e s)

-- names that the loop keeps stand for what is made of what they have at last
pub closes-ends : (known : Knows) (set : Setting) (b : Builtins) (w : Loop) (n base : ℕ) → AreAmong w.shared w.kept → Closes known set b w n base (endings (finish_of w.ending) w.kept base)
closes-ends known set b w n base among l m alike ms grows next far room e slots s a =
    closing-ends known set b l m alike w.ending w.kept (length w.shared) base next (loop_slots w) e slots s stand (λ i past. a.empty i (omega (arith, far, past))) (omega (arith, room, a.long))
  where
    stand : Stand w.kept (length w.shared) base (loop_slots w) e slots
    stand = stand-entered w w.kept among (length w.shared) base (helper_room w n base) (length (loop_slots w)) ms grows e slots a (λ i less. a.firm i (omega (arith, less, values-long w.kept w.shared)))
        (variables-in (length w.shared) base w.kept slots (λ i t at. (a.fixed i (Some t) (ap (option_map (λ t. Some t)) at)).has))

-- ---- a turn

-- what a turn leaves begins the next one, which does the same by what is shown of it
pub next-same : (b : Builtins) (l : Level) → Drains l → (w : Loop) (n m base : ℕ) (ms : SlotNames) → Grows (loop_slots w) ms → n ≡ length (loop_slots w) + m → (next : Place → Trace State) →
    ((e : Environment) (vs : List Tree) (s : State) → length vs ≡ length (loop_slots w) → Agrees (helper_room w n base) (length (loop_slots w)) (loop_slots w) e (entered vs m) → predicate_by b l w.name (trees_of vs) s ≡ next (place e s)) →
    (p : Point) (q : Place) → AtPlace l (helper_room w n base) (length (loop_slots w)) ms p q → SameBy Same (then (runs b (again w ∷ []) p) state_of) (next (carried w.shared q))
next-same b l drains w n m base ms grows is next each _ _ (at_place e slots s a) =
    same-equals _ _ (again-runs b l drains w slots s (a.firm)
    ∙ each _ (values_from 0 (length (loop_slots w)) slots) s (values-count 0 (length (loop_slots w)) slots) (again-agrees w n m base ms e slots grows is a))

-- a Tick, and then goals at the level below
pub tick-runs : (b : Builtins) (l below : Level) → Drains l → lower l ≡ Some below → (gs : List GoalTree) (slots : Places) (s : State) → runs b (GoalTree.tick ∷ gs) (point l slots s) ≡ note Tick (runs b gs (point below slots s))
unfolding meaning then
tick-runs b l below drains is gs slots s =
    ap (λ (t : Trace Point). then t (runs b gs)) (not-drained ticking (point l slots s) drains ∙ ap (λ (o : Option Level). ticked o (λ k. one (point k slots s))) is) ∙ ap (note Tick) (then-of-one (point below slots s) (runs b gs))

pub tick-stops : (b : Builtins) (l : Level) → Drains l → lower l ≡ None → (gs : List GoalTree) (slots : Places) (s : State) → runs b (GoalTree.tick ∷ gs) (point l slots s) ≡ end Deep
unfolding meaning then
tick-stops b l drains is gs slots s = ap (λ (t : Trace Point). then t (runs b gs)) (not-drained ticking (point l slots s) drains ∙ ap (λ (o : Option Level). ticked o (λ k. one (point k slots s))) is)

-- ---- `while`

-- the slots behind test and body
abbrev pub while_slots : Loop → (SlotNames → SlotGoals) → (SlotNames → SlotGoals) → SlotNames
while_slots w lt lb = (lb (lt (loop_slots w)).names).names

-- A test, and where it fails the end: the same where what stands behind the test is.
pub tested-same : (known : Knows) (set : Setting) (b : Builtins) (w : Loop) (test : Goal) (lt : SlotNames → SlotGoals) (l k : Level) → Alike known set b l k → SameGoals b l k (length (loop_slots w)) test lt → (n base next : ℕ) (ends : Place → Trace State) →
    Closes known set b w n base ends → (ms : SlotNames) → Grows (loop_slots w) ms → length ms ≤ next → closing_slots w.kept next ≤ n → length (lt ms).names ≤ n → (then_goal : GoalTree) (holds : Place → Trace Place) (e : Environment) (slots : Places) (s : State) →
    Agrees (helper_room w n base) (length (loop_slots w)) ms e slots →
    ((p : Point) (q : Place) → AtPlace l (helper_room w n base) (length (loop_slots w)) (lt ms).names p q → SameBy Same (then (meaning b then_goal p) state_of) (then (holds q) ends)) →
    then (meaning b (GoalTree.if_else (in_turn (lt ms).goals) then_goal (in_turn (closing w.ending w.kept (length w.shared) next (loop_slots w)))) (point l slots s)) state_of
    ≡ then (chosen (names_strictly test k (place e s)) holds (one (place e s))) ends
unfolding meaning
tested-same known set b w test lt l k alike first n base next ends closes ms grows far fits room then_goal holds e slots s a each =
    ap (λ (t : Trace Point). then t state_of)
    (not-drained (λ p. chosen (strictly (meaning b (in_turn (lt ms).goals)) p) (meaning b then_goal) (meaning b (in_turn last) p)) (point l slots s) alike.core_drains)
    ∙ chosen-followed _ (meaning b then_goal) (meaning b (in_turn last) (point l slots s)) state_of
    ∙ same-equal _ _ (same-chosen (AtPlace l (helper_room w n base) (length (loop_slots w)) (lt ms).names) Same _ _ _ _ _ _
    (same-strictly known set b l k (length (loop_slots w)) test lt alike first (helper_room w n base) ms e slots s a room) each
    (same-equals _ _ (ap (λ (t : Trace Point). then t state_of) (turn-runs b l alike.core_drains last slots s) ∙ closes l k alike ms grows next far fits e slots s a ∙ sym (then-of-one (place e s) ends))))
    ∙ sym (chosen-followed (names_strictly test k (place e s)) holds (one (place e s)) ends)
  where
    last : List GoalTree
    last = closing w.ending w.kept (length w.shared) next (loop_slots w)

-- the slots of a `while`'s clause
abbrev pub while_room : Loop → (SlotNames → SlotGoals) → (SlotNames → SlotGoals) → ℕ
while_room w lt lb = closing_slots w.kept (length (while_slots w lt lb))

-- what stands behind the test where no Tick is left
while-stops : (known : Knows) (set : Setting) (b : Builtins) (w : Loop) (goals : List GoalTree) (l k : Level) → Alike known set b l k → lower l ≡ None → (n : Room) (ms : SlotNames) (ending : Place → Trace State) (p : Point) (q : Place) →
    AtPlace l n (length (loop_slots w)) ms p q → SameBy Same (then (meaning b (in_turn (GoalTree.tick ∷ goals ++ again w ∷ [])) p) state_of) (then (end Deep) ending)
unfolding then
while-stops known set b w goals l k alike is n ms ending _ _ (at_place e slots s a) =
    same-equals _ _ (ap (λ (t : Trace Point). then t state_of) (turn-runs b l alike.core_drains (GoalTree.tick ∷ goals ++ again w ∷ []) slots s ∙ tick-stops b l alike.core_drains is (goals ++ again w ∷ []) slots s))

-- and where one is: the body, and the next turn
while-goes-on : (known : Knows) (set : Setting) (b : Builtins) (w : Loop) (body : Goal) (lb : SlotNames → SlotGoals) (l below k : Level) → Drains l → lower l ≡ Some below → Drains below → SameGoals b below k (length (loop_slots w)) body lb →
    (n m base : ℕ) (ms : SlotNames) → Grows (loop_slots w) (lb ms).names → n ≡ length (loop_slots w) + m → length (lb ms).names ≤ n → (turns : Place → Trace Place) (ends : Place → Trace State) →
    ((e : Environment) (vs : List Tree) (s : State) → length vs ≡ length (loop_slots w) → Agrees (helper_room w n base) (length (loop_slots w)) (loop_slots w) e (entered vs m) →
    predicate_by b below w.name (trees_of vs) s ≡ then (turns (place e s)) ends) →
    (p : Point) (q : Place) → AtPlace l (helper_room w n base) (length (loop_slots w)) ms p q →
    SameBy Same (then (meaning b (in_turn (GoalTree.tick ∷ (lb ms).goals ++ again w ∷ [])) p) state_of) (then (note Tick (then (body k q) (λ r. turns (carried w.shared r)))) ends)
unfolding then
while-goes-on known set b w body lb l below k drains is drains-below second n m base ms grows fits room turns ends each _ _ (at_place e slots s a) =
    subst (λ (t : Trace State). SameBy Same t (note Tick (then (then (body k (place e s)) (λ r. turns (carried w.shared r))) ends))) (sym core)
    (same_note Tick (subst (λ (t : Trace State). SameBy Same (then (runs b (lb ms).goals (point below slots s)) (λ p. then (runs b (again w ∷ []) p) state_of)) t) (sym names)
    (same-then (AtPlace below (helper_room w n base) (length (loop_slots w)) (lb ms).names) Same _ _ _ _ (second.same (helper_room w n base) ms e slots s a room)
    (next-same b below drains-below w n m base (lb ms).names grows fits (λ q. then (turns q) ends) each))))
  where
    gs : List GoalTree
    gs = (lb ms).goals ++ again w ∷ []

    core : then (meaning b (in_turn (GoalTree.tick ∷ gs)) (point l slots s)) state_of ≡ note Tick (then (runs b (lb ms).goals (point below slots s)) (λ p. then (runs b (again w ∷ []) p) state_of))
    core =
        ap (λ (t : Trace Point). then t state_of) (turn-runs b l drains (GoalTree.tick ∷ gs) slots s ∙ tick-runs b l below drains is gs slots s ∙ ap (note Tick) (runs-append b (lb ms).goals (again w ∷ []) (point below slots s)))
        ∙ ap (note Tick) (then-assoc (runs b (lb ms).goals (point below slots s)) (runs b (again w ∷ [])) state_of)

    names : then (then (body k (place e s)) (λ r. turns (carried w.shared r))) ends ≡ then (body k (place e s)) (λ r. then (turns (carried w.shared r)) ends)
    names = then-assoc (body k (place e s)) (λ r. turns (carried w.shared r)) ends

-- A call of the helper does the turns that are left, and ends the loop.
pub while-calls : (known : Knows) (set : Setting) (b : Builtins) (w : Loop) (test body : Goal) (lt lb : SlotNames → SlotGoals) (m base : ℕ) (ends : Place → Trace State) → Closes known set b w (while_room w lt lb) base ends → while_room w lt lb ≡ length (loop_slots w) + m →
    (l k : Level) → Turns b (while_helper w lt lb) (PartsSame known set b w test body lt lb) l k → (e : Environment) (vs : List Tree) (s : State) → length vs ≡ length (loop_slots w) →
    Agrees (helper_room w (while_room w lt lb) base) (length (loop_slots w)) (loop_slots w) e (entered vs m) →
    predicate_by b l w.name (trees_of vs) s ≡ then (over_names.while_turns w.shared test body k (place e s)) ends
unfolding over_names.while_turns choosing
while-calls known set b w test body lt lb m base ends closes is l _ (last_turn _ inner c called bottom at) e vs s count a =
    called (trees_of vs) s (count-trees vs ∙ count)
    ∙ helper-runs b inner w.name (length (loop_slots w)) (while_room w lt lb) m _ vs s count is
    ∙ tested-same known set b w test lt inner (lowest c) at.alike at.first (while_room w lt lb) base (length (while_slots w lt lb)) ends closes (loop_slots w) (grows-none (loop_slots w)) far (omega arith) (omega (arith, room, grows)) _ (λ q. end Deep) e (entered vs m) s a
    (while-stops known set b w (lb (lt (loop_slots w)).names).goals inner (lowest c) at.alike bottom (helper_room w (while_room w lt lb) base) (lt (loop_slots w)).names ends)
    ∙ ap (λ (t : Trace Place). then t ends) (sym (names-not-drained (choosing test (λ j q. end Deep) (λ j q. one q)) (lowest c) (place e s) at.alike.names_drain))
  where
    room : length (while_slots w lt lb) ≤ while_room w lt lb
    room = closing-room w.kept (length (while_slots w lt lb))

    far : length (loop_slots w) ≤ length (while_slots w lt lb)
    far = grows-length (loop_slots w) _ (grows-then (loop_slots w) _ _ (at.first.grows (loop_slots w)) (at.second.grows (lt (loop_slots w)).names))

    grows : length (lt (loop_slots w)).names ≤ length (while_slots w lt lb)
    grows = grows-length (lt (loop_slots w)).names _ (at.second.grows (lt (loop_slots w)).names)
while-calls known set b w test body lt lb m base ends closes is l _ (one_more _ inner below c k called one-less at behind turns) e vs s count a =
    called (trees_of vs) s (count-trees vs ∙ count)
    ∙ helper-runs b inner w.name (length (loop_slots w)) (while_room w lt lb) m _ vs s count is
    ∙ tested-same known set b w test lt inner (over c k) at.alike at.first (while_room w lt lb) base (length (while_slots w lt lb)) ends closes (loop_slots w) (grows-none (loop_slots w)) far (omega arith) (omega (arith, room, grows)) _
    (λ q. note Tick (then (body k q) (λ r. over_names.while_turns w.shared test body k (carried w.shared r)))) e (entered vs m) s a
    (while-goes-on known set b w body lb inner below k at.alike.core_drains one-less behind.alike.core_drains behind.second (while_room w lt lb) m base (lt (loop_slots w)).names
    (grows-then (loop_slots w) _ _ (at.first.grows (loop_slots w)) (at.second.grows (lt (loop_slots w)).names)) is room (over_names.while_turns w.shared test body k) ends
    (λ f us r many agrees. while-calls known set b w test body lt lb m base ends closes is below k turns f us r many agrees))
    ∙ ap (λ (t : Trace Place). then t ends)
    (sym (names-not-drained (choosing test (λ j q. note Tick (then (body k q) (λ r. over_names.while_turns w.shared test body k (carried w.shared r)))) (λ j q. one q)) (over c k) (place e s) at.alike.names_drain))
  where
    room : length (while_slots w lt lb) ≤ while_room w lt lb
    room = closing-room w.kept (length (while_slots w lt lb))

    far : length (loop_slots w) ≤ length (while_slots w lt lb)
    far = grows-length (loop_slots w) _ (grows-then (loop_slots w) _ _ (at.first.grows (loop_slots w)) (at.second.grows (lt (loop_slots w)).names))

    grows : length (lt (loop_slots w)).names ≤ length (while_slots w lt lb)
    grows = grows-length (lt (loop_slots w)).names _ (at.second.grows (lt (loop_slots w)).names)

-- ---- `do`

-- the slots behind body and test, and those of a `do`'s clause
abbrev pub do_slots : Loop → (SlotNames → SlotGoals) → (SlotNames → SlotGoals) → SlotNames
do_slots w lb lt = (lt (lb (loop_slots w)).names).names

abbrev pub do_room : Loop → (SlotNames → SlotGoals) → (SlotNames → SlotGoals) → ℕ
do_room w lb lt = closing_slots w.kept (length (do_slots w lb lt))

-- a test and what follows it, as the last goal of a turn
abbrev do_last : Loop → (SlotNames → SlotGoals) → (SlotNames → SlotGoals) → GoalTree
do_last w lb lt =
    GoalTree.if_else (in_turn (lt (lb (loop_slots w)).names).goals) (again w) (in_turn (closing w.ending w.kept (length w.shared) (length (do_slots w lb lt)) (loop_slots w)))

-- behind the body: the test, and where it holds the next turn
do-tested : (known : Knows) (set : Setting) (b : Builtins) (w : Loop) (test : Goal) (lb lt : SlotNames → SlotGoals) (l k : Level) → Alike known set b l k → SameGoals b l k (length (loop_slots w)) test lt → Grows (loop_slots w) (lb (loop_slots w)).names →
    (m base : ℕ) (ends : Place → Trace State) → Closes known set b w (do_room w lb lt) base ends → do_room w lb lt ≡ length (loop_slots w) + m → (turns : Place → Trace Place) →
    ((e : Environment) (vs : List Tree) (s : State) → length vs ≡ length (loop_slots w) → Agrees (helper_room w (do_room w lb lt) base) (length (loop_slots w)) (loop_slots w) e (entered vs m) →
    predicate_by b l w.name (trees_of vs) s ≡ then (turns (place e s)) ends) →
    (p : Point) (q : Place) → AtPlace l (helper_room w (do_room w lb lt) base) (length (loop_slots w)) (lb (loop_slots w)).names p q →
    SameBy Same (then (runs b (do_last w lb lt ∷ []) p) state_of) (then (names_draining (choosing test (λ j r. turns (carried w.shared r)) (λ j r. one r)) k q) ends)
unfolding choosing
do-tested known set b w test lb lt l k alike second grows m base ends closes is turns each _ _ (at_place e slots s a) =
    same-equals _ _ (ap (λ (t : Trace Point). then t state_of) (runs-one b (do_last w lb lt) (point l slots s))
    ∙ tested-same known set b w test lt l k alike second (do_room w lb lt) base (length (do_slots w lb lt)) ends closes (lb (loop_slots w)).names grows (grows-length (lb (loop_slots w)).names _ (second.grows (lb (loop_slots w)).names)) (omega arith)
    (closing-room w.kept (length (do_slots w lb lt))) (again w) (λ r. turns (carried w.shared r)) e slots s a next
    ∙ ap (λ (t : Trace Place). then t ends) (sym (names-not-drained (choosing test (λ j r. turns (carried w.shared r)) (λ j r. one r)) k (place e s) alike.names_drain)))
  where
    next : (p : Point) (q : Place) → AtPlace l (helper_room w (do_room w lb lt) base) (length (loop_slots w)) (do_slots w lb lt) p q → SameBy Same (then (meaning b (again w) p) state_of) (then (turns (carried w.shared q)) ends)
    next p q at =
        subst (λ (t : Trace Point). SameBy Same (then t state_of) (then (turns (carried w.shared q)) ends)) (runs-one b (again w) p)
        (next-same b l alike.core_drains w (do_room w lb lt) m base (do_slots w lb lt) (grows-then (loop_slots w) _ _ grows (second.grows (lb (loop_slots w)).names)) is (λ r. then (turns r) ends) each p q at)

-- A call of the helper does the turns that are left, and ends the loop.
pub do-calls : (known : Knows) (set : Setting) (b : Builtins) (w : Loop) (body test : Goal) (lb lt : SlotNames → SlotGoals) (m base : ℕ) (ends : Place → Trace State) → Closes known set b w (do_room w lb lt) base ends → do_room w lb lt ≡ length (loop_slots w) + m →
    (l k : Level) → Turns b (do_helper w lb lt) (PartsSame known set b w body test lb lt) l k → (e : Environment) (vs : List Tree) (s : State) → length vs ≡ length (loop_slots w) →
    Agrees (helper_room w (do_room w lb lt) base) (length (loop_slots w)) (loop_slots w) e (entered vs m) →
    predicate_by b l w.name (trees_of vs) s ≡ then (over_names.do_turns w.shared body test k (place e s)) ends
unfolding over_names.do_turns then
do-calls known set b w body test lb lt m base ends closes is l _ (last_turn _ inner c called bottom at) e vs s count a =
    called (trees_of vs) s (count-trees vs ∙ count)
    ∙ helper-runs b inner w.name (length (loop_slots w)) (do_room w lb lt) m _ vs s count is
    ∙ ap (λ (t : Trace Point). then t state_of) (turn-runs b inner at.alike.core_drains (GoalTree.tick ∷ goals) (entered vs m) s ∙ tick-stops b inner at.alike.core_drains bottom goals (entered vs m) s)
    ∙ ap (λ (t : Trace Place). then t ends) (sym (names-not-drained (λ j q. end Deep) (lowest c) (place e s) at.alike.names_drain))
  where
    goals : List GoalTree
    goals = (lb (loop_slots w)).goals ++ do_last w lb lt ∷ []
do-calls known set b w body test lb lt m base ends closes is l _ (one_more _ inner below c k called one-less at behind turns) e vs s count a =
    called (trees_of vs) s (count-trees vs ∙ count)
    ∙ helper-runs b inner w.name (length (loop_slots w)) (do_room w lb lt) m _ vs s count is
    ∙ ap (λ (t : Trace Point). then t state_of)
    (turn-runs b inner at.alike.core_drains (GoalTree.tick ∷ goals) (entered vs m) s ∙ tick-runs b inner below at.alike.core_drains one-less goals (entered vs m) s
    ∙ ap (note Tick) (runs-append b (lb (loop_slots w)).goals (do_last w lb lt ∷ []) (point below (entered vs m) s)))
    ∙ ap (note Tick) (then-assoc (runs b (lb (loop_slots w)).goals (point below (entered vs m) s)) (runs b (do_last w lb lt ∷ [])) state_of)
    ∙ ap (note Tick) (same-equal _ _ (same-then (AtPlace below (helper_room w (do_room w lb lt) base) (length (loop_slots w)) (lb (loop_slots w)).names) Same _ _ _ _
    (behind.first.same (helper_room w (do_room w lb lt) base) (loop_slots w) e (entered vs m) s a (omega (arith, room, grows-length (lb (loop_slots w)).names _ (behind.second.grows (lb (loop_slots w)).names))))
    (do-tested known set b w test lb lt below k behind.alike behind.second (behind.first.grows (loop_slots w)) m base ends closes is (over_names.do_turns w.shared body test k)
    (λ f us r many agrees. do-calls known set b w body test lb lt m base ends closes is below k turns f us r many agrees))))
    ∙ ap (note Tick) (sym (then-assoc (body k (place e s)) (names_draining (choosing test (λ j r. over_names.do_turns w.shared body test k (carried w.shared r)) (λ j r. one r)) k) ends))
    ∙ ap (λ (t : Trace Place). then t ends)
    (sym (names-not-drained (λ j q. note Tick (then (body k q) (names_draining (choosing test (λ i r. over_names.do_turns w.shared body test k (carried w.shared r)) (λ i r. one r)) k))) (over c k) (place e s) at.alike.names_drain))
  where
    goals : List GoalTree
    goals = (lb (loop_slots w)).goals ++ do_last w lb lt ∷ []

    room : length (do_slots w lb lt) ≤ do_room w lb lt
    room = closing-room w.kept (length (do_slots w lb lt))
