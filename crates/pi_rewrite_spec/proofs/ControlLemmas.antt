-- Forms of control do over slots what they do over names, whatever stands in them.
use Rattle.std.proofs.Common.{◌≡◌, ℕ, ◌≤◌, List, [], ◌∷◌, length, refl, sym, ◌∙◌, ap, subst, arith}
use Rattle.std.specs.Prelude.{Option, Some, None}
use Rattle.pi_terms.specs.Tree.{Tree}
use Rattle.pi_terms.specs.Places.{Places}
use Rattle.pi_constraints.specs.State.{State}
use Rattle.pi_constraints.specs.Evaluation.{Evaluated}
use Rattle.pi_core.specs.GoalTree.{GoalTree, goals_of}
use Rattle.pi_traces.specs.Trace.{Trace, done, one, first}
use Rattle.pi_traces.specs.Control.{negated, chosen, caught}
use Rattle.pi_traces.proofs.TraceLemmas.{alt-done}
use Rattle.pi_meaning.specs.Shared.Settle.{settled}
use Rattle.pi_meaning.specs.Shared.Level.{Level, calls_at, Point}
use Rattle.pi_meaning.specs.CoreMeaning.Builtins.{Builtins}
use Rattle.pi_meaning.specs.Shared.Given.{Setting}
use Rattle.pi_meaning.specs.Shared.Handling.{handled_in, handling}
use Rattle.pi_meaning.specs.CoreMeaning.Meaning.{Action, draining, strictly, failing, catching as core_catching, meaning, meaning_of_any}
use Rattle.pi_meaning.specs.OverNames.Environment.{Environment, Valued}
use Rattle.pi_meaning.specs.OverNames.Place.{Place, at_state}
use Rattle.pi_meaning.specs.OverNames.Assigning.{place_of}
use Rattle.pi_meaning.specs.OverNames.Control.{Goal, Value, no_goal, following, either, choosing, Arrow, branch_before, denying, taken_once, catching, strictly as names_strictly}
use Rattle.pi_rewrite_spec.specs.Slots.{SlotNames}
use Rattle.pi_rewrite_spec.specs.Values.{SlotValue}
use Rattle.pi_rewrite_spec.specs.Goals.{SlotGoals, SlotBranches, SlotArrow, in_turn, either_of, just, never, goal_by, catching as slots_catching, joined, choosing as slots_choosing, as_goals, in_front, one_branch, branch_before as slots_branch_before}
use Rattle.pi_rewrite_spec.specs.Forms.{Knows}
use Rattle.pi_rewrite_spec.proofs.SameLemmas.{SameBy, same_end, same-one, same-map, same-alt, same-then, same-first, same-negated, same-chosen, same-caught, same-then_same}
use Rattle.pi_rewrite_spec.proofs.AgreeLemmas.{Room, Grows, grows-none, grows-then, grows-length, Agrees, agrees-more}
use Rattle.pi_rewrite_spec.proofs.RunLemmas.{Alike, point, place, AtPlace, at_place, AtValue, at_value, runs, SameGoals, SameLast, place-wider, runs-append, runs-one, not-drained, turn-runs, same-strictly}

abbrev pub Drains : Level → Type 0
Drains l = (s : State) → (calls_at l).drained s ≡ one s

-- ---- from the place of an answer

pub goals-from : (b : Builtins) (l m : Level) (h : ℕ) (g : Goal) (lowered : SlotNames → SlotGoals) → SameGoals b l m h g lowered → (n : Room) (ns : SlotNames) → length (lowered ns).names ≤ n.slots →
    (p : Point) (q : Place) → AtPlace l n h ns p q → SameBy (AtPlace l n h (lowered ns).names) (runs b (lowered ns).goals p) (g m q)
goals-from b l m h g lowered is n ns room _ _ (at_place e slots s a) = is.same n ns e slots s a room

pub turn-same : (b : Builtins) (l m : Level) (h : ℕ) (g : Goal) (lowered : SlotNames → SlotGoals) → Drains l → SameGoals b l m h g lowered → (n : Room) (ns : SlotNames) (e : Environment) (slots : Places) (s : State) → Agrees n h ns e slots →
    length (lowered ns).names ≤ n.slots → SameBy (AtPlace l n h (lowered ns).names) (meaning b (in_turn (lowered ns).goals) (point l slots s)) (g m (place e s))
turn-same b l m h g lowered drains is n ns e slots s a room =
    subst (λ (t : Trace Point). SameBy (AtPlace l n h (lowered ns).names) t (g m (place e s))) (sym (turn-runs b l drains (lowered ns).goals slots s)) (is.same n ns e slots s a room)

pub turn-from : (b : Builtins) (l m : Level) (h : ℕ) (g : Goal) (lowered : SlotNames → SlotGoals) → Drains l → SameGoals b l m h g lowered → (n : Room) (ns : SlotNames) → length (lowered ns).names ≤ n.slots →
    (p : Point) (q : Place) → AtPlace l n h ns p q → SameBy (AtPlace l n h (lowered ns).names) (meaning b (in_turn (lowered ns).goals) p) (g m q)
turn-from b l m h g lowered drains is n ns room _ _ (at_place e slots s a) = turn-same b l m h g lowered drains is n ns e slots s a room

-- wider slots
pub wider : (l : Level) (n : Room) (h : ℕ) (ns ms : SlotNames) → Grows ns ms → (t : Trace Point) (u : Trace Place) → SameBy (AtPlace l n h ns) t u → SameBy (AtPlace l n h ms) t u
wider l n h ns ms grows t u is = same-map (AtPlace l n h ns) (AtPlace l n h ms) (place-wider l n h ns ms grows) t u is

-- a goal by itself
pub just-same : {B : Type 0} (R : Point → B → Type 0) (b : Builtins) (l : Level) → Drains l → (g : GoalTree) (act : Action) → meaning b g ≡ draining act → (slots : Places) (s : State) (t : Trace B) →
    SameBy R (act (point l slots s)) t → SameBy R (runs b (g ∷ []) (point l slots s)) t
just-same R b l drains g act is slots s t same =
    subst (λ (u : Trace Point). SameBy R u t) (sym (runs-one b g (point l slots s) ∙ ap (λ f. f (point l slots s)) is ∙ not-drained act (point l slots s) drains)) same

-- ---- conjunctions

pub none-goals : (b : Builtins) (l m : Level) (h : ℕ) → SameGoals b l m h (λ k p. one p) (λ ns. record { goals = []; names = ns })
unfolding meaning
none-goals b l m h = record { grows = grows-none; same = λ n ns e slots s a room. same-one (AtPlace l n h ns) _ _ (at_place e slots s a) }

pub joined-goals : (b : Builtins) (l m : Level) (h : ℕ) (f g : Goal) (lf lg : SlotNames → SlotGoals) → SameGoals b l m h f lf → SameGoals b l m h g lg →
    SameGoals b l m h (following f g) (λ ns. joined (lf ns) (lg (lf ns).names))
joined-goals b l m h f g lf lg is are = record {
  grows = λ ns. grows-then ns _ _ (is.grows ns) (are.grows (lf ns).names);
  same = λ n ns e slots s a room.
      let after : SlotNames = (lg (lf ns).names).names in
      subst (λ (t : Trace Point). SameBy (AtPlace l n h after) t (following f g m (place e s))) (sym (runs-append b (lf ns).goals (lg (lf ns).names).goals (point l slots s)))
      (same-then (AtPlace l n h (lf ns).names) (AtPlace l n h after) _ _ _ _ (is.same n ns e slots s a (omega (arith, room, grows-length (lf ns).names _ (are.grows (lf ns).names))))
      (goals-from b l m h g lg are n (lf ns).names room));
}

-- `true`, and what fails
pub true-goals : (b : Builtins) (l m : Level) (h : ℕ) → Drains l → SameGoals b l m h (λ k p. one p) (λ ns. just GoalTree.truth ns)
unfolding meaning
true-goals b l m h drains = record {
  grows = grows-none;
  same = λ n ns e slots s a room. just-same (AtPlace l n h ns) b l drains GoalTree.truth (λ p. one p) refl slots s _ (same-one (AtPlace l n h ns) _ _ (at_place e slots s a));
}

pub fail-goals : (b : Builtins) (l m : Level) (h : ℕ) → Drains l → SameGoals b l m h no_goal never
unfolding meaning
fail-goals b l m h drains = record {
  grows = grows-none;
  same = λ n ns e slots s a room. just-same (AtPlace l n h ns) b l drains GoalTree.fail failing refl slots s _ (same_end _);
}

-- ---- `not`, `once`, choices

pub denied-goals : (known : Knows) (set : Setting) (b : Builtins) (l m : Level) (h : ℕ) (g : Goal) (lowered : SlotNames → SlotGoals) → Alike known set b l m → SameGoals b l m h g lowered →
    SameGoals b l m h (denying g) (λ ns. goal_by GoalTree.not (lowered ns))
unfolding meaning denying
denied-goals known set b l m h g lowered alike is = record {
  grows = is.grows;
  same = λ n ns e slots s a room.
      just-same (AtPlace l n h (lowered ns).names) b l alike.core_drains (GoalTree.not (in_turn (lowered ns).goals)) (λ p. negated (strictly (meaning b (in_turn (lowered ns).goals)) p) p) refl slots s _
      (same-negated (AtPlace l n h (lowered ns).names) (AtPlace l n h (lowered ns).names) _ _ _ _ (same-strictly known set b l m h g lowered alike is n ns e slots s a room)
      (at_place e slots s (agrees-more n h ns (lowered ns).names e slots (is.grows ns) a)));
}

pub once-goals : (known : Knows) (set : Setting) (b : Builtins) (l m : Level) (h : ℕ) (g : Goal) (lowered : SlotNames → SlotGoals) → Alike known set b l m → SameGoals b l m h g lowered →
    SameGoals b l m h (taken_once g) (λ ns. goal_by GoalTree.once (lowered ns))
unfolding meaning taken_once
once-goals known set b l m h g lowered alike is = record {
  grows = is.grows;
  same = λ n ns e slots s a room.
      just-same (AtPlace l n h (lowered ns).names) b l alike.core_drains (GoalTree.once (in_turn (lowered ns).goals)) (λ p. first (strictly (meaning b (in_turn (lowered ns).goals)) p)) refl slots s _
      (same-first (AtPlace l n h (lowered ns).names) _ _ (same-strictly known set b l m h g lowered alike is n ns e slots s a room));
}

pub chosen-goals : (known : Knows) (set : Setting) (b : Builtins) (l m : Level) (h : ℕ) (test holds other : Goal) (lt lh lo : SlotNames → SlotGoals) → Alike known set b l m →
    SameGoals b l m h test lt → SameGoals b l m h holds lh → SameGoals b l m h other lo → SameGoals b l m h (choosing test holds other) (λ ns. slots_choosing (lt ns) lh lo)
unfolding meaning choosing
chosen-goals known set b l m h test holds other lt lh lo alike t g o = record {
  grows = λ ns. grows-then ns _ _ (t.grows ns) (grows-then (lt ns).names _ _ (g.grows (lt ns).names) (o.grows (lh (lt ns).names).names));
  same = λ n ns e slots s a room.
      let ms : SlotNames = (lt ns).names in
      let ks : SlotNames = (lh ms).names in
      let js : SlotNames = (lo ks).names in
      let room-k : length ks ≤ n.slots = omega (arith, room, grows-length ks js (o.grows ks)) in
      let room-m : length ms ≤ n.slots = omega (arith, room-k, grows-length ms ks (g.grows ms)) in
      just-same (AtPlace l n h js) b l alike.core_drains (GoalTree.if_else (in_turn (lt ns).goals) (in_turn (lh ms).goals) (in_turn (lo ks).goals))
      (λ p. chosen (strictly (meaning b (in_turn (lt ns).goals)) p) (meaning b (in_turn (lh ms).goals)) (meaning b (in_turn (lo ks).goals) p)) refl slots s _
      (same-chosen (AtPlace l n h ms) (AtPlace l n h js) _ _ _ _ _ _ (same-strictly known set b l m h test lt alike t n ns e slots s a room-m)
      (λ p q at. wider l n h ks js (o.grows ks) _ _ (turn-from b l m h holds lh alike.core_drains g n ms room-k p q at))
      (turn-same b l m h other lo alike.core_drains o n ks e slots s (agrees-more n h ns ks e slots (grows-then ns ms ks (t.grows ns) (g.grows ms)) a) room));
}

-- ---- disjunctions

pub record SameBranches (b : Builtins) (l m : Level) (h : ℕ) (g : Goal) (lowered : SlotNames → SlotBranches) : Type 0 where
  pub grows : (ns : SlotNames) → Grows ns (lowered ns).names
  pub same : (n : Room) (ns : SlotNames) (e : Environment) (slots : Places) (s : State) → Agrees n h ns e slots → length (lowered ns).names ≤ n.slots →
      SameBy (AtPlace l n h (lowered ns).names) (meaning_of_any b (goals_of (lowered ns).branches) (point l slots s)) (g m (place e s))

pub none-branches : (b : Builtins) (l m : Level) (h : ℕ) → SameBranches b l m h (λ k p. done) (λ ns. record { branches = []; names = ns })
unfolding meaning
none-branches b l m h = record { grows = grows-none; same = λ n ns e slots s a room. same_end _ }

front-branches : (b : Builtins) (l m : Level) (h : ℕ) (g others : Goal) (lg : SlotNames → SlotGoals) (lo : SlotNames → SlotBranches) → Drains l → SameGoals b l m h g lg → SameBranches b l m h others lo →
    SameBranches b l m h (either g others) (λ ns. in_front (lg ns) lo)
unfolding meaning
front-branches b l m h g others lg lo drains is are = record {
  grows = λ ns. grows-then ns _ _ (is.grows ns) (are.grows (lg ns).names);
  same = λ n ns e slots s a room.
      let ms : SlotNames = (lg ns).names in
      let ks : SlotNames = (lo ms).names in
      same-alt (AtPlace l n h ks) _ _ _ _
      (wider l n h ms ks (are.grows ms) _ _ (turn-same b l m h g lg drains is n ns e slots s a (omega (arith, room, grows-length ms ks (are.grows ms)))))
      (are.same n ms e slots s (agrees-more n h ns ms e slots (is.grows ns) a) room);
}

one-branches : (b : Builtins) (l m : Level) (h : ℕ) (g : Goal) (lg : SlotNames → GoalTree) (after : SlotNames → SlotNames) → SameGoals b l m h g (λ ns. just (lg ns) (after ns)) →
    SameBranches b l m h g (λ ns. one_branch (just (lg ns) (after ns)))
unfolding meaning
one-branches b l m h g lg after is = record {
  grows = is.grows;
  same = λ n ns e slots s a room.
      subst (λ (t : Trace Point). SameBy (AtPlace l n h (after ns)) t (g m (place e s))) (runs-one b (lg ns) (point l slots s) ∙ sym (alt-done (meaning b (lg ns) (point l slots s))))
      (is.same n ns e slots s a room);
}

either-runs : (b : Builtins) (l : Level) → Drains l → (gs : List GoalTree) (slots : Places) (s : State) → meaning b (either_of gs) (point l slots s) ≡ meaning_of_any b (goals_of gs) (point l slots s)
unfolding meaning
either-runs b l drains [] slots s = not-drained failing (point l slots s) drains
either-runs b l drains (g ∷ []) slots s = sym (alt-done (meaning b g (point l slots s)))
either-runs b l drains (g ∷ g' ∷ gs) slots s = not-drained (meaning_of_any b (goals_of (g ∷ g' ∷ gs))) (point l slots s) drains

pub branches-goals : (b : Builtins) (l m : Level) (h : ℕ) (g : Goal) (lowered : SlotNames → SlotBranches) → Drains l → SameBranches b l m h g lowered → SameGoals b l m h g (λ ns. as_goals (lowered ns))
branches-goals b l m h g lowered drains is = record {
  grows = is.grows;
  same = λ n ns e slots s a room.
      subst (λ (t : Trace Point). SameBy (AtPlace l n h (lowered ns).names) t (g m (place e s)))
      (sym (either-runs b l drains (lowered ns).branches slots s) ∙ sym (runs-one b (either_of (lowered ns).branches) (point l slots s))) (is.same n ns e slots s a room);
}

-- a branch with or without an arrow
pub data SameArrow (b : Builtins) (l m : Level) (h : ℕ) : Option Arrow → Option SlotArrow → Type 0 where
  no_arrow : SameArrow b l m h None None
  an_arrow : (a : Arrow) (la : SlotArrow) → SameGoals b l m h a.test la.test → SameGoals b l m h a.body la.body → SameArrow b l m h (Some a) (Some la)

pub branch-first : (known : Knows) (set : Setting) (b : Builtins) (l m : Level) (h : ℕ) (o : Option Arrow) (lo : Option SlotArrow) (g others : Goal) (lg : SlotNames → SlotGoals) (los : SlotNames → SlotBranches) → Alike known set b l m →
    SameArrow b l m h o lo → (o ≡ None → SameGoals b l m h g lg) → SameBranches b l m h others los → SameBranches b l m h (branch_before o g others) (slots_branch_before lo lg los)
branch-first known set b l m h _ _ g others lg los alike no_arrow is are = front-branches b l m h g others lg los alike.core_drains (is refl) are
branch-first known set b l m h _ _ g others lg los alike (an_arrow a la test body) is are =
    one-branches b l m h (choosing a.test a.body others) _ _
    (chosen-goals known set b l m h a.test a.body others la.test la.body (λ ns. as_goals (los ns)) alike test body (branches-goals b l m h others los alike.core_drains are))

-- ---- `catch`

pub same-handling : {A B : Type 0} (R : A → B → Type 0) (s : State) (wanted : Tree) (f : State → Trace A) (g : State → Trace B) → ((s : State) → SameBy R (f s) (g s)) → (ball : Tree) →
    SameBy R (handling s wanted f ball) (handling s wanted g ball)
same-handling R s wanted f g each ball = go _
  where
    go : (o : Option State) → SameBy R (handled_in s ball f o) (handled_in s ball g o)
    go None = same_end _
    go (Some r) = same-then_same R (settled s r) (settled s r) f g refl each

pub caught-goals : (known : Knows) (set : Setting) (b : Builtins) (l m : Level) (h : ℕ) (g : Goal) (v : Value) (handler : Goal) (lg lh : SlotNames → SlotGoals) (lv : SlotNames → SlotValue) → Alike known set b l m →
    SameGoals b l m h g lg → SameLast b l m h v lv → SameGoals b l m h handler lh → SameGoals b l m h (catching g v handler) (λ ns. slots_catching lg lh (lv ns))
unfolding meaning catching core_catching
caught-goals known set b l m h g v handler lg lh lv alike is value handles = record {
  grows = λ ns. grows-then ns _ _ (value.grows ns) (grows-then (lv ns).names _ _ (is.grows (lv ns).names) (handles.grows (lg (lv ns).names).names));
  same = λ n ns e slots s a room. whole n ns e slots s a room;
}
  where
    behind : (n : Room) (ms : SlotNames) (t : Tree) (start : Places) → length (lh (lg ms).names).names ≤ n.slots → (p : Point) (x : Valued) → AtValue l n h ms t start p x →
        SameBy (AtPlace l n h (lh (lg ms).names).names) (runs b (GoalTree.catch (in_turn (lg ms).goals) t (in_turn (lh (lg ms).names).goals) ∷ []) p)
        (caught (names_strictly g m (place_of x)) (handling x.state x.tree (λ r. handler m (at_state (place_of x) r))))
    behind n ms t start room _ _ (at_value slots s x c extends) =
        let ks : SlotNames = (lg ms).names in
        let js : SlotNames = (lh ks).names in
        let act : Action = meaning b (in_turn (lg ms).goals) in
        let hand : Action = meaning b (in_turn (lh ks).goals) in
        just-same (AtPlace l n h js) b l alike.core_drains (GoalTree.catch (in_turn (lg ms).goals) t (in_turn (lh ks).goals)) (core_catching act t hand) refl slots s _
        (subst (λ (y : Evaluated). SameBy (AtPlace l n h js) (caught (strictly act (point l y.slots y.state)) (handling y.state y.tree (λ r. hand (point l y.slots r))))
        (caught (names_strictly g m (place_of x)) (handling x.state x.tree (λ r. handler m (at_state (place_of x) r))))) (sym c.comes)
        (same-caught (AtPlace l n h js) _ _ _ _
        (wider l n h ks js (handles.grows ks) _ _ (same-strictly known set b l m h g lg alike is n ms x.names c.after x.state c.agrees (omega (arith, room, grows-length ks js (handles.grows ks)))))
        (same-handling (AtPlace l n h js) x.state x.tree _ _
        (λ r. turn-same b l m h handler lh alike.core_drains handles n ks x.names c.after r (agrees-more n h ms ks x.names c.after (is.grows ms) c.agrees) room))))

    whole : (n : Room) (ns : SlotNames) (e : Environment) (slots : Places) (s : State) → Agrees n h ns e slots → length (lh (lg (lv ns).names).names).names ≤ n.slots →
        SameBy (AtPlace l n h (lh (lg (lv ns).names).names).names) (runs b (slots_catching lg lh (lv ns)).goals (point l slots s)) (catching g v handler m (place e s))
    whole n ns e slots s a room =
        let ms : SlotNames = (lv ns).names in
        let js : SlotNames = (lh (lg ms).names).names in
        let fits : length ms ≤ n.slots = omega (arith, room, grows-length ms _ (is.grows ms), grows-length (lg ms).names _ (handles.grows (lg ms).names)) in
        subst (λ (t : Trace Point). SameBy (AtPlace l n h js) t (catching g v handler m (place e s))) (sym (runs-append b (lv ns).goals _ (point l slots s)))
        (same-then (AtValue l n h ms (lv ns).tree slots) (AtPlace l n h js) _ _ _ _ (value.same n ns e slots s a fits) (behind n ms (lv ns).tree slots room))
