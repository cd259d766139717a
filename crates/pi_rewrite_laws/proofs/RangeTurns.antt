-- A range's helpers do over slots what its values do over names, turn by turn, though no list of them is made.
use Rattle.std.proofs.Common.{◌≡◌, ℕ, suc, ◌+◌, ◌-◌, ◌≤◌, Bool, true, false, cond, List, [], ◌∷◌, length, refl, sym, ◌∙◌, ap, subst, arith, nat_lt}
use Rattle.std.specs.Prelude.{ℤ, pos, ◌+ℤ◌, Some, None, slice_set, codes}
use Rattle.std.proofs.lemmas.Bool.{cond-true}
use Rattle.std.proofs.lemmas.Bool.Decides.{Decides-ltb}
use Rattle.std.proofs.lemmas.List.{length-set, get_or-set_same}
use Rattle.pi_terms.specs.Tree.{Tree, no_trees, tree, trees_of, tree_count}
use Rattle.pi_terms.specs.Places.{Places, held}
use Rattle.pi_constraints.specs.State.{State}
use Rattle.pi_effects.specs.Integers.{outcome_then, number}
use Rattle.pi_effects.specs.Ranges.{most_items}
use Rattle.pi_effects.specs.BuiltIns.{answer_in}
use Rattle.pi_core.specs.GoalTree.{GoalTree}
use Rattle.pi_core.specs.CoreTree.{PredTree}
use Rattle.pi_traces.specs.Trace.{Trace, end, note, Deep, Tick, one, then, done}
use Rattle.pi_traces.specs.Control.{chosen}
use Rattle.pi_traces.proofs.TraceLemmas.{then-one, then-assoc}
use Rattle.pi_meaning.specs.Shared.Level.{Level, lowest, over, Calls, lower, Point}
use Rattle.pi_meaning.specs.Shared.Builtin.{function_trace}
use Rattle.pi_meaning.specs.CoreMeaning.Builtins.{Builtins, predicate_by}
use Rattle.pi_meaning.specs.Shared.Given.{Setting}
use Rattle.pi_meaning.specs.CoreMeaning.Meaning.{strictly, meaning}
use Rattle.pi_meaning.specs.OverNames.Environment.{Environment}
use Rattle.pi_rewrite_spec.specs.Forms.{Knows}
use Rattle.pi_rewrite_spec.specs.Goals.{in_turn}
use Rattle.pi_rewrite_spec.specs.Loops.{slots_from, closing, closing_slots, Loop}
use Rattle.pi_rewrite_spec.specs.Iterators.{walk_slots, handed, end_slots, tick_then}
use Rattle.pi_rewrite_spec.specs.Ranges.{next_turn, range_helper}
use Rattle.pi_rewrite_spec.proofs.FilledLemmas.{AllFilled, none_filled, one_filled, in_slot, is_int, Extends, extends-then, set-keeps, all-filled-more, all-filled-comes}
use Rattle.pi_rewrite_spec.proofs.AgreeLemmas.{set-other}
use Rattle.pi_rewrite_spec.proofs.RunLemmas.{Alike, point, place, runs, then-of-one, runs-one, not-drained, turn-runs}
use Rattle.pi_rewrite_spec.proofs.ControlLemmas.{Drains}
use Rattle.pi_rewrite_spec.proofs.EndLemmas.{applied-runs, finish_of, closing-room}
use Rattle.pi_rewrite_spec.proofs.HandedLemmas.{entered}
use Rattle.pi_rewrite_spec.proofs.CarriedLemmas.{Handed}
use Rattle.pi_rewrite_laws.proofs.HelperLemmas.{state_of, HelperCalled, count-trees, helper-runs, called-runs, endings, AreAmong}
use Rattle.pi_rewrite_laws.proofs.WhileLemmas.{tick-runs, tick-stops}
use Rattle.pi_rewrite_laws.proofs.ElementLemmas.{handed-long, walked}
use Rattle.pi_rewrite_laws.proofs.MatchedLemmas.{slots-hold, walked-long}
use Rattle.pi_rewrite_laws.proofs.WalkCalls.{less-called, less-known, sum-called, sum-known}
use Rattle.pi_rewrite_laws.proofs.NumberLemmas.{less-natural}
use Rattle.pi_rewrite_laws.proofs.WalkEnds.{walk-closes}
use Rattle.pi_rewrite_laws.proofs.WalkArrays.{tested-runs, number_of, item-slot}
use Rattle.pi_rewrite_laws.proofs.RangeCalls.{AllFit, difference-called, difference-known, next-value, one-less}

-- ---- goals

-- a call with what slots have
pub call-does : (b : Builtins) (l : Level) → Drains l → (name : List ℕ) (args vs : List Tree) (slots : Places) (s : State) → AllFilled slots (trees_of args) (trees_of vs) → then (meaning b (GoalTree.call name args) (point l slots s)) state_of ≡ predicate_by b l name (trees_of vs) s
call-does b l drains name args vs slots s filled =
    ap (λ (t : Trace Point). then t state_of) (called-runs b l drains name args vs slots slots s s (all-filled-comes slots (trees_of args) (trees_of vs) filled s))
    ∙ then-assoc (predicate_by b l name (trees_of vs) s) (λ q. one (point l slots q)) state_of
    ∙ ap (then (predicate_by b l name (trees_of vs) s)) (λ i q. then-of-one (point l slots q) state_of i)
    ∙ then-one (predicate_by b l name (trees_of vs) s)

-- a test that holds or fails, and what it leads to
branch-does : (b : Builtins) (l : Level) → Drains l → (test first other : GoalTree) (slots : Places) (s : State) (holds : Bool) → strictly (meaning b test) (point l slots s) ≡ cond holds (one (point l slots s)) done →
    then (meaning b (GoalTree.if_else test first other) (point l slots s)) state_of ≡ cond holds (then (meaning b first (point l slots s)) state_of) (then (meaning b other (point l slots s)) state_of)
unfolding meaning chosen
branch-does b l drains test first other slots s holds is =
    ap (λ (t : Trace Point). then t state_of) (not-drained (λ p. chosen (strictly (meaning b test) p) (meaning b first) (meaning b other p)) (point l slots s) drains
    ∙ ap (λ (t : Trace Point). chosen t (meaning b first) (meaning b other (point l slots s))) is)
    ∙ go holds
  where
    go : (c : Bool) → then (chosen (cond c (one (point l slots s)) done) (meaning b first) (meaning b other (point l slots s))) state_of ≡ cond c (then (meaning b first (point l slots s)) state_of) (then (meaning b other (point l slots s)) state_of)
    go true = refl
    go false = refl

-- whether a number that a slot has is more than another
more-tested : (known : Knows) (set : Setting) (b : Builtins) (l k : Level) → Alike known set b l k → (a : ℕ) (i n : ℕ) (slots : Places) (s : State) → held slots i ≡ Some (number_of n) →
    strictly (meaning b (GoalTree.call (codes "<") (Tree.int (pos a) ∷ Tree.var i ∷ []))) (point l slots s) ≡ cond (nat_lt a n) (one (point l slots s)) done
unfolding tree_count
more-tested known set b l k alike a i n slots s there =
    tested-runs b l alike.core_drains (codes "<") (Tree.int (pos a) ∷ Tree.var i ∷ []) (number_of a ∷ number_of n ∷ []) slots s (nat_lt a n) (one_filled (is_int (pos a)) (one_filled (in_slot i (number_of n) there) none_filled))
    (alike.predicates (codes "<") (tree (number_of a) (tree (number_of n) no_trees)) s refl (less-known (known.predicate (codes "<") 2)) ∙ less-called set k (pos a) (pos n) s ∙ ap (λ (c : Bool). cond c (one s) done) (less-natural a n))

-- ---- behind a turn

-- slots where a turn has ended: its value, how many values there are from it on, the step, and what is handed on; and two that are free
pub record NextReady (w : Loop) (first free : ℕ) (places : Places) (v step : ℤ) (n : ℕ) (hs : List Tree) : Type 0 where
  pub value : held places first ≡ Some (Tree.int v)
  pub left : held places (suc first) ≡ Some (number_of (suc n))
  pub by : held places (suc (suc first)) ≡ Some (Tree.int step)
  pub handed_on : AllFilled places (trees_of (slots_from (suc (suc first)) (handed w - 2))) (trees_of (Tree.int step ∷ hs))
  pub empty : (j : ℕ) → free ≤ j → held places j ≡ None
  pub room : free + 2 ≤ length places

-- the test whether there is another value, and the call where there is none
abbrev left_test : ℕ → GoalTree
left_test first = GoalTree.call (codes "<") (Tree.int (pos 1) ∷ Tree.var (suc first) ∷ [])

abbrev end_call : Loop → ℕ → GoalTree
end_call w first = GoalTree.call w.name (Tree.var first ∷ Tree.int (pos 0) ∷ slots_from (suc (suc first)) (handed w - 2))

-- no value is left
pub next-ends : (known : Knows) (set : Setting) (b : Builtins) (l k : Level) → Alike known set b l k → (w : Loop) (turn : List ℕ) (first free : ℕ) (places : Places) (v step : ℤ) (hs : List Tree) (r : State) → NextReady w first free places v step 0 hs →
    then (meaning b (next_turn turn w first free) (point l places r)) state_of ≡ predicate_by b l w.name (trees_of (walked (Tree.int v) (number_of 0) (Tree.int step) hs)) r
next-ends known set b l k alike w turn first free places v step hs r ready =
    branch-does b l alike.core_drains _ _ _ places r (nat_lt 1 1) (more-tested known set b l k alike 1 (suc first) 1 places r ready.left)
    ∙ call-does b l alike.core_drains w.name (Tree.var first ∷ number_of 0 ∷ slots_from (suc (suc first)) (handed w - 2)) (Tree.int v ∷ number_of 0 ∷ Tree.int step ∷ hs) places r
    (one_filled (in_slot first (Tree.int v) ready.value) (one_filled (is_int (pos 0)) ready.handed_on))

-- the goals of the next turn
abbrev turn_goals : List ℕ → Loop → ℕ → ℕ → List GoalTree
turn_goals turn w first free =
    GoalTree.apply (codes "+") (Tree.var first ∷ Tree.var (suc (suc first)) ∷ []) free ∷ GoalTree.apply (codes "-") (Tree.var (suc first) ∷ Tree.int (pos 1) ∷ []) (suc free) ∷ GoalTree.tick
    ∷ GoalTree.call turn (Tree.var free ∷ Tree.var free ∷ Tree.var (suc free) ∷ slots_from (suc (suc first)) (handed w - 2)) ∷ []

-- its value and how many are left are found
pub record NextFound (b : Builtins) (l : Level) (w : Loop) (turn : List ℕ) (first free : ℕ) (places : Places) (v step : ℤ) (n : ℕ) (hs : List Tree) (r : State) : Type 0 where
  pub after : Places
  pub does : then (meaning b (next_turn turn w first free) (point l places r)) state_of
      ≡ then (runs b (GoalTree.tick ∷ GoalTree.call turn (Tree.var free ∷ Tree.var free ∷ Tree.var (suc free) ∷ slots_from (suc (suc first)) (handed w - 2)) ∷ []) (point l after r)) state_of
  pub filled : AllFilled after (trees_of (Tree.var free ∷ Tree.var free ∷ Tree.var (suc free) ∷ slots_from (suc (suc first)) (handed w - 2))) (trees_of (Tree.int (v +ℤ step) ∷ walked (Tree.int (v +ℤ step)) (number_of (suc n)) (Tree.int step) hs))

pub next-found : (known : Knows) (set : Setting) (b : Builtins) (l k : Level) → Alike known set b l k → (w : Loop) (turn : List ℕ) (first free : ℕ) (places : Places) (v step : ℤ) (n : ℕ) (hs : List Tree) (r : State) → AllFit v step (suc (suc n)) → suc (suc n) ≤ most_items →
    NextReady w first free places v step (suc n) hs → NextFound b l w turn first free places v step n hs r
unfolding meaning tree_count
next-found known set b l k alike w turn first free places v step n hs r fit few ready = record {
  after = second;
  does =
      branch-does b l alike.core_drains (left_test first) (in_turn (turn_goals turn w first free)) (end_call w first) places r (nat_lt 1 (suc (suc n))) (more-tested known set b l k alike 1 (suc first) (suc (suc n)) places r ready.left)
      ∙ cond-true (nat_lt 1 (suc (suc n))) (then (meaning b (in_turn (turn_goals turn w first free)) (point l places r)) state_of) (then (meaning b (end_call w first) (point l places r)) state_of) ((Decides-ltb 1 (suc (suc n))).1 (omega arith))
      ∙ ap (λ (t : Trace Point). then t state_of) (turn-runs b l alike.core_drains (turn_goals turn w first free) places r ∙ ap (λ (t : Trace Point). then t (runs b (difference ∷ last))) sum-runs ∙ then-of-one (point l one_more r) (runs b (difference ∷ last))
      ∙ ap (λ (t : Trace Point). then t (runs b last)) difference-runs ∙ then-of-one (point l second r) (runs b last));
  filled = one_filled (in_slot free (Tree.int (v +ℤ step)) there) (one_filled (in_slot free (Tree.int (v +ℤ step)) there) (one_filled (in_slot (suc free) (number_of (suc n)) less) (all-filled-more places second stays _ _ ready.handed_on)));
}
  where
    one_more : Places
    one_more = slice_set places free (Some (Tree.int (v +ℤ step)))

    second : Places
    second = slice_set (slice_set places free (Some (Tree.int (v +ℤ step)))) (suc free) (Some (number_of (suc n)))

    difference : GoalTree
    difference = GoalTree.apply (codes "-") (Tree.var (suc first) ∷ Tree.int (pos 1) ∷ []) (suc free)

    last : List GoalTree
    last = GoalTree.tick ∷ GoalTree.call turn (Tree.var free ∷ Tree.var free ∷ Tree.var (suc free) ∷ slots_from (suc (suc first)) (handed w - 2)) ∷ []

    next-empty : held (slice_set places free (Some (Tree.int (v +ℤ step)))) (suc free) ≡ None
    next-empty = set-other places free (Some (Tree.int (v +ℤ step))) (suc free) (λ same. omega (arith, same)) ∙ ready.empty (suc free) (omega arith)

    stays-first : Extends places one_more
    stays-first = set-keeps places free (Tree.int (v +ℤ step)) (ready.empty free (omega arith))

    stays : Extends places second
    stays = extends-then places one_more second stays-first (set-keeps one_more (suc free) (number_of (suc n)) next-empty)

    there : held second free ≡ Some (Tree.int (v +ℤ step))
    there = set-other one_more (suc free) (Some (number_of (suc n))) free (λ same. omega (arith, same)) ∙ get_or-set_same places free (Some (Tree.int (v +ℤ step))) None (omega (arith, ready.room))

    less : held second (suc free) ≡ Some (number_of (suc n))
    less = get_or-set_same one_more (suc free) (Some (number_of (suc n))) None (omega (arith, ready.room, length-set places free (Some (Tree.int (v +ℤ step)))))

    sum-runs : meaning b (GoalTree.apply (codes "+") (Tree.var first ∷ Tree.var (suc (suc first)) ∷ []) free) (point l places r) ≡ one (point l one_more r)
    sum-runs = applied-runs b l alike.core_drains (codes "+") (Tree.var first ∷ Tree.var (suc (suc first)) ∷ []) (Tree.int v ∷ Tree.int step ∷ []) free places r (Tree.int (v +ℤ step)) (one_filled (in_slot first (Tree.int v) ready.value) (one_filled (in_slot (suc (suc first)) (Tree.int step) ready.by) none_filled))
        (alike.functions (codes "+") (tree (Tree.int v) (tree (Tree.int step) no_trees)) r (sum-known (known.function (codes "+") 2)) ∙ sum-called set k v step r ∙ ap (λ o. function_trace (answer_in r (outcome_then o number))) (next-value v step n fit))

    difference-runs : meaning b difference (point l one_more r) ≡ one (point l second r)
    difference-runs = applied-runs b l alike.core_drains (codes "-") (Tree.var (suc first) ∷ Tree.int (pos 1) ∷ []) (number_of (suc (suc n)) ∷ number_of 1 ∷ []) (suc free) one_more r (number_of (suc n))
        (one_filled (in_slot (suc first) (number_of (suc (suc n))) (stays-first (suc first) (number_of (suc (suc n))) ready.left)) (one_filled (is_int (pos 1)) none_filled))
        (alike.functions (codes "-") (tree (number_of (suc (suc n))) (tree (number_of 1) no_trees)) r (difference-known (known.function (codes "-") 2)) ∙ difference-called set k (pos (suc (suc n))) (pos 1) r
        ∙ ap (λ o. function_trace (answer_in r (outcome_then o number))) (one-less (suc n) few))

-- ---- levels

-- the levels of a range's turns, from a call of the second helper on: the next turn is called from inside the last one, and where there is none the first helper, which ends the loop
pub data StepTurns (b : Builtins) (h t : PredTree) (At : Level → Level → Type 0) : Level → Level → Type 0 where
  last_step : (l inside last : Level) (c : Calls) → HelperCalled b l t inside → lower inside ≡ None → At inside (lowest c) → HelperCalled b inside h last → At last (lowest c) → StepTurns b h t At l (lowest c)
  next_step : (l inside below last : Level) (c : Calls) (k : Level) → HelperCalled b l t inside → lower inside ≡ Some below → Drains below → At inside (over c k) → HelperCalled b inside h last → At last (over c k) → StepTurns b h t At below k → StepTurns b h t At l (over c k)

-- and from the call of the first one on
pub data Steps (b : Builtins) (h t : PredTree) (At : Level → Level → Type 0) : Level → Level → Type 0 where
  no_steps : (l inner : Level) (c : Calls) → HelperCalled b l h inner → lower inner ≡ None → At inner (lowest c) → Steps b h t At l (lowest c)
  some_steps : (l inner below : Level) (c : Calls) (k : Level) → HelperCalled b l h inner → lower inner ≡ Some below → Drains below → At inner (over c k) → StepTurns b h t At below k → Steps b h t At l (over c k)

-- ---- the first helper

abbrev spare : Loop → ℕ
spare w = closing_slots w.kept (length (end_slots walk_slots w)) - handed w

wide : (w : Loop) → handed w + (spare w) ≡ closing_slots w.kept (length (end_slots walk_slots w))
wide w = omega (arith, closing-room w.kept (length (end_slots walk_slots w)), item-slot w)

abbrev range_end : Loop → GoalTree
range_end w = in_turn (closing w.ending w.kept (walk_slots + length w.shared) (length (end_slots walk_slots w)) (end_slots walk_slots w))

-- its call, by how many values there are
range-runs : (known : Knows) (set : Setting) (b : Builtins) (l inner k : Level) (w : Loop) (turn : List ℕ) → HelperCalled b l (range_helper turn w) inner → Alike known set b inner k → (base : ℕ) (e : Environment) (hs : List Tree) → Handed w base e hs → (v step : ℤ) (n : ℕ) (s : State) →
    predicate_by b l w.name (trees_of (walked (Tree.int v) (number_of n) (Tree.int step) hs)) s
    ≡ cond (nat_lt 0 n) (then (meaning b (tick_then (GoalTree.call turn (Tree.var 0 ∷ slots_from 0 (handed w)) ∷ [])) (point inner (entered (walked (Tree.int v) (number_of n) (Tree.int step) hs) (spare w)) s)) state_of)
    (then (meaning b (range_end w) (point inner (entered (walked (Tree.int v) (number_of n) (Tree.int step) hs) (spare w)) s)) state_of)
range-runs known set b l inner k w turn called alike base e hs given v step n s =
    called (trees_of vs) s (count-trees vs ∙ walked-long w base e hs given (Tree.int v) (number_of n) (Tree.int step))
    ∙ helper-runs b inner w.name (handed w) (closing_slots w.kept (length (end_slots walk_slots w))) (spare w) _ vs s (walked-long w base e hs given (Tree.int v) (number_of n) (Tree.int step)) (sym (wide w))
    ∙ branch-does b inner alike.core_drains _ _ _ (entered vs (spare w)) s (nat_lt 0 n) (more-tested known set b inner k alike 0 1 n (entered vs (spare w)) s refl)
  where
    vs : List Tree
    vs = walked (Tree.int v) (number_of n) (Tree.int step) hs

-- without a value the loop ends
pub range-ends : (known : Knows) (set : Setting) (b : Builtins) (l inner k : Level) (w : Loop) (turn : List ℕ) → HelperCalled b l (range_helper turn w) inner → Alike known set b inner k → AreAmong w.shared w.kept → (base : ℕ) (e : Environment) (hs : List Tree) → Handed w base e hs → (v step : ℤ) (s : State) →
    predicate_by b l w.name (trees_of (walked (Tree.int v) (number_of 0) (Tree.int step) hs)) s ≡ endings (finish_of w.ending) w.kept base (place e s)
range-ends known set b l inner k w turn called alike among base e hs given v step s =
    range-runs known set b l inner k w turn called alike base e hs given v step 0 s
    ∙ walk-closes known set b inner k alike w among base e hs given 3 (Tree.int v ∷ number_of 0 ∷ Tree.int step ∷ []) refl (spare w) (length (end_slots walk_slots w)) s
    (omega (arith, item-slot w, handed-long w, given.count)) (omega (arith, wide w, handed-long w, given.count))

-- the slots of a call of the second one
first-filled : (w : Loop) (base : ℕ) (e : Environment) (hs : List Tree) → Handed w base e hs → (v i step : Tree) (m : ℕ) → AllFilled (entered (walked v i step hs) m) (trees_of (Tree.var 0 ∷ slots_from 0 (handed w))) (trees_of (v ∷ walked v i step hs))
first-filled w base e hs given v i step m =
    one_filled (in_slot 0 v refl) (subst (λ (c : ℕ). AllFilled (entered (walked v i step hs) m) (trees_of (slots_from 0 c)) (trees_of (walked v i step hs))) (walked-long w base e hs given v i step) (slots-hold [] (walked v i step hs) m))

-- with one the second helper is called behind its Tick
pub range-goes-on : (known : Knows) (set : Setting) (b : Builtins) (l inner below k : Level) (w : Loop) (turn : List ℕ) → HelperCalled b l (range_helper turn w) inner → Alike known set b inner k → lower inner ≡ Some below → Drains below → (base : ℕ) (e : Environment) (hs : List Tree) → Handed w base e hs →
    (v step : ℤ) (n : ℕ) (s : State) → predicate_by b l w.name (trees_of (walked (Tree.int v) (number_of (suc n)) (Tree.int step) hs)) s ≡ note Tick (predicate_by b below turn (trees_of (Tree.int v ∷ walked (Tree.int v) (number_of (suc n)) (Tree.int step) hs)) s)
unfolding then
range-goes-on known set b l inner below k w turn called alike is drains base e hs given v step n s =
    range-runs known set b l inner k w turn called alike base e hs given v step (suc n) s
    ∙ cond-true (nat_lt 0 (suc n)) _ _ ((Decides-ltb 0 (suc n)).1 (omega arith))
    ∙ ap (λ (t : Trace Point). then t state_of) (turn-runs b inner alike.core_drains (GoalTree.tick ∷ goal ∷ []) slots s ∙ tick-runs b inner below alike.core_drains is (goal ∷ []) slots s ∙ ap (note Tick) (runs-one b goal (point below slots s)))
    ∙ ap (note Tick) (call-does b below drains turn (Tree.var 0 ∷ slots_from 0 (handed w)) (Tree.int v ∷ walked (Tree.int v) (number_of (suc n)) (Tree.int step) hs) slots s (first-filled w base e hs given (Tree.int v) (number_of (suc n)) (Tree.int step) (spare w)))
  where
    goal : GoalTree
    goal = GoalTree.call turn (Tree.var 0 ∷ slots_from 0 (handed w))

    slots : Places
    slots = entered (walked (Tree.int v) (number_of (suc n)) (Tree.int step) hs) (spare w)

pub range-stops : (known : Knows) (set : Setting) (b : Builtins) (l inner k : Level) (w : Loop) (turn : List ℕ) → HelperCalled b l (range_helper turn w) inner → Alike known set b inner k → lower inner ≡ None → (base : ℕ) (e : Environment) (hs : List Tree) → Handed w base e hs →
    (v step : ℤ) (n : ℕ) (s : State) → predicate_by b l w.name (trees_of (walked (Tree.int v) (number_of (suc n)) (Tree.int step) hs)) s ≡ end Deep
unfolding then
range-stops known set b l inner k w turn called alike is base e hs given v step n s =
    range-runs known set b l inner k w turn called alike base e hs given v step (suc n) s
    ∙ cond-true (nat_lt 0 (suc n)) _ _ ((Decides-ltb 0 (suc n)).1 (omega arith))
    ∙ ap (λ (t : Trace Point). then t state_of) (turn-runs b inner alike.core_drains (GoalTree.tick ∷ goal ∷ []) slots s ∙ tick-stops b inner alike.core_drains is (goal ∷ []) slots s)
  where
    goal : GoalTree
    goal = GoalTree.call turn (Tree.var 0 ∷ slots_from 0 (handed w))

    slots : Places
    slots = entered (walked (Tree.int v) (number_of (suc n)) (Tree.int step) hs) (spare w)
