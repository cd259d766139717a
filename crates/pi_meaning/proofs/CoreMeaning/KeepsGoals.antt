-- Goals keep calm states, where calls do: from one whose slots hold terms of variables that were made, each answer is again one,
-- with the variables that were made before and maybe more.
use Rattle.std.proofs.Common.{◌≡◌, ℕ, ◌+◌, ◌≤◌, List, Bool, true, false, cond, refl, arith}
use Rattle.std.specs.Prelude.{Option, Some, None, Ok, Err, option_map, pos, codes, ⊤}
use Rattle.pi_terms.specs.Tree.{Tree, int, Trees, no_trees, tree, trees_of}
use Rattle.pi_terms.specs.Places.{Places}
use Rattle.pi_terms.specs.Copy.{copy, new_variables}
use Rattle.pi_constraints.specs.State.{State, next, SpeaksBelow, PlacesBelow}
use Rattle.pi_constraints.specs.Unify.{unified}
use Rattle.pi_core.specs.GoalTree.{GoalTree, truth, fail, tick, call, apply, seq, alternatives, if_else, not, once, collect, count, catch, GoalTrees, no_goals, goal}
use Rattle.pi_traces.specs.Trace.{Trace, one, alt, then, first}
use Rattle.pi_traces.specs.Control.{negated, chosen, caught}
use Rattle.pi_meaning.specs.Shared.Settle.{settled}
use Rattle.pi_constraints.specs.Evaluation.{Evaluated, evaluated, EvaluatedAll, evaluated_all, with_new_variables}
use Rattle.pi_meaning.specs.Shared.Level.{Level, lowest, over, Calls, Applied, Point, calls_at, or_called, or_applied}
use Rattle.pi_meaning.specs.Shared.Handling.{handled_in, handling}
use Rattle.pi_meaning.specs.CoreMeaning.Builtins.{Builtins, predicate_by, function_by}
use Rattle.pi_meaning.specs.CoreMeaning.Meaning.{Action, in_state, with_slot, draining, strictly, succeeding, failing, ticking, calling, applying, after_arguments, after_term, slot_value, copyable, with_list, collecting, counting, catching, meaning, meaning_of_all, meaning_of_any}
use Rattle.pi_terms.specs.ListCopies.{list_of_copies, new_in_all}
use Rattle.pi_traces.proofs.AnswerLemmas.{EachAnswer, each-map, each-one, each-alt, each-then, each-first, each-negated, each-chosen, each-collected, each-counted, each-caught}
use Rattle.pi_constraints.proofs.KeepsLemmas.{TreesBelow, speaks-more, places-more, first-below, rest-below, int-below, places-set, news-next, copy-below, copies-below}
use Rattle.pi_meaning.proofs.CoreMeaning.CalmStates.{CalmLater, calm-itself, news-calm, CalmEvaluated, CalmAll, evaluated-calm, evaluated-all-calm, settled-calm}
use Rattle.pi_meaning.proofs.CoreMeaning.LeftLemmas.{Left, left-then, left-news, left-unified}
use Rattle.pi_settling.specs.Calm.{IsCalm}

-- a state after a function call, and its value
abbrev pub AppliedLater : State → Applied → Type 0
AppliedLater s a = CalmLater s a.state × SpeaksBelow (next a.state) a.value

-- what calls do keeps states
pub record CallsKeep (c : Calls) : Type 0 where
  pub called : (name : List ℕ) (ts : Trees) (s : State) → IsCalm s → TreesBelow (next s) ts → EachAnswer (CalmLater s) (c.called name ts s)
  pub applied : (name : List ℕ) (ts : Trees) (s : State) → IsCalm s → TreesBelow (next s) ts → EachAnswer (AppliedLater s) (c.applied name ts s)
  pub drained : (s : State) → IsCalm s → EachAnswer (CalmLater s) (c.drained s)

-- at a level, and at those below it
abbrev pub LevelKeeps : Level → Type 0
LevelKeeps (lowest c) = CallsKeep c
LevelKeeps (over c l) = CallsKeep c × LevelKeeps l

pub calls-keep : (l : Level) → LevelKeeps l → CallsKeep (calls_at l)
calls-keep (lowest c) h = h
calls-keep (over c l) h = h.0

-- a place whose state is one and whose slots speak of its variables
pub record IsPlace (p : Point) : Type 0 where
  pub level : LevelKeeps p.level
  pub state : IsCalm p.state
  pub slots : PlacesBelow (next p.state) p.slots

abbrev pub PlaceLater : Point → Point → Type 0
PlaceLater p q = IsPlace q × (next p.state ≤ next q.state)

-- an action keeps places
unfoldable pub Keeps : Action → Type 0
Keeps act = (p : Point) → IsPlace p → EachAnswer (PlaceLater p) (act p)

place-itself : (p : Point) → IsPlace p → PlaceLater p p
place-itself p is = (is, omega arith)

-- what answers of a later place are, answers of the place are
from-later : (p q : Point) → next p.state ≤ next q.state → (t : Trace Point) → EachAnswer (PlaceLater q) t → EachAnswer (PlaceLater p) t
from-later p q h t a = each-map (PlaceLater q) (PlaceLater p) (λ r k. (k.0, omega (arith, h, k.1))) t a

-- an action that keeps places goes on from each answer
pub onward-keeps : (p : Point) (act : Action) → Keeps act → (t : Trace Point) → EachAnswer (PlaceLater p) t → EachAnswer (PlaceLater p) (then t act)
unfolding Keeps
onward-keeps p act a t h = each-then (PlaceLater p) (PlaceLater p) t act h (λ q k. from-later p q k.1 (act q) (a q k.0))

-- a place in a later state
in-later : (p : Point) (s : State) → IsPlace p → CalmLater p.state s → PlaceLater p (in_state p s)
in-later p s is h = (record { level = is.level; state = h.0; slots = places-more (next p.state) (next s) p.slots h.1 is.slots }, h.1)

draining-keeps : (act : Action) → Keeps act → Keeps (draining act)
unfolding Keeps draining
draining-keeps act a p is =
    each-then (CalmLater p.state) (PlaceLater p) ((calls_at p.level).drained p.state) (λ s. act (in_state p s)) ((calls-keep p.level is.level).drained p.state is.state)
    (λ s h. from-later p (in_state p s) h.1 (act (in_state p s)) (a (in_state p s) (in-later p s is h).0))

succeeding-keeps : Keeps succeeding
unfolding Keeps
succeeding-keeps p is = each-one (PlaceLater p) p (place-itself p is)

failing-keeps : Keeps failing
unfolding Keeps EachAnswer
failing-keeps p is = tt

pub strictly-keeps : (act : Action) → Keeps act → Keeps (strictly act)
unfolding Keeps strictly
strictly-keeps act a p is = onward-keeps p (draining (λ q. one q)) (draining-keeps (λ q. one q) succeeding-keeps) (act p) (a p is)

ticking-at : (l : Level) (e : Places) (s : State) → LevelKeeps l → IsCalm s → PlacesBelow (next s) e →
    EachAnswer (PlaceLater (record { level = l; slots = e; state = s })) (ticking (record { level = l; slots = e; state = s }))
unfolding EachAnswer
ticking-at (lowest c) e s h is slots = tt
ticking-at (over c l) e s h is slots = ((record { level = h.1; state = is; slots = slots }, omega arith), tt)

ticking-keeps : Keeps ticking
unfolding Keeps
ticking-keeps p is = ticking-at p.level p.slots p.state is.level is.state is.slots

-- ---- goals in goals

all-keep : (a b : Action) → Keeps a → Keeps b → Keeps (λ p. then (a p) b)
unfolding Keeps
all-keep a b x y p is = onward-keeps p b y (a p) (x p is)

any-keep : (a b : Action) → Keeps a → Keeps b → Keeps (λ p. alt (a p) (b p))
unfolding Keeps
any-keep a b x y p is = each-alt (PlaceLater p) (a p) (b p) (x p is) (y p is)

chosen-keeps : (t a b : Action) → Keeps t → Keeps a → Keeps b → Keeps (λ p. chosen (strictly t p) a (b p))
unfolding Keeps
chosen-keeps t a b x y z p is =
    each-chosen (PlaceLater p) (PlaceLater p) (strictly t p) a (b p) (strictly-keeps t x p is) (λ q h. from-later p q h.1 (a q) (y q h.0)) (z p is)

negated-keeps : (a : Action) → Keeps (λ p. negated (strictly a p) p)
unfolding Keeps
negated-keeps a p is = each-negated (PlaceLater p) (strictly a p) p (place-itself p is)

first-keeps : (a : Action) → Keeps a → Keeps (λ p. first (strictly a p))
unfolding Keeps
first-keeps a x p is = each-first (PlaceLater p) (strictly a p) (strictly-keeps a x p is)

-- a place with a slot filled
filled-place : (p : Point) (s : State) (e : Places) (k : ℕ) (t : Tree) → IsPlace p → CalmLater p.state s → PlacesBelow (next s) e → SpeaksBelow (next s) t →
    PlaceLater p (with_slot (record { level = p.level; slots = e; state = s }) k t)
filled-place p s e k t is h slots this = (record { level = is.level; state = h.0; slots = places-set (next s) e k t slots this }, h.1)

collecting-keeps : (a : Action) (k into : ℕ) → Keeps (collecting a k into)
unfolding Keeps collecting
collecting-keeps a k into p is =
    each-collected (PlaceLater p) (then (strictly a p) (λ q. copyable (slot_value k q.slots q.state))) (λ t. t) (λ ts. one (with_list p into ts))
    (λ ts.
    let s : State = with_new_variables (new_in_all ts) p.state in
    let many : next s ≡ next p.state + new_in_all ts = news-next (new_in_all ts) p.state in
    let later : CalmLater p.state s = news-calm (new_in_all ts) p.state is.state in
    each-one (PlaceLater p) (with_list p into ts)
    (filled-place p s p.slots into (list_of_copies (next p.state) ts) is later (places-more (next p.state) (next s) p.slots later.1 is.slots)
    (speaks-more (next p.state + new_in_all ts) (next s) (list_of_copies (next p.state) ts) (omega (arith, many)) (copies-below (next p.state) ts))))

counting-keeps : (a : Action) (into : ℕ) → Keeps (counting a into)
unfolding Keeps counting
counting-keeps a into p is =
    each-counted (PlaceLater p) (strictly a p) (λ n. one (with_slot p into (int (pos n))))
    (λ n. each-one (PlaceLater p) (with_slot p into (int (pos n)))
    (filled-place p p.state p.slots into (int (pos n)) is (calm-itself p.state is.state) is.slots (int-below (next p.state) (pos n))))

handled-keeps : (b : Action) → Keeps b → (p : Point) → IsPlace p → (raised : Tree) (o : Option State) → ((r : State) → o ≡ Some r → Left p.state r) →
    EachAnswer (PlaceLater p) (handled_in p.state raised (λ r. b (in_state p r)) o)
unfolding Keeps EachAnswer
handled-keeps b x p is raised None h = tt
handled-keeps b x p is raised (Some s) h =
    each-then (CalmLater p.state) (PlaceLater p) (settled p.state s) (λ r. b (in_state p r)) (settled-calm p.state s is.state (h s refl))
    (λ r k. from-later p (in_state p r) k.1 (b (in_state p r)) (x (in_state p r) (in-later p r is k).0))

-- a ball, copied into new variables, is unified with a pattern
pub ball-left : (s r : State) (ball raised : Tree) → IsCalm s → SpeaksBelow (next s) ball →
    unified (with_new_variables (new_variables raised) s) ball (copy (next s) raised) ≡ Some r → Left s r
ball-left s r ball raised is below e =
    let q : State = with_new_variables (new_variables raised) s in
    let many : next q ≡ next s + new_variables raised = news-next (new_variables raised) s in
    let made : Left s q = left-news (new_variables raised) s is.state is.settles in
    left-then s q r made
    (left-unified q r ball (copy (next s) raised) made.state made.settles (speaks-more (next s) (next q) ball made.follows.count below)
    (speaks-more (next s + new_variables raised) (next q) (copy (next s) raised) (omega (arith, many)) (copy-below (next s) raised)) e)

catching-keeps : (a : Action) (ball : Tree) (b : Action) → Keeps a → Keeps b → Keeps (catching a ball b)
unfolding Keeps catching
catching-keeps a ball b x y p is =
    let e : Evaluated = evaluated ball p.slots p.state in
    let below : CalmEvaluated p.state e = evaluated-calm ball p.slots p.state is.state is.slots in
    let q : Point = after_term p e in
    let good : IsPlace q = record { level = is.level; state = below.state; slots = below.slots } in
    from-later p q below.more (caught (strictly a q) (handling q.state e.tree (λ r. b (in_state q r))))
    (each-caught (PlaceLater q) (strictly a q) (handling q.state e.tree (λ r. b (in_state q r))) (strictly-keeps a x q good)
    (λ raised. handled-keeps b y q good raised (unified (with_new_variables (new_variables raised) q.state) e.tree (copy (next q.state) raised))
    (λ r same. ball-left q.state r e.tree raised below.state below.below same)))

-- ---- calls

-- so it is of calls by name
pub record NamesKeep (b : Builtins) : Type 0 where
  pub predicates : (l : Level) → LevelKeeps l → (name : List ℕ) (ts : Trees) (s : State) → IsCalm s → TreesBelow (next s) ts → EachAnswer (CalmLater s) (predicate_by b l name ts s)
  pub functions : (l : Level) → LevelKeeps l → (name : List ℕ) (ts : Trees) (s : State) → IsCalm s → TreesBelow (next s) ts → EachAnswer (AppliedLater s) (function_by b l name ts s)

calling-keeps : (b : Builtins) → NamesKeep b → (name : List ℕ) (args : List Tree) → Keeps (calling b name args)
unfolding Keeps calling
calling-keeps b n name args p is =
    let all : EvaluatedAll = evaluated_all (trees_of args) p.slots p.state in
    let a : CalmAll p.state all = evaluated-all-calm (trees_of args) p.slots p.state is.state is.slots in
    each-then (CalmLater all.state) (PlaceLater p) (predicate_by b p.level name all.trees all.state) (λ s. one (in_state (after_arguments p all) s))
    (n.predicates p.level is.level name all.trees all.state a.state a.below)
    (λ s h. each-one (PlaceLater p) (in_state (after_arguments p all) s)
    (record { level = is.level; state = h.0; slots = places-more (next all.state) (next s) all.slots h.1 a.slots }, omega (arith, a.more, h.1)))

applying-keeps : (b : Builtins) → NamesKeep b → (name : List ℕ) (args : List Tree) (into : ℕ) → Keeps (applying b name args into)
unfolding Keeps applying
applying-keeps b n name args into p is =
    let all : EvaluatedAll = evaluated_all (trees_of args) p.slots p.state in
    let a : CalmAll p.state all = evaluated-all-calm (trees_of args) p.slots p.state is.state is.slots in
    each-then (AppliedLater all.state) (PlaceLater p) (function_by b p.level name all.trees all.state)
    (λ x. one (with_slot (in_state (after_arguments p all) x.state) into x.value))
    (n.functions p.level is.level name all.trees all.state a.state a.below)
    (λ x h. each-one (PlaceLater p) (with_slot (in_state (after_arguments p all) x.state) into x.value)
    (filled-place p x.state all.slots into x.value is (h.0.0, omega (arith, a.more, h.0.1)) (places-more (next all.state) (next x.state) all.slots h.0.1 a.slots) h.1))

-- ---- all goals

mutual
  unfolding meaning

  pub goal-keeps : (b : Builtins) → NamesKeep b → (g : GoalTree) → Keeps (meaning b g)
  goal-keeps b n truth = draining-keeps succeeding succeeding-keeps
  goal-keeps b n fail = draining-keeps failing failing-keeps
  goal-keeps b n tick = draining-keeps ticking ticking-keeps
  goal-keeps b n (call name args) = draining-keeps (calling b name args) (calling-keeps b n name args)
  goal-keeps b n (apply name args slot) = draining-keeps (applying b name args slot) (applying-keeps b n name args slot)
  goal-keeps b n (seq gs) = draining-keeps (meaning_of_all b gs) (goals-keep b n gs)
  goal-keeps b n (alternatives gs) = draining-keeps (meaning_of_any b gs) (branches-keep b n gs)
  goal-keeps b n (if_else test yes_goal other) =
      draining-keeps (λ p. chosen (strictly (meaning b test) p) (meaning b yes_goal) (meaning b other p))
      (chosen-keeps (meaning b test) (meaning b yes_goal) (meaning b other) (goal-keeps b n test) (goal-keeps b n yes_goal) (goal-keeps b n other))
  goal-keeps b n (not g) = draining-keeps (λ p. negated (strictly (meaning b g) p) p) (negated-keeps (meaning b g))
  goal-keeps b n (once g) = draining-keeps (λ p. first (strictly (meaning b g) p)) (first-keeps (meaning b g) (goal-keeps b n g))
  goal-keeps b n (collect g k into) = draining-keeps (collecting (meaning b g) k into) (collecting-keeps (meaning b g) k into)
  goal-keeps b n (count g into) = draining-keeps (counting (meaning b g) into) (counting-keeps (meaning b g) into)
  goal-keeps b n (catch g ball handler) =
      draining-keeps (catching (meaning b g) ball (meaning b handler)) (catching-keeps (meaning b g) ball (meaning b handler) (goal-keeps b n g) (goal-keeps b n handler))

  goals-keep : (b : Builtins) → NamesKeep b → (gs : GoalTrees) → Keeps (meaning_of_all b gs)
  goals-keep b n no_goals = succeeding-keeps
  goals-keep b n (goal g gs) = all-keep (meaning b g) (meaning_of_all b gs) (goal-keeps b n g) (goals-keep b n gs)

  branches-keep : (b : Builtins) → NamesKeep b → (gs : GoalTrees) → Keeps (meaning_of_any b gs)
  branches-keep b n no_goals = failing-keeps
  branches-keep b n (goal g gs) = any-keep (meaning b g) (meaning_of_any b gs) (goal-keeps b n g) (branches-keep b n gs)
