-- Goals keep what terms are followed to, where calls by name do and unification does: from any state, at each level.
use Rattle.std.proofs.Common.{◌≡◌, ℕ, List, refl}
use Rattle.std.specs.Prelude.{Option, Some, None, pos, All}
use Rattle.std.proofs.lemmas.List.Elements.{All-nil, All-cons, All-head, All-tail}
use Rattle.pi_terms.specs.Tree.{Tree, var, int, atom, comp, Trees, no_trees, tree, trees_of}
use Rattle.pi_terms.specs.Places.{Places, held}
use Rattle.pi_terms.specs.ListCopies.{new_in_all}
use Rattle.pi_terms.specs.Copy.{copy, new_variables}
use Rattle.pi_constraints.specs.State.{State, next}
use Rattle.pi_constraints.specs.Unify.{unified}
use Rattle.pi_constraints.specs.Evaluation.{Evaluated, EvaluatedAll, slot_term, evaluated, evaluated_all, with_new_variables}
use Rattle.pi_core.specs.GoalTree.{GoalTree, truth, fail, tick, call, apply, seq, alternatives, if_else, not, once, collect, count, catch, GoalTrees, no_goals, goal}
use Rattle.pi_traces.specs.Trace.{Trace, end, note, ans, one, alt, then, first, answers}
use Rattle.pi_traces.specs.Control.{negated, chosen, caught}
use Rattle.pi_traces.proofs.AnswerLemmas.{EachAnswer, each-map, each-one, each-alt, each-then, each-first, each-negated, each-chosen, each-collected, each-counted, each-caught}
use Rattle.pi_meaning.specs.Shared.Settle.{settled}
use Rattle.pi_meaning.specs.Shared.Level.{Level, lowest, over, Calls, Applied, Point, calls_at}
use Rattle.pi_meaning.specs.Shared.Handling.{handled_in, handling}
use Rattle.pi_meaning.specs.CoreMeaning.Builtins.{Builtins, predicate_by, function_by}
use Rattle.pi_meaning.specs.CoreMeaning.Meaning.{Action, in_state, with_slot, draining, strictly, succeeding, failing, ticking, calling, applying, after_arguments, after_term, slot_value, copyable, with_list, collecting, counting, catching, meaning, meaning_of_all, meaning_of_any}
use Rattle.pi_rewrite_laws.specs.Roots.{RootsStay, RootsStayIn, CallsKeepRoots, LevelKeepsRoots}
use Rattle.pi_rewrite_laws.proofs.ElementLemmas.{roots-stay-itself}
use Rattle.pi_rewrite_laws.proofs.StayLemmas.{roots-stay-then, new-variables-stay, new-stays}
use Rattle.pi_rewrite_laws.proofs.SettlingStays.{settling-stays}

-- what unification owes, in any state
abbrev pub UnifyingKeepsRoots : Type 0
UnifyingKeepsRoots = (s r : State) (t u : Tree) → unified s t u ≡ Some r → RootsStay s r

-- what holds of all answers holds of each, and back
pub each-of-all : {A : Type 0} (P : A → Type 0) (t : Trace A) → All P (answers t) → EachAnswer P t
unfolding EachAnswer answers
each-of-all P (end e) h = tt
each-of-all P (note n t) h = each-of-all P t h
each-of-all P (ans x t) h = (All-head P x (answers t) h, each-of-all P t (All-tail P x (answers t) h))

pub all-of-each : {A : Type 0} (P : A → Type 0) (t : Trace A) → EachAnswer P t → All P (answers t)
unfolding EachAnswer answers
all-of-each P (end e) h = All-nil P
all-of-each P (note n t) h = all-of-each P t h
all-of-each P (ans x t) h = All-cons P x (answers t) h.0 (all-of-each P t h.1)

-- each answer of what calls do keeps roots
pub record EachCallKeeps (c : Calls) : Type 0 where
  pub called : (name : List ℕ) (ts : Trees) (s : State) → EachAnswer (RootsStay s) (c.called name ts s)
  pub applied : (name : List ℕ) (ts : Trees) (s : State) → EachAnswer (RootsStayIn s) (c.applied name ts s)
  pub drained : (s : State) → EachAnswer (RootsStay s) (c.drained s)

pub each-call : (c : Calls) → CallsKeepRoots c → EachCallKeeps c
each-call c h = record {
  called = λ name ts s. each-of-all (RootsStay s) (c.called name ts s) (h.called name ts s);
  applied = λ name ts s. each-of-all (RootsStayIn s) (c.applied name ts s) (h.applied name ts s);
  drained = λ s. each-of-all (RootsStay s) (c.drained s) (h.drained s);
}

pub calls-keep-roots : (l : Level) → LevelKeepsRoots l → EachCallKeeps (calls_at l)
calls-keep-roots (lowest c) h = each-call c h
calls-keep-roots (over c l) h = each-call c h.0

-- and so do calls by name
pub record NamesKeepRoots (b : Builtins) : Type 0 where
  pub predicates : (l : Level) → LevelKeepsRoots l → (name : List ℕ) (ts : Trees) (s : State) → EachAnswer (RootsStay s) (predicate_by b l name ts s)
  pub functions : (l : Level) → LevelKeepsRoots l → (name : List ℕ) (ts : Trees) (s : State) → EachAnswer (λ (a : Applied). RootsStay s a.state) (function_by b l name ts s)

-- a place behind another one
pub record RootsBehind (p q : Point) : Type 0 where
  pub level : LevelKeepsRoots q.level
  pub roots : RootsStay p.state q.state

unfoldable pub KeepsRoots : Action → Type 0
KeepsRoots act = (p : Point) → LevelKeepsRoots p.level → EachAnswer (RootsBehind p) (act p)

pub behind-itself : (p : Point) → LevelKeepsRoots p.level → RootsBehind p p
behind-itself p h = record { level = h; roots = roots-stay-itself p.state }

behind-then : (p q r : Point) → RootsStay p.state q.state → RootsBehind q r → RootsBehind p r
behind-then p q r a b = record { level = b.level; roots = roots-stay-then p.state q.state r.state a b.roots }

-- what follows a place behind
onward : (p : Point) (act : Action) → KeepsRoots act → (t : Trace Point) → EachAnswer (RootsBehind p) t → EachAnswer (RootsBehind p) (then t act)
unfolding KeepsRoots
onward p act a t h = each-then (RootsBehind p) (RootsBehind p) t act h (λ q k. each-map (RootsBehind q) (RootsBehind p) (λ r m. behind-then p q r k.roots m) (act q) (a q k.level))

-- ---- evaluation makes variables alone

mutual
  unfolding evaluated

  pub evaluation-stays : (t : Tree) (e : Places) (s : State) → RootsStay s (evaluated t e s).state
  evaluation-stays (var k) e s = go (held e k)
    where
      go : (o : Option Tree) → RootsStay s (slot_term o k e s).state
      go (Some t) = roots-stay-itself s
      go None = new-stays s
  evaluation-stays (int n) e s = roots-stay-itself s
  evaluation-stays (atom name) e s = roots-stay-itself s
  evaluation-stays (comp name ts) e s = evaluations-stay ts e s

  pub evaluations-stay : (ts : Trees) (e : Places) (s : State) → RootsStay s (evaluated_all ts e s).state
  evaluations-stay no_trees e s = roots-stay-itself s
  evaluations-stay (tree t ts) e s =
      let x : Evaluated = evaluated t e s in
      roots-stay-then s x.state (evaluated_all ts x.slots x.state).state (evaluation-stays t e s) (evaluations-stay ts x.slots x.state)

-- ---- actions

draining-keeps : (act : Action) → KeepsRoots act → KeepsRoots (draining act)
unfolding KeepsRoots draining
draining-keeps act a p h =
    each-then (RootsStay p.state) (RootsBehind p) ((calls_at p.level).drained p.state) (λ s. act (in_state p s)) ((calls-keep-roots p.level h).drained p.state)
    (λ s k. each-map (RootsBehind (in_state p s)) (RootsBehind p) (λ r m. behind-then p (in_state p s) r k m) (act (in_state p s)) (a (in_state p s) h))

succeeding-keeps : KeepsRoots succeeding
unfolding KeepsRoots
succeeding-keeps p h = each-one (RootsBehind p) p (behind-itself p h)

failing-keeps : KeepsRoots failing
unfolding KeepsRoots EachAnswer
failing-keeps p h = tt

pub strictly-keeps : (act : Action) → KeepsRoots act → KeepsRoots (strictly act)
unfolding KeepsRoots strictly
strictly-keeps act a p h = onward p (draining (λ q. one q)) (draining-keeps (λ q. one q) succeeding-keeps) (act p) (a p h)

ticking-at : (l : Level) (e : Places) (s : State) → LevelKeepsRoots l → EachAnswer (RootsBehind (record { level = l; slots = e; state = s })) (ticking (record { level = l; slots = e; state = s }))
unfolding EachAnswer
ticking-at (lowest c) e s h = tt
ticking-at (over c l) e s h = (record { level = h.1; roots = roots-stay-itself s }, tt)

ticking-keeps : KeepsRoots ticking
unfolding KeepsRoots
ticking-keeps p h = ticking-at p.level p.slots p.state h

calling-keeps : (b : Builtins) → NamesKeepRoots b → (name : List ℕ) (args : List Tree) → KeepsRoots (calling b name args)
unfolding KeepsRoots calling
calling-keeps b names name args p h =
    let all : EvaluatedAll = evaluated_all (trees_of args) p.slots p.state in
    each-then (RootsStay all.state) (RootsBehind p) (predicate_by b p.level name all.trees all.state) (λ s. one (in_state (after_arguments p all) s)) (names.predicates p.level h name all.trees all.state)
    (λ s k. each-one (RootsBehind p) (in_state (after_arguments p all) s) (record { level = h; roots = roots-stay-then p.state all.state s (evaluations-stay (trees_of args) p.slots p.state) k }))

applying-keeps : (b : Builtins) → NamesKeepRoots b → (name : List ℕ) (args : List Tree) (into : ℕ) → KeepsRoots (applying b name args into)
unfolding KeepsRoots applying
applying-keeps b names name args into p h =
    let all : EvaluatedAll = evaluated_all (trees_of args) p.slots p.state in
    each-then (λ (a : Applied). RootsStay all.state a.state) (RootsBehind p) (function_by b p.level name all.trees all.state) (λ a. one (with_slot (in_state (after_arguments p all) a.state) into a.value))
    (names.functions p.level h name all.trees all.state)
    (λ a k. each-one (RootsBehind p) (with_slot (in_state (after_arguments p all) a.state) into a.value) (record { level = h; roots = roots-stay-then p.state all.state a.state (evaluations-stay (trees_of args) p.slots p.state) k }))

chosen-keeps : (t a b : Action) → KeepsRoots t → KeepsRoots a → KeepsRoots b → KeepsRoots (λ p. chosen (strictly t p) a (b p))
unfolding KeepsRoots
chosen-keeps t a b x y z p h =
    each-chosen (RootsBehind p) (RootsBehind p) (strictly t p) a (b p) (strictly-keeps t x p h) (λ q k. each-map (RootsBehind q) (RootsBehind p) (λ r m. behind-then p q r k.roots m) (a q) (y q k.level)) (z p h)

negated-keeps : (a : Action) → KeepsRoots (λ p. negated (strictly a p) p)
unfolding KeepsRoots
negated-keeps a p h = each-negated (RootsBehind p) (strictly a p) p (behind-itself p h)

first-keeps : (a : Action) → KeepsRoots a → KeepsRoots (λ p. first (strictly a p))
unfolding KeepsRoots
first-keeps a x p h = each-first (RootsBehind p) (strictly a p) (strictly-keeps a x p h)

any-keep : (a b : Action) → KeepsRoots a → KeepsRoots b → KeepsRoots (λ p. alt (a p) (b p))
unfolding KeepsRoots
any-keep a b x y p h = each-alt (RootsBehind p) (a p) (b p) (x p h) (y p h)

all-keep : (a b : Action) → KeepsRoots a → KeepsRoots b → KeepsRoots (λ p. then (a p) b)
unfolding KeepsRoots
all-keep a b x y p h = onward p b y (a p) (x p h)

collecting-keeps : (a : Action) (k into : ℕ) → KeepsRoots (collecting a k into)
unfolding KeepsRoots collecting
collecting-keeps a k into p h =
    each-collected (RootsBehind p) (then (strictly a p) (λ q. copyable (slot_value k q.slots q.state))) (λ t. t) (λ ts. one (with_list p into ts))
    (λ ts. each-one (RootsBehind p) (with_list p into ts) (record { level = h; roots = new-variables-stay (new_in_all ts) p.state }))

counting-keeps : (a : Action) (into : ℕ) → KeepsRoots (counting a into)
unfolding KeepsRoots counting
counting-keeps a into p h =
    each-counted (RootsBehind p) (strictly a p) (λ n. one (with_slot p into (int (pos n)))) (λ n. each-one (RootsBehind p) (with_slot p into (int (pos n))) (record { level = h; roots = roots-stay-itself p.state }))

handled-keeps : (b : Action) → KeepsRoots b → (p : Point) → LevelKeepsRoots p.level → (raised : Tree) (o : Option State) → ((r : State) → o ≡ Some r → RootsStay p.state r) → EachAnswer (RootsBehind p) (handled_in p.state raised (λ r. b (in_state p r)) o)
unfolding KeepsRoots EachAnswer
handled-keeps b x p h raised None stays = tt
handled-keeps b x p h raised (Some s) stays =
    each-then (RootsStay p.state) (RootsBehind p) (settled p.state s) (λ r. b (in_state p r)) (settling-stays p.state p.state s (stays s refl))
    (λ r k. each-map (RootsBehind (in_state p r)) (RootsBehind p) (λ q m. behind-then p (in_state p r) q k m) (b (in_state p r)) (x (in_state p r) h))

catching-keeps : UnifyingKeepsRoots → (a : Action) (ball : Tree) (b : Action) → KeepsRoots a → KeepsRoots b → KeepsRoots (catching a ball b)
unfolding KeepsRoots catching
catching-keeps unifying a ball b x y p h =
    let e : Evaluated = evaluated ball p.slots p.state in
    let q : Point = after_term p e in
    each-map (RootsBehind q) (RootsBehind p) (λ r m. behind-then p q r (evaluation-stays ball p.slots p.state) m) (caught (strictly a q) (handling q.state e.tree (λ r. b (in_state q r))))
    (each-caught (RootsBehind q) (strictly a q) (handling q.state e.tree (λ r. b (in_state q r))) (strictly-keeps a x q h)
    (λ raised. handled-keeps b y q h raised (unified (with_new_variables (new_variables raised) q.state) e.tree (copy (next q.state) raised))
    (λ r same. roots-stay-then q.state (with_new_variables (new_variables raised) q.state) r (new-variables-stay (new_variables raised) q.state) (unifying (with_new_variables (new_variables raised) q.state) r e.tree (copy (next q.state) raised) same))))

-- ---- goals

mutual
  unfolding meaning

  pub goal-keeps : UnifyingKeepsRoots → (b : Builtins) → NamesKeepRoots b → (g : GoalTree) → KeepsRoots (meaning b g)
  goal-keeps u b n truth = draining-keeps succeeding succeeding-keeps
  goal-keeps u b n fail = draining-keeps failing failing-keeps
  goal-keeps u b n tick = draining-keeps ticking ticking-keeps
  goal-keeps u b n (call name args) = draining-keeps (calling b name args) (calling-keeps b n name args)
  goal-keeps u b n (apply name args slot) = draining-keeps (applying b name args slot) (applying-keeps b n name args slot)
  goal-keeps u b n (seq gs) = draining-keeps (meaning_of_all b gs) (goals-keep u b n gs)
  goal-keeps u b n (alternatives gs) = draining-keeps (meaning_of_any b gs) (alternatives-keep u b n gs)
  goal-keeps u b n (if_else test then_goal other) =
      draining-keeps (λ p. chosen (strictly (meaning b test) p) (meaning b then_goal) (meaning b other p)) (chosen-keeps (meaning b test) (meaning b then_goal) (meaning b other) (goal-keeps u b n test) (goal-keeps u b n then_goal) (goal-keeps u b n other))
  goal-keeps u b n (not g) = draining-keeps (λ p. negated (strictly (meaning b g) p) p) (negated-keeps (meaning b g))
  goal-keeps u b n (once g) = draining-keeps (λ p. first (strictly (meaning b g) p)) (first-keeps (meaning b g) (goal-keeps u b n g))
  goal-keeps u b n (collect g k into) = draining-keeps (collecting (meaning b g) k into) (collecting-keeps (meaning b g) k into)
  goal-keeps u b n (count g into) = draining-keeps (counting (meaning b g) into) (counting-keeps (meaning b g) into)
  goal-keeps u b n (catch g ball handler) = draining-keeps (catching (meaning b g) ball (meaning b handler)) (catching-keeps u (meaning b g) ball (meaning b handler) (goal-keeps u b n g) (goal-keeps u b n handler))

  pub goals-keep : UnifyingKeepsRoots → (b : Builtins) → NamesKeepRoots b → (gs : GoalTrees) → KeepsRoots (meaning_of_all b gs)
  goals-keep u b n no_goals = succeeding-keeps
  goals-keep u b n (goal g gs) = all-keep (meaning b g) (meaning_of_all b gs) (goal-keeps u b n g) (goals-keep u b n gs)

  alternatives-keep : UnifyingKeepsRoots → (b : Builtins) → NamesKeepRoots b → (gs : GoalTrees) → KeepsRoots (meaning_of_any b gs)
  alternatives-keep u b n no_goals = failing-keeps
  alternatives-keep u b n (goal g gs) = any-keep (meaning b g) (meaning_of_any b gs) (goal-keeps u b n g) (alternatives-keep u b n gs)
