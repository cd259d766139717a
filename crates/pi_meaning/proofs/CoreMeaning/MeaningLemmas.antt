-- Lemmas on the core meaning: a goal does the same and maybe more at a higher level. The goals may be run with other built-ins there, where these do so in each
-- call that the goal makes.
use Rattle.std.proofs.Common.{◌≡◌, ℕ, suc, Bool, true, false, List, [], ◌∷◌, length, refl, sym, subst, ap, ◌∙◌}
use Rattle.std.specs.Prelude.{Option, Some, None, pos, slice_set, ⊤}
use Rattle.pi_terms.specs.Tree.{Tree, int, Trees, no_trees, tree, trees_of, tree_count}
use Rattle.pi_terms.specs.Places.{Places}
use Rattle.pi_constraints.specs.State.{State, next}
use Rattle.pi_terms.specs.Copy.{copy, new_variables}
use Rattle.pi_constraints.specs.Unify.{unified}
use Rattle.pi_core.specs.GoalTree.{GoalTree, truth, fail, tick, call, apply, seq, alternatives, if_else, not, once, collect, count, catch, GoalTrees, no_goals, goal}
use Rattle.pi_traces.specs.Trace.{Done, Raise, Tick, one, then, first}
use Rattle.pi_traces.specs.Control.{negated, chosen}
use Rattle.pi_traces.specs.Depth.{Below}
use Rattle.pi_traces.specs.Related.{BelowBy, deeper_by, end_by, note_by}
use Rattle.pi_meaning.specs.CoreMeaning.Builtins.{Builtins, predicate_by, function_by, BuiltinsOnlyAdd}
use Rattle.pi_meaning.specs.Shared.Handling.{handled_in, handling}
use Rattle.pi_meaning.specs.Shared.Settle.{settled}
use Rattle.pi_constraints.specs.Evaluation.{Evaluated, evaluated, EvaluatedAll, evaluated_all, with_new_variables}
use Rattle.pi_meaning.specs.Shared.Level.{Level, lowest, over, Point, CallsBelow, LevelBelow, PointBelow, same_but_level, calls_at}
use Rattle.pi_meaning.specs.CoreMeaning.Meaning.{Action, with_slot, draining, strictly, succeeding, failing, ticking, calling, applying, slot_value, copyable, with_list, collecting, counting, catching, meaning, meaning_of_all, meaning_of_any}
use Rattle.pi_traces.proofs.BelowLemmas.{below-refl}
use Rattle.pi_traces.proofs.RelatedLemmas.{Same, by-same, by-one, by-alt, by-then, by-then_same, by-first, by-negated, by-chosen, by-collected, by-counted, by-caught}

-- the place at a level
abbrev pub place : Level → Places → State → Point
place l e s = record { level = l; slots = e; state = s }

-- an action does the same as another one at a higher level, and maybe less
pub IsBelow : Action → Action → Type 0
IsBelow act other = (l m : Level) → LevelBelow l m → (e : Places) (s : State) → BelowBy PointBelow (act (place l e s)) (other (place m e s))

-- an action does the same and maybe more at a higher level
abbrev pub IsMonotone : Action → Type 0
IsMonotone act = IsBelow act act

pub calls-below : (l m : Level) → LevelBelow l m → CallsBelow (calls_at l) (calls_at m)
calls-below (lowest c) m h = h
calls-below (over c l) (lowest d) h = absurd h
calls-below (over c l) (over d m) h = h.0

-- at two places, of which one is below the other
pub below-points : (act other : Action) → IsBelow act other → (p q : Point) → PointBelow p q → BelowBy PointBelow (act p) (other q)
unfolding IsBelow
below-points act other a _ _ (same_but_level {l = l} {m = m} h e s) = a l m h e s

pub at-points : (act : Action) → IsMonotone act → (p q : Point) → PointBelow p q → BelowBy PointBelow (act p) (act q)
at-points act a p q h = below-points act act a p q h

draining-below : (act other : Action) → IsBelow act other → IsBelow (draining act) (draining other)
unfolding IsBelow draining
draining-below act other a l m h e s =
    by-then_same PointBelow ((calls_at l).drained s) ((calls_at m).drained s) (λ r. act (place l e r)) (λ r. other (place m e r))
    ((calls-below l m h).drained s) (λ r. a l m h e r)

succeeding-monotone : IsMonotone succeeding
unfolding IsBelow
succeeding-monotone l m h e s = by-one PointBelow (place l e s) (place m e s) (same_but_level h e s)

failing-monotone : IsMonotone failing
unfolding IsBelow
failing-monotone l m h e s = end_by Done

pub strictly-below : (act other : Action) → IsBelow act other → IsBelow (strictly act) (strictly other)
unfolding IsBelow strictly
strictly-below act other a l m h e s =
    by-then PointBelow PointBelow (act (place l e s)) (other (place m e s)) (draining (λ q. one q)) (draining (λ q. one q)) (a l m h e s)
    (λ p q r. at-points (draining (λ q. one q)) (draining-below (λ q. one q) (λ q. one q) succeeding-monotone) p q r)

ticking-monotone : IsMonotone ticking
unfolding IsBelow
ticking-monotone (lowest c) m h e s = deeper_by (ticking (place m e s))
ticking-monotone (over c l) (lowest d) h e s = absurd h
ticking-monotone (over c l) (over d m) h e s = note_by Tick (by-one PointBelow (place l e s) (place m e s) (same_but_level h.1 e s))

-- ---- calls

pub as-many : (ts : Trees) (e : Places) (s : State) → tree_count (evaluated_all ts e s).trees ≡ tree_count ts
unfolding tree_count evaluated_all
as-many no_trees e s = refl
as-many (tree t ts) e s = let first : Evaluated = evaluated t e s in ap suc (as-many ts first.slots first.state)

pub count-of : (ts : List Tree) → tree_count (trees_of ts) ≡ length ts
unfolding tree_count
count-of [] = refl
count-of (t ∷ ts) = ap suc (count-of ts)

-- what may be called: of functions where the first part is true, a name with a number of arguments
abbrev pub Callable : Type 1
Callable = Bool → List ℕ → ℕ → Type 0

-- the second built-ins do the same and maybe more at a higher level, in calls of this kind
pub record CallsMore (K : Callable) (b c : Builtins) : Type 0 where
  pub predicates : (l m : Level) → LevelBelow l m → (name : List ℕ) (ts : Trees) (s : State) → K false name (tree_count ts) → Below (predicate_by b l name ts s) (predicate_by c m name ts s)
  pub functions : (l m : Level) → LevelBelow l m → (name : List ℕ) (ts : Trees) (s : State) → K true name (tree_count ts) → Below (function_by b l name ts s) (function_by c m name ts s)

evaluated-kind : (K : Callable) (function : Bool) (name : List ℕ) (args : List Tree) (e : Places) (s : State) → K function name (length args) →
    K function name (tree_count (evaluated_all (trees_of args) e s).trees)
evaluated-kind K function name args e s k = subst (K function name) (sym (as-many (trees_of args) e s ∙ count-of args)) k

calling-below : (K : Callable) (b c : Builtins) → CallsMore K b c → (name : List ℕ) (args : List Tree) → K false name (length args) → IsBelow (calling b name args) (calling c name args)
unfolding IsBelow calling
calling-below K b c more name args k l m h e s =
    let all : EvaluatedAll = evaluated_all (trees_of args) e s in
    by-then_same PointBelow (predicate_by b l name all.trees all.state) (predicate_by c m name all.trees all.state)
    (λ r. one (place l all.slots r)) (λ r. one (place m all.slots r)) (more.predicates l m h name all.trees all.state (evaluated-kind K false name args e s k))
    (λ r. by-one PointBelow (place l all.slots r) (place m all.slots r) (same_but_level h all.slots r))

applying-below : (K : Callable) (b c : Builtins) → CallsMore K b c → (name : List ℕ) (args : List Tree) (into : ℕ) → K true name (length args) →
    IsBelow (applying b name args into) (applying c name args into)
unfolding IsBelow applying
applying-below K b c more name args into k l m h e s =
    let all : EvaluatedAll = evaluated_all (trees_of args) e s in
    by-then_same PointBelow (function_by b l name all.trees all.state) (function_by c m name all.trees all.state)
    (λ a. one (place l (slice_set all.slots into (Some a.value)) a.state)) (λ a. one (place m (slice_set all.slots into (Some a.value)) a.state))
    (more.functions l m h name all.trees all.state (evaluated-kind K true name args e s k))
    (λ a. by-one PointBelow (place l (slice_set all.slots into (Some a.value)) a.state) (place m (slice_set all.slots into (Some a.value)) a.state)
    (same_but_level h (slice_set all.slots into (Some a.value)) a.state))

-- ---- goals in goals

chosen-below : (t t' a a' b b' : Action) → IsBelow t t' → IsBelow a a' → IsBelow b b' →
    IsBelow (λ p. chosen (strictly t p) a (b p)) (λ p. chosen (strictly t' p) a' (b' p))
unfolding IsBelow
chosen-below t t' a a' b b' x y z l m h e s =
    by-chosen PointBelow PointBelow (strictly t (place l e s)) (strictly t' (place m e s)) a a' (b (place l e s)) (b' (place m e s))
    (strictly-below t t' x l m h e s) (below-points a a' y) (z l m h e s)

negated-below : (act other : Action) → IsBelow act other → IsBelow (λ p. negated (strictly act p) p) (λ p. negated (strictly other p) p)
unfolding IsBelow
negated-below act other a l m h e s =
    by-negated PointBelow PointBelow (strictly act (place l e s)) (strictly other (place m e s)) (place l e s) (place m e s)
    (strictly-below act other a l m h e s) (same_but_level h e s)

first-below : (act other : Action) → IsBelow act other → IsBelow (λ p. first (strictly act p)) (λ p. first (strictly other p))
unfolding IsBelow
first-below act other a l m h e s = by-first PointBelow (strictly act (place l e s)) (strictly other (place m e s)) (strictly-below act other a l m h e s)

-- the same slot at two places
slot-value-same : (k : ℕ) (p q : Point) → PointBelow p q → BelowBy Same (copyable (slot_value k p.slots p.state)) (copyable (slot_value k q.slots q.state))
slot-value-same k _ _ (same_but_level {l = l} h e s) = by-same (copyable (slot_value k e s))

-- the same slots and state after a list was put in
with-list-below : (into : ℕ) (ts : List Tree) (l m : Level) → LevelBelow l m → (e : Places) (s : State) →
    PointBelow (with_list (place l e s) into ts) (with_list (place m e s) into ts)
with-list-below into ts l m h e s =
    let p : Point = with_list (place l e s) into ts in same_but_level h p.slots p.state

collecting-below : (act other : Action) (k into : ℕ) → IsBelow act other → IsBelow (collecting act k into) (collecting other k into)
unfolding IsBelow collecting
collecting-below act other k into a l m h e s =
    by-collected PointBelow (then (strictly act (place l e s)) (λ q. copyable (slot_value k q.slots q.state))) (then (strictly other (place m e s)) (λ q. copyable (slot_value k q.slots q.state)))
    (λ ts. one (with_list (place l e s) into ts)) (λ ts. one (with_list (place m e s) into ts))
    (by-then PointBelow Same (strictly act (place l e s)) (strictly other (place m e s)) (λ q. copyable (slot_value k q.slots q.state)) (λ q. copyable (slot_value k q.slots q.state))
    (strictly-below act other a l m h e s) (slot-value-same k))
    (λ ts. by-one PointBelow (with_list (place l e s) into ts) (with_list (place m e s) into ts) (with-list-below into ts l m h e s))

counting-below : (act other : Action) (into : ℕ) → IsBelow act other → IsBelow (counting act into) (counting other into)
unfolding IsBelow counting
counting-below act other into a l m h e s =
    by-counted PointBelow PointBelow (strictly act (place l e s)) (strictly other (place m e s))
    (λ n. one (with_slot (place l e s) into (int (pos n)))) (λ n. one (with_slot (place m e s) into (int (pos n))))
    (strictly-below act other a l m h e s)
    (λ n. by-one PointBelow (with_slot (place l e s) into (int (pos n))) (with_slot (place m e s) into (int (pos n)))
    (same_but_level h (slice_set e into (Some (int (pos n)))) s))

handled-below : (handler other : Action) → IsBelow handler other → (l m : Level) → LevelBelow l m → (e : Places) (s : State) (raised : Tree) (r : Option State) →
    BelowBy PointBelow (handled_in s raised (λ x. handler (place l e x)) r) (handled_in s raised (λ x. other (place m e x)) r)
unfolding IsBelow
handled-below handler other a l m h e s raised None = end_by (Raise raised)
handled-below handler other a l m h e s raised (Some r) =
    by-then_same PointBelow (settled s r) (settled s r) (λ x. handler (place l e x)) (λ x. other (place m e x)) (below-refl (settled s r)) (λ x. a l m h e x)

catching-below : (act act' : Action) (ball : Tree) (handler handler' : Action) → IsBelow act act' → IsBelow handler handler' → IsBelow (catching act ball handler) (catching act' ball handler')
unfolding IsBelow catching
catching-below act act' ball handler handler' a b l m h e s =
    let c : Evaluated = evaluated ball e s in
    by-caught PointBelow (strictly act (place l c.slots c.state)) (strictly act' (place m c.slots c.state))
    (handling c.state c.tree (λ x. handler (place l c.slots x))) (handling c.state c.tree (λ x. handler' (place m c.slots x)))
    (strictly-below act act' a l m h c.slots c.state)
    (λ raised. handled-below handler handler' b l m h c.slots c.state raised
    (unified (with_new_variables (new_variables raised) c.state) c.tree (copy (next c.state) raised)))

-- ---- all goals

-- each call in a goal is of this kind
unfoldable mutual
  pub CallsIn : Callable → GoalTree → Type 0
  CallsIn K truth = ⊤
  CallsIn K fail = ⊤
  CallsIn K tick = ⊤
  CallsIn K (call name args) = K false name (length args)
  CallsIn K (apply name args slot) = K true name (length args)
  CallsIn K (seq gs) = CallsInAll K gs
  CallsIn K (alternatives gs) = CallsInAll K gs
  CallsIn K (if_else test yes_goal other) = CallsIn K test × (CallsIn K yes_goal × CallsIn K other)
  CallsIn K (not g) = CallsIn K g
  CallsIn K (once g) = CallsIn K g
  CallsIn K (collect g value into) = CallsIn K g
  CallsIn K (count g into) = CallsIn K g
  CallsIn K (catch g ball handler) = CallsIn K g × CallsIn K handler

  pub CallsInAll : Callable → GoalTrees → Type 0
  CallsInAll K no_goals = ⊤
  CallsInAll K (goal g gs) = CallsIn K g × CallsInAll K gs

mutual
  unfolding meaning IsBelow CallsIn

  pub goal-below : (K : Callable) (b c : Builtins) → CallsMore K b c → (g : GoalTree) → CallsIn K g → IsBelow (meaning b g) (meaning c g)
  goal-below K b c more truth k = draining-below succeeding succeeding succeeding-monotone
  goal-below K b c more fail k = draining-below failing failing failing-monotone
  goal-below K b c more tick k = draining-below ticking ticking ticking-monotone
  goal-below K b c more (call name args) k = draining-below (calling b name args) (calling c name args) (calling-below K b c more name args k)
  goal-below K b c more (apply name args slot) k = draining-below (applying b name args slot) (applying c name args slot) (applying-below K b c more name args slot k)
  goal-below K b c more (seq gs) k = draining-below (meaning_of_all b gs) (meaning_of_all c gs) (goals-below K b c more gs k)
  goal-below K b c more (alternatives gs) k = draining-below (meaning_of_any b gs) (meaning_of_any c gs) (branches-below K b c more gs k)
  goal-below K b c more (if_else test yes_goal other) k =
      draining-below (λ p. chosen (strictly (meaning b test) p) (meaning b yes_goal) (meaning b other p)) (λ p. chosen (strictly (meaning c test) p) (meaning c yes_goal) (meaning c other p))
      (chosen-below (meaning b test) (meaning c test) (meaning b yes_goal) (meaning c yes_goal) (meaning b other) (meaning c other)
      (goal-below K b c more test k.0) (goal-below K b c more yes_goal k.1.0) (goal-below K b c more other k.1.1))
  goal-below K b c more (not g) k =
      draining-below (λ p. negated (strictly (meaning b g) p) p) (λ p. negated (strictly (meaning c g) p) p) (negated-below (meaning b g) (meaning c g) (goal-below K b c more g k))
  goal-below K b c more (once g) k =
      draining-below (λ p. first (strictly (meaning b g) p)) (λ p. first (strictly (meaning c g) p)) (first-below (meaning b g) (meaning c g) (goal-below K b c more g k))
  goal-below K b c more (collect g value into) k =
      draining-below (collecting (meaning b g) value into) (collecting (meaning c g) value into) (collecting-below (meaning b g) (meaning c g) value into (goal-below K b c more g k))
  goal-below K b c more (count g into) k =
      draining-below (counting (meaning b g) into) (counting (meaning c g) into) (counting-below (meaning b g) (meaning c g) into (goal-below K b c more g k))
  goal-below K b c more (catch g ball handler) k =
      draining-below (catching (meaning b g) ball (meaning b handler)) (catching (meaning c g) ball (meaning c handler))
      (catching-below (meaning b g) (meaning c g) ball (meaning b handler) (meaning c handler) (goal-below K b c more g k.0) (goal-below K b c more handler k.1))

  pub goals-below : (K : Callable) (b c : Builtins) → CallsMore K b c → (gs : GoalTrees) → CallsInAll K gs → IsBelow (meaning_of_all b gs) (meaning_of_all c gs)
  goals-below K b c more no_goals k l m h e s = by-one PointBelow (place l e s) (place m e s) (same_but_level h e s)
  goals-below K b c more (goal g gs) k l m h e s =
      by-then PointBelow PointBelow (meaning b g (place l e s)) (meaning c g (place m e s)) (meaning_of_all b gs) (meaning_of_all c gs)
      (goal-below K b c more g k.0 l m h e s) (below-points (meaning_of_all b gs) (meaning_of_all c gs) (goals-below K b c more gs k.1))

  pub branches-below : (K : Callable) (b c : Builtins) → CallsMore K b c → (gs : GoalTrees) → CallsInAll K gs → IsBelow (meaning_of_any b gs) (meaning_of_any c gs)
  branches-below K b c more no_goals k l m h e s = end_by Done
  branches-below K b c more (goal g gs) k l m h e s =
      by-alt PointBelow (meaning b g (place l e s)) (meaning c g (place m e s)) (meaning_of_any b gs (place l e s)) (meaning_of_any c gs (place m e s))
      (goal-below K b c more g k.0 l m h e s) (branches-below K b c more gs k.1 l m h e s)

pub more-below : (K : Callable) (b c : Builtins) → CallsMore K b c → (g : GoalTree) → CallsIn K g → (p q : Point) → PointBelow p q → BelowBy PointBelow (meaning b g p) (meaning c g q)
more-below K b c more g k p q h = below-points (meaning b g) (meaning c g) (goal-below K b c more g k) p q h

pub more-strictly : (K : Callable) (b c : Builtins) → CallsMore K b c → (g : GoalTree) → CallsIn K g → (p q : Point) → PointBelow p q →
    BelowBy PointBelow (strictly (meaning b g) p) (strictly (meaning c g) q)
more-strictly K b c more g k p q h =
    below-points (strictly (meaning b g)) (strictly (meaning c g)) (strictly-below (meaning b g) (meaning c g) (goal-below K b c more g k)) p q h

-- ---- with the same built-ins, of which more depth only adds to each call

abbrev pub anything : Callable
anything function name k = ⊤

mutual
  unfolding CallsIn

  pub calls-any : (g : GoalTree) → CallsIn anything g
  calls-any truth = tt
  calls-any fail = tt
  calls-any tick = tt
  calls-any (call name args) = tt
  calls-any (apply name args slot) = tt
  calls-any (seq gs) = all-calls-any gs
  calls-any (alternatives gs) = all-calls-any gs
  calls-any (if_else test yes_goal other) = (calls-any test, (calls-any yes_goal, calls-any other))
  calls-any (not g) = calls-any g
  calls-any (once g) = calls-any g
  calls-any (collect g value into) = calls-any g
  calls-any (count g into) = calls-any g
  calls-any (catch g ball handler) = (calls-any g, calls-any handler)

  pub all-calls-any : (gs : GoalTrees) → CallsInAll anything gs
  all-calls-any no_goals = tt
  all-calls-any (goal g gs) = (calls-any g, all-calls-any gs)

pub only-more : (b : Builtins) → BuiltinsOnlyAdd b → CallsMore anything b b
only-more b adds = record { predicates = λ l m h name ts s k. adds.predicates l m h name ts s; functions = λ l m h name ts s k. adds.functions l m h name ts s }

pub all-monotone : (b : Builtins) → BuiltinsOnlyAdd b → (gs : GoalTrees) → IsMonotone (meaning_of_all b gs)
all-monotone b adds gs = goals-below anything b b (only-more b adds) gs (all-calls-any gs)

pub any-monotone : (b : Builtins) → BuiltinsOnlyAdd b → (gs : GoalTrees) → IsMonotone (meaning_of_any b gs)
any-monotone b adds gs = branches-below anything b b (only-more b adds) gs (all-calls-any gs)

pub meaning-below : (b : Builtins) → BuiltinsOnlyAdd b → (g : GoalTree) (p q : Point) → PointBelow p q → BelowBy PointBelow (meaning b g p) (meaning b g q)
meaning-below b adds g p q h = more-below anything b b (only-more b adds) g (calls-any g) p q h

pub strict-below : (b : Builtins) → BuiltinsOnlyAdd b → (g : GoalTree) (p q : Point) → PointBelow p q → BelowBy PointBelow (strictly (meaning b g) p) (strictly (meaning b g) q)
strict-below b adds g p q h = more-strictly anything b b (only-more b adds) g (calls-any g) p q h
