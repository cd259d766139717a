-- More depth only adds to each goal of the core language, in both runs.
use Rattle.std.specs.Prelude.{ℕ, List, Option, Some, None, pos, slice_set}
use Rattle.pi_terms.specs.Tree.{Tree, int, trees_of}
use Rattle.pi_terms.specs.Places.{Places}
use Rattle.pi_terms.specs.Copy.{copy, new_variables}
use Rattle.pi_constraints.specs.State.{State, next}
use Rattle.pi_constraints.specs.Unify.{unified}
use Rattle.pi_constraints.specs.Evaluation.{Evaluated, evaluated, EvaluatedAll, evaluated_all, with_new_variables}
use Rattle.pi_core.specs.GoalTree.{GoalTree, truth, fail, tick, call, apply, seq, alternatives as any_of, if_else, not, once, collect, count, catch, GoalTrees, no_goals, goal}
use Rattle.pi_traces.specs.Trace.{Trace, Done, Raise, done, end, one, then, first}
use Rattle.pi_traces.specs.Control.{negated, collected, counted}
use Rattle.pi_traces.specs.Depth.{Below}
use Rattle.pi_traces.specs.Related.{BelowBy, end_by}
use Rattle.pi_traces.proofs.BelowLemmas.{below-refl, below-then}
use Rattle.pi_traces.proofs.RelatedLemmas.{Same, by-same, by-one, by-then, by-then_same, by-first, by-negated, by-collected, by-counted}
use Rattle.pi_meaning.specs.Shared.Level.{LevelBelow, CallsBelow}
use Rattle.pi_meaning.specs.Shared.Settle.{settled}
use Rattle.pi_meaning.specs.CoreMeaning.Builtins.{function_by}
use Rattle.pi_meaning.specs.CoreMeaning.Meaning.{slot_value, copyable}
use Rattle.pi_resume_spec.specs.Resumed.{Search, simple, alternatives, chosen_search}
use Rattle.pi_resume_spec.specs.Searches.{Searches, SearchLevel, bottom, above, plain_calls, plain_level, searches_at, Spot, Tries, without_paths, only, draining, strictly}
use Rattle.pi_resume_spec.specs.ByName.{Offers, handled_in, handling}
use Rattle.pi_resume_spec.specs.Goals.{with_slot, succeeding, failing, ticking, predicate_by, calling, applying, with_list, strict, collecting, counting, catching, search, search_all, search_any}
use Rattle.pi_resume_spec.specs.More.{SearchBelow, SearchesBelow, SearchLevelBelow, OffersOnlyAdd}
use Rattle.pi_resume_spec.proofs.MoreLemmas.{SearchBy, search-itself, without-by, simple-by, only-by, deep-by, SearchesBy, sequence-by, sequence-same, AllBy, alternatives-by, HandlersBy, caught-by, ticked-by, chosen-by}

-- ---- levels and places

pub searches-below : (l m : SearchLevel) → SearchLevelBelow l m → SearchesBelow (searches_at l) (searches_at m)
searches-below (bottom c) m h = h
searches-below (above c l) (bottom d) h = absurd h
searches-below (above c l) (above d m) h = h.0

without-below : {A : Type 0} (s t : Search A) → SearchBelow s t → Below (without_paths s) (without_paths t)
without-below s t h = below-then s.ways t.ways (λ w. one w.answer) (λ w. one w.answer) h.ways (λ w. below-refl (one w.answer))

plain-calls : (c d : Searches) → SearchesBelow c d → CallsBelow (plain_calls c) (plain_calls d)
plain-calls c d h = record {
  called = λ name ts s. without-below (c.called name ts s) (d.called name ts s) (h.called name ts s);
  applied = h.applied;
  drained = λ s. without-below (c.drained s) (d.drained s) (h.drained s);
}

-- the levels of the core meaning that they are without paths
pub plain-below : (l m : SearchLevel) → SearchLevelBelow l m → LevelBelow (plain_level l) (plain_level m)
unfolding plain_level
plain-below (bottom c) (bottom d) h = plain-calls c d h
plain-below (bottom c) (above d m) h = plain-calls c d h
plain-below (above c l) (bottom d) h = absurd h
plain-below (above c l) (above d m) h = (plain-calls c d h.0, plain-below l m h.1)

abbrev pub spot : SearchLevel → Places → State → Spot
spot l e s = record { level = l; slots = e; state = s }

-- the same slots and state, at a level below another
pub data SpotBelow : Spot → Spot → Type 0 where
  same_spot : {l m : SearchLevel} → SearchLevelBelow l m → (e : Places) (s : State) → SpotBelow (spot l e s) (spot m e s)

-- a goal does the same and maybe more at a higher level
unfoldable pub IsMore : Tries → Type 0
IsMore act = (l m : SearchLevel) → SearchLevelBelow l m → (e : Places) (s : State) → SearchBy SpotBelow (act (spot l e s)) (act (spot m e s))

pub at-spots : (act : Tries) → IsMore act → (p q : Spot) → SpotBelow p q → SearchBy SpotBelow (act p) (act q)
unfolding IsMore
at-spots act a _ _ (same_spot {l = l} {m = m} h e s) = a l m h e s

after-spots : (act : Tries) → IsMore act → SearchesBy SpotBelow SpotBelow act act
unfolding SearchesBy
after-spots act a p q h = at-spots act a p q h

pub draining-more : (act : Tries) → IsMore act → IsMore (draining act)
unfolding IsMore draining
draining-more act a l m h e s =
    sequence-same SpotBelow ((searches_at l).drained s) ((searches_at m).drained s) (λ r. act (spot l e r)) (λ r. act (spot m e r)) ((searches-below l m h).drained s) (λ r. a l m h e r)

succeeding-more : IsMore succeeding
unfolding IsMore
succeeding-more l m h e s = only-by SpotBelow (spot l e s) (spot m e s) (same_spot h e s)

failing-more : IsMore failing
unfolding IsMore
failing-more l m h e s = simple-by SpotBelow done done (end_by Done)

pub strictly-more : (act : Tries) → IsMore act → IsMore (strictly act)
unfolding IsMore strictly
strictly-more act a l m h e s =
    sequence-by SpotBelow SpotBelow (act (spot l e s)) (act (spot m e s)) (draining (λ q. only q)) (draining (λ q. only q)) (a l m h e s)
    (after-spots (draining (λ q. only q)) (draining-more (λ q. only q) succeeding-more))

-- at a strict place
strict-more : (act : Tries) → IsMore act → (l m : SearchLevel) → SearchLevelBelow l m → (e : Places) (s : State) → BelowBy SpotBelow (strict act (spot l e s)) (strict act (spot m e s))
unfolding IsMore
strict-more act a l m h e s = without-by SpotBelow (strictly act (spot l e s)) (strictly act (spot m e s)) (strictly-more act a l m h e s)

pub strict-at-spots : (act : Tries) → IsMore act → (p q : Spot) → SpotBelow p q → BelowBy SpotBelow (strict act p) (strict act q)
strict-at-spots act a _ _ (same_spot {l = l} {m = m} h e s) = strict-more act a l m h e s

ticking-more : IsMore ticking
unfolding IsMore
ticking-more (bottom c) m h e s = deep-by SpotBelow (ticking (spot m e s))
ticking-more (above c l) (bottom d) h e s = absurd h
ticking-more (above c l) (above d m) h e s = ticked-by SpotBelow (only (spot l e s)) (only (spot m e s)) (only-by SpotBelow (spot l e s) (spot m e s) (same_spot h.1 e s))

-- ---- calls

calling-more : (b : Offers) → OffersOnlyAdd b → (name : List ℕ) (args : List Tree) → IsMore (calling b name args)
unfolding IsMore calling
calling-more b adds name args l m h e s =
    let all : EvaluatedAll = evaluated_all (trees_of args) e s in
    sequence-same SpotBelow (predicate_by b l name all.trees all.state) (predicate_by b m name all.trees all.state) (λ r. only (spot l all.slots r)) (λ r. only (spot m all.slots r))
    (adds.predicates l m h name all.trees all.state) (λ r. only-by SpotBelow (spot l all.slots r) (spot m all.slots r) (same_spot h all.slots r))

applying-more : (b : Offers) → OffersOnlyAdd b → (name : List ℕ) (args : List Tree) (into : ℕ) → IsMore (applying b name args into)
unfolding IsMore applying
applying-more b adds name args into l m h e s =
    let all : EvaluatedAll = evaluated_all (trees_of args) e s in
    let t = function_by b.plain (plain_level l) name all.trees all.state in
    let u = function_by b.plain (plain_level m) name all.trees all.state in
    simple-by SpotBelow (then t (λ a. one (spot l (slice_set all.slots into (Some a.value)) a.state))) (then u (λ a. one (spot m (slice_set all.slots into (Some a.value)) a.state)))
    (by-then_same SpotBelow t u (λ a. one (spot l (slice_set all.slots into (Some a.value)) a.state)) (λ a. one (spot m (slice_set all.slots into (Some a.value)) a.state))
    (adds.plain.functions (plain_level l) (plain_level m) (plain-below l m h) name all.trees all.state)
    (λ a. by-one SpotBelow (spot l (slice_set all.slots into (Some a.value)) a.state) (spot m (slice_set all.slots into (Some a.value)) a.state) (same_spot h (slice_set all.slots into (Some a.value)) a.state)))

-- ---- goals in goals

chosen-more : (test act other : Tries) → IsMore test → IsMore act → IsMore other → IsMore (λ p. chosen_search (strict test p) act (other p))
unfolding IsMore
chosen-more test act other x y z l m h e s =
    chosen-by SpotBelow SpotBelow (strict test (spot l e s)) (strict test (spot m e s)) act act (other (spot l e s)) (other (spot m e s)) (strict-more test x l m h e s) (after-spots act y) (z l m h e s)

negated-more : (act : Tries) → IsMore act → IsMore (λ p. simple (negated (strict act p) p))
unfolding IsMore
negated-more act a l m h e s =
    simple-by SpotBelow (negated (strict act (spot l e s)) (spot l e s)) (negated (strict act (spot m e s)) (spot m e s))
    (by-negated SpotBelow SpotBelow (strict act (spot l e s)) (strict act (spot m e s)) (spot l e s) (spot m e s) (strict-more act a l m h e s) (same_spot h e s))

first-more : (act : Tries) → IsMore act → IsMore (λ p. simple (first (strict act p)))
unfolding IsMore
first-more act a l m h e s =
    simple-by SpotBelow (first (strict act (spot l e s))) (first (strict act (spot m e s))) (by-first SpotBelow (strict act (spot l e s)) (strict act (spot m e s)) (strict-more act a l m h e s))

slot-value-same : (k : ℕ) (p q : Spot) → SpotBelow p q → BelowBy Same (copyable (slot_value k p.slots p.state)) (copyable (slot_value k q.slots q.state))
slot-value-same k _ _ (same_spot {l = l} h e s) = by-same (copyable (slot_value k e s))

with-list-more : (into : ℕ) (ts : List Tree) (l m : SearchLevel) → SearchLevelBelow l m → (e : Places) (s : State) → SpotBelow (with_list (spot l e s) into ts) (with_list (spot m e s) into ts)
with-list-more into ts l m h e s = let p : Spot = with_list (spot l e s) into ts in same_spot h p.slots p.state

collecting-more : (act : Tries) (k into : ℕ) → IsMore act → IsMore (collecting act k into)
unfolding IsMore collecting
collecting-more act k into a l m h e s =
    let value : Spot → Trace Tree = λ q. copyable (slot_value k q.slots q.state) in
    let t : Trace Tree = then (strict act (spot l e s)) value in
    let u : Trace Tree = then (strict act (spot m e s)) value in
    let f : List Tree → Trace Spot = λ ts. one (with_list (spot l e s) into ts) in
    let g : List Tree → Trace Spot = λ ts. one (with_list (spot m e s) into ts) in
    simple-by SpotBelow (collected t (λ x. x) f) (collected u (λ x. x) g)
    (by-collected SpotBelow t u f g (by-then SpotBelow Same (strict act (spot l e s)) (strict act (spot m e s)) value value (strict-more act a l m h e s) (slot-value-same k))
    (λ ts. by-one SpotBelow (with_list (spot l e s) into ts) (with_list (spot m e s) into ts) (with-list-more into ts l m h e s)))

counting-more : (act : Tries) (into : ℕ) → IsMore act → IsMore (counting act into)
unfolding IsMore counting
counting-more act into a l m h e s =
    let f : ℕ → Trace Spot = λ n. one (with_slot (spot l e s) into (int (pos n))) in
    let g : ℕ → Trace Spot = λ n. one (with_slot (spot m e s) into (int (pos n))) in
    simple-by SpotBelow (counted (strict act (spot l e s)) f) (counted (strict act (spot m e s)) g)
    (by-counted SpotBelow SpotBelow (strict act (spot l e s)) (strict act (spot m e s)) f g (strict-more act a l m h e s)
    (λ n. by-one SpotBelow (with_slot (spot l e s) into (int (pos n))) (with_slot (spot m e s) into (int (pos n))) (same_spot h (slice_set e into (Some (int (pos n)))) s)))

pub handled-more : {A B : Type 0} (R : A → B → Type 0) (s : State) (raised : Tree) (f : State → Search A) (g : State → Search B) → ((r : State) → SearchBy R (f r) (g r)) → (o : Option State) →
    SearchBy R (handled_in s raised f o) (handled_in s raised g o)
handled-more R s raised f g all None = simple-by R (end (Raise raised)) (end (Raise raised)) (end_by (Raise raised))
handled-more R s raised f g all (Some r) = sequence-same R (simple (settled s r)) (simple (settled s r)) f g (search-itself (simple (settled s r))) all

catching-more : (act : Tries) (ball : Tree) (handler : Tries) → IsMore act → IsMore handler → IsMore (catching act ball handler)
unfolding IsMore catching HandlersBy
catching-more act ball handler a b l m h e s =
    let c : Evaluated = evaluated ball e s in
    caught-by SpotBelow (strictly act (spot l c.slots c.state)) (strictly act (spot m c.slots c.state))
    (handling c.state c.tree (λ x. handler (spot l c.slots x))) (handling c.state c.tree (λ x. handler (spot m c.slots x)))
    (strictly-more act a l m h c.slots c.state)
    (λ raised. handled-more SpotBelow c.state raised (λ x. handler (spot l c.slots x)) (λ x. handler (spot m c.slots x)) (λ x. b l m h c.slots x)
    (unified (with_new_variables (new_variables raised) c.state) c.tree (copy (next c.state) raised)))

-- ---- all goals

mutual
  unfolding search IsMore AllBy

  pub goal-more : (b : Offers) → OffersOnlyAdd b → (g : GoalTree) → IsMore (search b g)
  goal-more b adds truth = draining-more succeeding succeeding-more
  goal-more b adds fail = draining-more failing failing-more
  goal-more b adds tick = draining-more ticking ticking-more
  goal-more b adds (call name args) = draining-more (calling b name args) (calling-more b adds name args)
  goal-more b adds (apply name args slot) = draining-more (applying b name args slot) (applying-more b adds name args slot)
  goal-more b adds (seq gs) = draining-more (search_all b gs) (goals-more b adds gs)
  goal-more b adds (any_of gs) = draining-more (λ p. alternatives (search_any b gs p)) (λ l m h e s. alternatives-by SpotBelow (search_any b gs (spot l e s)) (search_any b gs (spot m e s)) (branches-more b adds gs l m h e s))
  goal-more b adds (if_else test act other) =
      draining-more (λ p. chosen_search (strict (search b test) p) (search b act) (search b other p))
      (chosen-more (search b test) (search b act) (search b other) (goal-more b adds test) (goal-more b adds act) (goal-more b adds other))
  goal-more b adds (not g) = draining-more (λ p. simple (negated (strict (search b g) p) p)) (negated-more (search b g) (goal-more b adds g))
  goal-more b adds (once g) = draining-more (λ p. simple (first (strict (search b g) p))) (first-more (search b g) (goal-more b adds g))
  goal-more b adds (collect g k into) = draining-more (collecting (search b g) k into) (collecting-more (search b g) k into (goal-more b adds g))
  goal-more b adds (count g into) = draining-more (counting (search b g) into) (counting-more (search b g) into (goal-more b adds g))
  goal-more b adds (catch g ball handler) = draining-more (catching (search b g) ball (search b handler)) (catching-more (search b g) ball (search b handler) (goal-more b adds g) (goal-more b adds handler))

  pub goals-more : (b : Offers) → OffersOnlyAdd b → (gs : GoalTrees) → IsMore (search_all b gs)
  goals-more b adds no_goals l m h e s = only-by SpotBelow (spot l e s) (spot m e s) (same_spot h e s)
  goals-more b adds (goal g gs) l m h e s =
      sequence-by SpotBelow SpotBelow (search b g (spot l e s)) (search b g (spot m e s)) (search_all b gs) (search_all b gs) (goal-more b adds g l m h e s) (after-spots (search_all b gs) (goals-more b adds gs))

  pub branches-more : (b : Offers) → OffersOnlyAdd b → (gs : GoalTrees) (l m : SearchLevel) → SearchLevelBelow l m → (e : Places) (s : State) →
      AllBy SpotBelow (search_any b gs (spot l e s)) (search_any b gs (spot m e s))
  branches-more b adds no_goals l m h e s = tt
  branches-more b adds (goal g gs) l m h e s = (goal-more b adds g l m h e s, branches-more b adds gs l m h e s)
