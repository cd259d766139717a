-- Lemmas on runs of the machine.
use Rattle.std.proofs.Common.{◌≡◌, ◌≢◌, ℕ, suc, ◌+◌, List, [], ◌∷◌, ◌++◌, refl, ap, sym, subst, ◌∙◌}
use Rattle.std.specs.Prelude.{None, replicate}
use Rattle.pi_constraints.specs.State.{empty_state}
use Rattle.pi_core.specs.CoreTree.{PredTree, QueryTree}
use Rattle.pi_traces.specs.Trace.{Trace, end, note, ans, End, Deep, Note, Tick, Emitted, noted, answered, then, emit, end_of, events_of, Out}
use Rattle.pi_traces.specs.Depth.{Below, same_note, DepthOnlyAdds}
use Rattle.pi_meaning.specs.Shared.View.{View}
use Rattle.pi_meaning.specs.CoreMeaning.Builtins.{Builtins, BuiltinsOnlyAdd}
use Rattle.pi_meaning.specs.CoreMeaning.Instances.{built_later, whole}
use Rattle.pi_meaning.specs.CoreMeaning.Rules.{level_at}
use Rattle.pi_meaning.specs.CoreMeaning.Run.{Solution, answered_with, query_trace}
use Rattle.pi_core.specs.declared.core_program.NameSlot.{NameSlot}
use Rattle.pi_traces.proofs.TraceLemmas.{emit-append}
use Rattle.pi_traces.proofs.BelowLemmas.{below-refl, below-trans, below-whole, below-emit, below-events, below-later}
use Rattle.pi_meaning.proofs.CoreMeaning.RuleLemmas.{level-below}
use Rattle.pi_meaning.proofs.Shared.CallLemmas.{built-later-adds, whole-adds}
use Rattle.pi_meaning.specs.Machine.Configuration.{Config}
use Rattle.pi_meaning.specs.Machine.Remaining.{around, now_trace, remaining_at, remaining}
use Rattle.pi_meaning.specs.Machine.Step.{silently, with_tick, quietly, answering, ending, step, start, writing, deeper}
use Rattle.pi_meaning.specs.Machine.Shape.{IsBalanced, IsGood}
use Rattle.pi_meaning.specs.Machine.Built.{AreOfRules}
use Rattle.pi_meaning.specs.Machine.Laws.{Comes, GoesOnGood}
use Rattle.pi_meaning.specs.Machine.Weight.{GetsLighter}
use Rattle.pi_meaning.specs.Machine.Leads.{Silent, Leads, IsAtTick, IsAtEnd}
use Rattle.pi_meaning.proofs.Machine.RunLemmas.{goal-strict}
use Rattle.pi_meaning.proofs.Machine.HigherLemmas.{remaining-below}
use Rattle.pi_meaning.proofs.Machine.MachineSteps.{step-comes}
use Rattle.pi_meaning.proofs.Machine.GoodSteps.{step-good}
use Rattle.pi_meaning.proofs.Machine.WeightSteps.{step-lighter}

pub remaining-deeper : (v : View) (preds : List PredTree) (names : List NameSlot) (c : Config) → DepthOnlyAdds (λ d. remaining v preds names d c)
remaining-deeper v preds names c d =
    let given : Builtins = whole v built_later preds in
    let adds : BuiltinsOnlyAdd given = whole-adds v built_later preds built-later-adds in
    remaining-below given adds (level_at given preds d) (level_at given preds (suc d)) (level-below given adds preds d) names c

-- at each depth from one on
later : (v : View) (preds : List PredTree) (names : List NameSlot) (c : Config) (d more : ℕ) → Below (remaining v preds names d c) (remaining v preds names (d + more) c)
later v preds names c d more = below-later (λ d. remaining v preds names d c) (remaining-deeper v preds names c) d more (d + more) refl

pub starts : (v : View) (program : List PredTree) (q : QueryTree) (d : ℕ) → remaining v (program ++ q.helpers) q.names d (start q) ≡ query_trace (whole v built_later (program ++ q.helpers)) program q d
unfolding remaining_at around now_trace query_trace
starts v program q d =
    ap (λ t. then t (answered_with q.names)) (goal-strict (whole v built_later (program ++ q.helpers)) (level_at (whole v built_later (program ++ q.helpers)) (program ++ q.helpers) d) q.goal (replicate q.slots None) empty_state)

pub start-good : (q : QueryTree) → IsGood (start q)
unfolding IsBalanced
start-good q = record { balanced = tt }

-- ---- runs in a row

pub leads-none : (v : View) (preds : List PredTree) (names : List NameSlot) (c : Config) → Leads v preds names [] c c
unfolding emit
leads-none v preds names c = record { depth = λ d. d; below = λ d. below-refl (remaining v preds names d c) }

pub leads-on : (v : View) (preds : List PredTree) (names : List NameSlot) (front back : List (Emitted Solution)) (a b c : Config) →
    Leads v preds names front a b → Leads v preds names back b c → Leads v preds names (front ++ back) a c
leads-on v preds names front back a b c h k = record {
  depth = λ d. h.depth (k.depth d);
  below = λ d.
      let r : Config → ℕ → Trace Solution = λ x d. remaining v preds names d x in
      subst (λ t. Below t (r a (h.depth (k.depth d)))) (sym (emit-append front back (r c d)))
      (below-trans (emit front (emit back (r c d))) (emit front (r b (k.depth d))) (r a (h.depth (k.depth d)))
      (below-emit front (emit back (r c d)) (r b (k.depth d)) (k.below d)) (h.below (k.depth d)));
}

pub tick-leads_on : (v : View) (preds : List PredTree) (names : List NameSlot) (a b : Config) →
    ((d : ℕ) → Below (note Tick (remaining v preds names d b)) (remaining v preds names (suc d) a)) → Leads v preds names (noted Tick ∷ []) a b
unfolding emit
tick-leads_on v preds names a b h = record { depth = λ d. suc d; below = h }

pub quiet-leads : (v : View) (preds : List PredTree) (names : List NameSlot) (a b : Config) →
    ((d : ℕ) → Below (remaining v preds names d b) (remaining v preds names (suc d) a)) → Leads v preds names [] a b
unfolding emit
quiet-leads v preds names a b h = record { depth = λ d. suc d; below = h }

pub answer-leads : (v : View) (preds : List PredTree) (names : List NameSlot) (a b : Config) (x : Solution) →
    ((d : ℕ) → remaining v preds names d a ≡ ans x (remaining v preds names d b)) → Leads v preds names (answered x ∷ []) a b
unfolding emit
answer-leads v preds names a b x h = record {
  depth = λ d. d;
  below = λ d. subst (λ t. Below t (remaining v preds names d a)) (h d) (below-refl (remaining v preds names d a));
}

-- ---- where runs stop

pub end-behind : {A : Type 0} (events : List (Emitted A)) (e : End) → end_of (emit events (end e)) ≡ e
unfolding emit end_of
end-behind [] e = refl
end-behind (noted n ∷ events) e = end-behind events e
end-behind (answered x ∷ events) e = end-behind events e

pub events-before : {A : Type 0} (events : List (Emitted A)) (e : End) → events_of (emit events (end e)) ≡ events
unfolding emit events_of
events-before [] e = refl
events-before (noted n ∷ events) e = ap (λ es. noted n ∷ es) (events-before events e)
events-before (answered x ∷ events) e = ap (λ es. answered x ∷ es) (events-before events e)

-- what is above a note is that note and something
pub above-note : {A : Type 0} (n : Note) (t u : Trace A) → Below (note n t) u → (rest : Trace A) × (u ≡ note n rest)
above-note n t _ (same_note _ {u = u} a) = (u, refl)

-- what remained before some steps, at depths that suffice
pub led : (v : View) (preds : List PredTree) (names : List NameSlot) (events : List (Emitted Solution)) (before after : Config) → (h : Leads v preds names events before after) →
    (d more : ℕ) → Below (emit events (remaining v preds names d after)) (remaining v preds names (h.depth d + more) before)
led v preds names events before after h d more =
    below-trans (emit events (remaining v preds names d after)) (remaining v preds names (h.depth d) before) (remaining v preds names (h.depth d + more) before)
    (h.below d) (later v preds names before (h.depth d) more)

pub ended-all : (v : View) (preds : List PredTree) (names : List NameSlot) (events : List (Emitted Solution)) (before after : Config) (e : End) →
    Leads v preds names events before after → IsAtEnd v preds names e after →
    (depth : ℕ) × ((more : ℕ) → remaining v preds names (depth + more) before ≡ emit events (end e))
ended-all v preds names events before after e h k = (
  h.depth 0,
  λ more.
      let whole : Trace Solution = remaining v preds names (h.depth 0 + more) before in
      let below : Below (emit events (end e)) whole = subst (λ t. Below (emit events t) whole) (k.ends 0) (led v preds names events before after h 0 more) in
      sym (below-whole (emit events (end e)) whole below (λ deep. k.reached (sym (end-behind events e) ∙ deep))),
)

pub tick-begins : (v : View) (preds : List PredTree) (names : List NameSlot) (events : List (Emitted Solution)) (before after : Config) →
    Leads v preds names events before after → IsAtTick v preds names after →
    (depth : ℕ) × ((more : ℕ) → (rest : Trace Solution) × (remaining v preds names (depth + more) before ≡ emit events (note Tick rest)))
tick-begins v preds names events before after h k = (
  h.depth k.depth,
  λ more.
      let whole : Trace Solution = remaining v preds names (h.depth k.depth + more) before in
      let below : Below (emit events (note Tick k.rest)) whole =
      subst (λ t. Below (emit events t) whole) k.begins (led v preds names events before after h k.depth more) in
      let found : (rest : Trace Solution) × (whole ≡ emit events rest) × Below (note Tick k.rest) rest = below-events events (note Tick k.rest) whole below in
      let tick : (rest : Trace Solution) × (found.0 ≡ note Tick rest) = above-note Tick k.rest found.0 found.2 in
      (tick.0, found.1 ∙ ap (emit events) tick.1),
)

-- ---- steps, and runs that go on with one more

pub step-silent : (v : View) (preds : List PredTree) (names : List NameSlot) (c after : Config) → AreOfRules preds → IsGood c → step v preds names c ≡ silently after → Silent v preds names c after
step-silent v preds names c after sound good h = record {
  same = subst (Comes v preds names c) h (step-comes v preds names c sound good);
  lighter = subst (GetsLighter preds c) h (step-lighter v preds names c good);
}

pub step-ticks : (v : View) (preds : List PredTree) (names : List NameSlot) (c after : Config) → AreOfRules preds → IsGood c → step v preds names c ≡ with_tick after → Leads v preds names (noted Tick ∷ []) c after
step-ticks v preds names c after sound good h = tick-leads_on v preds names c after (subst (Comes v preds names c) h (step-comes v preds names c sound good))

pub step-enters : (v : View) (preds : List PredTree) (names : List NameSlot) (c after : Config) → AreOfRules preds → IsGood c → step v preds names c ≡ quietly after → Leads v preds names [] c after
step-enters v preds names c after sound good h = quiet-leads v preds names c after (subst (Comes v preds names c) h (step-comes v preds names c sound good))

pub step-deepens : (v : View) (preds : List PredTree) (names : List NameSlot) (c after : Config) → AreOfRules preds → IsGood c → step v preds names c ≡ deeper after → Leads v preds names [] c after
step-deepens v preds names c after sound good h = quiet-leads v preds names c after (subst (Comes v preds names c) h (step-comes v preds names c sound good))

pub step-answers : (v : View) (preds : List PredTree) (names : List NameSlot) (c after : Config) (x : Solution) → AreOfRules preds → IsGood c → step v preds names c ≡ answering x after →
    Leads v preds names (answered x ∷ []) c after
step-answers v preds names c after x sound good h = answer-leads v preds names c after x (subst (Comes v preds names c) h (step-comes v preds names c sound good))

-- a text that is written
writing-leads : (v : View) (preds : List PredTree) (names : List NameSlot) (a b : Config) (text : List ℕ) →
    ((d : ℕ) → remaining v preds names d a ≡ note (Out text) (remaining v preds names d b)) → Leads v preds names (noted (Out text) ∷ []) a b
unfolding emit
writing-leads v preds names a b text h = record {
  depth = λ d. d;
  below = λ d. subst (λ t. Below t (remaining v preds names d a)) (h d) (below-refl (remaining v preds names d a));
}

pub step-writes : (v : View) (preds : List PredTree) (names : List NameSlot) (c after : Config) (text : List ℕ) → AreOfRules preds → IsGood c → step v preds names c ≡ writing text after →
    Leads v preds names (noted (Out text) ∷ []) c after
step-writes v preds names c after text sound good h = writing-leads v preds names c after text (subst (Comes v preds names c) h (step-comes v preds names c sound good))

pub step-ends : (v : View) (preds : List PredTree) (names : List NameSlot) (c : Config) (e : End) → AreOfRules preds → IsGood c → e ≢ Deep → step v preds names c ≡ ending e → IsAtEnd v preds names e c
step-ends v preds names c e sound good reached h = record { ends = subst (Comes v preds names c) h (step-comes v preds names c sound good); reached = reached }

-- what is about to count a Tick begins with one
pub step-at_tick : (v : View) (preds : List PredTree) (names : List NameSlot) (c after : Config) → AreOfRules preds → IsGood c → step v preds names c ≡ with_tick after → IsAtTick v preds names c
step-at_tick v preds names c after sound good h =
    let comes : (d : ℕ) → Below (note Tick (remaining v preds names d after)) (remaining v preds names (suc d) c) = subst (Comes v preds names c) h (step-comes v preds names c sound good) in
    let found : (rest : Trace Solution) × (remaining v preds names 1 c ≡ note Tick rest) = above-note Tick (remaining v preds names 0 after) (remaining v preds names 1 c) (comes 0) in
    record { depth = 1; rest = found.0; begins = found.1 }

-- the next configuration is in shape again
pub good-silent : (v : View) (preds : List PredTree) (names : List NameSlot) (c after : Config) → IsGood c → step v preds names c ≡ silently after → IsGood after
good-silent v preds names c after good h = subst GoesOnGood h (step-good v preds names c good)

pub good-tick : (v : View) (preds : List PredTree) (names : List NameSlot) (c after : Config) → IsGood c → step v preds names c ≡ with_tick after → IsGood after
good-tick v preds names c after good h = subst GoesOnGood h (step-good v preds names c good)

pub good-deeper : (v : View) (preds : List PredTree) (names : List NameSlot) (c after : Config) → IsGood c → step v preds names c ≡ deeper after → IsGood after
good-deeper v preds names c after good h = subst GoesOnGood h (step-good v preds names c good)

pub good-answer : (v : View) (preds : List PredTree) (names : List NameSlot) (c after : Config) (x : Solution) → IsGood c → step v preds names c ≡ answering x after → IsGood after
good-answer v preds names c after x good h = subst GoesOnGood h (step-good v preds names c good)

pub good-writing : (v : View) (preds : List PredTree) (names : List NameSlot) (c after : Config) (text : List ℕ) → IsGood c → step v preds names c ≡ writing text after → IsGood after
good-writing v preds names c after text good h = subst GoesOnGood h (step-good v preds names c good)

-- a run, and a silent step
pub leads-silent : (v : View) (preds : List PredTree) (names : List NameSlot) (events : List (Emitted Solution)) (a b c : Config) → Leads v preds names events a b → Silent v preds names b c → Leads v preds names events a c
leads-silent v preds names events a b c h k = record {
  depth = h.depth;
  below = λ d. subst (λ t. Below (emit events t) (remaining v preds names (h.depth d) a)) (k.same d) (h.below d);
}
