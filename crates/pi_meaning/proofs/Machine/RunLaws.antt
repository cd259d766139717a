-- For each configuration and each number of Ticks there is a depth that reaches so far; and what a query's run is.
use Rattle.std.proofs.Common.{◌≡◌, ◌≢◌, ℕ, zero, suc, ◌+◌, ◌≤◌, ◌<◌, List, [], ◌∷◌, ◌++◌, refl, ap, sym, subst, ◌∙◌, arith}
use Rattle.std.specs.Prelude.{Bool, true, false, Option, Some, None, ⊤}
use Rattle.pi_terms.specs.Tree.{Tree, tree_count, trees_of}
use Rattle.pi_constraints.specs.State.{State}
use Rattle.pi_terms.specs.Places.{Places}
use Rattle.pi_core.specs.GoalTree.{GoalTree, truth, fail, tick, call, apply, seq, alternatives, if_else, not, once, collect, count, catch, GoalTrees, no_goals, goal}
use Rattle.pi_core.specs.CoreTree.{PredTree, QueryTree, find_pred}
use Rattle.pi_traces.specs.Trace.{Trace, end, note, End, Deep, Tick, Emitted, emit, end_of, count_ticks, ticks}
use Rattle.pi_traces.specs.Depth.{Below, Cut, Ended, Spent, with_events, cut, CutWithoutDeep}
use Rattle.pi_meaning.specs.Shared.View.{View}
use Rattle.pi_meaning.specs.Shared.Names.{is_later_predicate, is_later_function, is_resource, is_call}
use Rattle.pi_meaning.specs.CoreMeaning.Instances.{built_later, whole}
use Rattle.pi_constraints.specs.Evaluation.{EvaluatedAll, evaluated_all}
use Rattle.pi_meaning.specs.CoreMeaning.Quiet.{TicksBetween}
use Rattle.pi_meaning.specs.CoreMeaning.Run.{Solution, query_trace, IsRunUnder}
use Rattle.pi_core.specs.declared.core_program.NameSlot.{NameSlot}
use Rattle.pi_traces.proofs.BelowLemmas.{below-events}
use Rattle.pi_traces.proofs.CutLemmas.{cut-below, cut-emit, cut-all, cut-at_tick}
use Rattle.pi_meaning.proofs.CoreMeaning.QueryLemmas.{run-deeper}
use Rattle.pi_meaning.proofs.Shared.CallLemmas.{built-later-adds, whole-adds}
use Rattle.pi_meaning.specs.Machine.Configuration.{Frame, Back, Choice, rules_left, facts_left, branches_left, alternatives_left, Entry, choice, strict, catch_level, left, Now, going, settling, failed, raising, Config, config, behind, telling}
use Rattle.pi_meaning.specs.Shared.Settle.{settlement}
use Rattle.pi_meaning.specs.Machine.Remaining.{remaining}
use Rattle.pi_meaning.specs.Machine.Step.{Outcome, silently, with_tick, quietly, answering, ending, call_step, predicate_step, effect_step, function_step, value_step, goal_step, Open, none_open, strict_open, catch_open, newest_open, fits, told_step, answer_step, choice_step, fail_step, raise_step, now_step, step, start, loading, writing, deeper, left_now, loaded_step, later_step, name_step, later_value, other_value, with_rest, name_call}
use Rattle.pi_meaning.specs.Machine.Shape.{IsGood}
use Rattle.pi_meaning.specs.Machine.Built.{AreOfRules}
use Rattle.pi_meaning.specs.Machine.Laws.{Comes, GoesOnGood}
use Rattle.pi_meaning.specs.Machine.Weight.{weight, GetsLighter}
use Rattle.pi_meaning.specs.Machine.Leads.{Leads, IsAtTick, IsAtEnd}
use Rattle.pi_meaning.proofs.Machine.MachineSteps.{step-comes}
use Rattle.pi_meaning.proofs.Machine.GoodSteps.{step-good}
use Rattle.pi_meaning.proofs.Machine.WeightSteps.{step-lighter}
use Rattle.pi_meaning.proofs.Machine.LeadLemmas.{starts, ended-all, tick-begins, end-behind, events-before, led}
use Rattle.pi_effects.specs.Effect.{FunctionEffect, Effect}
use Rattle.pi_meaning.specs.Shared.Effects.{predicate_effect, value_effect}

-- ---- which steps there are

-- no end in Deep
abbrev pub IsProper : Outcome → Type 0
IsProper (silently next) = ⊤
IsProper (with_tick next) = ⊤
IsProper (quietly next) = ⊤
IsProper (deeper next) = ⊤
IsProper (loading n next) = ⊤
IsProper (writing text next) = ⊤
IsProper (answering x next) = ⊤
IsProper (ending e) = e ≢ Deep

call-proper : (quiet : Bool) (c : Config) → IsProper (call_step quiet c)
call-proper true c = tt
call-proper false c = tt

predicate-proper : (o : Option PredTree) (all : EvaluatedAll) (k : List Frame) (es : List Entry) → IsProper (predicate_step o all k es)
predicate-proper None all k es = tt
predicate-proper (Some pred) all k es = call-proper pred.quiet _

later-proper : (later : Bool) (preds : List PredTree) (name : List ℕ) (args : List Tree) (all : EvaluatedAll) (gs : GoalTrees) (k : List Frame) (es : List Entry) →
    IsProper (later_step later preds (name_call name args all) (with_rest gs k es))
later-proper true preds name args all gs k es = tt
later-proper false preds name args all gs k es = predicate-proper (find_pred false name (tree_count all.trees) preds) all (behind gs k) es

effect-proper : (v : View) (o : Option Effect) (preds : List PredTree) (name : List ℕ) (args : List Tree) (all : EvaluatedAll) (gs : GoalTrees) (k : List Frame) (es : List Entry) → IsProper (effect_step v o preds (name_call name args all) (with_rest gs k es))
effect-proper v None preds name args all gs k es = later-proper (is_later_predicate name (tree_count all.trees)) preds name args all gs k es
effect-proper v (Some d) preds name args all gs k es = tt

name-proper : (called : Bool) (v : View) (preds : List PredTree) (name : List ℕ) (args : List Tree) (all : EvaluatedAll) (gs : GoalTrees) (k : List Frame) (es : List Entry) → IsProper (name_step called v preds (name_call name args all) (with_rest gs k es))
name-proper true v preds name args all gs k es = tt
name-proper false v preds name args all gs k es = effect-proper v (predicate_effect name all.trees all.state) preds name args all gs k es

function-proper : (o : Option PredTree) (all : EvaluatedAll) (into : ℕ) (k : List Frame) (es : List Entry) → IsProper (function_step o all into k es)
function-proper None all into k es = tt
function-proper (Some pred) all into k es = call-proper pred.quiet _

later-value-proper : (later : Bool) (preds : List PredTree) (name : List ℕ) (args : List Tree) (all : EvaluatedAll) (into : ℕ) (k : List Frame) (es : List Entry) → IsProper (later_value later preds (name_call name args all) into k es)
later-value-proper true preds name args all into k es = tt
later-value-proper false preds name args all into k es = function-proper (find_pred true name (tree_count all.trees) preds) all into k es

other-value-proper : (resource : Bool) (v : View) (preds : List PredTree) (name : List ℕ) (args : List Tree) (all : EvaluatedAll) (into : ℕ) (gs : GoalTrees) (k : List Frame) (es : List Entry) →
    IsProper (other_value resource v preds (name_call name args all) into (with_rest gs k es))
other-value-proper true v preds name args all into gs k es = tt
other-value-proper false v preds name args all into gs k es = later-value-proper (is_later_function name (tree_count all.trees)) preds name args all into (behind gs k) es

value-proper : (v : View) (o : Option FunctionEffect) (preds : List PredTree) (name : List ℕ) (args : List Tree) (all : EvaluatedAll) (into : ℕ) (gs : GoalTrees) (k : List Frame) (es : List Entry) → IsProper (value_step v o preds (name_call name args all) into (with_rest gs k es))
value-proper v None preds name args all into gs k es = other-value-proper (is_resource name (tree_count all.trees)) v preds name args all into gs k es
value-proper v (Some d) preds name args all into gs k es = tt

goal-proper : (v : View) (preds : List PredTree) (g : GoalTree) (gs : GoalTrees) (e : Places) (s : State) (k : List Frame) (es : List Entry) → IsProper (goal_step v preds g e s (with_rest gs k es))
unfolding goal_step
goal-proper v preds truth gs e s k es = tt
goal-proper v preds fail gs e s k es = tt
goal-proper v preds tick gs e s k es = tt
goal-proper v preds (call name args) gs e s k es =
    let all : EvaluatedAll = evaluated_all (trees_of args) e s in name-proper (is_call name (tree_count all.trees)) v preds name args all gs k es
goal-proper v preds (apply name args into) gs e s k es =
    let all : EvaluatedAll = evaluated_all (trees_of args) e s in value-proper v (value_effect name all.trees all.state) preds name args all into gs k es
goal-proper v preds (seq hs) gs e s k es = tt
goal-proper v preds (alternatives hs) gs e s k es = tt
goal-proper v preds (if_else test g other) gs e s k es = tt
goal-proper v preds (not g) gs e s k es = tt
goal-proper v preds (once g) gs e s k es = tt
goal-proper v preds (collect g slot into) gs e s k es = tt
goal-proper v preds (count g into) gs e s k es = tt
goal-proper v preds (catch g ball handler) gs e s k es = tt

told-proper : (fit : Bool) (x : Solution) (es : List Entry) → IsProper (told_step fit x es)
told-proper true x es = tt
told-proper false x es = tt

answer-proper : (names : List NameSlot) (e : Places) (s : State) (es : List Entry) (o : Open) → IsProper (answer_step names e s es o)
unfolding answer_step
answer-proper names e s es none_open = told-proper (fits names (record { slots = e; state = s })) (record { slots = e; state = s }) es
answer-proper names e s es (strict_open above level b below) = tt
answer-proper names e s es (catch_open above ball handler b below) = tt

choice-proper : (c : Choice) (b : Back) (es : List Entry) → IsProper (choice_step c b es)
choice-proper (rules_left called cs) b es = tt
choice-proper (facts_left ts cs) b es = tt
choice-proper (branches_left gs) b es = tt
choice-proper (alternatives_left name args p []) b es = tt
choice-proper (alternatives_left name args p (a ∷ alts)) b es = tt

fail-proper : (es : List Entry) → IsProper (fail_step es)
unfolding fail_step
fail-proper [] = λ h. cc
fail-proper (choice c b ∷ es) = choice-proper c b es
fail-proper (strict level b ∷ es) = tt
fail-proper (catch_level ball handler b ∷ es) = tt
fail-proper (left ∷ es) = tt

raise-proper : (raised : Tree) (es : List Entry) → IsProper (raise_step raised es)
unfolding raise_step
raise-proper raised [] = λ h. cc
raise-proper raised (choice c b ∷ es) = tt
raise-proper raised (strict level b ∷ es) = tt
raise-proper raised (catch_level ball handler b ∷ es) = tt
raise-proper raised (left ∷ es) = tt

loaded-proper : (n : ℕ) (c : Config) → IsProper (loaded_step n c)
loaded-proper zero c = tt
loaded-proper (suc n) c = tt

now-proper : (v : View) (preds : List PredTree) (names : List NameSlot) (now : Now) (es : List Entry) → IsProper (now_step v preds names now es)
now-proper v preds names (going (goal g gs) e s k) es = goal-proper v preds g gs e s k es
now-proper v preds names (going no_goals e s []) es = answer-proper names e s es (newest_open zero es)
now-proper v preds names (going no_goals e s (f ∷ k)) es = tt
now-proper v preds names (settling before s gs e k) es = loaded-proper (settlement before s).load (config (left_now (settlement before s).left gs e k) es)
now-proper v preds names (telling text gs e s k) es = tt
now-proper v preds names failed es = fail-proper es
now-proper v preds names (raising raised) es = raise-proper raised es

pub step-proper : (v : View) (preds : List PredTree) (names : List NameSlot) (c : Config) → IsProper (step v preds names c)
unfolding step
step-proper v preds names c = now-proper v preds names c.now c.stack

-- ---- a depth suffices

above-cut : {A : Type 0} (n : ℕ) (t u : Trace A) → Below t u → CutWithoutDeep n t → CutWithoutDeep n u
above-cut n t u b h = λ deep. h (ap (λ c. c.stop) (cut-below n t u b h) ∙ deep)

-- a depth reaches so far
abbrev pub DepthReaches : View → List PredTree → List NameSlot → ℕ → Config → Type 0
DepthReaches v preds names n c = (d : ℕ) × CutWithoutDeep n (remaining v preds names d c)

-- behind a Tick there is one Tick less to reach
abbrev AfterTick : View → List PredTree → List NameSlot → ℕ → Config → Type 0
AfterTick v preds names zero c = ⊤
AfterTick v preds names (suc n) c = DepthReaches v preds names n c

tick-reaches : (v : View) (preds : List PredTree) (names : List NameSlot) (n : ℕ) (c after : Config) →
    ((d : ℕ) → Below (note Tick (remaining v preds names d after)) (remaining v preds names (suc d) c)) → AfterTick v preds names n after → DepthReaches v preds names n c
unfolding cut
tick-reaches v preds names zero c after h k =
    (1, above-cut 0 (note Tick (remaining v preds names 0 after)) (remaining v preds names 1 c) (h 0) (λ deep. cc))
tick-reaches v preds names (suc n) c after h k =
    (suc k.0, above-cut (suc n) (note Tick (remaining v preds names k.0 after)) (remaining v preds names (suc k.0) c) (h k.0) k.1)

outcome-reaches : (v : View) (preds : List PredTree) (names : List NameSlot) → TicksBetween preds → (n : ℕ) → ((after : Config) → IsGood after → AfterTick v preds names n after) →
    (w : ℕ) (c : Config) → weight preds c < suc w → ((after : Config) → weight preds after < w → IsGood after → DepthReaches v preds names n after) →
    (o : Outcome) → Comes v preds names c o → GoesOnGood o → GetsLighter preds c o → IsProper o → DepthReaches v preds names n c
unfolding cut
outcome-reaches v preds names between n ticks w c h rec (silently after) comes good lighter proper =
    let r : DepthReaches v preds names n after = rec after (omega arith) good in
    (r.0, subst (λ t. CutWithoutDeep n t) (sym (comes r.0)) r.1)
outcome-reaches v preds names between n ticks w c h rec (with_tick after) comes good lighter proper = tick-reaches v preds names n c after comes (ticks after good)
outcome-reaches v preds names between n ticks w c h rec (quietly after) comes good lighter proper =
    let lower : weight preds after < weight preds c = lighter between in
    let r : DepthReaches v preds names n after = rec after (omega arith) good in
    (suc r.0, above-cut n (remaining v preds names r.0 after) (remaining v preds names (suc r.0) c) (comes r.0) r.1)
outcome-reaches v preds names between n ticks w c h rec (deeper after) comes good lighter proper =
    let r : DepthReaches v preds names n after = rec after (omega arith) good in
    (suc r.0, above-cut n (remaining v preds names r.0 after) (remaining v preds names (suc r.0) c) (comes r.0) r.1)
outcome-reaches v preds names between n ticks w c h rec (loading load after) comes good lighter proper =
    let r : DepthReaches v preds names n after = rec after (omega arith) good in
    (r.0, subst (λ t. CutWithoutDeep n t) (sym (comes r.0)) r.1)
outcome-reaches v preds names between n ticks w c h rec (writing text after) comes good lighter proper =
    let r : DepthReaches v preds names n after = rec after (omega arith) good in
    (r.0, subst (λ t. CutWithoutDeep n t) (sym (comes r.0)) r.1)
outcome-reaches v preds names between n ticks w c h rec (answering x after) comes good lighter proper =
    let r : DepthReaches v preds names n after = rec after (omega arith) good in
    (r.0, subst (λ t. CutWithoutDeep n t) (sym (comes r.0)) r.1)
outcome-reaches v preds names between n ticks w c h rec (ending e) comes good lighter proper =
    (0, subst (λ t. CutWithoutDeep n t) (sym (comes 0)) (λ deep. proper cc))

-- before the next Tick
steps-reach : (v : View) (preds : List PredTree) (names : List NameSlot) → AreOfRules preds → TicksBetween preds → (n : ℕ) → ((after : Config) → IsGood after → AfterTick v preds names n after) →
    (w : ℕ) (c : Config) → weight preds c < w → IsGood c → DepthReaches v preds names n c
steps-reach v preds names sound between n ticks zero c h good = absurd (omega (arith, h))
steps-reach v preds names sound between n ticks (suc w) c h good =
    outcome-reaches v preds names between n ticks w c h (λ after less keeps. steps-reach v preds names sound between n ticks w after less keeps)
    (step v preds names c) (step-comes v preds names c sound good) (step-good v preds names c good) (step-lighter v preds names c good) (step-proper v preds names c)

pub depth-suffices : (v : View) (preds : List PredTree) (names : List NameSlot) (c : Config) → AreOfRules preds → TicksBetween preds → IsGood c → (n : ℕ) → DepthReaches v preds names n c
depth-suffices v preds names c sound between good zero = steps-reach v preds names sound between 0 (λ after keeps. tt) (suc (weight preds c)) c (omega arith) good
depth-suffices v preds names c sound between good (suc n) =
    steps-reach v preds names sound between (suc n) (λ after keeps. depth-suffices v preds names after sound between keeps n) (suc (weight preds c)) c (omega arith) good

-- ---- a query's run

ended-same : (e f : End) → Ended e ≡ Ended f → e ≡ f
ended-same e f h = cc

pub ended-run : (v : View) (program : List PredTree) (q : QueryTree) (events : List (Emitted Solution)) (c : Config) (e : End) (n : ℕ) →
    Leads v (program ++ q.helpers) q.names events (start q) c → IsAtEnd v (program ++ q.helpers) q.names e c → count_ticks events ≤ n →
    IsRunUnder (whole v built_later (program ++ q.helpers)) program q n (record { events = events; stop = Ended e })
ended-run v program q events c e n h k less =
    let all : (depth : ℕ) × ((more : ℕ) → remaining v (program ++ q.helpers) q.names (depth + more) (start q) ≡ emit events (end e)) =
    ended-all v (program ++ q.helpers) q.names events (start q) c e h k in
    let depth : ℕ = all.0 + 0 in
    let trace : query_trace (whole v built_later (program ++ q.helpers)) program q depth ≡ emit events (end e) = sym (starts v program q depth) ∙ all.1 0 in
    let few : ticks (emit events (end e)) ≤ n = subst (λ es. count_ticks es ≤ n) (sym (events-before events e)) less in
    let is_cut : record { events = events; stop = Ended e } ≡ cut n (query_trace (whole v built_later (program ++ q.helpers)) program q depth) =
    sym (ap (cut n) trace ∙ (cut-all n (emit events (end e)) few
    ∙ (ap (λ es. record { events = es; stop = Ended (end_of (emit events (end e))) }) (events-before events e)
    ∙ ap (λ x. record { events = events; stop = Ended x }) (end-behind events e)))) in
    record { depth = depth; reaches = λ deep. k.reached (ended-same e Deep (ap (λ c. c.stop) is_cut ∙ deep)); is_cut = is_cut }

spent-not_deep : Spent ≡ Ended Deep → ⊥
spent-not_deep h = cc

pub spent-run : (v : View) (program : List PredTree) (q : QueryTree) (events : List (Emitted Solution)) (c : Config) →
    Leads v (program ++ q.helpers) q.names events (start q) c → IsAtTick v (program ++ q.helpers) q.names c →
    IsRunUnder (whole v built_later (program ++ q.helpers)) program q (count_ticks events) (record { events = events; stop = Spent })
spent-run v program q events c h k =
    let all : (depth : ℕ) × ((more : ℕ) → (rest : Trace Solution) × (remaining v (program ++ q.helpers) q.names (depth + more) (start q) ≡ emit events (note Tick rest))) =
    tick-begins v (program ++ q.helpers) q.names events (start q) c h k in
    let depth : ℕ = all.0 + 0 in
    let begins : (rest : Trace Solution) × (remaining v (program ++ q.helpers) q.names depth (start q) ≡ emit events (note Tick rest)) = all.1 0 in
    let is_cut : record { events = events; stop = Spent } ≡ cut (count_ticks events) (query_trace (whole v built_later (program ++ q.helpers)) program q depth) =
    sym (ap (cut (count_ticks events)) (sym (starts v program q depth) ∙ begins.1) ∙ cut-at_tick events begins.0) in
    record { depth = depth; reaches = λ deep. spent-not_deep (ap (λ c. c.stop) is_cut ∙ deep); is_cut = is_cut }

-- a query's run at a greater depth
run-later : (v : View) (program : List PredTree) (q : QueryTree) (n : ℕ) (run : Cut Solution) → (r : IsRunUnder (whole v built_later (program ++ q.helpers)) program q n run) → (more later : ℕ) → more + r.depth ≡ later →
    cut n (query_trace (whole v built_later (program ++ q.helpers)) program q later) ≡ run
run-later v program q n run r more later e =
    subst (λ d. cut n (query_trace (whole v built_later (program ++ q.helpers)) program q d) ≡ run) (omega arith) (run-deeper (whole v built_later (program ++ q.helpers)) (whole-adds v built_later (program ++ q.helpers) built-later-adds) program q n run r more)

pub run-prefix : (v : View) (program : List PredTree) (q : QueryTree) (events : List (Emitted Solution)) (c : Config) (n : ℕ) (run : Cut Solution) →
    Leads v (program ++ q.helpers) q.names events (start q) c → IsRunUnder (whole v built_later (program ++ q.helpers)) program q (count_ticks events + n) run →
    (rest : Cut Solution) × (run ≡ with_events events rest)
run-prefix v program q events c n run h r =
    let preds : List PredTree = program ++ q.helpers in
    let depth : ℕ = h.depth 0 + r.depth in
    let t : Trace Solution = remaining v preds q.names 0 c in
    let below : Below (emit events t) (query_trace (whole v built_later (program ++ q.helpers)) program q depth) =
    subst (λ u. Below (emit events t) u) (starts v program q depth) (led v preds q.names events (start q) c h 0 r.depth) in
    let found : (rest : Trace Solution) × (query_trace (whole v built_later (program ++ q.helpers)) program q depth ≡ emit events rest) × Below t rest = below-events events t (query_trace (whole v built_later (program ++ q.helpers)) program q depth) below in (
      cut n found.0,
      sym (run-later v program q (count_ticks events + n) run r (h.depth 0) depth refl)
          ∙ (ap (cut (count_ticks events + n)) found.1 ∙ cut-emit events n found.0),
    )
