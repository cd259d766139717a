-- More depth only adds to calls of a program, to its levels, and to queries, in both runs.
use Rattle.std.specs.Prelude.{ℕ, zero, suc, ◌+◌, ◌≤◌, Bool, true, false, List, [], ◌∷◌, ◌++◌, length, replicate, Option, Some, None, option_map, ⊤, refl}
use Rattle.std.proofs.Common.{arith}
use Rattle.pi_terms.specs.Tree.{Tree, comp, Trees, tree_count}
use Rattle.pi_terms.specs.Places.{Places}
use Rattle.pi_constraints.specs.State.{State, bindings}
use Rattle.pi_constraints.specs.HeadMatch.{matched_all_in}
use Rattle.pi_core.specs.GoalTree.{GoalTree, truth}
use Rattle.pi_core.specs.CoreTree.{backtracks, find_pred, ClauseTree, PredTree, QueryTree}
use Rattle.pi_core.specs.declared.core_program.SlotWatch.{SlotWatch}
use Rattle.pi_core.specs.declared.core_program.NameSlot.{NameSlot}
use Rattle.pi_syntax.specs.declared.program.Mode.{Mode}
use Rattle.pi_traces.specs.Trace.{Done, done}
use Rattle.pi_traces.specs.Related.{BelowBy, end_by}
use Rattle.pi_traces.proofs.RelatedLemmas.{Same, same, by-one}
use Rattle.pi_meaning.specs.Shared.Drain.{drained}
use Rattle.pi_meaning.specs.CoreMeaning.Rules.{suspended}
use Rattle.pi_meaning.specs.CoreMeaning.Run.{Solution}
use Rattle.pi_resume_spec.specs.Resumed.{Search, simple, RuleSearch, resumed}
use Rattle.pi_resume_spec.specs.Searches.{Searches, SearchLevel, level_with, plain_level, Spot, only, strictly}
use Rattle.pi_resume_spec.specs.ByName.{Offers}
use Rattle.pi_resume_spec.specs.Goals.{search}
use Rattle.pi_resume_spec.specs.Rules.{guarded, applies_from, searched_by, rule_searches, rules_of, quiet_search, by_rules, body_or_agent, facts_search, pred_search, entered, call_search, searches_of, quiet_level, search_level}
use Rattle.pi_resume_spec.specs.Queries.{answered_with, query_start, query_search, resumed_query}
use Rattle.pi_resume_spec.specs.More.{FollowsBelow, SearchBelow, SearchesBelow, SearchLevelBelow, OffersOnlyAdd}
use Rattle.pi_resume_spec.proofs.MoreLemmas.{SearchBy, search-below, search-itself, itself-by, follows-below, simple-by, only-by, deep-by, SearchesBy, sequence-by, RulesBy, rules-by, ticked-by, chosen-by, resumed-by}
use Rattle.pi_resume_spec.proofs.MoreGoals.{plain-below, spot, SpotBelow, same_spot, at-spots, strictly-more, strict-at-spots, goal-more}
use Rattle.pi_resume_spec.proofs.FunctionsMore.{OptionalLevel, application-more}

-- ---- rules

guarded-more : (b : Offers) → OffersOnlyAdd b → (g : GoalTree) (p q : Spot) → SpotBelow p q → BelowBy SpotBelow (guarded b g p) (guarded b g q)
guarded-more b adds truth p q h = by-one SpotBelow p q h
guarded-more b adds g p q h = strict-at-spots (search b g) (goal-more b adds g) p q h

applies-more : (b : Offers) → OffersOnlyAdd b → (l m : SearchLevel) → SearchLevelBelow l m → (c : ClauseTree) (s : State) (o : Option Places) → BelowBy SpotBelow (applies_from b l c s o) (applies_from b m c s o)
applies-more b adds l m h c s None = end_by Done
applies-more b adds l m h c s (Some e) = guarded-more b adds c.guard (spot l e s) (spot m e s) (same_spot h e s)

-- what a rule that applies does
BodiesMore : (ℕ → ClauseTree → Spot → Search State) → Type 0
BodiesMore body = (i : ℕ) (c : ClauseTree) (p q : Spot) → SpotBelow p q → SearchBy Same (body i c p) (body i c q)

rules-more : (b : Offers) → OffersOnlyAdd b → (l m : SearchLevel) → SearchLevelBelow l m → (back : ClauseTree → Bool) (body : ℕ → ClauseTree → Spot → Search State) → BodiesMore body →
    (i : ℕ) (cs : List ClauseTree) (ts : Trees) (s : State) → RulesBy SpotBelow Same (rule_searches (searched_by b l back body) i cs ts s) (rule_searches (searched_by b m back body) i cs ts s)
unfolding rule_searches RulesBy BodiesMore SearchesBy
rules-more b adds l m h back body all i [] ts s = tt
rules-more b adds l m h back body all i (c ∷ cs) ts s =
    (record { applies = applies-more b adds l m h c s (matched_all_in (bindings s) c.head ts (replicate c.slots None)); committed = refl; body = all i c }, rules-more b adds l m h back body all (suc i) cs ts s)

quiet-more : {X Y A B : Type 0} (P : X → Y → Type 0) (R : A → B → Type 0) (rs : List (RuleSearch X A)) (qs : List (RuleSearch Y B)) → RulesBy P R rs qs → SearchBy R (quiet_search rs) (quiet_search qs)
unfolding RulesBy quiet_search
quiet-more P R [] [] h = simple-by R done done (end_by Done)
quiet-more P R [] (q ∷ qs) h = absurd h
quiet-more P R (r ∷ rs) [] h = absurd h
quiet-more P R (r ∷ rs) (q ∷ qs) h = chosen-by P R r.applies q.applies r.body q.body (quiet_search rs) (quiet_search qs) h.0.applies h.0.body (quiet-more P R rs qs h.1)

by-rules : {X Y A B : Type 0} (P : X → Y → Type 0) (R : A → B → Type 0) (quiet : Bool) (rs : List (RuleSearch X A)) (qs : List (RuleSearch Y B)) → RulesBy P R rs qs → SearchBy R (by_rules quiet rs) (by_rules quiet qs)
by-rules P R true rs qs h = quiet-more P R rs qs h
by-rules P R false rs qs h = rules-by P R rs qs h

same-state : (p q : Spot) → SpotBelow p q → SearchBy Same (only p.state) (only q.state)
same-state _ _ (same_spot h e s) = only-by Same s s (same s)

same-agent : (t : Tree) (i : ℕ) (ws : List SlotWatch) (p q : Spot) → SpotBelow p q → SearchBy Same (only (suspended t i ws p.slots p.state)) (only (suspended t i ws q.slots q.state))
same-agent t i ws _ _ (same_spot h e s) = itself-by (only (suspended t i ws e s))

body-more : (b : Offers) → OffersOnlyAdd b → (t : Tree) (i : ℕ) (c : ClauseTree) (ws : List SlotWatch) (p q : Spot) → SpotBelow p q → SearchBy Same (body_or_agent b t i c ws p) (body_or_agent b t i c ws q)
unfolding SearchesBy
body-more b adds t i c [] p q h =
    sequence-by SpotBelow Same (search b c.body p) (search b c.body q) (λ x. only x.state) (λ x. only x.state) (at-spots (search b c.body) (goal-more b adds c.body) p q h) same-state
body-more b adds t i c (w ∷ ws) p q h = same-agent t i (w ∷ ws) p q h

pred-more : (b : Offers) → OffersOnlyAdd b → (l m : SearchLevel) → SearchLevelBelow l m → (pred : PredTree) (index : Option (List (List Mode))) (ts : Trees) (s : State) →
    SearchBy Same (pred_search b l pred index ts s) (pred_search b m pred index ts s)
unfolding pred_search BodiesMore
pred-more b adds l m h pred None ts s =
    by-rules SpotBelow Same pred.quiet (rule_searches (rules_of b l pred.name ts) 0 pred.clauses ts s) (rule_searches (rules_of b m pred.name ts) 0 pred.clauses ts s)
    (rules-more b adds l m h (λ c. backtracks c.back c.watches) (λ i c p. body_or_agent b (comp pred.name ts) i c c.watches p) (λ i c p q r. body-more b adds (comp pred.name ts) i c c.watches p q r) 0 pred.clauses ts s)
pred-more b adds l m h pred (Some lists) ts s = itself-by (facts_search lists pred.clauses ts s)

-- ---- calls

-- where there is a level, there is one above it
abbrev OptionalMore : Option SearchLevel → Option SearchLevel → Type 0
OptionalMore None k = ⊤
OptionalMore (Some l) None = ⊥
OptionalMore (Some l) (Some m) = SearchLevelBelow l m

optional-plain : (j k : Option SearchLevel) → OptionalMore j k → OptionalLevel (option_map plain_level j) (option_map plain_level k)
optional-plain None k h = tt
optional-plain (Some l) None h = absurd h
optional-plain (Some l) (Some m) h = plain-below l m h

entered-more : (quiet : Bool) (inner inner' below below' : Option SearchLevel) → OptionalMore inner inner' → OptionalMore below below' → (f : SearchLevel → Search State) →
    ((l m : SearchLevel) → SearchLevelBelow l m → SearchBy Same (f l) (f m)) → SearchBy Same (entered quiet inner below f) (entered quiet inner' below' f)
entered-more true None inner' below below' h k f a = deep-by Same (entered true inner' below' f)
entered-more true (Some l) None below below' h k f a = absurd h
entered-more true (Some l) (Some m) below below' h k f a = a l m h
entered-more false inner inner' None below' h k f a = deep-by Same (entered false inner' below' f)
entered-more false inner inner' (Some l) None h k f a = absurd k
entered-more false inner inner' (Some l) (Some m) h k f a = ticked-by Same (f l) (f m) (a l m k)

call-more : (b : Offers) → OffersOnlyAdd b → (inner inner' below below' : Option SearchLevel) → OptionalMore inner inner' → OptionalMore below below' → (found : Option PredTree) (ts : Trees) (s : State) →
    SearchBy Same (call_search b inner below found ts s) (call_search b inner' below' found ts s)
call-more b adds inner inner' below below' h k None ts s = simple-by Same done done (end_by Done)
call-more b adds inner inner' below below' h k (Some pred) ts s =
    entered-more pred.quiet inner inner' below below' h k (λ l. pred_search b l pred pred.index ts s) (λ l m a. pred-more b adds l m a pred pred.index ts s)

calls-more : (b : Offers) → OffersOnlyAdd b → (preds : List PredTree) (inner inner' below below' : Option SearchLevel) → OptionalMore inner inner' → OptionalMore below below' →
    SearchesBelow (searches_of b preds inner below) (searches_of b preds inner' below')
unfolding searches_of
calls-more b adds preds inner inner' below below' h k = record {
  called = λ name ts s.
      let found : Option PredTree = find_pred false name (tree_count ts) preds in
      search-below (call_search b inner below found ts s) (call_search b inner' below' found ts s) (call-more b adds inner inner' below below' h k found ts s);
  applied = λ name ts s.
      application-more b.plain adds.plain (option_map plain_level inner) (option_map plain_level inner') (option_map plain_level below) (option_map plain_level below')
      (optional-plain inner inner' h) (optional-plain below below' k) (find_pred true name (tree_count ts) preds) ts s;
  drained = λ s. search-itself (simple (drained s));
}

-- ---- levels

with-more : (c d : Searches) (j k : Option SearchLevel) → SearchesBelow c d → OptionalMore j k → SearchLevelBelow (level_with c j) (level_with d k)
with-more c d None None h a = h
with-more c d None (Some m) h a = h
with-more c d (Some l) None h a = absurd a
with-more c d (Some l) (Some m) h a = (h, a)

quiet-level-more : (b : Offers) → OffersOnlyAdd b → (preds : List PredTree) (below below' : Option SearchLevel) → OptionalMore below below' → (j k : ℕ) → j ≤ k →
    SearchLevelBelow (quiet_level b preds below j) (quiet_level b preds below' k)
unfolding quiet_level
quiet-level-more b adds preds below below' h zero zero a =
    with-more (searches_of b preds None below) (searches_of b preds None below') below below' (calls-more b adds preds None None below below' tt h) h
quiet-level-more b adds preds below below' h zero (suc k) a =
    let inner : Option SearchLevel = Some (quiet_level b preds below' k) in
    with-more (searches_of b preds None below) (searches_of b preds inner below') below below' (calls-more b adds preds None inner below below' tt h) h
quiet-level-more b adds preds below below' h (suc j) zero a = absurd (omega (arith, a))
quiet-level-more b adds preds below below' h (suc j) (suc k) a =
    let inner : Option SearchLevel = Some (quiet_level b preds below j) in
    let inner' : Option SearchLevel = Some (quiet_level b preds below' k) in
    with-more (searches_of b preds inner below) (searches_of b preds inner' below') below below'
    (calls-more b adds preds inner inner' below below' (quiet-level-more b adds preds below below' h j k (omega (arith, a))) h) h

level-more : (b : Offers) → OffersOnlyAdd b → (preds : List PredTree) (n : ℕ) → SearchLevelBelow (search_level b preds n) (search_level b preds (suc n))
unfolding search_level
level-more b adds preds zero = quiet-level-more b adds preds None (Some (search_level b preds zero)) tt (length preds) (suc (length preds + 0)) (omega arith)
level-more b adds preds (suc n) =
    quiet-level-more b adds preds (Some (search_level b preds n)) (Some (search_level b preds (suc n))) (level-more b adds preds n) (suc (length preds + n)) (suc (length preds + suc n)) (omega arith)

-- ---- queries

same-answer : (names : List NameSlot) (p q : Spot) → SpotBelow p q → SearchBy Same (answered_with names p) (answered_with names q)
same-answer names _ _ (same_spot {l = l} h e s) = itself-by (answered_with names (spot l e s))

query-by : (b : Offers) → OffersOnlyAdd b → (program : List PredTree) (q : QueryTree) (d : ℕ) → SearchBy Same (query_search b program q d) (query_search b program q (suc d))
unfolding query_search SearchesBy
query-by b adds program q d =
    let start : Spot = query_start (search_level b (program ++ q.helpers) d) q in
    let start' : Spot = query_start (search_level b (program ++ q.helpers) (suc d)) q in
    sequence-by SpotBelow Same (strictly (search b q.goal) start) (strictly (search b q.goal) start') (answered_with q.names) (answered_with q.names)
    (at-spots (strictly (search b q.goal)) (strictly-more (search b q.goal) (goal-more b adds q.goal)) start start' (same_spot (level-more b adds (program ++ q.helpers) d) start.slots start.state)) (same-answer q.names)

pub query-more : (b : Offers) → OffersOnlyAdd b → (program : List PredTree) (q : QueryTree) (d : ℕ) → SearchBelow (query_search b program q d) (query_search b program q (suc d))
query-more b adds program q d = search-below (query_search b program q d) (query_search b program q (suc d)) (query-by b adds program q d)

pub resumed-more : (b : Offers) → OffersOnlyAdd b → (program : List PredTree) (q : QueryTree) (path : List ℕ) (d : ℕ) → FollowsBelow (resumed_query b program q d path) (resumed_query b program q (suc d) path)
resumed-more b adds program q path d =
    let s : Search Solution = query_search b program q d in
    let t : Search Solution = query_search b program q (suc d) in
    follows-below (resumed (s.follows path)) (resumed (t.follows path)) (resumed-by Same (s.follows path) (t.follows path) ((query-by b adds program q d).follows path))
