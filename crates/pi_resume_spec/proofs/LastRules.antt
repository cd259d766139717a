-- Calls of a program last as long as their level is deep, in both runs, and so do queries: a depth of twice as many reaches past so many Ticks.
use Rattle.std.specs.Prelude.{◌≡◌, ℕ, zero, suc, ◌+◌, ◌-◌, ◌<◌, ◌≤◌, Bool, true, false, not, cond, List, [], ◌∷◌, ◌++◌, length, map, replicate, Option, Some, None, option_map, option_and_then, Contains, ⊤, refl}
use Rattle.std.specs.List.{list_any}
use Rattle.std.proofs.Common.{arith, sym, ◌∙◌, ap, subst, inl, inr}
use Rattle.pi_terms.specs.Tree.{Tree, comp, Trees, tree_count}
use Rattle.pi_terms.specs.Places.{Places}
use Rattle.pi_constraints.specs.State.{State, bindings}
use Rattle.pi_constraints.specs.HeadMatch.{matched_all_in}
use Rattle.pi_core.specs.GoalTree.{GoalTree, truth}
use Rattle.pi_core.specs.CoreTree.{backtracks, find_pred, ClauseTree, PredTree, QueryTree}
use Rattle.pi_core.specs.declared.core_program.SlotWatch.{SlotWatch}
use Rattle.pi_core.specs.declared.core_program.NameSlot.{NameSlot}
use Rattle.pi_syntax.specs.declared.program.Mode.{Mode}
use Rattle.pi_traces.specs.Trace.{Trace, end, Deep, done, one}
use Rattle.pi_traces.proofs.LastLemmas.{Lasts, Falls, Any, any-falls, less-left, done-lasts, one-lasts}
use Rattle.pi_meaning.specs.Shared.Drain.{drained}
use Rattle.pi_meaning.specs.Shared.Settle.{settled_from}
use Rattle.pi_meaning.specs.Shared.Level.{Level, Applied}
use Rattle.pi_meaning.specs.CoreMeaning.Facts.{fact_terms, unified_with, fits_modes}
use Rattle.pi_meaning.specs.CoreMeaning.Instances.{is_called_by_name}
use Rattle.pi_meaning.specs.CoreMeaning.Meaning.{slot_value}
use Rattle.pi_meaning.specs.CoreMeaning.Quiet.{Callee, TicksBetween, Reaches, Passes}
use Rattle.pi_meaning.specs.CoreMeaning.Rules as core
use Rattle.pi_meaning.specs.CoreMeaning.Rules.{suspended, function_run, application_run}
use Rattle.pi_meaning.specs.CoreMeaning.Run.{Solution, told}
use Rattle.pi_meaning.proofs.CoreMeaning.QuietGoals.{worth-counted, Fits, callee, within-lasts, settled-lasts}
use Rattle.pi_resume_spec.specs.Resumed.{Search, simple, alternatives, RuleSearch}
use Rattle.pi_resume_spec.specs.Searches.{Searches, SearchLevel, bottom, above, level_with, plain_level, Spot, only, ticked_at, strictly}
use Rattle.pi_resume_spec.specs.ByName.{Offers}
use Rattle.pi_resume_spec.specs.Goals.{search}
use Rattle.pi_resume_spec.specs.Rules.{guarded, applies_from, searched_by, rule_searches, rules_of, quiet_search, by_rules, body_or_agent, fact_search, pred_search, entered, call_search, searches_of, quiet_level, search_level}
use Rattle.pi_resume_spec.specs.Queries.{solution, answered_with, query_start, query_search}
use Rattle.pi_resume_spec.proofs.LastLemmas.{SearchLasts, less-search, none-search, simple-lasts, only-lasts, sequence-lasts, AllLast, alternatives-lasts, RulesLast, rules-last, tick-lasts, condition-lasts}
use Rattle.pi_resume_spec.proofs.LastGoals.{SearchesLast, depth_of, count_at, SearchLevelLasts, plain-lasts, OffersLast, Left, onward, strictly-deepens, strict-lasts, goal-deepens}
use Rattle.pi_resume_spec.proofs.LastFunctions.{ClauseFits, function-lasts}

-- ---- rules

guarded-lasts : (preds : List PredTree) (r : TicksBetween preds) (b : Offers) → OffersLast preds r b → (g : GoalTree) (f : ℕ) → ((c : Callee) → Reaches c g → Fits preds r f c) → (d : ℕ) (p : Spot) → d ≤ depth_of p.level →
    SearchLevelLasts preds r f p.level → Lasts (Left preds r f (Passes g)) d (guarded b g p)
unfolding Passes
guarded-lasts preds r b lasting truth f fits d p h l = one-lasts (Left preds r f ⊤) d p (h, inl (l, tt))
guarded-lasts preds r b lasting g f fits d p h l = strict-lasts preds r (search b g) (λ c. Reaches c g) (Passes g) (goal-deepens preds r b lasting g) f fits d p h l

applies-lasts : (preds : List PredTree) (r : TicksBetween preds) (b : Offers) → OffersLast preds r b → (f d : ℕ) (l : SearchLevel) → d ≤ depth_of l → SearchLevelLasts preds r f l → (c : ClauseTree) → ClauseFits preds r f c →
    (s : State) (o : Option Places) → Lasts (Left preds r f (Passes c.guard)) d (applies_from b l c s o)
applies-lasts preds r b lasting f d l h last c fits s None = done-lasts (Left preds r f (Passes c.guard)) d
applies-lasts preds r b lasting f d l h last c fits s (Some e) = guarded-lasts preds r b lasting c.guard f (λ x reach. fits x (inl reach)) d (record { level = l; slots = e; state = s }) h last

body-lasts : (preds : List PredTree) (r : TicksBetween preds) (b : Offers) → OffersLast preds r b → (t : Tree) (f i : ℕ) (c : ClauseTree) → ClauseFits preds r f c → (ws : List SlotWatch) (k : ℕ) (q : Spot) →
    Left preds r f (Passes c.guard) k q → SearchLasts Any k (body_or_agent b t i c ws q)
body-lasts preds r b lasting t f i c fits [] k q o =
    let P : Type 0 = Passes c.guard in
    sequence-lasts (Left preds r f P) Any any-falls k (search b c.body q) (λ x. only x.state)
    (onward preds r f P P (search b c.body) (λ x. Reaches x c.body) (Passes c.body) (goal-deepens preds r b lasting c.body) (λ z x reach. fits x (inr (z, reach))) (λ x y. x) k q o)
    (λ j x m n. only-lasts Any any-falls j x.state tt)
body-lasts preds r b lasting t f i c fits (w ∷ ws) k q o = only-lasts Any any-falls k (suspended t i (w ∷ ws) q.slots q.state) tt

-- what the body of a rule that applies does lasts
BodiesLast : (preds : List PredTree) → TicksBetween preds → ℕ → (ℕ → ClauseTree → Spot → Search State) → Type 0
BodiesLast preds r f body = (i : ℕ) (c : ClauseTree) → ClauseFits preds r f c → (k : ℕ) (q : Spot) → Left preds r f (Passes c.guard) k q → SearchLasts Any k (body i c q)

each-rule : (preds : List PredTree) (r : TicksBetween preds) (b : Offers) → OffersLast preds r b → (f d : ℕ) (l : SearchLevel) → d ≤ depth_of l → SearchLevelLasts preds r f l → (back : ClauseTree → Bool)
    (body : ℕ → ClauseTree → Spot → Search State) → BodiesLast preds r f body → (i : ℕ) (cs : List ClauseTree) → ((c : ClauseTree) → Contains cs c → ClauseFits preds r f c) → (ts : Trees) (s : State) →
    RulesLast Any d (rule_searches (searched_by b l back body) i cs ts s)
unfolding rule_searches RulesLast BodiesLast
each-rule preds r b lasting f d l h last back body all i [] fits ts s = tt
each-rule preds r b lasting f d l h last back body all i (c ∷ cs) fits ts s =
    let this : ClauseFits preds r f c = fits c (0, omega arith, refl) in (
      record {
        there = Left preds r f (Passes c.guard);
        applies = applies-lasts preds r b lasting f d l h last c this s (matched_all_in (bindings s) c.head ts (replicate c.slots None));
        body = λ k q m o. all i c this k q o;
      },
      each-rule preds r b lasting f d l h last back body all (suc i) cs (λ x within. let few = within.1 in fits x (suc within.0, omega (arith, few), within.2)) ts s,
    )

quiet-rules : {X A : Type 0} (Ok : ℕ → A → Type 0) → Falls Ok → (d : ℕ) (rs : List (RuleSearch X A)) → RulesLast Ok d rs → SearchLasts Ok d (quiet_search rs)
unfolding RulesLast quiet_search
quiet-rules Ok h d [] a = simple-lasts Ok h d done (done-lasts Ok d)
quiet-rules Ok h d (r ∷ rs) a = condition-lasts a.0.there Ok h d r.applies r.body (quiet_search rs) a.0.applies a.0.body (quiet-rules Ok h d rs a.1)

by-lasts : {X : Type 0} (d : ℕ) (quiet : Bool) (rs : List (RuleSearch X State)) → RulesLast Any d rs → SearchLasts Any d (by_rules quiet rs)
by-lasts d true rs a = quiet-rules Any any-falls d rs a
by-lasts d false rs a = rules-last Any any-falls d rs a

settled-from-lasts : (d : ℕ) (s : State) (o : Option State) → Lasts Any d (settled_from s o)
settled-from-lasts d s None = done-lasts Any d
settled-from-lasts d s (Some t) = settled-lasts d s t

facts-last : (d : ℕ) (cs : List ClauseTree) (ts : Trees) (s : State) → AllLast Any d (map (fact_search ts s) cs)
unfolding AllLast
facts-last d [] ts s = tt
facts-last d (c ∷ cs) ts s =
    let o : Option State = option_and_then (unified_with ts) (fact_terms c.head (replicate c.slots None) s) in
    (simple-lasts Any any-falls d (settled_from s o) (settled-from-lasts d s o), facts-last d cs ts s)

tested-lasts : (d : ℕ) (test : Bool) (s : Search State) → SearchLasts Any d s → SearchLasts Any d (cond test s (simple done))
tested-lasts d true s a = a
tested-lasts d false s a = simple-lasts Any any-falls d done (done-lasts Any d)

pred-lasts : (preds : List PredTree) (r : TicksBetween preds) (b : Offers) → OffersLast preds r b → (f d : ℕ) (l : SearchLevel) → d ≤ depth_of l → SearchLevelLasts preds r f l → (pred : PredTree) →
    ((c : ClauseTree) → Contains pred.clauses c → ClauseFits preds r f c) → (index : Option (List (List Mode))) (ts : Trees) (s : State) → SearchLasts Any d (pred_search b l pred index ts s)
unfolding pred_search BodiesLast
pred-lasts preds r b lasting f d l h last pred fits None ts s =
    by-lasts d pred.quiet (rule_searches (rules_of b l pred.name ts) 0 pred.clauses ts s)
    (each-rule preds r b lasting f d l h last (λ c. backtracks c.back c.watches) (λ i c p. body_or_agent b (comp pred.name ts) i c c.watches p)
    (λ i c this k q o. body-lasts preds r b lasting (comp pred.name ts) f i c this c.watches k q o) 0 pred.clauses fits ts s)
pred-lasts preds r b lasting f d l h last pred fits (Some lists) ts s =
    tested-lasts d (list_any (λ modes. fits_modes (bindings s) modes ts) lists) (alternatives (map (fact_search ts s) pred.clauses))
    (alternatives-lasts Any any-falls d (map (fact_search ts s) pred.clauses) (facts-last d pred.clauses ts s))

-- ---- calls

-- what it is worth, and counts, above an optional level
abbrev worth_over : Option SearchLevel → ℕ
worth_over None = 0
worth_over (Some l) = count_at l

abbrev counted_over : Option SearchLevel → ℕ
counted_over None = 0
counted_over (Some l) = suc (depth_of l)

worth-over-counted : (o : Option SearchLevel) → worth_over o ≤ counted_over o
worth-over-counted None = omega arith
worth-over-counted (Some l) = (worth-counted (plain_level l)).1

abbrev BelowLasts : (preds : List PredTree) → TicksBetween preds → Option SearchLevel → Type 0
BelowLasts preds r None = ⊤
BelowLasts preds r (Some l) = SearchLevelLasts preds r (length preds) l

-- the level that quiet calls go to: as deep, with one fewer to nest
InnerLasts : (preds : List PredTree) → TicksBetween preds → ℕ → ℕ → Option SearchLevel → Type 0
InnerLasts preds r f d None = f ≡ 0
InnerLasts preds r f d (Some l) = (k : ℕ) × (f ≡ suc k) × (d ≤ depth_of l) × SearchLevelLasts preds r k l

full-fits : (preds : List PredTree) (r : TicksBetween preds) (c : ClauseTree) → ClauseFits preds r (length preds) c
full-fits preds r c x reach other quiet = r.below x other quiet

-- what a call of the predicate does at a level, where the calls of its clauses may be made
abbrev RunsLast : (preds : List PredTree) → TicksBetween preds → PredTree → (SearchLevel → Search State) → Type 0
RunsLast preds r pred run =
    (k d : ℕ) (l : SearchLevel) → d ≤ depth_of l → SearchLevelLasts preds r k l → ((x : ClauseTree) → Contains pred.clauses x → ClauseFits preds r k x) → SearchLasts Any d (run l)

deep-lasts : (d : ℕ) → d ≤ 0 → SearchLasts {A = State} Any d (simple (end Deep))
deep-lasts d h = none-search d (simple (end Deep)) h

ticked-lasts : (preds : List PredTree) (r : TicksBetween preds) (below : Option SearchLevel) → BelowLasts preds r below → (pred : PredTree) (run : SearchLevel → Search State) → RunsLast preds r pred run →
    SearchLasts Any (counted_over below) (ticked_at below run)
ticked-lasts preds r None b pred run go = deep-lasts 0 (omega arith)
ticked-lasts preds r (Some l) b pred run go =
    let left : suc (depth_of l) - 1 ≡ depth_of l = omega arith in
    tick-lasts Any (suc (depth_of l)) (run l) (subst (λ (d : ℕ). SearchLasts Any d (run l)) (sym left) (go (length preds) (depth_of l) l (omega arith) b (λ x within. full-fits preds r x)))

entered-lasts : (preds : List PredTree) (r : TicksBetween preds) (f : ℕ) (inner below : Option SearchLevel) → BelowLasts preds r below → InnerLasts preds r f (worth_over below) inner → (c : Callee) → Fits preds r f c →
    (pred : PredTree) → find_pred c.function c.name c.arity preds ≡ Some pred → (run : SearchLevel → Search State) → RunsLast preds r pred run → (quiet : Bool) → pred.quiet ≡ quiet →
    SearchLasts Any (worth_over below) (entered quiet inner below run)
unfolding InnerLasts
entered-lasts preds r f inner below b a c fits pred is run go false q =
    less-search Any any-falls (counted_over below) (worth_over below) (worth-over-counted below) (ticked_at below run) (ticked-lasts preds r below b pred run go)
entered-lasts preds r f None below b a c fits pred is run go true q = let less : r.rank c < f = fits pred (is, q) in absurd (omega (arith, less, a))
entered-lasts preds r f (Some l) below b a c fits pred is run go true q =
    let less : r.rank c < f = fits pred (is, q) in
    go a.0 (worth_over below) l a.2 a.3
    (λ x within d reach other quiet. let falls : r.rank d < r.rank c = r.falls c d pred other x (is, q) within reach quiet in let nest = a.1 in omega (arith, falls, less, nest))

call-lasts : (preds : List PredTree) (r : TicksBetween preds) (b : Offers) → OffersLast preds r b → (f : ℕ) (inner below : Option SearchLevel) → BelowLasts preds r below → InnerLasts preds r f (worth_over below) inner →
    (name : List ℕ) (ts : Trees) (s : State) → Fits preds r f (callee false name (tree_count ts)) → (o : Option PredTree) → find_pred false name (tree_count ts) preds ≡ o → SearchLasts Any (worth_over below) (call_search b inner below o ts s)
call-lasts preds r b lasting f inner below k a name ts s fits None is = simple-lasts Any any-falls (worth_over below) done (done-lasts Any (worth_over below))
call-lasts preds r b lasting f inner below k a name ts s fits (Some pred) is =
    entered-lasts preds r f inner below k a (callee false name (tree_count ts)) fits pred is (λ l. pred_search b l pred pred.index ts s)
    (λ j d l h last this. pred-lasts preds r b lasting j d l h last pred this pred.index ts s) pred.quiet refl

loud-entered : (preds : List PredTree) (r : TicksBetween preds) (inner below : Option SearchLevel) → BelowLasts preds r below → (pred : PredTree) (run : SearchLevel → Search State) → RunsLast preds r pred run →
    (quiet : Bool) → not quiet ≡ true → SearchLasts Any (counted_over below) (entered quiet inner below run)
loud-entered preds r inner below b pred run go false loud = ticked-lasts preds r below b pred run go
loud-entered preds r inner below b pred run go true loud = absurd cc

loud-lasts : (preds : List PredTree) (r : TicksBetween preds) (b : Offers) → OffersLast preds r b → (inner below : Option SearchLevel) → BelowLasts preds r below → (o : Option PredTree) → is_called_by_name o ≡ true →
    (ts : Trees) (s : State) → SearchLasts Any (counted_over below) (call_search b inner below o ts s)
loud-lasts preds r b lasting inner below k None loud ts s = absurd cc
loud-lasts preds r b lasting inner below k (Some pred) loud ts s =
    loud-entered preds r inner below k pred (λ l. pred_search b l pred pred.index ts s) (λ j d l h last this. pred-lasts preds r b lasting j d l h last pred this pred.index ts s) pred.quiet loud

-- of functions, at the levels without paths
applied-ticked : (preds : List PredTree) (r : TicksBetween preds) (b : Offers) → OffersLast preds r b → (below : Option SearchLevel) → BelowLasts preds r below → (pred : PredTree) (ts : Trees) (s : State) →
    Lasts Any (counted_over below) (Rattle.pi_meaning.specs.Shared.Level.ticked (option_map plain_level below) (λ l. function_run b.plain l pred ts s))
unfolding Lasts
applied-ticked preds r b lasting None k pred ts s = λ e. refl
applied-ticked preds r b lasting (Some l) k pred ts s =
    let left : suc (depth_of l) - 1 ≡ depth_of l = omega arith in
    subst (λ (d : ℕ). Lasts Any d (function_run b.plain (plain_level l) pred ts s)) (sym left)
    (function-lasts preds r b.plain lasting.plain (length preds) (depth_of l) (plain_level l) (omega arith) (plain-lasts preds r (length preds) l k) pred (λ x within. full-fits preds r x) ts s)

applied-entered : (preds : List PredTree) (r : TicksBetween preds) (b : Offers) → OffersLast preds r b → (f : ℕ) (inner below : Option SearchLevel) → BelowLasts preds r below → InnerLasts preds r f (worth_over below) inner →
    (c : Callee) → Fits preds r f c → (pred : PredTree) → find_pred c.function c.name c.arity preds ≡ Some pred → (ts : Trees) (s : State) (quiet : Bool) → pred.quiet ≡ quiet →
    Lasts Any (worth_over below) (core.entered quiet (option_map plain_level inner) (option_map plain_level below) (λ l. function_run b.plain l pred ts s))
unfolding InnerLasts
applied-entered preds r b lasting f inner below k a c fits pred is ts s false q =
    less-left Any any-falls (counted_over below) (worth_over below) (worth-over-counted below)
    (Rattle.pi_meaning.specs.Shared.Level.ticked (option_map plain_level below) (λ l. function_run b.plain l pred ts s)) (applied-ticked preds r b lasting below k pred ts s)
applied-entered preds r b lasting f None below k a c fits pred is ts s true q = let less : r.rank c < f = fits pred (is, q) in absurd (omega (arith, less, a))
applied-entered preds r b lasting f (Some l) below k a c fits pred is ts s true q =
    let less : r.rank c < f = fits pred (is, q) in
    function-lasts preds r b.plain lasting.plain a.0 (worth_over below) (plain_level l) a.2 (plain-lasts preds r a.0 l a.3) pred
    (λ x within d reach other quiet. let falls : r.rank d < r.rank c = r.falls c d pred other x (is, q) within reach quiet in let nest = a.1 in omega (arith, falls, less, nest)) ts s

application-lasts : (preds : List PredTree) (r : TicksBetween preds) (b : Offers) → OffersLast preds r b → (f : ℕ) (inner below : Option SearchLevel) → BelowLasts preds r below → InnerLasts preds r f (worth_over below) inner →
    (name : List ℕ) (ts : Trees) (s : State) → Fits preds r f (callee true name (tree_count ts)) → (o : Option PredTree) → find_pred true name (tree_count ts) preds ≡ o →
    Lasts Any (worth_over below) (application_run b.plain (option_map plain_level inner) (option_map plain_level below) o ts s)
application-lasts preds r b lasting f inner below k a name ts s fits None is = done-lasts Any (worth_over below)
application-lasts preds r b lasting f inner below k a name ts s fits (Some pred) is = applied-entered preds r b lasting f inner below k a (callee true name (tree_count ts)) fits pred is ts s pred.quiet refl

drained-lasts : (d : ℕ) (s : State) → Lasts Any d (drained s)
unfolding drained
drained-lasts d s = one-lasts Any d s tt

calls-last : (preds : List PredTree) (r : TicksBetween preds) (b : Offers) → OffersLast preds r b → (f : ℕ) (inner below : Option SearchLevel) → BelowLasts preds r below → InnerLasts preds r f (worth_over below) inner →
    SearchesLast preds r f (worth_over below) (counted_over below) (searches_of b preds inner below)
unfolding searches_of
calls-last preds r b lasting f inner below k a = record {
  called = λ name ts s fits. call-lasts preds r b lasting f inner below k a name ts s fits (find_pred false name (tree_count ts) preds) refl;
  applied = λ name ts s fits. application-lasts preds r b lasting f inner below k a name ts s fits (find_pred true name (tree_count ts) preds) refl;
  loud = λ name ts s found. loud-lasts preds r b lasting inner below k (find_pred false name (tree_count ts) preds) found ts s;
  drained = λ j s. simple-lasts Any any-falls j (drained s) (drained-lasts j s);
}

-- ---- levels

level-with-lasts : (preds : List PredTree) (r : TicksBetween preds) (f : ℕ) (c : Searches) (below : Option SearchLevel) → SearchesLast preds r f (worth_over below) (counted_over below) c → BelowLasts preds r below →
    SearchLevelLasts preds r f (level_with c below)
unfolding SearchLevelLasts
level-with-lasts preds r f c None a b = a
level-with-lasts preds r f c (Some l) a b = (a, b)

worth-of : (c : Searches) (below : Option SearchLevel) → depth_of (level_with c below) ≡ worth_over below
unfolding plain_level
worth-of c None = refl
worth-of c (Some l) = refl

counted-of : (c : Searches) (below : Option SearchLevel) → count_at (level_with c below) ≡ counted_over below
unfolding plain_level
counted-of c None = refl
counted-of c (Some l) = refl

quiet-worth : (b : Offers) (preds : List PredTree) (below : Option SearchLevel) (k : ℕ) → depth_of (quiet_level b preds below k) ≡ worth_over below
unfolding quiet_level
quiet-worth b preds below zero = worth-of (searches_of b preds None below) below
quiet-worth b preds below (suc k) = worth-of (searches_of b preds (Some (quiet_level b preds below k)) below) below

quiet-counted : (b : Offers) (preds : List PredTree) (below : Option SearchLevel) (k : ℕ) → count_at (quiet_level b preds below k) ≡ counted_over below
unfolding quiet_level
quiet-counted b preds below zero = counted-of (searches_of b preds None below) below
quiet-counted b preds below (suc k) = counted-of (searches_of b preds (Some (quiet_level b preds below k)) below) below

quiet-lasts : (preds : List PredTree) (r : TicksBetween preds) (b : Offers) → OffersLast preds r b → (below : Option SearchLevel) → BelowLasts preds r below → (k : ℕ) → SearchLevelLasts preds r k (quiet_level b preds below k)
unfolding quiet_level InnerLasts
quiet-lasts preds r b lasting below h zero = level-with-lasts preds r 0 (searches_of b preds None below) below (calls-last preds r b lasting 0 None below h refl) h
quiet-lasts preds r b lasting below h (suc k) =
    let inner : SearchLevel = quiet_level b preds below k in
    let same : depth_of inner ≡ worth_over below = quiet-worth b preds below k in
    level-with-lasts preds r (suc k) (searches_of b preds (Some inner) below) below
    (calls-last preds r b lasting (suc k) (Some inner) below h (k, refl, omega (arith, same), quiet-lasts preds r b lasting below h k)) h

-- a level where more may nest is one where fewer may
fewer-calls : (preds : List PredTree) (r : TicksBetween preds) (f k d e : ℕ) → k ≤ f → (c : Searches) → SearchesLast preds r f d e c → SearchesLast preds r k d e c
fewer-calls preds r f k d e h c a = record {
  called = λ name ts s fits. a.called name ts s (λ pred quiet. let less : r.rank (callee false name (tree_count ts)) < k = fits pred quiet in omega (arith, less, h));
  applied = λ name ts s fits. a.applied name ts s (λ pred quiet. let less : r.rank (callee true name (tree_count ts)) < k = fits pred quiet in omega (arith, less, h));
  loud = a.loud;
  drained = a.drained;
}

fewer : (preds : List PredTree) (r : TicksBetween preds) (f k : ℕ) → k ≤ f → (l : SearchLevel) → SearchLevelLasts preds r f l → SearchLevelLasts preds r k l
unfolding SearchLevelLasts
fewer preds r f k h (bottom c) a = fewer-calls preds r f k 0 0 h c a
fewer preds r f k h (above c l) a = (fewer-calls preds r f k (count_at l) (suc (depth_of l)) h c a.0, a.1)

level-lasts : (preds : List PredTree) (r : TicksBetween preds) (b : Offers) → OffersLast preds r b → (d : ℕ) → SearchLevelLasts preds r (length preds) (search_level b preds d)
unfolding search_level
level-lasts preds r b lasting zero = quiet-lasts preds r b lasting None tt (length preds)
level-lasts preds r b lasting (suc d) =
    let below : Option SearchLevel = Some (search_level b preds d) in
    fewer preds r (suc (length preds + d)) (length preds) (omega arith) (quiet_level b preds below (suc (length preds + d))) (quiet-lasts preds r b lasting below (level-lasts preds r b lasting d) (suc (length preds + d)))

-- with two more of the depth a level is worth one Tick more
abbrev pub twice : ℕ → ℕ
twice zero = zero
twice (suc n) = suc (suc (twice n))

level-worth : (b : Offers) (preds : List PredTree) (n : ℕ) → depth_of (search_level b preds (twice n)) ≡ n
unfolding search_level
level-worth b preds zero = quiet-worth b preds None (length preds)
level-worth b preds (suc n) =
    quiet-worth b preds (Some (search_level b preds (suc (twice n)))) (suc (length preds + suc (twice n)))
    ∙ (quiet-counted b preds (Some (search_level b preds (twice n))) (suc (length preds + twice n)) ∙ ap suc (level-worth b preds n))

-- ---- queries

told-lasts : (j : ℕ) (names : List NameSlot) (x : Solution) (t : Trace Solution) → Lasts Any j t → Lasts Any j (told names x t)
unfolding told
told-lasts j [] x t a = a
told-lasts j (n ∷ names) x t a = within-lasts Any j (slot_value n.slot x.slots x.state) (told names x t) (told-lasts j names x t a)

pub query-lasts : (b : Offers) (program : List PredTree) (q : QueryTree) (r : TicksBetween (program ++ q.helpers)) → OffersLast (program ++ q.helpers) r b → (n : ℕ) → SearchLasts Any n (query_search b program q (twice n))
unfolding query_search
query-lasts b program q r lasting n =
    let preds : List PredTree = program ++ q.helpers in
    let l : SearchLevel = search_level b preds (twice n) in
    let deep : depth_of l ≡ n = level-worth b preds n in
    sequence-lasts (Left preds r (length preds) ⊤) Any any-falls n (strictly (search b q.goal) (query_start l q)) (answered_with q.names)
    (onward preds r (length preds) ⊤ ⊤ (strictly (search b q.goal)) (λ c. Reaches c q.goal) (Passes q.goal)
    (strictly-deepens preds r (search b q.goal) (λ c. Reaches c q.goal) (Passes q.goal) (goal-deepens preds r b lasting q.goal)) (λ z c reach pred quiet. r.below c pred quiet) (λ x y. x) n (query_start l q)
    (omega (arith, deep), inl (level-lasts preds r b lasting (twice n), tt)))
    (λ j x m o. simple-lasts Any any-falls j (told q.names (solution x) (one (solution x))) (told-lasts j q.names (solution x) (one (solution x)) (one-lasts Any j (solution x) tt)))
