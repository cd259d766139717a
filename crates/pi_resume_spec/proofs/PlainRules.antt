-- Calls of the program, and queries, without their paths are those of the core meaning.
use Rattle.std.specs.Prelude.{◌≡◌, ℕ, zero, suc, ◌+◌, Bool, true, false, cond, List, [], ◌∷◌, ◌++◌, length, map, replicate, Option, Some, None, option_map, IsTrue, Contains, refl}
use Rattle.std.specs.List.{list_any}
use Rattle.std.specs.Prelude.{not as opposite}
use Rattle.std.proofs.Common.{sym, ◌∙◌, ap, arith}
use Rattle.pi_terms.specs.Tree.{Tree, comp, Trees, tree_count}
use Rattle.pi_terms.specs.Places.{Places}
use Rattle.pi_constraints.specs.State.{State, bindings}
use Rattle.pi_constraints.specs.HeadMatch.{matched_all_in}
use Rattle.pi_core.specs.GoalTree.{GoalTree, truth, fail, tick, call, apply, seq, alternatives as any_of, if_else, not, once, collect, count, catch}
use Rattle.pi_core.specs.CoreTree.{backtracks, is_pred, find_pred, ClauseTree, PredTree, QueryTree}
use Rattle.pi_core.specs.declared.core_program.SlotWatch.{SlotWatch}
use Rattle.pi_syntax.specs.declared.program.Mode.{Mode}
use Rattle.pi_traces.specs.Trace.{Trace, note, Tick, done, one, alt, then}
use Rattle.pi_traces.specs.Control.{chosen}
use Rattle.pi_meaning.specs.Shared.Drain.{drained}
use Rattle.pi_meaning.specs.Shared.Level.{Level, level_of, Point}
use Rattle.pi_meaning.specs.CoreMeaning.Facts.{facts, facts_called, fits_modes}
use Rattle.pi_meaning.specs.CoreMeaning.Meaning.{meaning, strictly as strictly_plain}
use Rattle.pi_meaning.specs.CoreMeaning.Rules as core
use Rattle.pi_meaning.specs.CoreMeaning.Rules.{RulesBy, rules_by, rule_by, rule_before, chosen_rule, rules, pred_run, application_run, call_run, calls_of, level_at}
use Rattle.pi_meaning.specs.CoreMeaning.Run.{Solution, answered_with as told_with, query_trace}
use Rattle.pi_traces.proofs.TraceLemmas.{alt-done}
use Rattle.pi_resume_spec.specs.Ways.{plain, choice_from}
use Rattle.pi_resume_spec.specs.Resumed.{Search, simple, ways_of, alternatives, rest_unless, rules_ways}
use Rattle.pi_resume_spec.specs.Searches.{Searches, SearchLevel, level_with, plain_calls, plain_level, Spot, point_of, without_paths, strictly}
use Rattle.pi_resume_spec.specs.ByName.{Offers}
use Rattle.pi_resume_spec.specs.Goals.{search}
use Rattle.pi_resume_spec.specs.Rules.{guarded, applies_from, searched_by, rule_searches, rules_of, quiet_search, by_rules, body_or_agent, fact_search, pred_search, entered, call_search, searches_of, quiet_level, search_level}
use Rattle.pi_resume_spec.specs.Queries.{answered_with, query_start, query_search}
use Rattle.pi_resume_spec.specs.LanguageLaws.{QuietIsCommitted}
use Rattle.pi_resume_spec.proofs.PlainLemmas.{same-then, then-renamed, plain_of_choice, plain_of_rules}
use Rattle.pi_resume_spec.proofs.PlainGoals.{plain-simple, plain-sequence, plain-onward, plain-chosen, points, chosen-points, ArePlain, same-strict, same-strictly, goal-plain}

-- ---- rules

guard-plain : (b : Offers) → ArePlain b → (g : GoalTree) (p : Spot) → points (guarded b g p) ≡ core.guarded b.plain g (point_of p)
unfolding then alt
guard-plain b same truth p = refl
guard-plain b same fail p = same-strict (search b fail) (meaning b.plain fail) (goal-plain b same fail) p
guard-plain b same tick p = same-strict (search b tick) (meaning b.plain tick) (goal-plain b same tick) p
guard-plain b same (call name args) p = same-strict (search b (call name args)) (meaning b.plain (call name args)) (goal-plain b same (call name args)) p
guard-plain b same (apply name args k) p = same-strict (search b (apply name args k)) (meaning b.plain (apply name args k)) (goal-plain b same (apply name args k)) p
guard-plain b same (seq gs) p = same-strict (search b (seq gs)) (meaning b.plain (seq gs)) (goal-plain b same (seq gs)) p
guard-plain b same (any_of gs) p = same-strict (search b (any_of gs)) (meaning b.plain (any_of gs)) (goal-plain b same (any_of gs)) p
guard-plain b same (if_else c g h) p = same-strict (search b (if_else c g h)) (meaning b.plain (if_else c g h)) (goal-plain b same (if_else c g h)) p
guard-plain b same (not g) p = same-strict (search b (not g)) (meaning b.plain (not g)) (goal-plain b same (not g)) p
guard-plain b same (once g) p = same-strict (search b (once g)) (meaning b.plain (once g)) (goal-plain b same (once g)) p
guard-plain b same (collect g k into) p = same-strict (search b (collect g k into)) (meaning b.plain (collect g k into)) (goal-plain b same (collect g k into)) p
guard-plain b same (count g into) p = same-strict (search b (count g into)) (meaning b.plain (count g into)) (goal-plain b same (count g into)) p
guard-plain b same (catch g t h) p = same-strict (search b (catch g t h)) (meaning b.plain (catch g t h)) (goal-plain b same (catch g t h)) p

-- a rule that applies, and the later ones where it isn't committed
rest-plain : {X : Type 0} (back : Bool) (t : Trace X) (later : Rattle.pi_resume_spec.specs.Ways.Ways X) → alt t (plain (rest_unless (opposite back) later)) ≡ chosen_rule back t (plain later)
unfolding then
rest-plain true t later = refl
rest-plain false t later = alt-done t

-- the first rule and what the others come to
first-rule : {X : Type 0} (b : Offers) → ArePlain b → (l : SearchLevel) (c : ClauseTree) (back : Bool) (body : Spot → Search X) (does : Point → Trace X) →
    ((p : Spot) → without_paths (body p) ≡ does (point_of p)) → (s : State) (later : Rattle.pi_resume_spec.specs.Ways.Ways X) (rest : Trace X) → plain later ≡ rest → (o : Option Places) →
    chosen (applies_from b l c s o) (λ x. alt (without_paths (body x)) (plain (rest_unless (opposite back) later))) (plain later)
    ≡ rule_before b.plain (plain_level l) (rule_by c back does) s rest o
unfolding chosen
first-rule b same l c back body does all s later rest is None = is
first-rule b same l c back body does all s later rest is (Some e) =
    let p : Spot = record { level = l; slots = e; state = s } in
    let f : Point → Trace _ = λ q. chosen_rule back (does q) rest in
    chosen-points (guarded b c.guard p) (λ x. alt (without_paths (body x)) (plain (rest_unless (opposite back) later))) f (plain later)
    (λ x. rest-plain back (without_paths (body x)) later ∙ (ap (λ t. chosen_rule back t (plain later)) (all x) ∙ ap (λ t. chosen_rule back (does (point_of x)) t) is))
    ∙ (ap (λ t. chosen t f (plain later)) (guard-plain b same c.guard p) ∙ ap (λ t. chosen (core.guarded b.plain c.guard (point_of p)) f t) is)

pub rules-plain : {X : Type 0} (b : Offers) → ArePlain b → (l : SearchLevel) (back : ClauseTree → Bool) (body : ℕ → ClauseTree → Spot → Search X) (does : ℕ → ClauseTree → Point → Trace X) →
    ((i : ℕ) (c : ClauseTree) (p : Spot) → without_paths (body i c p) ≡ does i c (point_of p)) → (k i : ℕ) (cs : List ClauseTree) (ts : Trees) (s : State) →
    plain (rules_ways k (rule_searches (searched_by b l back body) i cs ts s)) ≡ rules (rules_by b.plain (plain_level l) back does) i cs ts s
unfolding rule_searches rules rules_ways then
rules-plain b same l back body does all k i [] ts s = refl
rules-plain b same l back body does all k i (c ∷ cs) ts s =
    let o = matched_all_in (bindings s) c.head ts (replicate c.slots None) in
    let more = rule_searches (searched_by b l back body) (suc i) cs ts s in
    plain_of_rules k (record { applies = applies_from b l c s o; committed = opposite (back c); body = body i c }) more
    ∙ first-rule b same l c (back c) (body i c) (does i c) (all i c) s (rules_ways (suc k) more) (rules (rules_by b.plain (plain_level l) back does) (suc i) cs ts s)
    (rules-plain b same l back body does all (suc k) (suc i) cs ts s) o

-- rules without numbers, all committed
quiet-rule : {X : Type 0} (b : Offers) → ArePlain b → (l : SearchLevel) (c : ClauseTree) (back : Bool) → back ≡ false → (body : Spot → Search X) (does : Point → Trace X) →
    ((p : Spot) → without_paths (body p) ≡ does (point_of p)) → (s : State) (later rest : Trace X) → later ≡ rest → (o : Option Places) →
    chosen (applies_from b l c s o) (λ x. without_paths (body x)) later ≡ rule_before b.plain (plain_level l) (rule_by c back does) s rest o
unfolding chosen
quiet-rule b same l c true committed body does all s later rest is o = absurd (cc)
quiet-rule b same l c false committed body does all s later rest is None = is
quiet-rule b same l c false committed body does all s later rest is (Some e) =
    let p : Spot = record { level = l; slots = e; state = s } in
    chosen-points (guarded b c.guard p) (λ x. without_paths (body x)) does later all
    ∙ (ap (λ t. chosen t does later) (guard-plain b same c.guard p) ∙ ap (λ t. chosen (core.guarded b.plain c.guard (point_of p)) does t) is)

has-first : {X : Type 0} (x : X) (xs : List X) → Contains (x ∷ xs) x
has-first x xs = (0, omega arith, refl)

has-later : {X : Type 0} (x y : X) (xs : List X) → Contains xs y → Contains (x ∷ xs) y
has-later x y xs h = let within = h.1 in (suc h.0, omega arith, h.2)

-- each clause is committed
abbrev pub AreCommitted : (ClauseTree → Bool) → List ClauseTree → Type 0
AreCommitted back cs = (c : ClauseTree) → Contains cs c → back c ≡ false

quiet-plain : {X : Type 0} (b : Offers) → ArePlain b → (l : SearchLevel) (back : ClauseTree → Bool) (body : ℕ → ClauseTree → Spot → Search X) (does : ℕ → ClauseTree → Point → Trace X) →
    ((i : ℕ) (c : ClauseTree) (p : Spot) → without_paths (body i c p) ≡ does i c (point_of p)) → (i : ℕ) (cs : List ClauseTree) → AreCommitted back cs → (ts : Trees) (s : State) →
    without_paths (quiet_search (rule_searches (searched_by b l back body) i cs ts s)) ≡ rules (rules_by b.plain (plain_level l) back does) i cs ts s
unfolding rule_searches rules quiet_search then
quiet-plain b same l back body does all i [] committed ts s = refl
quiet-plain b same l back body does all i (c ∷ cs) committed ts s =
    let o = matched_all_in (bindings s) c.head ts (replicate c.slots None) in
    let more = quiet_search (rule_searches (searched_by b l back body) (suc i) cs ts s) in
    plain-chosen (applies_from b l c s o) (body i c) more
    ∙ quiet-rule b same l c (back c) (committed c (has-first c cs)) (body i c) (does i c) (all i c) s (without_paths more) (rules (rules_by b.plain (plain_level l) back does) (suc i) cs ts s)
    (quiet-plain b same l back body does all (suc i) cs (λ d within. committed d (has-later c d cs within)) ts s) o

-- ---- predicates

body-plain : (b : Offers) → ArePlain b → (the_call : Tree) (i : ℕ) (c : ClauseTree) (ws : List SlotWatch) (p : Spot) →
    without_paths (body_or_agent b the_call i c ws p) ≡ core.body_or_agent b.plain the_call i c ws (point_of p)
body-plain b same the_call i c [] p =
    plain-onward (search b c.body p) (λ q. q.state)
    ∙ (sym (then-renamed (without_paths (search b c.body p)) point_of (λ q. one q.state)) ∙ ap (λ t. then t (λ q. one q.state)) (goal-plain b same c.body p))
body-plain b same the_call i c (w ∷ ws) p = plain-simple (one (core.suspended the_call i (w ∷ ws) p.slots p.state))

facts-plain : (cs : List ClauseTree) (ts : Trees) (s : State) (k : ℕ) → plain (choice_from k (ways_of (map (fact_search ts s) cs))) ≡ facts cs ts s
unfolding choice_from facts then
facts-plain [] ts s k = refl
facts-plain (c ∷ cs) ts s k =
    let t = fact_search ts s c in
    plain_of_choice k t.ways (ways_of (map (fact_search ts s) cs))
    ∙ (ap (λ u. alt u (plain (choice_from (suc k) (ways_of (map (fact_search ts s) cs))))) (plain-simple (Rattle.pi_meaning.specs.Shared.Settle.settled_from s (Rattle.std.specs.Prelude.option_and_then (Rattle.pi_meaning.specs.CoreMeaning.Facts.unified_with ts) (Rattle.pi_meaning.specs.CoreMeaning.Facts.fact_terms c.head (replicate c.slots None) s))))
    ∙ ap (λ u. alt (Rattle.pi_meaning.specs.Shared.Settle.settled_from s (Rattle.std.specs.Prelude.option_and_then (Rattle.pi_meaning.specs.CoreMeaning.Facts.unified_with ts) (Rattle.pi_meaning.specs.CoreMeaning.Facts.fact_terms c.head (replicate c.slots None) s))) u) (facts-plain cs ts s (suc k)))

cond-plain : (test : Bool) (t : Search State) (u : Trace State) → without_paths t ≡ u → without_paths (cond test t (simple done)) ≡ cond test u done
unfolding then
cond-plain true t u is = is
cond-plain false t u is = refl

by-rules-plain : (b : Offers) → ArePlain b → (l : SearchLevel) (quiet : Bool) (name : List ℕ) (cs : List ClauseTree) → (IsTrue quiet → AreCommitted (λ c. backtracks c.back c.watches) cs) → (ts : Trees) (s : State) →
    without_paths (by_rules quiet (rule_searches (rules_of b l name ts) 0 cs ts s))
    ≡ rules (rules_by b.plain (plain_level l) (λ c. backtracks c.back c.watches) (λ i c p. core.body_or_agent b.plain (comp name ts) i c c.watches p)) 0 cs ts s
by-rules-plain b same l true name cs committed ts s =
    quiet-plain b same l (λ c. backtracks c.back c.watches) (λ i c p. body_or_agent b (comp name ts) i c c.watches p) (λ i c p. core.body_or_agent b.plain (comp name ts) i c c.watches p)
    (λ i c p. body-plain b same (comp name ts) i c c.watches p) 0 cs (committed refl) ts s
by-rules-plain b same l false name cs committed ts s =
    rules-plain b same l (λ c. backtracks c.back c.watches) (λ i c p. body_or_agent b (comp name ts) i c c.watches p) (λ i c p. core.body_or_agent b.plain (comp name ts) i c c.watches p)
    (λ i c p. body-plain b same (comp name ts) i c c.watches p) 1 0 cs ts s

pred-plain : (b : Offers) → ArePlain b → (l : SearchLevel) (pred : PredTree) → (IsTrue pred.quiet → AreCommitted (λ c. backtracks c.back c.watches) pred.clauses) →
    (index : Option (List (List Mode))) (ts : Trees) (s : State) → without_paths (pred_search b l pred index ts s) ≡ pred_run b.plain (plain_level l) pred index ts s
unfolding pred_search pred_run
pred-plain b same l pred committed None ts s = by-rules-plain b same l pred.quiet pred.name pred.clauses committed ts s
pred-plain b same l pred committed (Some lists) ts s =
    cond-plain (list_any (λ modes. fits_modes (bindings s) modes ts) lists) (alternatives (map (fact_search ts s) pred.clauses)) (facts pred.clauses ts s) (facts-plain pred.clauses ts s 1)

-- ---- calls

entered-plain : (quiet : Bool) (inner below : Option SearchLevel) (f : SearchLevel → Search State) (g : Level → Trace State) → ((l : SearchLevel) → without_paths (f l) ≡ g (plain_level l)) →
    without_paths (entered quiet inner below f) ≡ core.entered quiet (option_map plain_level inner) (option_map plain_level below) g
unfolding then
entered-plain true None below f g same = refl
entered-plain true (Some l) below f g same = same l
entered-plain false inner None f g same = refl
entered-plain false inner (Some l) f g same = ap (note Tick) (same l)

found-at : (q : PredTree) (qs : List PredTree) (name : List ℕ) (k : ℕ) (pred : PredTree) → (find_pred false name k qs ≡ Some pred → Contains qs pred) → (b : Bool) →
    cond b (Some q) (find_pred false name k qs) ≡ Some pred → Contains (q ∷ qs) pred
found-at q qs name k pred later true e = let is : q ≡ pred = cc in (0, omega arith, is)
found-at q qs name k pred later false e = has-later q pred qs (later e)

found : (preds : List PredTree) (name : List ℕ) (k : ℕ) (pred : PredTree) → find_pred false name k preds ≡ Some pred → Contains preds pred
unfolding find_pred
found [] name k pred is = absurd (cc)
found (q ∷ qs) name k pred is = found-at q qs name k pred (found qs name k pred) (is_pred false name k q) is

call-plain : (b : Offers) → ArePlain b → (inner below : Option SearchLevel) (o : Option PredTree) → ((pred : PredTree) → o ≡ Some pred → IsTrue pred.quiet → AreCommitted (λ c. backtracks c.back c.watches) pred.clauses) →
    (ts : Trees) (s : State) → without_paths (call_search b inner below o ts s) ≡ call_run b.plain (option_map plain_level inner) (option_map plain_level below) o ts s
unfolding then
call-plain b same inner below None committed ts s = refl
call-plain b same inner below (Some pred) committed ts s =
    entered-plain pred.quiet inner below (λ l. pred_search b l pred pred.index ts s) (λ l. pred_run b.plain l pred pred.index ts s) (λ l. pred-plain b same l pred (committed pred refl) pred.index ts s)

calls-same : (b : Offers) → ArePlain b → (preds : List PredTree) → QuietIsCommitted preds → (inner below : Option SearchLevel) →
    plain_calls (searches_of b preds inner below) ≡ calls_of b.plain preds (option_map plain_level inner) (option_map plain_level below)
unfolding searches_of calls_of
calls-same b same preds committed inner below = λ i. record {
  called = λ name ts s. call-plain b same inner below (find_pred false name (tree_count ts) preds) (λ pred is quiet. committed pred (found preds name (tree_count ts) pred is) quiet) ts s i;
  applied = λ name ts s. application_run b.plain (option_map plain_level inner) (option_map plain_level below) (find_pred true name (tree_count ts) preds) ts s;
  drained = λ s. plain-simple (drained s) i;
}

-- ---- levels

with-plain : (c : Searches) (below : Option SearchLevel) → plain_level (level_with c below) ≡ level_of (plain_calls c) (option_map plain_level below)
unfolding plain_level
with-plain c None = refl
with-plain c (Some l) = refl

pub quiet-same : (b : Offers) → ArePlain b → (preds : List PredTree) → QuietIsCommitted preds → (below : Option SearchLevel) (k : ℕ) →
    plain_level (quiet_level b preds below k) ≡ core.quiet_level b.plain preds (option_map plain_level below) k
unfolding quiet_level core.quiet_level
quiet-same b same preds committed below zero =
    with-plain (searches_of b preds None below) below ∙ ap (λ c. level_of c (option_map plain_level below)) (calls-same b same preds committed None below)
quiet-same b same preds committed below (suc k) =
    with-plain (searches_of b preds (Some (quiet_level b preds below k)) below) below
    ∙ (ap (λ c. level_of c (option_map plain_level below)) (calls-same b same preds committed (Some (quiet_level b preds below k)) below)
    ∙ ap (λ l. level_of (calls_of b.plain preds (Some l) (option_map plain_level below)) (option_map plain_level below)) (quiet-same b same preds committed below k))

pub level-same : (b : Offers) → ArePlain b → (preds : List PredTree) → QuietIsCommitted preds → (d : ℕ) → plain_level (search_level b preds d) ≡ level_at b.plain preds d
unfolding search_level level_at
level-same b same preds committed zero = quiet-same b same preds committed None (length preds)
level-same b same preds committed (suc d) =
    quiet-same b same preds committed (Some (search_level b preds d)) (suc (length preds + d))
    ∙ ap (λ l. core.quiet_level b.plain preds (Some l) (suc (length preds + d))) (level-same b same preds committed d)

-- ---- queries

pub query-plain : (b : Offers) → ArePlain b → (program : List PredTree) (q : QueryTree) → QuietIsCommitted (program ++ q.helpers) → (d : ℕ) → without_paths (query_search b program q d) ≡ query_trace b.plain program q d
unfolding query_search query_trace
query-plain b same program q committed d =
    let start = query_start (search_level b (program ++ q.helpers) d) q in
    let s = strictly (search b q.goal) start in
    plain-sequence s (answered_with q.names)
    ∙ (same-then (without_paths s) (λ p. without_paths (answered_with q.names p)) (λ p. told_with q.names (point_of p)) (λ p. plain-simple (told_with q.names (point_of p)))
    ∙ (sym (then-renamed (without_paths s) point_of (told_with q.names))
    ∙ (ap (λ t. then t (told_with q.names)) (same-strictly (search b q.goal) (meaning b.plain q.goal) (goal-plain b same q.goal) start)
    ∙ ap (λ l. then (strictly_plain (meaning b.plain q.goal) (Rattle.pi_meaning.specs.CoreMeaning.Run.query_start l q)) (told_with q.names)) (level-same b same (program ++ q.helpers) committed d))))
