-- Rules, facts and levels keep what terms are followed to, where calls by name and unification do.
use Rattle.std.proofs.Common.{◌≡◌, ℕ, zero, suc, ◌+◌, Bool, true, false, cond, List, [], ◌∷◌, length, map, refl}
use Rattle.std.specs.Prelude.{Option, Some, None, option_map, option_and_then, replicate, codes, ⊤}
use Rattle.std.specs.List.{list_any}
use Rattle.pi_terms.specs.Tree.{Tree, comp, Trees, trees_of, tree_count}
use Rattle.pi_terms.specs.Places.{Places, held}
use Rattle.pi_terms.specs.PatternTree.{PatternTree, slot, exact_int, exact_atom, compound, named, PatternTrees, no_patterns, pattern}
use Rattle.pi_constraints.specs.State.{State, bindings}
use Rattle.pi_constraints.specs.Unify.{unified}
use Rattle.pi_constraints.specs.Evaluation.{Evaluated, EvaluatedAll, slot_term, evaluated_all, evaluated}
use Rattle.pi_constraints.specs.HeadMatch.{matched_all_in}
use Rattle.pi_core.specs.GoalTree.{GoalTree, truth, goals_of}
use Rattle.pi_core.specs.CoreTree.{ClauseTree, PredTree, backtracks, find_pred}
use Rattle.pi_core.specs.declared.core_program.SlotWatch.{SlotWatch}
use Rattle.pi_syntax.specs.declared.program.Mode.{Mode}
use Rattle.pi_traces.specs.Trace.{Trace, one, done}
use Rattle.pi_traces.proofs.AnswerLemmas.{EachAnswer, each-map, each-one, each-alt, each-then, each-chosen}
use Rattle.pi_meaning.specs.Shared.Settle.{settled_from}
use Rattle.pi_meaning.specs.Shared.Drain.{drained}
use Rattle.pi_meaning.specs.Shared.Raise.{raised_with}
use Rattle.pi_meaning.specs.Shared.Level.{Level, level_of, Calls, Applied, Point}
use Rattle.pi_meaning.specs.CoreMeaning.Builtins.{Builtins}
use Rattle.pi_meaning.specs.CoreMeaning.Meaning.{meaning, strictly}
use Rattle.pi_meaning.specs.CoreMeaning.Facts.{fits_modes, also_named, with_name, in_front, fact_term, fact_terms, unified_with, facts, facts_called}
use Rattle.pi_meaning.specs.CoreMeaning.Rules.{guarded, chosen_rule, rule_before, rules, slot_of, suspended, body_or_agent, pred_run, value_at, value_run, function_run, entered, call_run, application_run, calls_of, quiet_level, level_at, rule_by, rules_by}
use Rattle.pi_rewrite_laws.specs.Roots.{RootsStay, RootsStayIn, CallsKeepRoots, LevelKeepsRoots}
use Rattle.pi_rewrite_laws.proofs.ElementLemmas.{roots-stay-itself}
use Rattle.pi_rewrite_laws.proofs.StayLemmas.{roots-stay-then, new-stays}
use Rattle.pi_rewrite_laws.proofs.SettlingStays.{settling-stays}
use Rattle.pi_rewrite_laws.proofs.RootGoals.{UnifyingKeepsRoots, all-of-each, NamesKeepRoots, RootsBehind, KeepsRoots, behind-itself, strictly-keeps, evaluation-stays, evaluations-stay, goal-keeps, goals-keep}
use Rattle.pi_rewrite_spec.proofs.RunLemmas.{point, runs}
use Rattle.pi_rewrite_laws.proofs.TurnLevels.{core_level}

-- ---- facts

abbrev SomeStays : State → Option Evaluated → Type 0
SomeStays s None = ⊤
SomeStays s (Some x) = RootsStay s x.state

abbrev SomeAllStay : State → Option EvaluatedAll → Type 0
SomeAllStay s None = ⊤
SomeAllStay s (Some x) = RootsStay s x.state

slot-stays : (s : State) (o : Option Tree) (k : ℕ) (e : Places) → RootsStay s (slot_term o k e s).state
slot-stays s (Some t) k e = roots-stay-itself s
slot-stays s None k e = new-stays s

joined-stays : UnifyingKeepsRoots → (s : State) (whole part : Evaluated) → RootsStay s part.state → (o : Option State) → unified part.state whole.tree part.tree ≡ o → SomeStays s (option_map (λ r. record { tree = whole.tree; slots = part.slots; state = r }) o)
joined-stays u s whole part a None e = tt
joined-stays u s whole part a (Some r) e = roots-stay-then s part.state r a (u part.state r whole.tree part.tree e)

whole-stays : UnifyingKeepsRoots → (s : State) (whole : Evaluated) → RootsStay s whole.state → (o : Option Evaluated) → SomeStays whole.state o → SomeStays s (option_and_then (also_named whole) o)
whole-stays u s whole a None b = tt
whole-stays u s whole a (Some part) b = joined-stays u s whole part (roots-stay-then s whole.state part.state a b) (unified part.state whole.tree part.tree) refl

named-stays : (s : State) (name : List ℕ) (o : Option EvaluatedAll) → SomeAllStay s o → SomeStays s (option_map (with_name name) o)
named-stays s name None a = tt
named-stays s name (Some x) a = a

front-stays : (s : State) (x : Evaluated) → RootsStay s x.state → (o : Option EvaluatedAll) → SomeAllStay x.state o → SomeAllStay s (option_map (in_front x) o)
front-stays s x a None b = tt
front-stays s x a (Some rest) b = roots-stay-then s x.state rest.state a b

first-stays : (s : State) (rest : Evaluated → Option EvaluatedAll) → ((x : Evaluated) → RootsStay s x.state → SomeAllStay s (rest x)) → (o : Option Evaluated) → SomeStays s o → SomeAllStay s (option_and_then rest o)
first-stays s rest each None a = tt
first-stays s rest each (Some x) a = each x a

mutual
  unfolding fact_term fact_terms

  fact-stays : UnifyingKeepsRoots → (p : PatternTree) (e : Places) (s : State) → SomeStays s (fact_term p e s)
  fact-stays u (slot k) e s = slot-stays s (held e k) k e
  fact-stays u (exact_int n) e s = roots-stay-itself s
  fact-stays u (exact_atom name) e s = roots-stay-itself s
  fact-stays u (compound name ps) e s = named-stays s name (fact_terms ps e s) (facts-stay u ps e s)
  fact-stays u (named k p) e s =
      let whole : Evaluated = slot_term (held e k) k e s in whole-stays u s whole (slot-stays s (held e k) k e) (fact_term p whole.slots whole.state) (fact-stays u p whole.slots whole.state)

  facts-stay : UnifyingKeepsRoots → (ps : PatternTrees) (e : Places) (s : State) → SomeAllStay s (fact_terms ps e s)
  facts-stay u no_patterns e s = roots-stay-itself s
  facts-stay u (pattern p ps) e s =
      first-stays s (λ x. option_map (in_front x) (fact_terms ps x.slots x.state)) (λ x a. front-stays s x a (fact_terms ps x.slots x.state) (facts-stay u ps x.slots x.state)) (fact_term p e s) (fact-stays u p e s)

settled-stays : (s before : State) (o : Option State) → ((r : State) → o ≡ Some r → RootsStay s r) → EachAnswer (RootsStay s) (settled_from before o)
unfolding EachAnswer
settled-stays s before None h = tt
settled-stays s before (Some r) h = settling-stays s before r (h r refl)

unified-head : UnifyingKeepsRoots → (s : State) (ts : Trees) (o : Option EvaluatedAll) → SomeAllStay s o → (r : State) → option_and_then (unified_with ts) o ≡ Some r → RootsStay s r
unified-head u s ts None a r e = absurd cc
unified-head u s ts (Some all) a r e = roots-stay-then s all.state r a (u all.state r (comp [] ts) (comp [] all.trees) e)

facts-keep : UnifyingKeepsRoots → (cs : List ClauseTree) (ts : Trees) (s : State) → EachAnswer (RootsStay s) (facts cs ts s)
unfolding facts EachAnswer
facts-keep u [] ts s = tt
facts-keep u (c ∷ cs) ts s =
    each-alt (RootsStay s) (settled_from s (option_and_then (unified_with ts) (fact_terms c.head (replicate c.slots None) s))) (facts cs ts s)
    (settled-stays s s (option_and_then (unified_with ts) (fact_terms c.head (replicate c.slots None) s)) (λ r e. unified-head u s ts (fact_terms c.head (replicate c.slots None) s) (facts-stay u c.head (replicate c.slots None) s) r e)) (facts-keep u cs ts s)

facts-called-keep : UnifyingKeepsRoots → (lists : List (List Mode)) (cs : List ClauseTree) (ts : Trees) (s : State) → EachAnswer (RootsStay s) (facts_called lists cs ts s)
unfolding EachAnswer
facts-called-keep u lists cs ts s = go (list_any (λ modes. fits_modes (bindings s) modes ts) lists)
  where
    go : (c : Bool) → EachAnswer (RootsStay s) (cond c (facts cs ts s) done)
    go true = facts-keep u cs ts s
    go false = tt

-- ---- rules

guard-keeps : UnifyingKeepsRoots → (b : Builtins) → NamesKeepRoots b → (g : GoalTree) (p : Point) → LevelKeepsRoots p.level → EachAnswer (RootsBehind p) (guarded b g p)
unfolding KeepsRoots
guard-keeps u b n truth p h = each-one (RootsBehind p) p (behind-itself p h)
guard-keeps u b n g p h = strictly-keeps (meaning b g) (goal-keeps u b n g) p h

rules-keep : UnifyingKeepsRoots → {X : Type 0} (state : X → State) (b : Builtins) → NamesKeepRoots b → (l : Level) → LevelKeepsRoots l → (back : ClauseTree → Bool) (does : ℕ → ClauseTree → Point → Trace X) → (s : State) →
    ((i : ℕ) (c : ClauseTree) (p : Point) → LevelKeepsRoots p.level → EachAnswer (λ (x : X). RootsStay p.state (state x)) (does i c p)) → (i : ℕ) (cs : List ClauseTree) (ts : Trees) → EachAnswer (λ (x : X). RootsStay s (state x)) (rules (rules_by b l back does) i cs ts s)
unfolding rules EachAnswer
rules-keep u state b n l h back does s each i [] ts = tt
rules-keep u {X} state b n l h back does s each i (c ∷ cs) ts = go (rules (rules_by b l back does) (suc i) cs ts s) (rules-keep u state b n l h back does s each (suc i) cs ts) (matched_all_in (bindings s) c.head ts (replicate c.slots None))
  where
    P : X → Type 0
    P x = RootsStay s (state x)

    taken : (rest : Trace X) → EachAnswer (λ (x : X). RootsStay s (state x)) rest → (t : Trace X) → EachAnswer (λ (x : X). RootsStay s (state x)) t → (d : Bool) → EachAnswer (λ (x : X). RootsStay s (state x)) (chosen_rule d t rest)
    taken rest r t a true = each-alt P t rest a r
    taken rest r t a false = a

    go : (rest : Trace X) → EachAnswer (λ (x : X). RootsStay s (state x)) rest → (o : Option Places) → EachAnswer (λ (x : X). RootsStay s (state x)) (rule_before b l (rule_by c (back c) (does i c)) s rest o)
    go rest r None = r
    go rest r (Some e) =
        let p : Point = record { level = l; slots = e; state = s } in
        each-chosen (RootsBehind p) P (guarded b c.guard p) (λ q. chosen_rule (back c) (does i c q) rest) rest (guard-keeps u b n c.guard p h)
        (λ q k. taken rest r (does i c q) (each-map (λ x. RootsStay q.state (state x)) P (λ x m. roots-stay-then s q.state (state x) k.roots m) (does i c q) (each i c q k.level)) (back c)) r

agent-stays : (the_call : Tree) (i : ℕ) (ws : List SlotWatch) (e : Places) (s : State) → RootsStay s (suspended the_call i ws e s)
agent-stays the_call i ws e s =
    let stays : RootsStay s (evaluated_all (trees_of (map (λ w. Tree.var (slot_of w)) ws)) e s).state = evaluations-stay (trees_of (map (λ w. Tree.var (slot_of w)) ws)) e s in record { compounds = stays.compounds; atoms = stays.atoms }

body-keeps : UnifyingKeepsRoots → (b : Builtins) → NamesKeepRoots b → (the_call : Tree) (i : ℕ) (c : ClauseTree) (ws : List SlotWatch) (p : Point) → LevelKeepsRoots p.level → EachAnswer (RootsStay p.state) (body_or_agent b the_call i c ws p)
unfolding KeepsRoots
body-keeps u b n the_call i c [] p h = each-then (RootsBehind p) (RootsStay p.state) (meaning b c.body p) (λ q. one q.state) (goal-keeps u b n c.body p h) (λ q k. each-one (RootsStay p.state) q.state k.roots)
body-keeps u b n the_call i c (w ∷ ws) p h = each-one (RootsStay p.state) (suspended the_call i (w ∷ ws) p.slots p.state) (agent-stays the_call i (w ∷ ws) p.slots p.state)

value-keeps : UnifyingKeepsRoots → (b : Builtins) → NamesKeepRoots b → (c : ClauseTree) (p : Point) → LevelKeepsRoots p.level → EachAnswer (λ (a : Applied). RootsStay p.state a.state) (value_run b c p)
unfolding KeepsRoots EachAnswer
value-keeps u b n c p h = each-then (RootsBehind p) (λ a. RootsStay p.state a.state) (strictly (meaning b c.body) p) (value_at c.value) (strictly-keeps (meaning b c.body) (goal-keeps u b n c.body) p h) (λ q k. go q k c.value)
  where
    go : (q : Point) → RootsBehind p q → (o : Option Tree) → EachAnswer (λ (a : Applied). RootsStay p.state a.state) (value_at o q)
    go q k None = tt
    go q k (Some t) =
        let e : Evaluated = evaluated t q.slots q.state in each-one (λ (a : Applied). RootsStay p.state a.state) (record { value = e.tree; state = e.state }) (roots-stay-then p.state q.state e.state k.roots (evaluation-stays t q.slots q.state))

-- ---- predicates and functions

pred-keeps : UnifyingKeepsRoots → (b : Builtins) → NamesKeepRoots b → (l : Level) → LevelKeepsRoots l → (pred : PredTree) (o : Option (List (List Mode))) (ts : Trees) (s : State) → EachAnswer (RootsStay s) (pred_run b l pred o ts s)
unfolding pred_run
pred-keeps u b n l h pred None ts s =
    rules-keep u (λ r. r) b n l h (λ c. backtracks c.back c.watches) (λ i c p. body_or_agent b (comp pred.name ts) i c c.watches p) s (λ i c p k. body-keeps u b n (comp pred.name ts) i c c.watches p k) 0 pred.clauses ts
pred-keeps u b n l h pred (Some lists) ts s = facts-called-keep u lists pred.clauses ts s

function-keeps : UnifyingKeepsRoots → (b : Builtins) → NamesKeepRoots b → (l : Level) → LevelKeepsRoots l → (pred : PredTree) (ts : Trees) (s : State) → EachAnswer (λ (a : Applied). RootsStay s a.state) (function_run b l pred ts s)
unfolding function_run raised_with EachAnswer
function-keeps u b n l h pred ts s =
    each-chosen (λ a. RootsStay s a.state) (λ a. RootsStay s a.state) (rules (rules_by b l (λ c. false) (λ i c p. value_run b c p)) 0 pred.clauses ts s) (λ a. one a) (raised_with (codes "unresolved_function_call") (comp pred.name ts) s)
    (rules-keep u (λ a. a.state) b n l h (λ c. false) (λ i c p. value_run b c p) s (λ i c p k. value-keeps u b n c p k) 0 pred.clauses ts) (λ a k. each-one (λ (x : Applied). RootsStay s x.state) a k) tt

-- a level that there may be
abbrev SomeLevel : Option Level → Type 0
SomeLevel None = ⊤
SomeLevel (Some l) = LevelKeepsRoots l

entered-keeps : {X : Type 0} (P : X → Type 0) (quiet : Bool) (inner below : Option Level) → SomeLevel inner → SomeLevel below → (f : Level → Trace X) → ((l : Level) → LevelKeepsRoots l → EachAnswer P (f l)) → EachAnswer P (entered quiet inner below f)
unfolding EachAnswer
entered-keeps P true None below a c f each = tt
entered-keeps P true (Some l) below a c f each = each l a
entered-keeps P false inner None a c f each = tt
entered-keeps P false inner (Some l) a c f each = each l c

calls-keep : UnifyingKeepsRoots → (b : Builtins) → NamesKeepRoots b → (preds : List PredTree) (inner below : Option Level) → SomeLevel inner → SomeLevel below → CallsKeepRoots (calls_of b preds inner below)
unfolding calls_of drained EachAnswer
calls-keep u b n preds inner below a c = record {
  called = λ name ts s. all-of-each (RootsStay s) _ (called ts s (find_pred false name (tree_count ts) preds));
  applied = λ name ts s. all-of-each (RootsStayIn s) _ (applied ts s (find_pred true name (tree_count ts) preds));
  drained = λ s. all-of-each (RootsStay s) _ (each-one (RootsStay s) s (roots-stay-itself s));
}
  where
    called : (ts : Trees) (s : State) (o : Option PredTree) → EachAnswer (RootsStay s) (call_run b inner below o ts s)
    called ts s None = tt
    called ts s (Some pred) = entered-keeps (RootsStay s) pred.quiet inner below a c (λ l. pred_run b l pred pred.index ts s) (λ l h. pred-keeps u b n l h pred pred.index ts s)

    applied : (ts : Trees) (s : State) (o : Option PredTree) → EachAnswer (λ (x : Applied). RootsStay s x.state) (application_run b inner below o ts s)
    applied ts s None = tt
    applied ts s (Some pred) = entered-keeps (λ (x : Applied). RootsStay s x.state) pred.quiet inner below a c (λ l. function_run b l pred ts s) (λ l h. function-keeps u b n l h pred ts s)

-- ---- levels

level-keeps : (c : Calls) (below : Option Level) → CallsKeepRoots c → SomeLevel below → LevelKeepsRoots (level_of c below)
level-keeps c None h k = h
level-keeps c (Some l) h k = (h, k)

pub quiet-keeps : UnifyingKeepsRoots → (b : Builtins) → NamesKeepRoots b → (preds : List PredTree) (below : Option Level) → SomeLevel below → (k : ℕ) → LevelKeepsRoots (quiet_level b preds below k)
unfolding quiet_level
quiet-keeps u b n preds below h zero = level-keeps (calls_of b preds None below) below (calls-keep u b n preds None below tt h) h
quiet-keeps u b n preds below h (suc k) = level-keeps (calls_of b preds (Some (quiet_level b preds below k)) below) below (calls-keep u b n preds (Some (quiet_level b preds below k)) below (quiet-keeps u b n preds below h k) h) h

pub depth-keeps : UnifyingKeepsRoots → (b : Builtins) → NamesKeepRoots b → (preds : List PredTree) (d : ℕ) → LevelKeepsRoots (level_at b preds d)
unfolding level_at
depth-keeps u b n preds zero = quiet-keeps u b n preds None tt (length preds)
depth-keeps u b n preds (suc d) = quiet-keeps u b n preds (Some (level_at b preds d)) (depth-keeps u b n preds d) (suc (length preds + d))

-- goals one after the other, as those of a turn
pub runs-keep : UnifyingKeepsRoots → (b : Builtins) → NamesKeepRoots b → (gs : List GoalTree) (l : Level) → LevelKeepsRoots l → (slots : Places) (s : State) → EachAnswer (λ q. RootsStay s q.state) (runs b gs (point l slots s))
unfolding KeepsRoots
runs-keep u b n gs l h slots s = each-map (RootsBehind (point l slots s)) (λ q. RootsStay s q.state) (λ q k. k.roots) (runs b gs (point l slots s)) (goals-keep u b n (goals_of gs) (point l slots s) h)

pub level-keeps-roots : UnifyingKeepsRoots → (b : Builtins) → NamesKeepRoots b → (preds : List PredTree) (d k : ℕ) → LevelKeepsRoots (core_level b preds d k)
unfolding core_level
level-keeps-roots u b n preds zero k = quiet-keeps u b n preds None tt k
level-keeps-roots u b n preds (suc d) k = quiet-keeps u b n preds (Some (level_at b preds d)) (depth-keeps u b n preds d) k
