-- Rules and levels keep states, and so each answer of a query is one.
use Rattle.pi_constraints.proofs.KeepsLemmas.{TreesBelow, speaks-more, trees-more, comp-below, int-below, atom-below, no-trees-below, trees-below, first-below, rest-below, places-empty, SomePlacesBelow, matched-all-below, agent-keeps}
use Rattle.std.proofs.Common.{◌≡◌, ℕ, zero, suc, ◌+◌, ◌≤◌, Bool, true, false, cond, List, [], ◌∷◌, ◌++◌, length, map, refl, arith}
use Rattle.std.specs.Prelude.{Option, Some, None, replicate, codes, option_and_then, option_map, ⊤}
use Rattle.std.specs.List.{list_any}
use Rattle.pi_terms.specs.Tree.{Tree, var, comp, Trees, no_trees, tree, trees_of, tree_count}
use Rattle.pi_terms.specs.Places.{Places, held}
use Rattle.pi_constraints.specs.State.{State, WatchTree, Agent, bindings, next, SpeaksBelow, PlacesBelow, WatchBelow, IsState}
use Rattle.pi_constraints.specs.Unify.{unified}
use Rattle.pi_terms.specs.PatternTree.{PatternTree, slot, exact_int, exact_atom, compound, named, PatternTrees, no_patterns, pattern}
use Rattle.pi_core.specs.GoalTree.{GoalTree, truth}
use Rattle.pi_traces.specs.Trace.{Trace, end, one, done}
use Rattle.pi_meaning.specs.CoreMeaning.Builtins.{Builtins}
use Rattle.pi_meaning.specs.CoreMeaning.Instances.{built_later, whole}
use Rattle.pi_meaning.specs.Shared.Settle.{settled_from}
use Rattle.pi_meaning.specs.Shared.Drain.{drained}
use Rattle.pi_constraints.specs.Evaluation.{Evaluated, evaluated, EvaluatedAll, evaluated_all, slot_term}
use Rattle.pi_constraints.specs.HeadMatch.{matched_all_in}
use Rattle.pi_meaning.specs.Shared.Raise.{raised_with}
use Rattle.pi_meaning.specs.Shared.Level.{Level, level_of, Calls, Point}
use Rattle.pi_core.specs.CoreTree.{ClauseTree, PredTree, QueryTree, backtracks, find_pred}
use Rattle.pi_meaning.specs.CoreMeaning.Meaning.{meaning, strictly}
use Rattle.pi_meaning.specs.CoreMeaning.Facts.{fits_modes, also_named, with_name, in_front, fact_term, fact_terms, unified_with, facts}
use Rattle.pi_meaning.specs.CoreMeaning.Rules.{guarded, chosen_rule, rule_before, rules, slot_of, watch_tree, watch_trees, suspended, body_or_agent, pred_run, value_at, value_run, function_run, entered, call_run, application_run, calls_of, quiet_level, level_at, rule_by, rules_by}
use Rattle.pi_meaning.specs.CoreMeaning.Run.{Solution, solution, told, answered_with, query_start, query_trace}
use Rattle.pi_meaning.specs.CoreMeaning.Laws.{RunsKeepStates}
use Rattle.pi_core.specs.declared.core_program.SlotWatch.{SlotWatch}
use Rattle.pi_core.specs.declared.core_program.NameSlot.{NameSlot}
use Rattle.pi_syntax.specs.declared.program.Mode.{Mode}
use Rattle.pi_constraints.proofs.StateLemmas.{bound_below}
use Rattle.pi_traces.proofs.AnswerLemmas.{EachAnswer, each-contained, each-one, each-alt, each-then, each-chosen}
use Rattle.pi_meaning.specs.Machine.Step.{with_fact}
use Rattle.pi_settling.specs.Calm.{IsCalm}
use Rattle.pi_settling.proofs.CalmLemmas.{empty_is_calm, calm_goes_by_variables}
use Rattle.pi_meaning.proofs.CoreMeaning.LeftLemmas.{Left, left-fact}
use Rattle.pi_meaning.proofs.CoreMeaning.KeepsNames.{whole-keep}
use Rattle.pi_meaning.proofs.CoreMeaning.KeepsGoals.{NamesKeep, AppliedLater, CallsKeep, LevelKeeps, IsPlace, PlaceLater, Keeps, strictly-keeps, goal-keeps}
use Rattle.pi_meaning.proofs.CoreMeaning.CalmStates.{CalmLater, calm-itself, calm-further, CalmEvaluated, CalmAll, evaluated-calm, evaluated-all-calm, settled-calm}

-- ---- facts

settled-from-later : (s : State) → IsCalm s → (o : Option State) → ((r : State) → o ≡ Some r → Left s r) → EachAnswer (CalmLater s) (settled_from s o)
unfolding EachAnswer
settled-from-later s is None h = tt
settled-from-later s is (Some r) h = settled-calm s r is (h r refl)

facts-keep : (cs : List ClauseTree) (ts : Trees) (s : State) → IsCalm s → TreesBelow (next s) ts → EachAnswer (CalmLater s) (facts cs ts s)
unfolding facts EachAnswer
facts-keep [] ts s is these = tt
facts-keep (c ∷ cs) ts s is these =
    each-alt (CalmLater s) (settled_from s (with_fact ts s c)) (facts cs ts s)
    (settled-from-later s is (with_fact ts s c) (λ r e. left-fact ts s r c is.state is.settles (comp-below (next s) [] ts these) e))
    (facts-keep cs ts s is these)

tested-keeps : (s : State) (b : Bool) (t : Trace State) → EachAnswer (CalmLater s) t → EachAnswer (CalmLater s) (cond b t done)
unfolding EachAnswer
tested-keeps s true t a = a
tested-keeps s false t a = tt

-- ---- rules

guarded-keeps : (given : Builtins) → NamesKeep given → (g : GoalTree) → Keeps (guarded given g)
unfolding Keeps EachAnswer
guarded-keeps given keep truth p is = ((is, omega arith), tt)
guarded-keeps given keep g p is = strictly-keeps (meaning given g) (goal-keeps given keep g) p is

chosen-rule-keeps : {X : Type 0} (Q : X → Type 0) (back : Bool) (t rest : Trace X) → EachAnswer Q t → EachAnswer Q rest → EachAnswer Q (chosen_rule back t rest)
chosen-rule-keeps Q true t rest a b = each-alt Q t rest a b
chosen-rule-keeps Q false t rest a b = a

-- what a rule does that applies, from each place that is later than the state
abbrev DoesKeep : {X : Type 0} → (X → Type 0) → State → (ℕ → ClauseTree → Point → Trace X) → Type 0
DoesKeep Q s does = (i : ℕ) (c : ClauseTree) (p : Point) → IsPlace p → next s ≤ next p.state → EachAnswer Q (does i c p)

rule-keeps : {X : Type 0} (Q : X → Type 0) (given : Builtins) → NamesKeep given → (l : Level) → LevelKeeps l → (c : ClauseTree) (back : Bool) (does : Point → Trace X) (s : State) → IsCalm s →
    ((p : Point) → IsPlace p → next s ≤ next p.state → EachAnswer Q (does p)) → (rest : Trace X) → EachAnswer Q rest → (o : Option Places) → SomePlacesBelow (next s) o →
    EachAnswer Q (rule_before given l (rule_by c back does) s rest o)
unfolding Keeps
rule-keeps Q given keep l h c back does s is a rest b None e = b
rule-keeps Q given keep l h c back does s is a rest b (Some e) slots =
    let p : Point = record { level = l; slots = e; state = s } in
    each-chosen (PlaceLater p) Q (guarded given c.guard p) (λ q. chosen_rule back (does q) rest) rest
    (guarded-keeps given keep c.guard p (record { level = h; state = is; slots = slots }))
    (λ q k. chosen-rule-keeps Q back (does q) rest (a q k.0 k.1) b) b

rules-keep : {X : Type 0} (Q : X → Type 0) (given : Builtins) → NamesKeep given → (l : Level) → LevelKeeps l → (back : ClauseTree → Bool) (does : ℕ → ClauseTree → Point → Trace X) (i : ℕ) (cs : List ClauseTree)
    (ts : Trees) (s : State) → IsCalm s → TreesBelow (next s) ts → DoesKeep Q s does → EachAnswer Q (rules (rules_by given l back does) i cs ts s)
unfolding rules EachAnswer
rules-keep Q given keep l h back does i [] ts s is these a = tt
rules-keep Q given keep l h back does i (c ∷ cs) ts s is these a =
    rule-keeps Q given keep l h c (back c) (does i c) s is (a i c) (rules (rules_by given l back does) (suc i) cs ts s) (rules-keep Q given keep l h back does (suc i) cs ts s is these a)
    (matched_all_in (bindings s) c.head ts (replicate c.slots None))
    (matched-all-below (next s) (bindings s) (λ n t has. bound_below s n t is.state has) c.head ts (replicate c.slots None) these (places-empty (next s) c.slots))

-- ---- bodies, agents and values

watched-below : (n : ℕ) (w : SlotWatch) (t : Tree) (ws : List WatchTree) → SpeaksBelow n t → WatchBelow n ws → WatchBelow n (watch_tree w t ∷ ws)
unfolding WatchBelow
watched-below n (SlotWatch.Ins k) t ws a b = (a, b)
watched-below n (SlotWatch.Bound k) t ws a b = (a, b)
watched-below n (SlotWatch.Dom k into) t ws a b = (a, b)
watched-below n (SlotWatch.DomAny k into) t ws a b = (a, b)
watched-below n (SlotWatch.Posted k into) t ws a b = (a, b)

watches-below : (n : ℕ) (ws : List SlotWatch) (ts : Trees) → TreesBelow n ts → WatchBelow n (watch_trees ws ts)
unfolding WatchBelow watch_trees
watches-below n [] ts a = tt
watches-below n (w ∷ ws) no_trees a = tt
watches-below n (w ∷ ws) (tree t ts) a = watched-below n w t (watch_trees ws ts) (first-below n t ts a) (watches-below n ws ts (rest-below n t ts a))

-- the call as a new agent
pub suspended-later : (call : Tree) (i : ℕ) (ws : List SlotWatch) (e : Places) (s : State) → IsCalm s → PlacesBelow (next s) e → SpeaksBelow (next s) call →
    CalmLater s (suspended call i ws e s)
suspended-later call i ws e s is slots below =
    let all : EvaluatedAll = evaluated_all (trees_of (map (λ w. var (slot_of w)) ws)) e s in
    let a : CalmAll s all = evaluated-all-calm (trees_of (map (λ w. var (slot_of w)) ws)) e s is slots in
    let agent : Agent = record { call = call; rule = i; watches = watch_trees ws all.trees; alive = true } in
    let kept : IsState (suspended call i ws e s) = agent-keeps all.state agent a.state.state (speaks-more (next s) (next all.state) call a.more below) (watches-below (next all.state) ws all.trees a.below) in
    (calm_goes_by_variables all.state (suspended call i ws e s) a.state kept refl refl, a.more)

body-keeps : (given : Builtins) → NamesKeep given → (call : Tree) (s : State) → SpeaksBelow (next s) call → (i : ℕ) (c : ClauseTree) (ws : List SlotWatch) (p : Point) → IsPlace p → next s ≤ next p.state →
    EachAnswer (CalmLater s) (body_or_agent given call i c ws p)
unfolding Keeps
body-keeps given keep call s below i c [] p is h =
    each-then (PlaceLater p) (CalmLater s) (meaning given c.body p) (λ q. one q.state) (goal-keeps given keep c.body p is)
    (λ q k. each-one (CalmLater s) q.state (k.0.state, omega (arith, h, k.1)))
body-keeps given keep call s below i c (w ∷ ws) p is h =
    each-one (CalmLater s) (suspended call i (w ∷ ws) p.slots p.state)
    (calm-further s p.state (suspended call i (w ∷ ws) p.slots p.state) h
    (suspended-later call i (w ∷ ws) p.slots p.state is.state is.slots (speaks-more (next s) (next p.state) call h below)))

value-keeps : (s : State) (o : Option Tree) (p : Point) → IsPlace p → next s ≤ next p.state → EachAnswer (AppliedLater s) (value_at o p)
unfolding EachAnswer
value-keeps s None p is h = tt
value-keeps s (Some t) p is h =
    let a : CalmEvaluated p.state (evaluated t p.slots p.state) = evaluated-calm t p.slots p.state is.state is.slots in
    (((a.state, omega (arith, h, a.more)), a.below), tt)

run-keeps : (given : Builtins) → NamesKeep given → (s : State) (c : ClauseTree) (p : Point) → IsPlace p → next s ≤ next p.state → EachAnswer (AppliedLater s) (value_run given c p)
unfolding Keeps
run-keeps given keep s c p is h =
    each-then (PlaceLater p) (AppliedLater s) (strictly (meaning given c.body) p) (value_at c.value) (strictly-keeps (meaning given c.body) (goal-keeps given keep c.body) p is)
    (λ q k. value-keeps s c.value q k.0 (omega (arith, h, k.1)))

-- ---- calls

pred-keeps : (given : Builtins) → NamesKeep given → (l : Level) → LevelKeeps l → (pred : PredTree) (index : Option (List (List Mode))) (ts : Trees) (s : State) → IsCalm s → TreesBelow (next s) ts →
    EachAnswer (CalmLater s) (pred_run given l pred index ts s)
unfolding pred_run
pred-keeps given keep l h pred None ts s is these =
    rules-keep (CalmLater s) given keep l h (λ c. backtracks c.back c.watches) (λ i c p. body_or_agent given (comp pred.name ts) i c c.watches p) 0 pred.clauses ts s is these
    (λ i c p place more. body-keeps given keep (comp pred.name ts) s (comp-below (next s) pred.name ts these) i c c.watches p place more)
pred-keeps given keep l h pred (Some lists) ts s is these =
    tested-keeps s (list_any (λ modes. fits_modes (bindings s) modes ts) lists) (facts pred.clauses ts s) (facts-keep pred.clauses ts s is these)

raised-keeps : {A : Type 0} (P : A → Type 0) (name : List ℕ) (t : Tree) (s : State) → EachAnswer P (raised_with name t s)
unfolding raised_with EachAnswer
raised-keeps P name t s = tt

function-keeps : (given : Builtins) → NamesKeep given → (l : Level) → LevelKeeps l → (pred : PredTree) (ts : Trees) (s : State) → IsCalm s → TreesBelow (next s) ts →
    EachAnswer (AppliedLater s) (function_run given l pred ts s)
unfolding function_run
function-keeps given keep l h pred ts s is these =
    each-chosen (AppliedLater s) (AppliedLater s) (rules (rules_by given l (λ c. false) (λ i c p. value_run given c p)) 0 pred.clauses ts s) (λ a. one a)
    (raised_with (codes "unresolved_function_call") (comp pred.name ts) s)
    (rules-keep (AppliedLater s) given keep l h (λ c. false) (λ i c p. value_run given c p) 0 pred.clauses ts s is these (λ i c p place more. run-keeps given keep s c p place more))
    (λ a k. each-one (AppliedLater s) a k) (raised-keeps (AppliedLater s) (codes "unresolved_function_call") (comp pred.name ts) s)

abbrev OptionLevelKeeps : Option Level → Type 0
OptionLevelKeeps None = ⊤
OptionLevelKeeps (Some l) = LevelKeeps l

entered-keeps : {X : Type 0} (Q : X → Type 0) (quiet : Bool) (inner below : Option Level) → OptionLevelKeeps inner → OptionLevelKeeps below → (run : Level → Trace X) →
    ((l : Level) → LevelKeeps l → EachAnswer Q (run l)) → EachAnswer Q (entered quiet inner below run)
unfolding EachAnswer
entered-keeps Q true None below a b run go = tt
entered-keeps Q true (Some l) below a b run go = go l a
entered-keeps Q false inner None a b run go = tt
entered-keeps Q false inner (Some l) a b run go = go l b

call-keeps : (given : Builtins) → NamesKeep given → (inner below : Option Level) → OptionLevelKeeps inner → OptionLevelKeeps below → (o : Option PredTree) (ts : Trees) (s : State) → IsCalm s →
    TreesBelow (next s) ts → EachAnswer (CalmLater s) (call_run given inner below o ts s)
unfolding EachAnswer
call-keeps given keep inner below a b None ts s is these = tt
call-keeps given keep inner below a b (Some pred) ts s is these =
    entered-keeps (CalmLater s) pred.quiet inner below a b (λ l. pred_run given l pred pred.index ts s) (λ l h. pred-keeps given keep l h pred pred.index ts s is these)

application-keeps : (given : Builtins) → NamesKeep given → (inner below : Option Level) → OptionLevelKeeps inner → OptionLevelKeeps below → (o : Option PredTree) (ts : Trees) (s : State) → IsCalm s →
    TreesBelow (next s) ts → EachAnswer (AppliedLater s) (application_run given inner below o ts s)
unfolding EachAnswer
application-keeps given keep inner below a b None ts s is these = tt
application-keeps given keep inner below a b (Some pred) ts s is these =
    entered-keeps (AppliedLater s) pred.quiet inner below a b (λ l. function_run given l pred ts s) (λ l h. function-keeps given keep l h pred ts s is these)

drained-keeps : (s : State) → IsCalm s → EachAnswer (CalmLater s) (drained s)
unfolding drained
drained-keeps s is = each-one (CalmLater s) s (calm-itself s is)

calls-of-keep : (given : Builtins) → NamesKeep given → (preds : List PredTree) (inner below : Option Level) → OptionLevelKeeps inner → OptionLevelKeeps below → CallsKeep (calls_of given preds inner below)
unfolding calls_of
calls-of-keep given keep preds inner below a b = record {
  called = λ name ts s is these. call-keeps given keep inner below a b (find_pred false name (tree_count ts) preds) ts s is these;
  applied = λ name ts s is these. application-keeps given keep inner below a b (find_pred true name (tree_count ts) preds) ts s is these;
  drained = drained-keeps;
}

-- ---- levels

level-of-keeps : (c : Calls) (below : Option Level) → CallsKeep c → OptionLevelKeeps below → LevelKeeps (level_of c below)
level-of-keeps c None a b = a
level-of-keeps c (Some l) a b = (a, b)

quiet-keeps : (given : Builtins) → NamesKeep given → (preds : List PredTree) (below : Option Level) → OptionLevelKeeps below → (k : ℕ) → LevelKeeps (quiet_level given preds below k)
unfolding quiet_level
quiet-keeps given keep preds below b zero = level-of-keeps (calls_of given preds None below) below (calls-of-keep given keep preds None below tt b) b
quiet-keeps given keep preds below b (suc k) =
    let inner : Option Level = Some (quiet_level given preds below k) in
    level-of-keeps (calls_of given preds inner below) below (calls-of-keep given keep preds inner below (quiet-keeps given keep preds below b k) b) b

pub level-keeps : (given : Builtins) → NamesKeep given → (preds : List PredTree) (d : ℕ) → LevelKeeps (level_at given preds d)
unfolding level_at
level-keeps given keep preds zero = quiet-keeps given keep preds None tt (length preds)
level-keeps given keep preds (suc d) = quiet-keeps given keep preds (Some (level_at given preds d)) (level-keeps given keep preds d) (suc (length preds + d))

-- ---- queries

-- an answer of a query is calm, and its slots speak of its variables
abbrev IsGood : Solution → Type 0
IsGood x = IsCalm x.state × PlacesBelow (next x.state) x.slots

limit-keeps : (P : Solution → Type 0) (c : Bool) (e : Trace Solution) (t : Trace Solution) → EachAnswer P e → EachAnswer P t → EachAnswer P (cond c e t)
limit-keeps P true e t a b = a
limit-keeps P false e t a b = b

told-keeps : (P : Solution → Type 0) (names : List NameSlot) (x : Solution) (t : Trace Solution) → EachAnswer P t → EachAnswer P (told names x t)
unfolding told EachAnswer
told-keeps P [] x t a = a
told-keeps P (n ∷ names) x t a = limit-keeps P _ (end _) (told names x t) tt (told-keeps P names x t a)

query-keeps : (given : Builtins) → NamesKeep given → (program : List PredTree) (q : QueryTree) (d : ℕ) → EachAnswer IsGood (query_trace given program q d)
unfolding query_trace Keeps
query-keeps given keep program q d =
    let l : Level = level_at given (program ++ q.helpers) d in
    let start : Point = query_start l q in
    let good : IsPlace start = record { level = level-keeps given keep (program ++ q.helpers) d; state = empty_is_calm; slots = places-empty 0 q.slots } in
    each-then (PlaceLater start) IsGood (strictly (meaning given q.goal) start) (answered_with q.names) (strictly-keeps (meaning given q.goal) (goal-keeps given keep q.goal) start good)
    (λ p k. told-keeps IsGood q.names (solution p) (one (solution p)) (each-one IsGood (solution p) (k.0.state, k.0.slots)))

pub runs-keep-states : RunsKeepStates
runs-keep-states v program q sound ground d x among =
    let preds : List PredTree = program ++ q.helpers in
    each-contained IsGood (query_trace (whole v built_later preds) program q d) (query-keeps (whole v built_later preds) (whole-keep v preds) program q d) x among
