-- The run of a query doesn't end in an exception that no `catch` catches: only calls that a planner answers raise such ones.
use Rattle.std.proofs.Common.{◌≡◌, ℕ, zero, suc, ◌+◌, Bool, true, false, List, [], ◌∷◌, ◌++◌, length, Option, Some, None, ap, ◌∙◌, sym}
use Rattle.std.specs.Prelude.{nat_lt, replicate, option_and_then, codes, ⊤}
use Rattle.pi_terms.specs.Tree.{Tree, cells, most_cells, comp, Trees, tree_count, trees_of}
use Rattle.pi_terms.specs.Places.{Places}
use Rattle.pi_constraints.specs.State.{State, bindings}
use Rattle.pi_constraints.specs.Evaluation.{Evaluated, evaluated, EvaluatedAll, evaluated_all}
use Rattle.pi_constraints.specs.HeadMatch.{matched_all_in}
use Rattle.pi_core.specs.GoalTree.{GoalTree, truth, fail, tick, call, apply, seq, alternatives, if_else, not, once, collect, count, catch, GoalTrees, no_goals, goal}
use Rattle.pi_core.specs.CoreTree.{ClauseTree, PredTree, QueryTree, backtracks, find_pred}
use Rattle.pi_core.specs.declared.core_program.NameSlot.{NameSlot}
use Rattle.pi_core.specs.declared.core_program.SlotWatch.{SlotWatch}
use Rattle.pi_syntax.specs.declared.program.Mode.{Mode}
use Rattle.pi_traces.specs.Trace.{Trace, end, Abort, one, done, then, first}
use Rattle.pi_traces.specs.Control.{negated, chosen}
use Rattle.pi_traces.specs.Depth.{Cut, Ended, cut}
use Rattle.pi_meaning.specs.Shared.View.{query_view}
use Rattle.pi_meaning.specs.Shared.Raise.{too_large, within_limit, raised_with}
use Rattle.pi_meaning.specs.Shared.Settle.{settled_from}
use Rattle.pi_meaning.specs.Shared.Drain.{drained}
use Rattle.pi_meaning.specs.Shared.Level.{Level, lowest, over, Calls, Applied, Point, level_of, calls_at}
use Rattle.pi_meaning.specs.CoreMeaning.Builtins.{Builtins, predicate_by, function_by}
use Rattle.pi_meaning.specs.CoreMeaning.Facts.{fact_terms, unified_with, facts}
use Rattle.pi_meaning.specs.CoreMeaning.Instances.{built_later, whole}
use Rattle.pi_meaning.specs.CoreMeaning.Meaning.{Action, in_state, with_slot, after_arguments, after_term, draining, strictly, calling, applying, ticking, slot_value, copyable, with_list, collecting, counting, catching, meaning, meaning_of_all, meaning_of_any}
use Rattle.pi_meaning.specs.CoreMeaning.Rules.{guarded, chosen_rule, rule_before, rule_by, rules_by, rules, body_or_agent, pred_run, value_at, value_run, function_run, entered, call_run, application_run, calls_of, quiet_level, level_at}
use Rattle.pi_meaning.specs.CoreMeaning.Run.{Solution, solution, told, answered_with, query_start, query_trace, IsRun}
use Rattle.pi_top.proofs.NoAborts.{NoAbort, Anything, no-alt, no-then, no-first, no-negated, no-chosen, no-collected, no-counted, no-caught, no-cond, no-abort-cut}
use Rattle.pi_top.proofs.NoAbortsLevels.{CallsSafe, IsSafe, calls-safe, no-settled_from}
use Rattle.pi_top.proofs.NoAbortsGiven.{no-handled, BuiltinsSafe, whole-safe}

-- ---- goals

SafePoint : Point → Type 0
SafePoint p = IsSafe p.level

-- from a safe place to safe places
KeepsSafe : Action → Type 0
KeepsSafe act = (p : Point) → SafePoint p → NoAbort SafePoint (act p)

draining-safe : (act : Action) → KeepsSafe act → KeepsSafe (draining act)
unfolding KeepsSafe SafePoint draining NoAbort
draining-safe act keeps p safe =
    no-then Anything SafePoint ((calls_at p.level).drained p.state) (λ s. act (in_state p s)) ((calls-safe p.level safe).drained p.state) (λ s any. keeps (in_state p s) safe)

one-safe : KeepsSafe (λ p. one p)
unfolding KeepsSafe NoAbort
one-safe p safe = (safe, tt)

strictly-safe : (act : Action) → KeepsSafe act → KeepsSafe (strictly act)
unfolding KeepsSafe strictly NoAbort
strictly-safe act keeps p safe = no-then SafePoint SafePoint (act p) (draining (λ q. one q)) (keeps p safe) (draining-safe (λ q. one q) one-safe)

calling-safe : (b : Builtins) → BuiltinsSafe b → (name : List ℕ) (args : List Tree) → KeepsSafe (calling b name args)
unfolding KeepsSafe SafePoint calling NoAbort
calling-safe b safe_names name args p safe =
    let all : EvaluatedAll = evaluated_all (trees_of args) p.slots p.state in
    no-then Anything SafePoint (predicate_by b p.level name all.trees all.state) (λ s. one (in_state (after_arguments p all) s)) (safe_names.predicates p.level safe name all.trees all.state) (λ s any. (safe, tt))

applying-safe : (b : Builtins) → BuiltinsSafe b → (name : List ℕ) (args : List Tree) (into : ℕ) → KeepsSafe (applying b name args into)
unfolding KeepsSafe SafePoint applying NoAbort
applying-safe b safe_names name args into p safe =
    let all : EvaluatedAll = evaluated_all (trees_of args) p.slots p.state in
    no-then Anything SafePoint (function_by b p.level name all.trees all.state) (λ a. one (with_slot (in_state (after_arguments p all) a.state) into a.value)) (safe_names.functions p.level safe name all.trees all.state) (λ a any. (safe, tt))

ticked-safe : (l : Level) (e : Places) (s : State) → IsSafe l → NoAbort SafePoint (ticking (record { level = l; slots = e; state = s }))
unfolding SafePoint NoAbort
ticked-safe (lowest c) e s safe = tt
ticked-safe (over c l) e s safe = (safe.1, tt)

ticking-safe : KeepsSafe ticking
unfolding KeepsSafe SafePoint NoAbort
ticking-safe p safe = ticked-safe p.level p.slots p.state safe

within-safe : {A : Type 0} (t : Tree) (u : Trace A) → NoAbort Anything u → NoAbort Anything (within_limit t u)
unfolding NoAbort
within-safe t u a = no-cond Anything (nat_lt most_cells (cells t)) (end too_large) u tt a

copyable-safe : (t : Tree) → NoAbort Anything (copyable t)
unfolding NoAbort
copyable-safe t = within-safe t (one t) (tt, tt)

collecting-safe : (act : Action) (k into : ℕ) → KeepsSafe act → KeepsSafe (collecting act k into)
unfolding KeepsSafe SafePoint collecting NoAbort
collecting-safe act k into keeps p safe =
    no-collected Anything SafePoint (then (strictly act p) (λ q. copyable (slot_value k q.slots q.state))) (λ t. t) (λ ts. one (with_list p into ts))
    (no-then SafePoint Anything (strictly act p) (λ q. copyable (slot_value k q.slots q.state)) (strictly-safe act keeps p safe) (λ q any. copyable-safe (slot_value k q.slots q.state)))
    (λ ts. (safe, tt))

counting-safe : (act : Action) (into : ℕ) → KeepsSafe act → KeepsSafe (counting act into)
unfolding KeepsSafe SafePoint counting NoAbort
counting-safe act into keeps p safe = no-counted SafePoint SafePoint (strictly act p) _ (strictly-safe act keeps p safe) (λ n. (safe, tt))

catching-safe : (act handler : Action) (ball : Tree) → KeepsSafe act → KeepsSafe handler → KeepsSafe (catching act ball handler)
unfolding KeepsSafe SafePoint catching NoAbort
catching-safe act handler ball keeps handles p safe =
    let e : Evaluated = evaluated ball p.slots p.state in
    no-caught SafePoint (strictly act (after_term p e)) _ (strictly-safe act keeps (after_term p e) safe)
    (λ raised. no-handled SafePoint e.state raised (λ s. handler (in_state (after_term p e) s)) _ (λ r. handles (in_state (after_term p e) r) safe))

mutual
  unfolding meaning meaning_of_all meaning_of_any KeepsSafe NoAbort

  meaning-safe : (b : Builtins) → BuiltinsSafe b → (g : GoalTree) → KeepsSafe (meaning b g)
  meaning-safe b names truth = draining-safe (λ p. one p) one-safe
  meaning-safe b names fail = draining-safe (λ p. done) (λ p safe. tt)
  meaning-safe b names tick = draining-safe ticking ticking-safe
  meaning-safe b names (call name args) = draining-safe (calling b name args) (calling-safe b names name args)
  meaning-safe b names (apply name args slot) = draining-safe (applying b name args slot) (applying-safe b names name args slot)
  meaning-safe b names (seq gs) = draining-safe (meaning_of_all b gs) (all-safe b names gs)
  meaning-safe b names (alternatives gs) = draining-safe (meaning_of_any b gs) (any-safe b names gs)
  meaning-safe b names (if_else test then_goal other) =
      draining-safe (λ p. chosen (strictly (meaning b test) p) (meaning b then_goal) (meaning b other p))
      (λ p safe. no-chosen SafePoint SafePoint (strictly (meaning b test) p) (meaning b then_goal) (meaning b other p) (strictly-safe (meaning b test) (meaning-safe b names test) p safe)
      (meaning-safe b names then_goal) (meaning-safe b names other p safe))
  meaning-safe b names (not g) = draining-safe (λ p. negated (strictly (meaning b g) p) p) (λ p safe. no-negated SafePoint SafePoint (strictly (meaning b g) p) p (strictly-safe (meaning b g) (meaning-safe b names g) p safe) safe)
  meaning-safe b names (once g) = draining-safe (λ p. first (strictly (meaning b g) p)) (λ p safe. no-first SafePoint (strictly (meaning b g) p) (strictly-safe (meaning b g) (meaning-safe b names g) p safe))
  meaning-safe b names (collect g k into) = draining-safe (collecting (meaning b g) k into) (collecting-safe (meaning b g) k into (meaning-safe b names g))
  meaning-safe b names (count g into) = draining-safe (counting (meaning b g) into) (counting-safe (meaning b g) into (meaning-safe b names g))
  meaning-safe b names (catch g ball handler) = draining-safe (catching (meaning b g) ball (meaning b handler)) (catching-safe (meaning b g) (meaning b handler) ball (meaning-safe b names g) (meaning-safe b names handler))

  all-safe : (b : Builtins) → BuiltinsSafe b → (gs : GoalTrees) → KeepsSafe (meaning_of_all b gs)
  all-safe b names no_goals p safe = (safe, tt)
  all-safe b names (goal g gs) p safe = no-then SafePoint SafePoint (meaning b g p) (meaning_of_all b gs) (meaning-safe b names g p safe) (all-safe b names gs)

  any-safe : (b : Builtins) → BuiltinsSafe b → (gs : GoalTrees) → KeepsSafe (meaning_of_any b gs)
  any-safe b names no_goals p safe = tt
  any-safe b names (goal g gs) p safe = no-alt SafePoint (meaning b g p) (meaning_of_any b gs p) (meaning-safe b names g p safe) (any-safe b names gs p safe)

-- a goal, at a place

goal-safe : (b : Builtins) → BuiltinsSafe b → (g : GoalTree) (p : Point) → SafePoint p → NoAbort SafePoint (meaning b g p)
unfolding KeepsSafe NoAbort
goal-safe b names g p safe = meaning-safe b names g p safe

strict-safe : (b : Builtins) → BuiltinsSafe b → (g : GoalTree) (p : Point) → SafePoint p → NoAbort SafePoint (strictly (meaning b g) p)
unfolding KeepsSafe NoAbort
strict-safe b names g p safe = strictly-safe (meaning b g) (meaning-safe b names g) p safe

safe-place : (l : Level) (e : Places) (s : State) → IsSafe l → SafePoint (record { level = l; slots = e; state = s })
unfolding SafePoint NoAbort
safe-place l e s safe = safe

-- ---- rules

guarded-safe : (b : Builtins) → BuiltinsSafe b → (g : GoalTree) (p : Point) → SafePoint p → NoAbort SafePoint (guarded b g p)
unfolding NoAbort
guarded-safe b names truth p safe = (safe, tt)
guarded-safe b names g p safe = strict-safe b names g p safe

chosen_rule-safe : {X : Type 0} (back : Bool) (t rest : Trace X) → NoAbort Anything t → NoAbort Anything rest → NoAbort Anything (chosen_rule back t rest)
unfolding NoAbort
chosen_rule-safe true t rest a b = no-alt Anything t rest a b
chosen_rule-safe false t rest a b = a

rule-safe : {X : Type 0} (b : Builtins) → BuiltinsSafe b → (l : Level) → IsSafe l → (c : ClauseTree) (back : Bool) (does : Point → Trace X) → ((p : Point) → SafePoint p → NoAbort Anything (does p)) →
    (s : State) (rest : Trace X) → NoAbort Anything rest → (e : Option Places) → NoAbort Anything (rule_before b l (rule_by c back does) s rest e)
unfolding NoAbort
rule-safe b names l safe c back does each s rest later None = later
rule-safe b names l safe c back does each s rest later (Some e) =
    no-chosen SafePoint Anything (guarded b c.guard (record { level = l; slots = e; state = s })) (λ p. chosen_rule back (does p) rest) rest
    (guarded-safe b names c.guard (record { level = l; slots = e; state = s }) (safe-place l e s safe)) (λ p at. chosen_rule-safe back (does p) rest (each p at) later) later

rules-safe : {X : Type 0} (b : Builtins) → BuiltinsSafe b → (l : Level) → IsSafe l → (back : ClauseTree → Bool) (does : ℕ → ClauseTree → Point → Trace X) →
    ((i : ℕ) (c : ClauseTree) (p : Point) → SafePoint p → NoAbort Anything (does i c p)) → (i : ℕ) (cs : List ClauseTree) (ts : Trees) (s : State) → NoAbort Anything (rules (rules_by b l back does) i cs ts s)
unfolding rules NoAbort
rules-safe b names l safe back does each i [] ts s = tt
rules-safe b names l safe back does each i (c ∷ cs) ts s =
    rule-safe b names l safe c (back c) (does i c) (each i c) s (rules (rules_by b l back does) (suc i) cs ts s) (rules-safe b names l safe back does each (suc i) cs ts s)
    (matched_all_in (bindings s) c.head ts (replicate c.slots None))

body-safe : (b : Builtins) → BuiltinsSafe b → (t : Tree) (i : ℕ) (c : ClauseTree) (ws : List SlotWatch) (p : Point) → SafePoint p → NoAbort Anything (body_or_agent b t i c ws p)
unfolding NoAbort
body-safe b names t i c [] p safe = no-then SafePoint Anything (meaning b c.body p) (λ q. one q.state) (goal-safe b names c.body p safe) (λ q at. (tt, tt))
body-safe b names t i c (w ∷ ws) p safe = (tt, tt)

value_at-safe : (t : Option Tree) (p : Point) → NoAbort Anything (value_at t p)
unfolding NoAbort
value_at-safe None p = tt
value_at-safe (Some t) p = (tt, tt)

value-safe : (b : Builtins) → BuiltinsSafe b → (c : ClauseTree) (p : Point) → SafePoint p → NoAbort Anything (value_run b c p)
unfolding NoAbort
value-safe b names c p safe = no-then SafePoint Anything (strictly (meaning b c.body) p) (value_at c.value) (strict-safe b names c.body p safe) (λ q at. value_at-safe c.value q)

facts-safe : (cs : List ClauseTree) (ts : Trees) (s : State) → NoAbort Anything (facts cs ts s)
unfolding facts NoAbort
facts-safe [] ts s = tt
facts-safe (c ∷ cs) ts s =
    no-alt Anything (settled_from s (option_and_then (unified_with ts) (fact_terms c.head (replicate c.slots None) s))) (facts cs ts s) (no-settled_from s _) (facts-safe cs ts s)

pred-safe : (b : Builtins) → BuiltinsSafe b → (l : Level) → IsSafe l → (pred : PredTree) (index : Option (List (List Mode))) (ts : Trees) (s : State) → NoAbort Anything (pred_run b l pred index ts s)
unfolding pred_run NoAbort
pred-safe b names l safe pred None ts s =
    rules-safe b names l safe (λ c. backtracks c.back c.watches) (λ i c p. body_or_agent b (comp pred.name ts) i c c.watches p) (λ i c p at. body-safe b names (comp pred.name ts) i c c.watches p at) 0 pred.clauses ts s
pred-safe b names l safe pred (Some lists) ts s = no-cond Anything _ (facts pred.clauses ts s) done (facts-safe pred.clauses ts s) tt

raised-safe : (name : List ℕ) (t : Tree) (s : State) → NoAbort {A = Applied} Anything (raised_with name t s)
unfolding raised_with NoAbort
raised-safe name t s = tt

function-safe : (b : Builtins) → BuiltinsSafe b → (l : Level) → IsSafe l → (pred : PredTree) (ts : Trees) (s : State) → NoAbort Anything (function_run b l pred ts s)
unfolding function_run NoAbort
function-safe b names l safe pred ts s =
    no-chosen Anything Anything (rules (rules_by b l (λ c. false) (λ i c p. value_run b c p)) 0 pred.clauses ts s) (λ a. one a) (raised_with (codes "unresolved_function_call") (comp pred.name ts) s)
    (rules-safe b names l safe (λ c. false) (λ i c p. value_run b c p) (λ i c p at. value-safe b names c p at) 0 pred.clauses ts s) (λ a any. (tt, tt)) (raised-safe _ _ s)

-- ---- levels

-- where there is one
abbrev pub SafeIfAny : Option Level → Type 0
SafeIfAny None = ⊤
SafeIfAny (Some l) = IsSafe l

entered-safe : {X : Type 0} (quiet : Bool) (inner below : Option Level) (f : Level → Trace X) → SafeIfAny inner → SafeIfAny below → ((l : Level) → IsSafe l → NoAbort Anything (f l)) → NoAbort Anything (entered quiet inner below f)
unfolding NoAbort
entered-safe true None below f a b each = tt
entered-safe true (Some l) below f a b each = each l a
entered-safe false inner None f a b each = tt
entered-safe false inner (Some l) f a b each = each l b

call-safe : (b : Builtins) → BuiltinsSafe b → (inner below : Option Level) → SafeIfAny inner → SafeIfAny below → (found : Option PredTree) (ts : Trees) (s : State) → NoAbort Anything (call_run b inner below found ts s)
unfolding NoAbort
call-safe b names inner below x y None ts s = tt
call-safe b names inner below x y (Some pred) ts s = entered-safe pred.quiet inner below (λ l. pred_run b l pred pred.index ts s) x y (λ l safe. pred-safe b names l safe pred pred.index ts s)

application-safe : (b : Builtins) → BuiltinsSafe b → (inner below : Option Level) → SafeIfAny inner → SafeIfAny below → (found : Option PredTree) (ts : Trees) (s : State) → NoAbort Anything (application_run b inner below found ts s)
unfolding NoAbort
application-safe b names inner below x y None ts s = tt
application-safe b names inner below x y (Some pred) ts s = entered-safe pred.quiet inner below (λ l. function_run b l pred ts s) x y (λ l safe. function-safe b names l safe pred ts s)

no-drained : (s : State) → NoAbort Anything (drained s)
unfolding drained NoAbort
no-drained s = (tt, tt)

calls_of-safe : (b : Builtins) → BuiltinsSafe b → (preds : List PredTree) (inner below : Option Level) → SafeIfAny inner → SafeIfAny below → CallsSafe (calls_of b preds inner below)
unfolding calls_of NoAbort
calls_of-safe b names preds inner below x y = record {
  called = λ name ts s. call-safe b names inner below x y (find_pred false name (tree_count ts) preds) ts s;
  applied = λ name ts s. application-safe b names inner below x y (find_pred true name (tree_count ts) preds) ts s;
  drained = no-drained;
}

level_of-safe : (c : Calls) (below : Option Level) → CallsSafe c → SafeIfAny below → IsSafe (level_of c below)
unfolding NoAbort
level_of-safe c None safe a = safe
level_of-safe c (Some l) safe a = (safe, a)

quiet-safe : (b : Builtins) → BuiltinsSafe b → (preds : List PredTree) (below : Option Level) → SafeIfAny below → (k : ℕ) → IsSafe (quiet_level b preds below k)
unfolding quiet_level NoAbort
quiet-safe b names preds below a zero = level_of-safe (calls_of b preds None below) below (calls_of-safe b names preds None below tt a) a
quiet-safe b names preds below a (suc k) =
    let inner : Option Level = Some (quiet_level b preds below k) in
    level_of-safe (calls_of b preds inner below) below (calls_of-safe b names preds inner below (quiet-safe b names preds below a k) a) a

levels-safe : (b : Builtins) → BuiltinsSafe b → (preds : List PredTree) (n : ℕ) → IsSafe (level_at b preds n)
unfolding level_at NoAbort
levels-safe b names preds zero = quiet-safe b names preds None tt (length preds)
levels-safe b names preds (suc n) = quiet-safe b names preds (Some (level_at b preds n)) (levels-safe b names preds n) (suc (length preds + n))

-- ---- queries

told-safe : (names : List NameSlot) (x : Solution) (t : Trace Solution) → NoAbort Anything t → NoAbort Anything (told names x t)
unfolding told
told-safe [] x t a = a
told-safe (n ∷ names) x t a = within-safe (slot_value n.slot x.slots x.state) (told names x t) (told-safe names x t a)

trace-safe : (b : Builtins) → BuiltinsSafe b → (program : List PredTree) (q : QueryTree) (depth : ℕ) → NoAbort Anything (query_trace b program q depth)
unfolding query_trace NoAbort
trace-safe b names program q depth =
    let l : Level = level_at b (program ++ q.helpers) depth in
    no-then SafePoint Anything (strictly (meaning b q.goal) (query_start l q)) (answered_with q.names) (strict-safe b names q.goal (query_start l q) (safe-place l _ _ (levels-safe b names (program ++ q.helpers) depth)))
    (λ p at. told-safe q.names (solution p) (one (solution p)) (tt, tt))

pub never-aborts : (program : List PredTree) (q : QueryTree) (n : ℕ) (run : Cut Solution) (ball : Tree) → IsRun program q [] n run → run.stop ≡ Ended (Abort ball) → ⊥
never-aborts program q n run ball is aborts =
    let b : Builtins = whole (query_view []) built_later (program ++ q.helpers) in
    let stops : (cut n (query_trace b program q is.depth)).stop ≡ Ended (Abort ball) = sym (ap (λ (r : Cut Solution). r.stop) is.is_cut) ∙ aborts in
    no-abort-cut Anything n (query_trace b program q is.depth) ball (trace-safe b (whole-safe (query_view []) (program ++ q.helpers)) program q is.depth) stops
