-- Rules and levels of a program that isn't by rests are the same with built-ins that differ in `current_resource` alone.
use Rattle.std.specs.Prelude.{◌≡◌, ℕ, zero, suc, ◌+◌, Bool, true, false, cond, List, [], ◌∷◌, ◌++◌, length, replicate, Option, Some, None, codes, ⊤, refl}
use Rattle.std.specs.List.{list_any}
use Rattle.pi_terms.specs.Tree.{Tree, comp, Trees, tree_count}
use Rattle.pi_terms.specs.Places.{Places}
use Rattle.pi_constraints.specs.State.{State, bindings}
use Rattle.pi_constraints.specs.HeadMatch.{matched_all_in}
use Rattle.pi_core.specs.GoalTree.{GoalTree, truth}
use Rattle.pi_core.specs.CoreTree.{ClauseTree, PredTree, QueryTree, backtracks, is_pred, find_pred}
use Rattle.pi_core.specs.declared.core_program.SlotWatch.{SlotWatch}
use Rattle.pi_syntax.specs.declared.program.Mode.{Mode}
use Rattle.pi_traces.specs.Trace.{Trace, one, then}
use Rattle.pi_traces.specs.Control.{chosen}
use Rattle.pi_meaning.specs.Shared.Raise.{raised_with}
use Rattle.pi_meaning.specs.Shared.Drain.{drained}
use Rattle.pi_meaning.specs.Shared.Level.{Level, level_of, Applied, Point}
use Rattle.pi_meaning.specs.CoreMeaning.Builtins.{Builtins}
use Rattle.pi_meaning.specs.CoreMeaning.Meaning.{strictly}
use Rattle.pi_meaning.specs.CoreMeaning.Rules.{guarded, chosen_rule, rule_before, rules, body_or_agent, pred_run, value_at, value_run, function_run, entered, call_run, application_run, calls_of, quiet_level, level_at, rule_by, rules_by}
use Rattle.pi_meaning.specs.CoreMeaning.Run.{answered_with, query_start, query_trace}
use Rattle.pi_solve_spec.specs.Rests.{asks_rest, clause_asks, is_by_rests}
use Rattle.pi_solve_spec.proofs.GoalLemmas.{Alike, both_false, goal-alike}

-- ---- rules

guarded-alike : (a b : Builtins) → Alike a b → (g : GoalTree) → asks_rest g ≡ false → guarded a g ≡ guarded b g
guarded-alike a b h truth n = refl
guarded-alike a b h g n = λ i p. strictly (goal-alike a b h g n i) p

before-alike : {X : Type 0} (a b : Builtins) (l : Level) (c : ClauseTree) (back : Bool) (does other : Point → Trace X) (s : State) (rest more : Trace X) (o : Option Places) →
    guarded a c.guard ≡ guarded b c.guard → does ≡ other → rest ≡ more → rule_before a l (rule_by c back does) s rest o ≡ rule_before b l (rule_by c back other) s more o
before-alike a b l c back does other s rest more None g d r = r
before-alike a b l c back does other s rest more (Some e) g d r = λ i. chosen (g i (record { level = l; slots = e; state = s })) (λ p. chosen_rule back (d i p) (r i)) (r i)

rules-alike : {X : Type 0} (a b : Builtins) → Alike a b → (l : Level) (back : ClauseTree → Bool) (does other : ℕ → ClauseTree → Point → Trace X) →
    ((k : ℕ) (c : ClauseTree) → clause_asks c ≡ false → does k c ≡ other k c) → (k : ℕ) (cs : List ClauseTree) → list_any clause_asks cs ≡ false → (ts : Trees) (s : State) →
    rules (rules_by a l back does) k cs ts s ≡ rules (rules_by b l back other) k cs ts s
unfolding rules
rules-alike a b h l back does other same k [] n ts s = refl
rules-alike a b h l back does other same k (c ∷ cs) n ts s =
    let parts = both_false (clause_asks c) (list_any clause_asks cs) n in
    before-alike a b l c (back c) (does k c) (other k c) s (rules (rules_by a l back does) (suc k) cs ts s) (rules (rules_by b l back other) (suc k) cs ts s)
    (matched_all_in (bindings s) c.head ts (replicate c.slots None))
    (guarded-alike a b h c.guard (both_false (asks_rest c.guard) (asks_rest c.body) parts.0).0) (same k c parts.0) (rules-alike a b h l back does other same (suc k) cs parts.1 ts s)

-- ---- bodies and values

body-alike : (a b : Builtins) → Alike a b → (the_call : Tree) (k : ℕ) (c : ClauseTree) (ws : List SlotWatch) → asks_rest c.body ≡ false →
    ◌≡◌ {A = Point → Trace State} (λ p. body_or_agent a the_call k c ws p) (λ p. body_or_agent b the_call k c ws p)
body-alike a b h the_call k c [] n = λ i p. then (goal-alike a b h c.body n i p) (λ q. one q.state)
body-alike a b h the_call k c (w ∷ ws) n = refl

value-alike : (a b : Builtins) → Alike a b → (c : ClauseTree) → asks_rest c.body ≡ false → ◌≡◌ {A = Point → Trace Applied} (λ p. value_run a c p) (λ p. value_run b c p)
value-alike a b h c n = λ i p. then (strictly (goal-alike a b h c.body n i) p) (value_at c.value)

-- ---- calls

run-alike : (a b : Builtins) → Alike a b → (l : Level) (pred : PredTree) → list_any clause_asks pred.clauses ≡ false → (index : Option (List (List Mode))) (ts : Trees) (s : State) →
    pred_run a l pred index ts s ≡ pred_run b l pred index ts s
unfolding pred_run
run-alike a b h l pred n None ts s =
    rules-alike a b h l (λ c. backtracks c.back c.watches) (λ k c p. body_or_agent a (comp pred.name ts) k c c.watches p) (λ k c p. body_or_agent b (comp pred.name ts) k c c.watches p)
    (λ k c asks. body-alike a b h (comp pred.name ts) k c c.watches (both_false (asks_rest c.guard) (asks_rest c.body) asks).1) 0 pred.clauses n ts s
run-alike a b h l pred n (Some lists) ts s = refl

function-run-alike : (a b : Builtins) → Alike a b → (l : Level) (pred : PredTree) → list_any clause_asks pred.clauses ≡ false → (ts : Trees) (s : State) →
    function_run a l pred ts s ≡ function_run b l pred ts s
unfolding function_run
function-run-alike a b h l pred n ts s = λ i.
    chosen (rules-alike a b h l (λ c. false) (λ k c p. value_run a c p) (λ k c p. value_run b c p)
    (λ k c asks. value-alike a b h c (both_false (asks_rest c.guard) (asks_rest c.body) asks).1) 0 pred.clauses n ts s i) (λ x. one x)
    (raised_with (codes "unresolved_function_call") (comp pred.name ts) s)

-- a predicate of the program has no clause that asks
abbrev NoneAsks : Option PredTree → Type 0
NoneAsks None = ⊤
NoneAsks (Some pred) = list_any clause_asks pred.clauses ≡ false

one-or-later : (test : Bool) (pred : PredTree) (o : Option PredTree) → list_any clause_asks pred.clauses ≡ false → NoneAsks o → NoneAsks (cond test (Some pred) o)
one-or-later true pred o n rest = n
one-or-later false pred o n rest = rest

found-asks_not : (function : Bool) (name : List ℕ) (k : ℕ) (preds : List PredTree) → is_by_rests preds ≡ false → NoneAsks (find_pred function name k preds)
unfolding find_pred
found-asks_not function name k [] n = tt
found-asks_not function name k (pred ∷ preds) n =
    let parts = both_false (list_any clause_asks pred.clauses) (is_by_rests preds) n in
    one-or-later (is_pred function name k pred) pred (find_pred function name k preds) parts.0 (found-asks_not function name k preds parts.1)

call-alike : (a b : Builtins) → Alike a b → (inner outer below under : Option Level) → inner ≡ outer → below ≡ under → (o : Option PredTree) → NoneAsks o → (ts : Trees) (s : State) →
    call_run a inner below o ts s ≡ call_run b outer under o ts s
call-alike a b h inner outer below under x y None n ts s = refl
call-alike a b h inner outer below under x y (Some pred) n ts s = λ i. entered pred.quiet (x i) (y i) (λ l. run-alike a b h l pred n pred.index ts s i)

application-alike : (a b : Builtins) → Alike a b → (inner outer below under : Option Level) → inner ≡ outer → below ≡ under → (o : Option PredTree) → NoneAsks o → (ts : Trees) (s : State) →
    application_run a inner below o ts s ≡ application_run b outer under o ts s
application-alike a b h inner outer below under x y None n ts s = refl
application-alike a b h inner outer below under x y (Some pred) n ts s = λ i. entered pred.quiet (x i) (y i) (λ l. function-run-alike a b h l pred n ts s i)

-- ---- levels

calls-alike : (a b : Builtins) → Alike a b → (preds : List PredTree) → is_by_rests preds ≡ false → (inner outer below under : Option Level) → inner ≡ outer → below ≡ under →
    calls_of a preds inner below ≡ calls_of b preds outer under
unfolding calls_of
calls-alike a b h preds n inner outer below under x y = λ i. record {
  called = λ name ts s. call-alike a b h inner outer below under x y (find_pred false name (tree_count ts) preds) (found-asks_not false name (tree_count ts) preds n) ts s i;
  applied = λ name ts s. application-alike a b h inner outer below under x y (find_pred true name (tree_count ts) preds) (found-asks_not true name (tree_count ts) preds n) ts s i;
  drained = drained;
}

quiet-alike : (a b : Builtins) → Alike a b → (preds : List PredTree) → is_by_rests preds ≡ false → (below under : Option Level) → below ≡ under → (k : ℕ) →
    quiet_level a preds below k ≡ quiet_level b preds under k
unfolding quiet_level
quiet-alike a b h preds n below under y zero = λ i. level_of (calls-alike a b h preds n None None below under refl y i) (y i)
quiet-alike a b h preds n below under y (suc k) = λ i.
    level_of (calls-alike a b h preds n (Some (quiet_level a preds below k)) (Some (quiet_level b preds under k)) below under (λ j. Some (quiet-alike a b h preds n below under y k j)) y i) (y i)

pub level-alike : (a b : Builtins) → Alike a b → (preds : List PredTree) → is_by_rests preds ≡ false → (d : ℕ) → level_at a preds d ≡ level_at b preds d
unfolding level_at
level-alike a b h preds n zero = quiet-alike a b h preds n None None refl (length preds)
level-alike a b h preds n (suc d) = quiet-alike a b h preds n (Some (level_at a preds d)) (Some (level_at b preds d)) (λ i. Some (level-alike a b h preds n d i)) (suc (length preds + d))

-- ---- queries

pub query-alike : (a b : Builtins) → Alike a b → (program : List PredTree) (q : QueryTree) → is_by_rests (program ++ q.helpers) ≡ false → asks_rest q.goal ≡ false → (d : ℕ) →
    query_trace a program q d ≡ query_trace b program q d
unfolding query_trace
query-alike a b h program q n asks d =
    λ i. then (strictly (goal-alike a b h q.goal asks i) (query_start (level-alike a b h (program ++ q.helpers) n d i) q)) (answered_with q.names)
