-- Calls by name, of built-ins and of terms by `call`, don't end in an exception that no `catch` catches, where what they lead to doesn't, with what is built of later stages of the language.
use Rattle.std.proofs.Common.{ℕ, Bool, List, [], Option, Some, None}
use Rattle.std.specs.Prelude.{option_map, unwrap_or}
use Rattle.pi_terms.specs.Tree.{Tree, Trees, no_trees, tree, tree_count}
use Rattle.pi_constraints.specs.State.{State}
use Rattle.pi_effects.specs.Effect.{Effect, Succeeds, Fails, Writes, Raises, FunctionEffect, Gives, Refuses}
use Rattle.pi_core.specs.CoreTree.{PredTree}
use Rattle.pi_traces.specs.Trace.{Trace, end, Raise, Deep, Tick, note, done, then}
use Rattle.pi_meaning.specs.Shared.View.{View}
use Rattle.pi_meaning.specs.Shared.Within.{Within, a_query, a_body, is_body, resource_left}
use Rattle.pi_settling.specs.DomainValues.{domain_function}
use Rattle.pi_settling.specs.Goals.{constraint_effect}
use Rattle.pi_meaning.specs.Shared.Settle.{settled}
use Rattle.pi_meaning.specs.Shared.Handling.{handled_in, handling}
use Rattle.pi_meaning.specs.Shared.Builtin.{written, function_trace, settled_effect}
use Rattle.pi_meaning.specs.Shared.Given.{Setting}
use Rattle.pi_meaning.specs.Shared.Calls.{built_in, given_later, predicate_given, predicate_called, function_later, function_given, Called, unknown_name, with_planner, known_called, call_goal, catch_called, again_called, term_called, called_at_level, called_below, first_called}
use Rattle.pi_meaning.specs.Shared.Level.{Level, lowest, over, Applied, calls_at, or_called, or_applied}
use Rattle.pi_meaning.specs.CoreMeaning.Builtins.{Builtins, predicate_by, function_by}
use Rattle.pi_meaning.specs.CoreMeaning.Instances.{solve_or_unknown, built_later, whole, core_setting, predicate_or_call}
use Rattle.pi_top.proofs.NoAborts.{NoAbort, Anything, NoneAborts, no-then, no-caught, no-cond, none-cond, none-or, none-map, none-some, none-none}
use Rattle.pi_top.proofs.NoAbortsLevels.{IsSafe, calls-safe, no-settled}
use Rattle.pi_top.proofs.NoAbortsSolve.{no-solve}

-- ---- what is handled

pub no-handled : {A : Type 0} (P : A → Type 0) (s : State) (ball : Tree) (handler : State → Trace A) (o : Option State) → ((r : State) → NoAbort P (handler r)) → NoAbort P (handled_in s ball handler o)
unfolding NoAbort
no-handled P s ball handler None each = tt
no-handled P s ball handler (Some r) each = no-then Anything P (settled s r) handler (no-settled s r) (λ x any. each x)

-- ---- built-ins

no-written : (within : Bool) (text : List ℕ) (s : State) → NoAbort Anything (written within text s)
unfolding NoAbort
no-written Bool.true text s = tt
no-written Bool.false text s = (tt, tt)

no-settled_effect : (v : View) (before : State) (e : Effect) → NoAbort Anything (settled_effect v before e)
unfolding NoAbort
no-settled_effect v before (Succeeds s) = no-settled before s
no-settled_effect v before Fails = tt
no-settled_effect v before (Writes text s) = no-written (is_body v.within) text s
no-settled_effect v before (Raises ball) = tt

no-function : (e : FunctionEffect) → NoAbort Anything (function_trace e)
unfolding NoAbort
no-function (Gives t s) = (tt, tt)
no-function (Refuses ball) = tt

no-resource : (within : Within) (s : State) → NoAbort Anything (resource_left within s)
unfolding NoAbort
no-resource a_query s = tt
no-resource (a_body n) s = (tt, tt)

-- ---- names

abbrev pub setting : View → List PredTree → Setting
setting v preds = core_setting v built_later preds

no-raised : (ball : Tree) → NoAbort {A = State} Anything (end (Raise ball))
unfolding NoAbort
no-raised ball = tt

no-unknown : (name : List ℕ) (k : ℕ) → NoAbort Anything (unknown_name {A = State} name k)
unfolding NoAbort
no-unknown name k = tt

no-done : {A : Type 0} (P : A → Type 0) → NoAbort P done
unfolding NoAbort
no-done P = tt

no-tick : (t : Trace State) → NoAbort Anything t → NoAbort Anything (note Tick t)
unfolding NoAbort
no-tick t a = a

-- what is built of later stages
no-or_else : {A : Type 0} (o : Option (Trace A)) (t : Trace A) → NoneAborts Anything o → NoAbort Anything t → NoAbort Anything (unwrap_or o t)
unfolding NoneAborts
no-or_else None t a b = b
no-or_else (Some u) t a b = a

no-built_predicate : (v : View) (l : Level) → IsSafe l → (name : List ℕ) (ts : Trees) (s : State) → NoAbort Anything (built_later.predicate v l name ts s)
no-built_predicate v l safe name ts s =
    no-or_else (option_map (settled_effect v s) (constraint_effect name ts s)) (solve_or_unknown l name ts s) (none-map Anything _ (settled_effect v s) (no-settled_effect v s)) (no-solve l safe name ts s)

no-built_function : (name : List ℕ) (ts : Trees) (s : State) → NoAbort Anything (built_later.function name ts s)
no-built_function name ts s = no-or_else (option_map function_trace (domain_function name ts s)) done (none-map Anything _ function_trace no-function) (no-done Anything)

no-given : (v : View) (preds : List PredTree) (l : Level) → IsSafe l → (name : List ℕ) (ts : Trees) (s : State) → NoneAborts Anything (predicate_given (setting v preds) l name ts s)
unfolding predicate_given
no-given v preds l safe name ts s =
    none-or Anything (built_in (setting v preds) name ts s) (given_later (setting v preds) l name ts s) (none-map Anything _ (settled_effect v s) (no-settled_effect v s)) (none-cond Anything _ (Some (built_later.predicate v l name ts s)) None (none-some Anything (built_later.predicate v l name ts s) (no-built_predicate v l safe name ts s)) (none-none Anything))

no-function_given : (v : View) (preds : List PredTree) (name : List ℕ) (ts : Trees) (s : State) → NoneAborts Anything (function_given (setting v preds) name ts s)
unfolding function_given
no-function_given v preds name ts s =
    none-or Anything _ (function_later (setting v preds) name ts s) (none-map Anything _ function_trace no-function)
    (none-cond Anything _ (Some (resource_left v.within s)) _ (none-some Anything (resource_left v.within s) (no-resource v.within s))
    (none-cond Anything _ (Some (built_later.function name ts s)) None (none-some Anything (built_later.function name ts s) (no-built_function name ts s)) (none-none Anything)))

no-or_called : (o : Option (Trace State)) (l : Level) (name : List ℕ) (ts : Trees) (s : State) → IsSafe l → NoneAborts Anything o → NoAbort Anything (or_called o l name ts s)
unfolding NoneAborts
no-or_called None l name ts s safe a = (calls-safe l safe).called name ts s
no-or_called (Some t) l name ts s safe a = a

no-or_applied : (o : Option (Trace Applied)) (l : Level) (name : List ℕ) (ts : Trees) (s : State) → IsSafe l → NoneAborts Anything o → NoAbort Anything (or_applied o l name ts s)
unfolding NoneAborts
no-or_applied None l name ts s safe a = (calls-safe l safe).applied name ts s
no-or_applied (Some t) l name ts s safe a = a

no-called : (v : View) (preds : List PredTree) (l : Level) (name : List ℕ) (ts : Trees) (s : State) → IsSafe l → NoAbort Anything (predicate_called (setting v preds) l name ts s)
unfolding predicate_called
no-called v preds l name ts s safe = no-or_called (predicate_given (setting v preds) l name ts s) l name ts s safe (no-given v preds l safe name ts s)

no-known : (v : View) (preds : List PredTree) (l : Level) (name : List ℕ) (ts : Trees) (s : State) → IsSafe l → NoAbort Anything (known_called (setting v preds) l name ts s)
no-known v preds l name ts s safe =
    let called : NoAbort Anything (predicate_called (setting v preds) l name ts s) = no-called v preds l name ts s safe in
    no-cond Anything _ (with_planner (setting v preds) (predicate_called (setting v preds) l name ts s)) _
    (no-cond Anything _ _ _ (no-cond Anything _ (predicate_called (setting v preds) l name ts s) _ called (no-unknown _ _)) (no-unknown _ _))
    (no-cond Anything _ (predicate_called (setting v preds) l name ts s) _ called (no-unknown name (tree_count ts)))

-- ---- `call`

-- what `call` does one level down
abbrev pub DeeperSafe : (Tree → List Tree → State → Trace State) → Type 0
DeeperSafe deeper = (t : Tree) (more : List Tree) (s : State) → NoAbort Anything (deeper t more s)

no-call_goal : (l : Level) (deeper : Tree → List Tree → State → Trace State) (t : Tree) (more : List Tree) (s : State) → IsSafe l → DeeperSafe deeper → NoAbort Anything (call_goal l deeper t more s)
no-call_goal l deeper t more s safe below = no-then Anything Anything ((calls_at l).drained s) (λ r. deeper t more r) ((calls-safe l safe).drained s) (λ r any. below t more r)

no-catch : (l : Level) (deeper : Tree → List Tree → State → Trace State) (ts : Trees) (s : State) → IsSafe l → DeeperSafe deeper → NoAbort Anything (catch_called l deeper ts s)
unfolding NoAbort
no-catch l deeper no_trees s safe below = tt
no-catch l deeper (tree g no_trees) s safe below = tt
no-catch l deeper (tree g (tree ball no_trees)) s safe below = tt
no-catch l deeper (tree g (tree ball (tree h no_trees))) s safe below =
    no-caught Anything (then (call_goal l deeper g [] s) (λ r. (calls_at l).drained r)) (handling s ball (λ r. call_goal l deeper h [] r))
    (no-then Anything Anything (call_goal l deeper g [] s) (λ r. (calls_at l).drained r) (no-call_goal l deeper g [] s safe below) (λ r any. (calls-safe l safe).drained r))
    (λ raised. no-handled Anything s raised (λ r. call_goal l deeper h [] r) _ (λ r. no-call_goal l deeper h [] r safe below))
no-catch l deeper (tree g (tree ball (tree h (tree t ts)))) s safe below = tt

no-again : (l : Level) (deeper : Tree → List Tree → State → Trace State) (ts : Trees) (s : State) → IsSafe l → DeeperSafe deeper → NoAbort Anything (again_called l deeper ts s)
unfolding NoAbort
no-again l deeper no_trees s safe below = tt
no-again l deeper (tree t ts) s safe below = no-call_goal l deeper t _ s safe below

no-term : (v : View) (preds : List PredTree) (l : Level) (deeper : Tree → List Tree → State → Trace State) (t : Tree) (s : State) (o : Option Called) → IsSafe l → DeeperSafe deeper → NoAbort Anything (term_called (setting v preds) l deeper t s o)
no-term v preds l deeper t s None safe below = no-raised _
no-term v preds l deeper t s (Some c) safe below =
    no-cond Anything _ (note Tick (catch_called l deeper c.args s)) _ (no-tick _ (no-catch l deeper c.args s safe below))
    (no-cond Anything _ (note Tick (again_called l deeper c.args s)) _ (no-tick _ (no-again l deeper c.args s safe below)) (no-known v preds l c.name c.args s safe))

no-at_level : (v : View) (preds : List PredTree) (l : Level) → IsSafe l → DeeperSafe (called_at_level (setting v preds) l)
unfolding called_at_level NoAbort
no-at_level v preds (lowest c) safe t more s = no-term v preds (lowest c) (λ u us r. end Deep) t s _ safe (λ u us r. tt)
no-at_level v preds (over c l) safe t more s = no-term v preds (over c l) (called_at_level (setting v preds) l) t s _ safe (no-at_level v preds l safe.1)

no-below : (v : View) (preds : List PredTree) (l : Level) (t : Tree) (more : List Tree) (s : State) → IsSafe l → NoAbort Anything (called_below (setting v preds) l t more s)
unfolding NoAbort
no-below v preds (lowest c) t more s safe = tt
no-below v preds (over c l) t more s safe = no-at_level v preds l safe.1 t more s

no-first_called : (v : View) (preds : List PredTree) (l : Level) (ts : Trees) (s : State) → IsSafe l → NoAbort Anything (first_called (setting v preds) l ts s)
unfolding first_called NoAbort
no-first_called v preds l no_trees s safe = tt
no-first_called v preds l (tree t ts) s safe = no-below v preds l t _ s safe

-- ---- all names of the language

pub record BuiltinsSafe (b : Builtins) : Type 0 where
  pub predicates : (l : Level) → IsSafe l → (name : List ℕ) (ts : Trees) (s : State) → NoAbort Anything (predicate_by b l name ts s)
  pub functions : (l : Level) → IsSafe l → (name : List ℕ) (ts : Trees) (s : State) → NoAbort Anything (function_by b l name ts s)

pub whole-safe : (v : View) (preds : List PredTree) → BuiltinsSafe (whole v built_later preds)
whole-safe v preds = record {
  predicates = λ l safe name ts s. no-or_called (predicate_or_call (setting v preds) l name ts s) l name ts s safe
      (none-cond Anything _ (Some (first_called (setting v preds) l ts s)) (predicate_given (setting v preds) l name ts s) (none-some Anything (first_called (setting v preds) l ts s) (no-first_called v preds l ts s safe)) (no-given v preds l safe name ts s));
  functions = λ l safe name ts s. no-or_applied (function_given (setting v preds) name ts s) l name ts s safe (no-function_given v preds name ts s);
}
