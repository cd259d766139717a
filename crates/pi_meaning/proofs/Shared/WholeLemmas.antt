-- A query that calls nothing but built-ins of the tables and what its program defines does the same with these built-ins alone as with all names of the language.
use Rattle.std.proofs.Common.{◌≡◌, inl, inr, ◌++◌, ℕ, Bool, true, false, cond, ◌&&◌, ◌||◌, List, refl, sym, subst, ap, ◌∙◌}
use Rattle.std.specs.Prelude.{Option, Some, None, IsSome, is_some, nat_le, codes}
use Rattle.std.specs.Str.{bytes_eq}
use Rattle.std.proofs.lemmas.Bool.{false≢true}
use Rattle.std.proofs.lemmas.Slice.Eq.{bytes_eq-Decides}
use Rattle.std.specs.Option.{option_or}
use Rattle.pi_terms.specs.Tree.{Trees, tree_count}
use Rattle.pi_constraints.specs.State.{State}
use Rattle.pi_core.specs.CoreTree.{PredTree, find_pred}
use Rattle.pi_effects.specs.Comparing.{comparing_tests}
use Rattle.pi_effects.specs.Kinds.{kind_tests}
use Rattle.pi_effects.specs.Texts.{writing_predicates}
use Rattle.pi_effects.specs.Rows.{has_line}
use Rattle.pi_effects.specs.BuiltIns.{tests, other_predicates, built_in_predicate, built_in_function, is_predicate, is_function}
use Rattle.pi_effects.proofs.BuiltInLemmas.{predicates-listed, functions-listed}
use Rattle.pi_effects.proofs.RowLemmas.{some-map}
use Rattle.pi_traces.specs.Trace.{Trace}
use Rattle.pi_traces.specs.Depth.{Below}
use Rattle.pi_traces.proofs.BelowLemmas.{below-antisym}
use Rattle.pi_meaning.specs.Shared.View.{View}
use Rattle.pi_meaning.specs.Shared.Level.{Level, Applied, or_called, or_applied}
use Rattle.pi_meaning.specs.Shared.Names.{is_later_predicate, is_later_function, is_resource, is_call, is_given}
use Rattle.pi_meaning.specs.Shared.Builtin.{settled_effect, function_trace, effect, function_effect}
use Rattle.pi_meaning.specs.CoreMeaning.Builtins.{predicate_by, function_by}
use Rattle.pi_meaning.specs.Shared.Given.{Later}
use Rattle.pi_meaning.specs.Shared.Calls.{predicate_given, function_given, given_later, function_later, first_called}
use Rattle.pi_meaning.specs.CoreMeaning.Instances.{tabled, whole, core_setting, predicate_or_call}
use Rattle.pi_meaning.specs.CoreMeaning.Defined.{NamesAreFree}
use Rattle.pi_meaning.specs.CoreMeaning.Rules.{level_at}
use Rattle.pi_meaning.specs.CoreMeaning.Run.{query_trace}
use Rattle.pi_meaning.specs.CoreMeaning.Laws.{TabledIsWhole}
use Rattle.pi_meaning.proofs.Shared.CallLemmas.{tabled-adds}
use Rattle.pi_meaning.proofs.CoreMeaning.MeaningLemmas.{CallsMore, CallsIn}
use Rattle.pi_meaning.proofs.CoreMeaning.RuleLemmas.{ProgramCalls, levels-below}
use Rattle.pi_meaning.proofs.CoreMeaning.DefinedLemmas.{defined_by, goal-calls, program-calls, IsFound, found-pred}
use Rattle.pi_meaning.proofs.CoreMeaning.QueryLemmas.{query-below}

-- ---- a predicate of the program is none that the language gives

pub free-found : (preds : List PredTree) → NamesAreFree preds → (function : Bool) (name : List ℕ) (k : ℕ) (o : Option PredTree) → find_pred function name k preds ≡ o → IsSome o →
    is_given function name k ≡ false
free-found preds free function name k None h some = absurd cc
free-found preds free function name k (Some pred) h some =
    let f : IsFound preds function name k pred = found-pred preds function name k pred h in
    subst (λ (b : Bool). is_given b name k ≡ false) f.function_is
    (subst (λ (n : List ℕ). is_given pred.function n k ≡ false) f.name_is
    (subst (λ (j : ℕ). is_given pred.function pred.name j ≡ false) f.arity_is (free pred f.among)))

first-false : (a b : Bool) → (a || b) ≡ false → a ≡ false
first-false true b h = absurd cc
first-false false b h = refl

second-false : (a b : Bool) → (a || b) ≡ false → b ≡ false
second-false true b h = absurd cc
second-false false b h = h

none-of : {A : Type 0} (o : Option A) → is_some o ≡ false → o ≡ None
none-of None h = refl
none-of (Some x) h = absurd cc

pub none-listed : (name : List ℕ) (ts : Trees) (s : State) → is_predicate name (tree_count ts) ≡ false → built_in_predicate name ts s ≡ None
none-listed name ts s h = none-of (built_in_predicate name ts s) (predicates-listed name ts s ∙ h)

pub no-function-listed : (name : List ℕ) (ts : Trees) (s : State) → is_function name (tree_count ts) ≡ false → built_in_function name ts s ≡ None
no-function-listed name ts s h = none-of (built_in_function name ts s) (functions-listed name ts s ∙ h)

-- ---- what a name does by itself

-- both do nothing by themselves
none-same : (v : View) (later : Later) (preds : List PredTree) (l : Level) (name : List ℕ) (ts : Trees) (s : State) → is_given false name (tree_count ts) ≡ false →
    predicate_or_call (core_setting v later preds) l name ts s ≡ effect v name ts s
unfolding predicate_given effect
none-same v later preds l name ts s h =
    let no-call : is_call name (tree_count ts) ≡ false = first-false (is_call name (tree_count ts)) _ h in
    let others : (is_predicate name (tree_count ts) || is_later_predicate name (tree_count ts)) ≡ false = second-false (is_call name (tree_count ts)) _ h in
    let no-built : is_predicate name (tree_count ts) ≡ false = first-false (is_predicate name (tree_count ts)) (is_later_predicate name (tree_count ts)) others in
    let no-later : is_later_predicate name (tree_count ts) ≡ false = second-false (is_predicate name (tree_count ts)) (is_later_predicate name (tree_count ts)) others in
    rw (no-call, none-listed name ts s no-built, no-later) refl

-- `call` is no built-in of the tables
call-unlisted : (k : ℕ) → is_predicate (codes "call") k ≡ false
unfolding is_predicate tests comparing_tests kind_tests writing_predicates other_predicates has_line
call-unlisted k = refl

pub no-call-of : (name : List ℕ) (k : ℕ) → is_predicate name k ≡ true → is_call name k ≡ false
no-call-of name k listed = tested (nat_le 1 k && nat_le k 8) (bytes_eq name (codes "call")) refl
  where
    tested : (within named : Bool) → bytes_eq name (codes "call") ≡ named → (within && named) ≡ false
    tested true true is = absurd (false≢true (sym (call-unlisted k) ∙ (sym (ap (λ (n : List ℕ). is_predicate n k) ((bytes_eq-Decides name (codes "call")).0 is)) ∙ listed)))
    tested true false is = refl
    tested false named is = refl

first-of-two : {A : Type 0} (o p : Option A) → is_some o ≡ true → option_or o p ≡ o
first-of-two None p h = absurd cc
first-of-two (Some x) p h = refl

-- both do what the table says
built-same : (v : View) (later : Later) (preds : List PredTree) (l : Level) (name : List ℕ) (ts : Trees) (s : State) → is_predicate name (tree_count ts) ≡ true →
    predicate_or_call (core_setting v later preds) l name ts s ≡ effect v name ts s
unfolding predicate_given effect
built-same v later preds l name ts s h =
    ap (λ (b : Bool). cond b (Some (first_called (core_setting v later preds) l ts s)) (predicate_given (core_setting v later preds) l name ts s)) (no-call-of name (tree_count ts) h)
    ∙ first-of-two (effect v name ts s) (given_later (core_setting v later preds) l name ts s)
    (some-map (settled_effect v s) (built_in_predicate name ts s) ∙ (predicates-listed name ts s ∙ h))

pub predicate-same : (v : View) (later : Later) (preds : List PredTree) → NamesAreFree preds → (l : Level) (name : List ℕ) (ts : Trees) (s : State) →
    defined_by is_predicate is_function preds false name (tree_count ts) → predicate_or_call (core_setting v later preds) l name ts s ≡ effect v name ts s
predicate-same v later preds free l name ts s (inl found) =
    none-same v later preds l name ts s (free-found preds free false name (tree_count ts) (find_pred false name (tree_count ts) preds) refl found)
predicate-same v later preds free l name ts s (inr built) = built-same v later preds l name ts s built

-- of functions too
no-function-same : (v : View) (later : Later) (preds : List PredTree) (name : List ℕ) (ts : Trees) (s : State) → is_given true name (tree_count ts) ≡ false →
    function_given (core_setting v later preds) name ts s ≡ function_effect name ts s
unfolding function_given function_effect
no-function-same v later preds name ts s h =
    let no-built : is_function name (tree_count ts) ≡ false = first-false (is_function name (tree_count ts)) _ h in
    let others : (is_resource name (tree_count ts) || is_later_function name (tree_count ts)) ≡ false = second-false (is_function name (tree_count ts)) _ h in
    let no-resource : is_resource name (tree_count ts) ≡ false = first-false (is_resource name (tree_count ts)) (is_later_function name (tree_count ts)) others in
    let no-later : is_later_function name (tree_count ts) ≡ false = second-false (is_resource name (tree_count ts)) (is_later_function name (tree_count ts)) others in
    rw (no-function-listed name ts s no-built, no-resource, no-later) refl

built-function-same : (v : View) (later : Later) (preds : List PredTree) (name : List ℕ) (ts : Trees) (s : State) → is_function name (tree_count ts) ≡ true →
    function_given (core_setting v later preds) name ts s ≡ function_effect name ts s
unfolding function_given function_effect
built-function-same v later preds name ts s h =
    first-of-two (function_effect name ts s) (function_later (core_setting v later preds) name ts s)
    (some-map function_trace (built_in_function name ts s) ∙ (functions-listed name ts s ∙ h))

pub function-same : (v : View) (later : Later) (preds : List PredTree) → NamesAreFree preds → (name : List ℕ) (ts : Trees) (s : State) →
    defined_by is_predicate is_function preds true name (tree_count ts) → function_given (core_setting v later preds) name ts s ≡ function_effect name ts s
function-same v later preds free name ts s (inl found) =
    no-function-same v later preds name ts s (free-found preds free true name (tree_count ts) (find_pred true name (tree_count ts) preds) refl found)
function-same v later preds free name ts s (inr built) = built-function-same v later preds name ts s built

-- ---- calls, and the whole

whole-below : (v : View) (later : Later) (preds : List PredTree) → NamesAreFree preds → CallsMore (defined_by is_predicate is_function preds) (whole v later preds) (tabled v)
whole-below v later preds free = record {
  predicates = λ l m h name ts s k.
      subst (λ (o : Option (Trace State)). Below (or_called o l name ts s) (predicate_by (tabled v) m name ts s)) (sym (predicate-same v later preds free l name ts s k))
      ((tabled-adds v).predicates l m h name ts s);
  functions = λ l m h name ts s k.
      subst (λ (o : Option (Trace Applied)). Below (or_applied o l name ts s) (function_by (tabled v) m name ts s)) (sym (function-same v later preds free name ts s k))
      ((tabled-adds v).functions l m h name ts s);
}

below-whole : (v : View) (later : Later) (preds : List PredTree) → NamesAreFree preds → CallsMore (defined_by is_predicate is_function preds) (tabled v) (whole v later preds)
below-whole v later preds free = record {
  predicates = λ l m h name ts s k.
      subst (λ (o : Option (Trace State)). Below (predicate_by (tabled v) l name ts s) (or_called o m name ts s)) (sym (predicate-same v later preds free m name ts s k))
      ((tabled-adds v).predicates l m h name ts s);
  functions = λ l m h name ts s k.
      subst (λ (o : Option (Trace Applied)). Below (function_by (tabled v) l name ts s) (or_applied o m name ts s)) (sym (function-same v later preds free name ts s k))
      ((tabled-adds v).functions l m h name ts s);
}

pub tabled-is-whole : TabledIsWhole
unfolding query_trace
tabled-is-whole v later program q are free d =
    let preds : List PredTree = program ++ q.helpers in
    let goal : CallsIn (defined_by is_predicate is_function preds) q.goal = goal-calls is_predicate is_function preds q.goal are.goal in
    let calls : ProgramCalls (defined_by is_predicate is_function preds) preds = program-calls is_predicate is_function preds are.preds in
    below-antisym (query_trace (whole v later preds) program q d) (query_trace (tabled v) program q d)
    (query-below (defined_by is_predicate is_function preds) (whole v later preds) (tabled v) (whole-below v later preds free) q goal (level_at (whole v later preds) preds d) (level_at (tabled v) preds d)
    (levels-below (defined_by is_predicate is_function preds) (whole v later preds) (tabled v) (whole-below v later preds free) preds calls d))
    (query-below (defined_by is_predicate is_function preds) (tabled v) (whole v later preds) (below-whole v later preds free) q goal (level_at (tabled v) preds d) (level_at (whole v later preds) preds d)
    (levels-below (defined_by is_predicate is_function preds) (tabled v) (whole v later preds) (below-whole v later preds free) preds calls d))
