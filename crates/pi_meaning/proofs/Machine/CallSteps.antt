-- Lemmas on steps that take from the depth: a goal `Tick`, and calls of the program's predicates and functions.
use Rattle.std.proofs.Common.{◌≡◌, ℕ, suc, ◌+◌, List, [], ◌∷◌, length, refl, ap, sym, subst, ◌∙◌}
use Rattle.std.specs.Prelude.{Bool, true, false, cond, Option, Some, None, codes, slice_set}
use Rattle.std.specs.List.{list_any}
use Rattle.pi_terms.specs.Tree.{Tree, Trees, comp, trees_of, tree_count}
use Rattle.pi_terms.specs.Places.{Places, held}
use Rattle.pi_constraints.specs.State.{State, bindings}
use Rattle.pi_core.specs.GoalTree.{tick, call, apply, GoalTrees, goal}
use Rattle.pi_core.specs.CoreTree.{ClauseTree, PredTree, find_pred, leaves_others}
use Rattle.pi_traces.specs.Trace.{Trace, end, note, Done, Raise, Tick, done, one, alt, then}
use Rattle.pi_traces.specs.Control.{chosen}
use Rattle.pi_traces.specs.Depth.{Below, same_note}
use Rattle.pi_traces.specs.Related.{BelowBy, end_by}
use Rattle.pi_meaning.specs.Shared.View.{View}
use Rattle.pi_meaning.specs.CoreMeaning.Builtins.{Builtins, BuiltinsOnlyAdd, predicate_by}
use Rattle.pi_meaning.specs.CoreMeaning.Instances.{core_setting, built_later, whole}
use Rattle.pi_constraints.specs.Evaluation.{Evaluated, evaluated, EvaluatedAll, evaluated_all}
use Rattle.pi_meaning.specs.Shared.Raise.{raised_with}
use Rattle.pi_meaning.specs.Shared.Level.{Level, Applied, Point, LevelBelow, PointBelow, same_but_level, calls_at, or_called, or_applied}
use Rattle.pi_meaning.specs.CoreMeaning.Meaning.{Action, strictly, draining, ticking, calling, applying, meaning}
use Rattle.pi_meaning.specs.CoreMeaning.Facts.{facts, fits_modes}
use Rattle.pi_meaning.specs.CoreMeaning.Rules.{rules, body_run, pred_run, value_at, value_run, function_run, entered, call_run, application_run, calls_of, quiet_level, level_at, rules_by}
use Rattle.pi_meaning.specs.CoreMeaning.Run.{Solution, answered_with}
use Rattle.pi_meaning.specs.Shared.Calls.{function_given}
use Rattle.pi_core.specs.declared.core_program.NameSlot.{NameSlot}
use Rattle.pi_syntax.specs.declared.program.Mode.{Mode}
use Rattle.pi_traces.proofs.TraceLemmas.{then-assoc, alt-done}
use Rattle.pi_meaning.proofs.Shared.LevelLemmas.{level-itself}
use Rattle.pi_meaning.proofs.CoreMeaning.RuleLemmas.{level-below, quiet-deeper}
use Rattle.pi_meaning.proofs.CoreMeaning.MeaningLemmas.{meaning-below, strict-below}
use Rattle.pi_meaning.proofs.Shared.CallLemmas.{built-later-adds, whole-adds}
use Rattle.pi_traces.proofs.RelatedLemmas.{Same, same, by-same, by-alt, by-then, by-chosen}
use Rattle.pi_meaning.specs.Machine.Configuration.{Frame, give, Back, Called, Strict, value_level, Entry, strict, going, failed, config, behind, returning}
use Rattle.pi_meaning.specs.Machine.Remaining.{point, valued, continued, run_from, body_of, rules_trace, facts_trace, level_trace, around, now_trace, remaining_at}
use Rattle.pi_meaning.specs.Machine.Step.{back_to, unresolved, try_rules, try_facts, try_clauses, call_step}
use Rattle.pi_meaning.specs.Machine.Laws.{Comes}
use Rattle.pi_meaning.proofs.Machine.EndSteps.{unresolved-raise}
use Rattle.pi_meaning.specs.Machine.Shape.{IsBalanced}
use Rattle.pi_meaning.specs.Machine.Built.{WithoutEvents, IsOfRules}
use Rattle.pi_meaning.proofs.Machine.RuleForms.{then-same, chosen-followed, chosen-renamed, rules-followed, rules-same, RulesDoSame, rules-run}
use Rattle.pi_meaning.proofs.Machine.StackLemmas.{note-passes}
use Rattle.pi_meaning.proofs.Machine.RunLemmas.{calls-are, returning-continued, behind-continued}
use Rattle.pi_meaning.proofs.Machine.GoalSteps.{Is, goal-does, one-goes_on, rules-tried}
use Rattle.pi_meaning.proofs.Machine.FactSteps.{facts-tried}
use Rattle.pi_meaning.proofs.Machine.HigherLemmas.{Under, points-same, rules-by, states-under, continued-under, stack-under, told-below}

-- What runs at a depth goes under what ran before it, behind a Tick: so does what remains.
pub tick-leads : (given : Builtins) (adds : BuiltinsOnlyAdd given) (l m : Level) → LevelBelow l m → (names : List NameSlot) (es : List Entry) → IsBalanced 0 es → (t u w : Trace Point) →
    w ≡ note Tick u → Under t u →
    Below (note Tick (then (around given l es t []) (answered_with names))) (then (around given m es w []) (answered_with names))
unfolding then
tick-leads given adds l m h names es b t u w e a =
    subst (λ x. Below (note Tick (then (around given l es t []) (answered_with names))) (then x (answered_with names)))
    (sym (ap (λ x. around given m es x []) e ∙ note-passes given m es b Tick u))
    (same_note Tick (told-below names (around given l es t []) (around given m es u []) (stack-under given adds l m h es t u a)))

-- the same of a quiet call
pub quiet-leads : (given : Builtins) (adds : BuiltinsOnlyAdd given) (l m : Level) → LevelBelow l m → (names : List NameSlot) (es : List Entry) (t u : Trace Point) → Under t u →
    Below (then (around given l es t []) (answered_with names)) (then (around given m es u []) (answered_with names))
quiet-leads given adds l m h names es t u a = told-below names (around given l es t []) (around given m es u []) (stack-under given adds l m h es t u a)

-- ---- a goal `Tick`

tick-ran : (given : Builtins) (preds : List PredTree) (d : ℕ) (gs : GoalTrees) (e : Places) (s : State) (k : List Frame) →
    run_from given (level_at given preds (suc d)) (goal tick gs) e s k
    ≡ note Tick (continued given (level_at given preds (suc d)) (behind gs k) (point (level_at given preds d) e s))
unfolding level_at quiet_level meaning then alt
tick-ran given preds d gs e s k =
    goal-does given preds (level_at given preds (suc d)) (calls-are given preds (suc d)) tick ticking refl gs e s k
    ∙ ap (note Tick) (alt-done (continued given (level_at given preds (suc d)) (behind gs k) (point (level_at given preds d) e s)))

pub tick-comes : (given : Builtins) (adds : BuiltinsOnlyAdd given) (preds : List PredTree) (names : List NameSlot) (d : ℕ) (gs : GoalTrees) (e : Places) (s : State) (k : List Frame) (es : List Entry) → IsBalanced 0 es →
    Below (note Tick (then (around given (level_at given preds d) es (run_from given (level_at given preds d) gs e s k) []) (answered_with names)))
    (then (around given (level_at given preds (suc d)) es (run_from given (level_at given preds (suc d)) (goal tick gs) e s k) []) (answered_with names))
tick-comes given adds preds names d gs e s k es b =
    let l : Level = level_at given preds d in
    let m : Level = level_at given preds (suc d) in
    tick-leads given adds l m (level-below given adds preds d) names es b (run_from given l gs e s k) (continued given m (behind gs k) (point l e s)) (run_from given m (goal tick gs) e s k)
    (tick-ran given preds d gs e s k)
    (subst (λ t. Under t (continued given m (behind gs k) (point l e s))) (sym (behind-continued given l gs k (point l e s)))
    (continued-under given adds l m (level-below given adds preds d) (behind gs k) (point l e s) (point l e s) (same_but_level (level-itself l) e s)))

-- ---- predicates

-- what a call of a predicate does that is found: one that is counted, and a quiet one
called-counted : (given : Builtins) (preds : List PredTree) (d : ℕ) (name : List ℕ) (ts : Trees) (s : State) (pred : PredTree) →
    find_pred false name (tree_count ts) preds ≡ Some pred → pred.quiet ≡ false →
    (calls_at (level_at given preds (suc d))).called name ts s ≡ note Tick (pred_run given (level_at given preds d) pred pred.index ts s)
unfolding level_at quiet_level calls_of
called-counted given preds d name ts s pred f counted =
    let below : Option Level = Some (level_at given preds d) in
    let inner : Option Level = Some (quiet_level given preds below (length preds + d)) in
    ap (λ o. call_run given inner below o ts s) f
    ∙ ap (λ q. entered q inner below (λ l. pred_run given l pred pred.index ts s)) counted

-- the level of a quiet call
abbrev pub inner_level : Builtins → List PredTree → ℕ → Level
inner_level given preds d = quiet_level given preds (Some (level_at given preds d)) (length preds + d)

called-quiet : (given : Builtins) (preds : List PredTree) (d : ℕ) (name : List ℕ) (ts : Trees) (s : State) (pred : PredTree) →
    find_pred false name (tree_count ts) preds ≡ Some pred → pred.quiet ≡ true →
    (calls_at (level_at given preds (suc d))).called name ts s ≡ pred_run given (inner_level given preds d) pred pred.index ts s
unfolding level_at quiet_level calls_of
called-quiet given preds d name ts s pred f quiet =
    let below : Option Level = Some (level_at given preds d) in
    let inner : Option Level = Some (quiet_level given preds below (length preds + d)) in
    ap (λ o. call_run given inner below o ts s) f
    ∙ ap (λ q. entered q inner below (λ l. pred_run given l pred pred.index ts s)) quiet

body-returns : (given : Builtins) (l : Level) (e : Places) (k : List Frame) (c : ClauseTree) (p : Point) →
    then (body_run given c p) (λ r. continued given l k (point l e r)) ≡ then (meaning given c.body p) (continued given l (returning e k))
unfolding then alt
body-returns given l e k c p =
    then-assoc (meaning given c.body p) (λ q. one q.state) (λ r. continued given l k (point l e r))
    ∙ then-same (meaning given c.body p) (λ q. then (one q.state) (λ r. continued given l k (point l e r))) (continued given l (returning e k))
    (λ q. alt-done (continued given l k (point l e q.state)) ∙ sym (returning-continued given l e k q))

-- the rules of a predicate, and the return from them
bodies-return : (given : Builtins) (l : Level) (e : Places) (k : List Frame) (ts : Trees) (s : State) (cs : List ClauseTree) →
    RulesDoSame (λ i c p. then (body_run given c p) (λ r. continued given l k (point l e r)))
    (λ i c p. body_of given l (record { function = false; args = ts }) (back_to [] s (returning e k)) c p) cs
unfolding RulesDoSame
bodies-return given l e k ts s [] = tt
bodies-return given l e k ts s (c ∷ cs) = (λ i j p. body-returns given l e k c p, bodies-return given l e k ts s cs)

rules-return : (given : Builtins) (l : Level) (e : Places) (k : List Frame) (ts : Trees) (s : State) (cs : List ClauseTree) →
    then (rules (rules_by given l (λ c. leaves_others false c) (λ i c p. body_run given c p)) 0 cs ts s) (λ r. continued given l k (point l e r))
    ≡ rules_trace given l (record { function = false; args = ts }) cs (back_to [] s (returning e k))
unfolding rules_trace
rules-return given l e k ts s cs =
    rules-followed given l (λ c. leaves_others false c) (λ i c p. body_run given c p) 0 cs ts s (λ r. continued given l k (point l e r))
    ∙ rules-same given l (λ c. leaves_others false c) (λ i c p. then (body_run given c p) (λ r. continued given l k (point l e r)))
    (λ i c p. body_of given l (record { function = false; args = ts }) (back_to [] s (returning e k)) c p) 0 0 cs ts s (bodies-return given l e k ts s cs)

same-follow : {A : Type 0} (f g : A → Trace Point) → ((x : A) → Under (f x) (g x)) → (x y : A) → Same x y → Under (f x) (g y)
same-follow f g h _ _ (same x) = h x

-- a body at a higher level, and the return from it at another one
body-run-under : (given : Builtins) (adds : BuiltinsOnlyAdd given) (l m : Level) → LevelBelow l m → (e : Places) (k : List Frame) (c : ClauseTree) (p q : Point) → PointBelow p q →
    Under (then (body_run given c p) (λ r. continued given l k (point l e r))) (then (body_run given c q) (λ r. continued given m k (point m e r)))
body-run-under given adds l m h e k c p q r =
    by-then Same PointBelow (body_run given c p) (body_run given c q) (λ r. continued given l k (point l e r)) (λ r. continued given m k (point m e r))
    (by-then PointBelow Same (meaning given c.body p) (meaning given c.body q) (λ x. one x.state) (λ x. one x.state) (meaning-below given adds c.body p q r) (points-same (λ f s. one s)))
    (same-follow (λ r. continued given l k (point l e r)) (λ r. continued given m k (point m e r))
    (λ s. continued-under given adds l m h k (point l e s) (point m e s) (same_but_level h e s)))

-- the rules of a call under those at a higher level, with the return at another one
rules-return-under : (given : Builtins) (adds : BuiltinsOnlyAdd given) (l n m : Level) → LevelBelow l n → LevelBelow l m → (e : Places) (k : List Frame) (ts : Trees) (s : State) (cs : List ClauseTree) →
    Under (rules_trace given l (record { function = false; args = ts }) cs (back_to [] s (returning e k)))
    (then (rules (rules_by given n (λ c. leaves_others false c) (λ i c p. body_run given c p)) 0 cs ts s) (λ r. continued given m k (point m e r)))
rules-return-under given adds l n m a b e k ts s cs =
    let f : State → Trace Point = λ r. continued given l k (point l e r) in
    let g : State → Trace Point = λ r. continued given m k (point m e r) in
    subst (λ t. Under t (then (rules (rules_by given n (λ c. leaves_others false c) (λ i c p. body_run given c p)) 0 cs ts s) g)) (rules-return given l e k ts s cs)
    (subst (λ t. Under t (then (rules (rules_by given n (λ c. leaves_others false c) (λ i c p. body_run given c p)) 0 cs ts s) g)) (sym (rules-followed given l (λ c. leaves_others false c) (λ i c p. body_run given c p) 0 cs ts s f))
    (subst (λ t. Under (rules (rules_by given l (λ c. leaves_others false c) (λ i c p. then (body_run given c p) f)) 0 cs ts s) t) (sym (rules-followed given n (λ c. leaves_others false c) (λ i c p. body_run given c p) 0 cs ts s g))
    (rules-by PointBelow given adds l n a (λ c. leaves_others false c) (λ i c p. then (body_run given c p) f) (λ i c p. then (body_run given c p) g)
    (λ i c p q r. body-run-under given adds l m b e k c p q r) 0 cs ts s)))

-- facts are the same at each level, and so is the return from them but for its own
facts-return-under : (given : Builtins) (adds : BuiltinsOnlyAdd given) (l m : Level) → LevelBelow l m → (e : Places) (k : List Frame) (ts : Trees) (s : State) (cs : List ClauseTree) →
    Under (facts_trace given l ts cs (back_to [] s (returning e k))) (then (facts cs ts s) (λ r. continued given m k (point m e r)))
unfolding facts_trace
facts-return-under given adds l m h e k ts s cs =
    let f : State → Trace Point = λ r. continued given l (returning e k) (point l [] r) in
    let g : State → Trace Point = λ r. continued given m k (point m e r) in
    by-then Same PointBelow (facts cs ts s) (facts cs ts s) f g (by-same (facts cs ts s))
    (states-under f g (λ r. subst (λ t. Under t (g r)) (sym (returning-continued given l e k (point l [] r)))
    (continued-under given adds l m h k (point l e r) (point m e r) (same_but_level h e r))))

-- the clauses of a predicate, as they wait for a call to go on
unfoldable clauses_trace : Option (List (List Mode)) → Builtins → Level → List ClauseTree → Trees → Back → Trace Point
clauses_trace None given l cs ts b = rules_trace given l (record { function = false; args = ts }) cs b
clauses_trace (Some lists) given l cs ts b = cond (list_any (λ modes. fits_modes (bindings b.state) modes ts) lists) (facts_trace given l ts cs b) done

fitting-tried : (given : Builtins) (l : Level) (fits : Bool) (ts : Trees) (cs : List ClauseTree) (b : Back) (es : List Entry) →
    Is given l es (cond fits (facts_trace given l ts cs b) done) (cond fits (try_facts ts cs b es) (config failed es))
unfolding now_trace
fitting-tried given l true ts cs b es = facts-tried given l ts cs b es
fitting-tried given l false ts cs b es = refl

clauses-tried : (index : Option (List (List Mode))) (given : Builtins) (l : Level) (cs : List ClauseTree) (ts : Trees) (b : Back) (es : List Entry) →
    Is given l es (clauses_trace index given l cs ts b) (try_clauses index cs ts b es)
unfolding clauses_trace try_clauses
clauses-tried None given l cs ts b es = rules-tried given l (record { function = false; args = ts }) cs b es
clauses-tried (Some lists) given l cs ts b es = fitting-tried given l (list_any (λ modes. fits_modes (bindings b.state) modes ts) lists) ts cs b es

fitting-under : (given : Builtins) (adds : BuiltinsOnlyAdd given) (l m : Level) → LevelBelow l m → (fits : Bool) (e : Places) (k : List Frame) (ts : Trees) (s : State) (cs : List ClauseTree) →
    Under (cond fits (facts_trace given l ts cs (back_to [] s (returning e k))) done) (then (cond fits (facts cs ts s) done) (λ r. continued given m k (point m e r)))
unfolding then
fitting-under given adds l m h true e k ts s cs = facts-return-under given adds l m h e k ts s cs
fitting-under given adds l m h false e k ts s cs = end_by Done

-- the clauses of a call under those at a higher level, with the return at another one
predicate-under : (given : Builtins) (adds : BuiltinsOnlyAdd given) (l n m : Level) → LevelBelow l n → LevelBelow l m → (e : Places) (k : List Frame) (ts : Trees) (s : State) (pred : PredTree) →
    WithoutEvents pred.clauses → (index : Option (List (List Mode))) →
    Under (clauses_trace index given l pred.clauses ts (back_to [] s (returning e k))) (then (pred_run given n pred index ts s) (λ r. continued given m k (point m e r)))
unfolding clauses_trace pred_run
predicate-under given adds l n m a b e k ts s pred h None =
    subst (λ t. Under (rules_trace given l (record { function = false; args = ts }) pred.clauses (back_to [] s (returning e k))) (then t (λ r. continued given m k (point m e r))))
    (sym (rules-run given n (λ c. leaves_others false c) (comp pred.name ts) pred.clauses ts s h))
    (rules-return-under given adds l n m a b e k ts s pred.clauses)
predicate-under given adds l n m a b e k ts s pred h (Some lists) =
    fitting-under given adds l m b (list_any (λ modes. fits_modes (bindings s) modes ts) lists) e k ts s pred.clauses

-- a goal by its name, and what is behind it
pub name-ran : (given : Builtins) (preds : List PredTree) (d : ℕ) (name : List ℕ) (args : List Tree) (gs : GoalTrees) (e : Places) (s : State) (k : List Frame) →
    let all : EvaluatedAll = evaluated_all (trees_of args) e s in
    let m : Level = level_at given preds d in
    run_from given m (goal (call name args) gs) e s k ≡ then (predicate_by given m name all.trees all.state) (λ r. continued given m (behind gs k) (point m all.slots r))
unfolding meaning calling
name-ran given preds d name args gs e s k =
    let all : EvaluatedAll = evaluated_all (trees_of args) e s in
    let m : Level = level_at given preds d in
    let onward : Action = continued given m (behind gs k) in
    let back : State → Trace Point = λ r. one (point m all.slots r) in
    let t : Trace State = predicate_by given m name all.trees all.state in
    goal-does given preds m (calls-are given preds d) (call name args) (calling given name args) refl gs e s k
    ∙ (then-assoc t back onward
    ∙ then-same t (λ r. then (back r) onward) (λ r. onward (point m all.slots r)) (λ r. one-goes_on onward (point m all.slots r)))

predicate-ran : (given : Builtins) (preds : List PredTree) (d : ℕ) (name : List ℕ) (args : List Tree) (gs : GoalTrees) (e : Places) (s : State) (k : List Frame) (t : Trace State) →
    let all : EvaluatedAll = evaluated_all (trees_of args) e s in
    let m : Level = level_at given preds (suc d) in
    given.predicate m name all.trees all.state ≡ None → (calls_at m).called name all.trees all.state ≡ t →
    run_from given m (goal (call name args) gs) e s k ≡ then t (λ r. continued given m (behind gs k) (point m all.slots r))
predicate-ran given preds d name args gs e s k t none is =
    let all : EvaluatedAll = evaluated_all (trees_of args) e s in
    let m : Level = level_at given preds (suc d) in
    name-ran given preds (suc d) name args gs e s k
    ∙ ap (λ u. then u (λ r. continued given m (behind gs k) (point m all.slots r))) (ap (λ o. or_called o m name all.trees all.state) none ∙ is)

-- what remains, told
abbrev pub Told : Builtins → Level → List NameSlot → List Entry → Trace Point → Trace Solution
Told given l names es t = then (around given l es t []) (answered_with names)

pub predicate-comes : (v : View) (preds : List PredTree) (names : List NameSlot) (name : List ℕ) (args : List Tree) (gs : GoalTrees) (e : Places) (s : State) (k : List Frame)
    (es : List Entry) (pred : PredTree) → IsBalanced 0 es →
    let all : EvaluatedAll = evaluated_all (trees_of args) e s in
    ((l : Level) → (whole v built_later preds).predicate l name all.trees all.state ≡ None) → find_pred false name (tree_count all.trees) preds ≡ Some pred → IsOfRules pred →
    let b : Back = back_to [] all.state (returning all.slots (behind gs k)) in
    (quiet : Bool) → pred.quiet ≡ quiet → Comes v preds names (config (going (goal (call name args) gs) e s k) es) (call_step quiet (try_clauses pred.index pred.clauses all.trees b es))
unfolding remaining_at now_trace then
predicate-comes v preds names name args gs e s k es pred balanced none f h false counted = λ d.
    let given : Builtins = whole v built_later preds in
    let adds : BuiltinsOnlyAdd given = whole-adds v built_later preds built-later-adds in
    let all : EvaluatedAll = evaluated_all (trees_of args) e s in
    let b : Back = back_to [] all.state (returning all.slots (behind gs k)) in
    let l : Level = level_at given preds d in
    let m : Level = level_at given preds (suc d) in
    let bodies : Trace State = pred_run given l pred pred.index all.trees all.state in
    let onward : State → Trace Point = λ r. continued given m (behind gs k) (point m all.slots r) in
    subst (λ t. Below (note Tick (then t (answered_with names))) (Told given m names es (run_from given m (goal (call name args) gs) e s k)))
    (clauses-tried pred.index given l pred.clauses all.trees b es)
    (tick-leads given adds l m (level-below given adds preds d) names es balanced (clauses_trace pred.index given l pred.clauses all.trees b) (then bodies onward) (run_from given m (goal (call name args) gs) e s k)
    (predicate-ran given preds d name args gs e s k (note Tick bodies) (none m) (called-counted given preds d name all.trees all.state pred f counted))
    (predicate-under given adds l l m (level-itself l) (level-below given adds preds d) all.slots (behind gs k) all.trees all.state pred h.without_events pred.index))
predicate-comes v preds names name args gs e s k es pred balanced none f h true quiet = λ d.
    let given : Builtins = whole v built_later preds in
    let adds : BuiltinsOnlyAdd given = whole-adds v built_later preds built-later-adds in
    let all : EvaluatedAll = evaluated_all (trees_of args) e s in
    let b : Back = back_to [] all.state (returning all.slots (behind gs k)) in
    let l : Level = level_at given preds d in
    let n : Level = inner_level given preds d in
    let m : Level = level_at given preds (suc d) in
    let bodies : Trace State = pred_run given n pred pred.index all.trees all.state in
    let waiting : Trace Point = clauses_trace pred.index given l pred.clauses all.trees b in
    subst (λ t. Below (then t (answered_with names)) (Told given m names es (run_from given m (goal (call name args) gs) e s k)))
    (clauses-tried pred.index given l pred.clauses all.trees b es)
    (quiet-leads given adds l m (level-below given adds preds d) names es waiting (run_from given m (goal (call name args) gs) e s k)
    (subst (λ t. Under waiting t)
    (sym (predicate-ran given preds d name args gs e s k bodies (none m) (called-quiet given preds d name all.trees all.state pred f quiet)))
    (predicate-under given adds l n m (quiet-deeper given adds preds d) (level-below given adds preds d) all.slots (behind gs k) all.trees all.state pred h.without_events pred.index)))

-- ---- functions

applied-counted : (given : Builtins) (preds : List PredTree) (d : ℕ) (name : List ℕ) (ts : Trees) (s : State) (pred : PredTree) →
    find_pred true name (tree_count ts) preds ≡ Some pred → pred.quiet ≡ false →
    (calls_at (level_at given preds (suc d))).applied name ts s ≡ note Tick (function_run given (level_at given preds d) pred ts s)
unfolding level_at quiet_level calls_of
applied-counted given preds d name ts s pred f counted =
    let below : Option Level = Some (level_at given preds d) in
    let inner : Option Level = Some (quiet_level given preds below (length preds + d)) in
    ap (λ o. application_run given inner below o ts s) f
    ∙ ap (λ q. entered q inner below (λ l. function_run given l pred ts s)) counted

applied-quiet : (given : Builtins) (preds : List PredTree) (d : ℕ) (name : List ℕ) (ts : Trees) (s : State) (pred : PredTree) →
    find_pred true name (tree_count ts) preds ≡ Some pred → pred.quiet ≡ true →
    (calls_at (level_at given preds (suc d))).applied name ts s ≡ function_run given (inner_level given preds d) pred ts s
unfolding level_at quiet_level calls_of
applied-quiet given preds d name ts s pred f quiet =
    let below : Option Level = Some (level_at given preds d) in
    let inner : Option Level = Some (quiet_level given preds below (length preds + d)) in
    ap (λ o. application_run given inner below o ts s) f
    ∙ ap (λ q. entered q inner below (λ l. function_run given l pred ts s)) quiet

-- the value of a rule of a function, as the answer of its level
value-returns : (given : Builtins) (l : Level) (c : ClauseTree) (p : Point) →
    then (value_run given c p) (λ a. one (valued l a)) ≡ then (meaning given c.body p) (continued given l (give c.value ∷ []))
unfolding strictly continued
value-returns given l c p =
    let give_value : Applied → Trace Point = λ a. one (valued l a) in
    let drain : Action = draining (λ q. one q) in
    then-assoc (then (meaning given c.body p) drain) (value_at c.value) give_value
    ∙ then-assoc (meaning given c.body p) drain (λ q. then (value_at c.value q) give_value)

values-return : (given : Builtins) (l : Level) (ts : Trees) (s : State) (cs : List ClauseTree) →
    RulesDoSame (λ i c p. then (value_run given c p) (λ a. one (valued l a))) (λ i c p. body_of given l (record { function = true; args = ts }) (back_to [] s []) c p) cs
unfolding RulesDoSame
values-return given l ts s [] = tt
values-return given l ts s (c ∷ cs) = (λ i j p. value-returns given l c p, values-return given l ts s cs)

function-returns : (given : Builtins) (l : Level) (ts : Trees) (s : State) (cs : List ClauseTree) →
    then (rules (rules_by given l (λ c. leaves_others true c) (λ i c p. value_run given c p)) 0 cs ts s) (λ a. one (valued l a)) ≡ rules_trace given l (record { function = true; args = ts }) cs (back_to [] s [])
unfolding rules_trace
function-returns given l ts s cs =
    rules-followed given l (λ c. leaves_others true c) (λ i c p. value_run given c p) 0 cs ts s (λ a. one (valued l a))
    ∙ rules-same given l (λ c. leaves_others true c) (λ i c p. then (value_run given c p) (λ a. one (valued l a)))
    (λ i c p. body_of given l (record { function = true; args = ts }) (back_to [] s []) c p) 0 0 cs ts s (values-return given l ts s cs)

-- what a call of a function goes on with
abbrev with_value : Builtins → Level → Places → ℕ → List Frame → Applied → Trace Point
with_value given l slots into k a = continued given l k (point l (slice_set slots into (Some a.value)) a.state)

function-ran : (given : Builtins) (preds : List PredTree) (d : ℕ) (name : List ℕ) (args : List Tree) (into : ℕ) (gs : GoalTrees) (e : Places) (s : State) (k : List Frame) (t : Trace Applied) →
    let all : EvaluatedAll = evaluated_all (trees_of args) e s in
    given.function (level_at given preds (suc d)) name all.trees all.state ≡ None → (calls_at (level_at given preds (suc d))).applied name all.trees all.state ≡ t →
    run_from given (level_at given preds (suc d)) (goal (apply name args into) gs) e s k ≡ then t (with_value given (level_at given preds (suc d)) all.slots into (behind gs k))
unfolding meaning applying
function-ran given preds d name args into gs e s k t none is =
    let all : EvaluatedAll = evaluated_all (trees_of args) e s in
    let m : Level = level_at given preds (suc d) in
    let onward : Action = continued given m (behind gs k) in
    let back : Applied → Trace Point = λ a. one (point m (slice_set all.slots into (Some a.value)) a.state) in
    goal-does given preds m (calls-are given preds (suc d)) (apply name args into) (applying given name args into) refl gs e s k
    ∙ (ap (λ o. then (then (or_applied o m name all.trees all.state) back) onward) none
    ∙ (ap (λ t. then (then t back) onward) is
    ∙ (then-assoc t back onward
    ∙ then-same t (λ a. then (back a) onward) (with_value given m all.slots into (behind gs k))
    (λ a. one-goes_on onward (point m (slice_set all.slots into (Some a.value)) a.state)))))

-- a call without an answer raises, whatever is behind it
unresolved-under : (called : Tree) (s : State) (f : Point → Trace Point) (g : Applied → Trace Point) →
    Under (then (raised_with (codes "unresolved_function_call") called s) f) (then (raised_with (codes "unresolved_function_call") called s) g)
unfolding then
unresolved-under called s f g =
    subst (λ t. Under (then t f) (then (raised_with (codes "unresolved_function_call") called s) g)) (sym (unresolved-raise Point called s))
    (subst (λ t. Under (end (Raise (unresolved called s))) (then t g)) (sym (unresolved-raise Applied called s)) (end_by (Raise (unresolved called s))))

-- what a rule of a function comes to at a higher level
value-at-under : (t : Option Tree) (p q : Point) → PointBelow p q → BelowBy Same (value_at t p) (value_at t q)
value-at-under None p q r = end_by Done
value-at-under (Some t) p q r = points-same (λ e s. let x : Evaluated = evaluated t e s in one (record { value = x.tree; state = x.state })) p q r

values-under : (given : Builtins) (adds : BuiltinsOnlyAdd given) (l n : Level) → LevelBelow l n → (cs : List ClauseTree) (ts : Trees) (s : State) →
    BelowBy Same (rules (rules_by given l (λ c. leaves_others true c) (λ i c p. value_run given c p)) 0 cs ts s) (rules (rules_by given n (λ c. leaves_others true c) (λ i c p. value_run given c p)) 0 cs ts s)
values-under given adds l n h cs ts s =
    rules-by Same given adds l n h (λ c. leaves_others true c) (λ i c p. value_run given c p) (λ i c p. value_run given c p)
    (λ i c p q r. by-then PointBelow Same (strictly (meaning given c.body) p) (strictly (meaning given c.body) q) (value_at c.value) (value_at c.value)
    (strict-below given adds c.body p q r) (value-at-under c.value)) 0 cs ts s

-- the level of a call and what is behind it, under the call at a higher level, with what is behind it at another one
function-under : (given : Builtins) (adds : BuiltinsOnlyAdd given) (l n m : Level) → LevelBelow l n → LevelBelow l m → (pred : PredTree) (ts : Trees) (s : State) (slots : Places) (into : ℕ) (k : List Frame) →
    Under (level_trace given l (value_level (comp pred.name ts) into) (back_to slots s k) (rules_trace given l (record { function = true; args = ts }) pred.clauses (back_to [] s [])))
    (then (function_run given n pred ts s) (with_value given m slots into k))
unfolding level_trace function_run then
function-under given adds l n m low h pred ts s slots into k =
    let values : Trace Applied = rules (rules_by given l (λ c. leaves_others true c) (λ i c p. value_run given c p)) 0 pred.clauses ts s in
    let higher : Trace Applied = rules (rules_by given n (λ c. leaves_others true c) (λ i c p. value_run given c p)) 0 pred.clauses ts s in
    let take : Point → Trace Point = λ q. one (point l (slice_set slots into (held q.slots 0)) q.state) in
    let onward : Action = continued given l k in
    let raise : Trace Point = raised_with (codes "unresolved_function_call") (comp pred.name ts) s in
    let raise' : Trace Applied = raised_with (codes "unresolved_function_call") (comp pred.name ts) s in
    let left_is : then (chosen (rules_trace given l (record { function = true; args = ts }) pred.clauses (back_to [] s [])) take raise) onward
    ≡ chosen values (λ a. then (take (valued l a)) onward) (then raise onward) =
    ap (λ t. then (chosen t take raise) onward) (sym (function-returns given l ts s pred.clauses))
    ∙ (ap (λ t. then t onward) (chosen-renamed values (λ a. valued l a) take raise)
    ∙ chosen-followed values (λ a. take (valued l a)) raise onward) in
    let right_is : then (chosen higher (λ a. one a) raise') (with_value given m slots into k)
    ≡ chosen higher (λ a. then (one a) (with_value given m slots into k)) (then raise' (with_value given m slots into k)) =
    chosen-followed higher (λ a. one a) raise' (with_value given m slots into k) in
    subst (λ t. Under t (then (chosen higher (λ a. one a) raise') (with_value given m slots into k))) (sym left_is)
    (subst (λ t. Under (chosen values (λ a. then (take (valued l a)) onward) (then raise onward)) t) (sym right_is)
    (by-chosen Same PointBelow values higher (λ a. then (take (valued l a)) onward) (λ a. then (one a) (with_value given m slots into k))
    (then raise onward) (then raise' (with_value given m slots into k)) (values-under given adds l n low pred.clauses ts s)
    (same-follow (λ a. then (take (valued l a)) onward) (λ a. then (one a) (with_value given m slots into k))
    (λ a. by-alt PointBelow (with_value given l slots into k a) (with_value given m slots into k a) done done
    (continued-under given adds l m h k (point l (slice_set slots into (Some a.value)) a.state) (point m (slice_set slots into (Some a.value)) a.state)
    (same_but_level h (slice_set slots into (Some a.value)) a.state)) (end_by Done)))
    (unresolved-under (comp pred.name ts) s onward (with_value given m slots into k))))

pub function-comes : (v : View) (preds : List PredTree) (names : List NameSlot) (name : List ℕ) (args : List Tree) (into : ℕ) (gs : GoalTrees) (e : Places) (s : State)
    (k : List Frame) (es : List Entry) (pred : PredTree) → IsBalanced 0 es →
    let all : EvaluatedAll = evaluated_all (trees_of args) e s in
    function_given (core_setting v built_later preds) name all.trees all.state ≡ None → find_pred true name (tree_count all.trees) preds ≡ Some pred →
    let called : Called = record { function = true; args = all.trees } in
    let level : Entry = strict (value_level (comp pred.name all.trees) into) (back_to all.slots all.state (behind gs k)) in
    (quiet : Bool) → pred.quiet ≡ quiet →
    Comes v preds names (config (going (goal (apply name args into) gs) e s k) es) (call_step quiet (try_rules called pred.clauses (back_to [] all.state []) (level ∷ es)))
unfolding remaining_at now_trace around then
function-comes v preds names name args into gs e s k es pred balanced none f false counted = λ d.
    let given : Builtins = whole v built_later preds in
    let adds : BuiltinsOnlyAdd given = whole-adds v built_later preds built-later-adds in
    let all : EvaluatedAll = evaluated_all (trees_of args) e s in
    let called : Called = record { function = true; args = all.trees } in
    let b : Back = back_to all.slots all.state (behind gs k) in
    let level : Strict = value_level (comp pred.name all.trees) into in
    let l : Level = level_at given preds d in
    let m : Level = level_at given preds (suc d) in
    let run : Trace Applied = function_run given l pred all.trees all.state in
    let t : Trace Point = level_trace given l level b (rules_trace given l called pred.clauses (back_to [] all.state [])) in
    subst (λ t. Below (note Tick (then t (answered_with names))) (Told given m names es (run_from given m (goal (apply name args into) gs) e s k)))
    (rules-tried given l called pred.clauses (back_to [] all.state []) (strict level b ∷ es))
    (tick-leads given adds l m (level-below given adds preds d) names es balanced t (then run (with_value given m all.slots into (behind gs k))) (run_from given m (goal (apply name args into) gs) e s k)
    (function-ran given preds d name args into gs e s k (note Tick run) none (applied-counted given preds d name all.trees all.state pred f counted))
    (function-under given adds l l m (level-itself l) (level-below given adds preds d) pred all.trees all.state all.slots into (behind gs k)))
function-comes v preds names name args into gs e s k es pred balanced none f true quiet = λ d.
    let given : Builtins = whole v built_later preds in
    let adds : BuiltinsOnlyAdd given = whole-adds v built_later preds built-later-adds in
    let all : EvaluatedAll = evaluated_all (trees_of args) e s in
    let called : Called = record { function = true; args = all.trees } in
    let b : Back = back_to all.slots all.state (behind gs k) in
    let level : Strict = value_level (comp pred.name all.trees) into in
    let l : Level = level_at given preds d in
    let n : Level = inner_level given preds d in
    let m : Level = level_at given preds (suc d) in
    let run : Trace Applied = function_run given n pred all.trees all.state in
    let t : Trace Point = level_trace given l level b (rules_trace given l called pred.clauses (back_to [] all.state [])) in
    subst (λ t. Below (then t (answered_with names)) (Told given m names es (run_from given m (goal (apply name args into) gs) e s k)))
    (rules-tried given l called pred.clauses (back_to [] all.state []) (strict level b ∷ es))
    (quiet-leads given adds l m (level-below given adds preds d) names es t (run_from given m (goal (apply name args into) gs) e s k)
    (subst (λ u. Under t u)
    (sym (function-ran given preds d name args into gs e s k run none (applied-quiet given preds d name all.trees all.state pred f quiet)))
    (function-under given adds l n m (quiet-deeper given adds preds d) (level-below given adds preds d) pred all.trees all.state all.slots into (behind gs k))))
