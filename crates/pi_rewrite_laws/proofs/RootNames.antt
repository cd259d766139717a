-- Calls by name keep what terms are followed to, where unification does, and where what later stages give does.
use Rattle.std.proofs.Common.{◌≡◌, ℕ, Bool, true, false, cond, List, [], inl, inr, refl, sym, subst}
use Rattle.std.specs.Prelude.{Option, Some, None, Ok, Err, option_map, unwrap_or, codes}
use Rattle.std.specs.Option.{option_or}
use Rattle.pi_terms.specs.Tree.{Tree, Trees, no_trees, tree, tree_count}
use Rattle.pi_terms.specs.Copy.{copy, new_variables}
use Rattle.pi_constraints.specs.State.{State, next, bindings, followed}
use Rattle.pi_constraints.specs.Unify.{unified}
use Rattle.pi_constraints.specs.Evaluation.{with_new_variables}
use Rattle.pi_effects.specs.Effect.{Effect, Succeeds, Fails, Writes, Raises, FunctionEffect, Gives, Refuses}
use Rattle.pi_effects.specs.Answer.{Answer}
use Rattle.pi_effects.specs.BuiltIns.{answer_in, built_in_predicate, built_in_function, OnlyMakesVariables, OnlyUnifies}
use Rattle.pi_effects.specs.Rows.{done_by}
use Rattle.pi_effects.specs.Items.{each_tree}
use Rattle.pi_effects.proofs.BuiltInLemmas.{functions-make, predicates-unify}
use Rattle.pi_core.specs.CoreTree.{PredTree}
use Rattle.pi_traces.specs.Trace.{Trace, end, note, Deep, Tick, done, then}
use Rattle.pi_traces.proofs.AnswerLemmas.{EachAnswer, each-caught}
use Rattle.pi_settling.specs.CalmLaws.{FollowedStay}
use Rattle.pi_settling.specs.DomainValues.{domain_functions}
use Rattle.pi_settling.specs.Goals.{constraint_effect}
use Rattle.pi_settling.proofs.CalmGoals.{within_keeps_followed, notin_keeps_followed}
use Rattle.pi_settling.proofs.CalmPosted.{posted_keeps_followed}
use Rattle.pi_meaning.specs.Shared.Settle.{settled}
use Rattle.pi_meaning.specs.Shared.View.{View}
use Rattle.pi_meaning.specs.Shared.Level.{Level, lowest, over, calls_at, or_called, or_applied}
use Rattle.pi_meaning.specs.Shared.Builtin.{written, settled_effect, function_trace}
use Rattle.pi_meaning.specs.Shared.Within.{Within, a_query, a_body, resource_left, is_body}
use Rattle.pi_meaning.specs.Shared.Names.{is_later_predicate, is_later_function, is_planner, is_resource, is_catch, is_call}
use Rattle.pi_meaning.specs.Shared.Given.{Later, Setting}
use Rattle.pi_meaning.specs.Shared.Handling.{handled_in, handling}
use Rattle.pi_meaning.specs.Shared.Calls.{unknown_name, given_later, predicate_given, predicate_called, function_later, function_given, function_called, Called, called_by, with_planner, is_known, known_called, call_goal, catch_called, again_called, term_called, called_at_level, first_called}
use Rattle.pi_meaning.specs.CoreMeaning.Instances.{core_setting, solve_or_unknown, built_later, whole}
use Rattle.pi_meaning.proofs.Shared.ConstraintEffects.{LeavesSo, goals-leave}
use Rattle.pi_rewrite_laws.specs.Roots.{RootsStay, RootsStayIn, LevelKeepsRoots, LaterKeepsRoots}
use Rattle.pi_rewrite_laws.proofs.ElementLemmas.{roots-stay-itself}
use Rattle.pi_rewrite_laws.proofs.StayLemmas.{roots-stay-then, roots-by, new-variables-stay}
use Rattle.pi_rewrite_laws.proofs.SettlingStays.{settling-stays}
use Rattle.pi_rewrite_laws.proofs.SolveStays.{followed-by, solve-keeps}
use Rattle.pi_rewrite_laws.proofs.RootGoals.{UnifyingKeepsRoots, each-of-all, all-of-each, calls-keep-roots, NamesKeepRoots}

-- ---- built-ins

effect-keeps : UnifyingKeepsRoots → (v : View) (s : State) (e : Effect) → OnlyUnifies s e → EachAnswer (RootsStay s) (settled_effect v s e)
unfolding EachAnswer
effect-keeps u v s (Succeeds r) (inl same) = settling-stays s s r (subst (λ (q : State). RootsStay s q) (sym same) (roots-stay-itself s))
effect-keeps u v s (Succeeds r) (inr (t, w, is)) = settling-stays s s r (u s r t w is)
effect-keeps u v s Fails is = tt
effect-keeps u v s (Writes text r) same = go (is_body v.within)
  where
    go : (b : Bool) → EachAnswer (RootsStay s) (written b text r)
    go true = tt
    go false = (subst (λ (q : State). RootsStay s q) (sym same) (roots-stay-itself s), tt)
effect-keeps u v s (Raises ball) is = tt

function-effect-keeps : (s : State) (e : FunctionEffect) → OnlyMakesVariables s e → EachAnswer (RootsStayIn s) (function_trace e)
unfolding EachAnswer
function-effect-keeps s (Gives t r) (k, is) = (subst (λ (q : State). RootsStay s q) (sym is) (new-variables-stay k s), tt)
function-effect-keeps s (Refuses ball) is = tt

-- ---- calls by name

pub predicate-keeps : UnifyingKeepsRoots → (set : Setting) → LaterKeepsRoots set.later → (l : Level) → LevelKeepsRoots l → (name : List ℕ) (ts : Trees) (s : State) → EachAnswer (RootsStay s) (predicate_called set l name ts s)
unfolding predicate_called predicate_given
predicate-keeps u set later l h name ts s = go (built_in_predicate name ts s) refl
  where
    other : (c : Bool) → EachAnswer (RootsStay s) (or_called (cond c (Some (set.later.predicate set.view l name ts s)) None) l name ts s)
    other true = each-of-all (RootsStay s) (set.later.predicate set.view l name ts s) (later.predicates set.view l h name ts s)
    other false = (calls-keep-roots l h).called name ts s

    go : (o : Option Effect) → built_in_predicate name ts s ≡ o → EachAnswer (RootsStay s) (or_called (option_or (option_map (settled_effect set.view s) o) (given_later set l name ts s)) l name ts s)
    go (Some e) is = effect-keeps u set.view s e (predicates-unify name ts s e is)
    go None is = other (is_later_predicate name (tree_count ts))

pub function-keeps : (set : Setting) → LaterKeepsRoots set.later → (l : Level) → LevelKeepsRoots l → (name : List ℕ) (ts : Trees) (s : State) → EachAnswer (RootsStayIn s) (function_called set l name ts s)
unfolding function_called function_given EachAnswer
function-keeps set later l h name ts s = go (built_in_function name ts s) refl
  where
    left : (x : Within) → EachAnswer (RootsStayIn s) (resource_left x s)
    left a_query = tt
    left (a_body n) = (roots-stay-itself s, tt)

    other : (c : Bool) → EachAnswer (RootsStayIn s) (or_applied (cond c (Some (set.later.function name ts s)) None) l name ts s)
    other true = each-of-all (RootsStayIn s) (set.later.function name ts s) (later.functions name ts s)
    other false = (calls-keep-roots l h).applied name ts s

    rest : (c : Bool) → EachAnswer (RootsStayIn s) (or_applied (cond c (Some (resource_left set.view.within s)) (cond (is_later_function name (tree_count ts)) (Some (set.later.function name ts s)) None)) l name ts s)
    rest true = left set.view.within
    rest false = other (is_later_function name (tree_count ts))

    go : (o : Option FunctionEffect) → built_in_function name ts s ≡ o → EachAnswer (RootsStayIn s) (or_applied (option_or (option_map function_trace o) (function_later set name ts s)) l name ts s)
    go (Some e) is = function-effect-keeps s e (functions-make name ts s e is)
    go None is = rest (is_resource name (tree_count ts))

-- ---- `call`

abbrev Deeper : Type 0
Deeper = Tree → List Tree → State → Trace State

abbrev DeeperKeeps : Deeper → Type 0
DeeperKeeps f = (t : Tree) (more : List Tree) (s : State) → EachAnswer (RootsStay s) (f t more s)

goal-called : (l : Level) → LevelKeepsRoots l → (f : Deeper) → DeeperKeeps f → (t : Tree) (more : List Tree) (s : State) → EachAnswer (RootsStay s) (call_goal l f t more s)
goal-called l h f keeps t more s = followed-by s ((calls_at l).drained s) (λ r. f t more r) ((calls-keep-roots l h).drained s) (λ r. keeps t more r)

handled-keeps : (s : State) (raised : Tree) (f : State → Trace State) → ((r : State) → EachAnswer (RootsStay r) (f r)) → (o : Option State) → ((r : State) → o ≡ Some r → RootsStay s r) → EachAnswer (RootsStay s) (handled_in s raised f o)
unfolding EachAnswer
handled-keeps s raised f each None stays = tt
handled-keeps s raised f each (Some r) stays = followed-by s (settled s r) f (settling-stays s s r (stays r refl)) each

catch-keeps : UnifyingKeepsRoots → (l : Level) → LevelKeepsRoots l → (f : Deeper) → DeeperKeeps f → (ts : Trees) (s : State) → EachAnswer (RootsStay s) (catch_called l f ts s)
unfolding EachAnswer
catch-keeps u l h f keeps no_trees s = tt
catch-keeps u l h f keeps (tree a no_trees) s = tt
catch-keeps u l h f keeps (tree a (tree c no_trees)) s = tt
catch-keeps u l h f keeps (tree a (tree c (tree g no_trees))) s =
    each-caught (RootsStay s) (then (call_goal l f a [] s) (λ r. (calls_at l).drained r)) (handling s c (λ r. call_goal l f g [] r))
    (followed-by s (call_goal l f a [] s) (λ r. (calls_at l).drained r) (goal-called l h f keeps a [] s) (λ r. (calls-keep-roots l h).drained r))
    (λ ball. handled-keeps s ball (λ r. call_goal l f g [] r) (λ r. goal-called l h f keeps g [] r) (unified (with_new_variables (new_variables ball) s) c (copy (next s) ball))
    (λ r is. roots-stay-then s (with_new_variables (new_variables ball) s) r (new-variables-stay (new_variables ball) s) (u (with_new_variables (new_variables ball) s) r c (copy (next s) ball) is)))
catch-keeps u l h f keeps (tree a (tree c (tree g (tree x ts)))) s = tt

again-keeps : (l : Level) → LevelKeepsRoots l → (f : Deeper) → DeeperKeeps f → (ts : Trees) (s : State) → EachAnswer (RootsStay s) (again_called l f ts s)
unfolding EachAnswer
again-keeps l h f keeps no_trees s = tt
again-keeps l h f keeps (tree t ts) s = goal-called l h f keeps t (each_tree ts) s

either : (P : State → Type 0) (c : Bool) (t w : Trace State) → EachAnswer P t → EachAnswer P w → EachAnswer P (cond c t w)
either P true t w a b = a
either P false t w a b = b

planner-keeps : (set : Setting) (s : State) (t : Trace State) → EachAnswer (RootsStay s) t → EachAnswer (RootsStay s) (with_planner set t)
unfolding EachAnswer
planner-keeps set s t keeps = go (set.defines (codes "final") 1) (set.defines (codes "action") 4)
  where
    go : (a c : Bool) → EachAnswer (RootsStay s) (cond a (cond c t (unknown_name (codes "action") 4)) (unknown_name (codes "final") 1))
    go true true = keeps
    go true false = tt
    go false c = tt

known-keeps : UnifyingKeepsRoots → (set : Setting) → LaterKeepsRoots set.later → (l : Level) → LevelKeepsRoots l → (name : List ℕ) (ts : Trees) (s : State) → EachAnswer (RootsStay s) (known_called set l name ts s)
unfolding EachAnswer
known-keeps u set later l h name ts s = go (is_planner name (tree_count ts)) (is_known set name (tree_count ts))
  where
    go : (a c : Bool) → EachAnswer (RootsStay s) (cond a (with_planner set (predicate_called set l name ts s)) (cond c (predicate_called set l name ts s) (unknown_name name (tree_count ts))))
    go true c = planner-keeps set s (predicate_called set l name ts s) (predicate-keeps u set later l h name ts s)
    go false true = predicate-keeps u set later l h name ts s
    go false false = tt

term-keeps : UnifyingKeepsRoots → (set : Setting) → LaterKeepsRoots set.later → (l : Level) → LevelKeepsRoots l → (f : Deeper) → DeeperKeeps f → (t : Tree) (s : State) (o : Option Called) → EachAnswer (RootsStay s) (term_called set l f t s o)
unfolding EachAnswer
term-keeps u set later l h f keeps t s None = tt
term-keeps u set later l h f keeps t s (Some c) =
    either (RootsStay s) (is_catch c.name (tree_count c.args)) (note Tick (catch_called l f c.args s)) _ (catch-keeps u l h f keeps c.args s)
    (either (RootsStay s) (is_call c.name (tree_count c.args)) (note Tick (again_called l f c.args s)) _ (again-keeps l h f keeps c.args s) (known-keeps u set later l h c.name c.args s))

called-keeps : UnifyingKeepsRoots → (set : Setting) → LaterKeepsRoots set.later → (l : Level) → LevelKeepsRoots l → DeeperKeeps (called_at_level set l)
unfolding called_at_level EachAnswer
called-keeps u set later (lowest c) h t more s = term-keeps u set later (lowest c) h (λ w ws r. end Deep) (λ w ws r. tt) t s (called_by (followed (bindings s) t) more)
called-keeps u set later (over c l) h t more s = term-keeps u set later (over c l) h (called_at_level set l) (called-keeps u set later l h.1) t s (called_by (followed (bindings s) t) more)

first-keeps : UnifyingKeepsRoots → (set : Setting) → LaterKeepsRoots set.later → (l : Level) → LevelKeepsRoots l → (ts : Trees) (s : State) → EachAnswer (RootsStay s) (first_called set l ts s)
unfolding first_called EachAnswer
first-keeps u set later l h no_trees s = tt
first-keeps u set later (lowest c) h (tree t ts) s = tt
first-keeps u set later (over c l) h (tree t ts) s = called-keeps u set later l h.1 t (each_tree ts) s

-- ---- what is built of later stages

goal-keeps : (v : View) (s : State) (e : Effect) → LeavesSo (FollowedStay s) e → EachAnswer (RootsStay s) (settled_effect v s e)
unfolding EachAnswer
goal-keeps v s (Succeeds r) h = settling-stays s s r (roots-by s r h)
goal-keeps v s Fails h = tt
goal-keeps v s (Writes text r) h = absurd h
goal-keeps v s (Raises ball) h = tt

-- a function of a domain leaves the state as it is
value-keeps : (s : State) (o : Option (Answer Tree)) → EachAnswer (RootsStayIn s) (unwrap_or (option_map function_trace (option_map (answer_in s) o)) done)
unfolding EachAnswer
value-keeps s None = tt
value-keeps s (Some (Ok t)) = (roots-stay-itself s, tt)
value-keeps s (Some (Err ball)) = tt

pub built-later-keeps : LaterKeepsRoots built_later
built-later-keeps = record {
  predicates = λ v l h name ts s. all-of-each (RootsStay s) (built_later.predicate v l name ts s) (go v l h name ts s (constraint_effect name ts s) refl);
  functions = λ name ts s. all-of-each (RootsStayIn s) (built_later.function name ts s) (value-keeps s (done_by domain_functions name ts s));
}
  where
    go : (v : View) (l : Level) → LevelKeepsRoots l → (name : List ℕ) (ts : Trees) (s : State) (o : Option Effect) → constraint_effect name ts s ≡ o →
        EachAnswer (RootsStay s) (unwrap_or (option_map (settled_effect v s) o) (solve_or_unknown l name ts s))
    go v l h name ts s None is = solve-keeps l h name ts s
    go v l h name ts s (Some e) is =
        goal-keeps v s e (goals-leave (FollowedStay s) s (λ t u r. within_keeps_followed s r t u) (λ t u r. notin_keeps_followed s r t u) (λ t r. posted_keeps_followed s r t) name ts e is)

-- All names of the language keep roots.
pub whole-keeps-roots : UnifyingKeepsRoots → (v : View) (later : Later) → LaterKeepsRoots later → (preds : List PredTree) → NamesKeepRoots (whole v later preds)
unfolding predicate_called function_called
whole-keeps-roots u v later keeps preds = record {
  predicates = λ l h name ts s. by-call l h name ts s (is_call name (tree_count ts));
  functions = λ l h name ts s. function-keeps (core_setting v later preds) keeps l h name ts s;
}
  where
    by-call : (l : Level) → LevelKeepsRoots l → (name : List ℕ) (ts : Trees) (s : State) (c : Bool) →
        EachAnswer (RootsStay s) (or_called (cond c (Some (first_called (core_setting v later preds) l ts s)) (predicate_given (core_setting v later preds) l name ts s)) l name ts s)
    by-call l h name ts s true = first-keeps u (core_setting v later preds) keeps l h ts s
    by-call l h name ts s false = predicate-keeps u (core_setting v later preds) keeps l h name ts s
