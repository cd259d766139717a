-- All names of the language keep calm states, with what is built of later stages: what a goal leaves is settled.
use Rattle.std.proofs.Common.{◌≡◌, ℕ, ◌≤◌, List, [], ◌∷◌, ◌++◌, Bool, true, false, cond, refl, sym, ap, subst}
use Rattle.std.specs.Prelude.{Option, Some, None, Ok, Err, option_map, unwrap_or, pos, codes, ⊤}
use Rattle.std.specs.Option.{option_or}
use Rattle.std.specs.Str.{bytes_eq}
use Rattle.pi_terms.specs.Tree.{Tree, int, comp, Trees, no_trees, tree, trees_of, tree_count}
use Rattle.pi_terms.specs.Copy.{copy, new_variables}
use Rattle.pi_constraints.specs.State.{State, bindings, next, followed, SpeaksBelow}
use Rattle.pi_constraints.specs.Unify.{unified}
use Rattle.pi_constraints.specs.Evaluation.{with_new_variables}
use Rattle.pi_constraints.proofs.FollowLemmas.{followed_below}
use Rattle.pi_constraints.proofs.StateLemmas.{bound_below}
use Rattle.pi_constraints.proofs.KeepsLemmas.{TreesBelow, speaks-more, trees-more, first-below, rest-below, no-trees-below, trees-below, comp-below, args-below, int-below}
use Rattle.pi_core.specs.CoreTree.{PredTree}
use Rattle.pi_effects.specs.Answer.{Answer}
use Rattle.pi_effects.specs.Effect.{Effect, Succeeds, Fails, Writes, Raises, FunctionEffect, Gives, Refuses, succeeds_in}
use Rattle.pi_effects.specs.Exception.{thrown}
use Rattle.pi_effects.specs.Items.{each_tree}
use Rattle.pi_effects.specs.Rows.{done_by}
use Rattle.pi_effects.specs.Texts.{writing_predicates}
use Rattle.pi_effects.specs.BuiltIns.{tests, test_in, writing_in, other_predicates, built_in_predicate, built_in_function}
use Rattle.pi_traces.specs.Trace.{Trace, End, end, note, Deep, Tick, then}
use Rattle.pi_traces.proofs.AnswerLemmas.{EachAnswer, each-caught}
use Rattle.pi_settling.specs.Calm.{IsCalm}
use Rattle.pi_settling.specs.DomainValues.{domain_function}
use Rattle.pi_settling.specs.Goals.{constraint_goals, constraint_effect}
use Rattle.pi_settling.specs.Posted.{posting_goal}
use Rattle.pi_settling.proofs.CalmGoals.{within_may_settle, notin_may_settle}
use Rattle.pi_settling.proofs.CalmPosted.{posted_may_settle}
use Rattle.pi_meaning.specs.Shared.View.{View}
use Rattle.pi_meaning.specs.Shared.Within.{Within, a_query, a_body, resource_left, is_body}
use Rattle.pi_meaning.specs.Shared.Level.{Level, lowest, over, Applied, calls_at, or_called, or_applied}
use Rattle.pi_meaning.specs.Shared.Builtin.{written, settled_effect, function_trace}
use Rattle.pi_meaning.specs.Shared.Settle.{settled}
use Rattle.pi_meaning.specs.Shared.Names.{is_later_predicate, is_later_function, is_planner, is_resource, is_catch, is_call}
use Rattle.pi_meaning.specs.Shared.Given.{Setting}
use Rattle.pi_meaning.specs.Shared.Handling.{handled_in, handling}
use Rattle.pi_meaning.specs.Shared.Calls.{built_in, given_later, predicate_given, predicate_called, function_later, function_given, Called, called_by, unknown_name, with_planner, is_known, known_called, call_goal, catch_called, again_called, term_called, called_at_level, first_called}
use Rattle.pi_meaning.specs.CoreMeaning.Instances.{core_setting, predicate_or_call, solve_or_unknown, built_later, whole}
use Rattle.pi_meaning.proofs.Shared.FollowLemmas.{follows-within, follows-notin, follows-posted}
use Rattle.pi_meaning.proofs.Shared.ConstraintEffects.{LeavesSo, within-leaves, notin-leaves, posting-leaves}
use Rattle.pi_meaning.proofs.CoreMeaning.AnswersBelow.{LinesKeep, ◌&◌, lines-keep}
use Rattle.pi_meaning.proofs.CoreMeaning.CalmStates.{CalmLater, calm-itself, settled-calm, onward}
use Rattle.pi_meaning.proofs.CoreMeaning.FunctionsKeep.{GivesKept, function-keeps, domain-keeps}
use Rattle.pi_meaning.proofs.CoreMeaning.KeepsGoals.{AppliedLater, LevelKeeps, calls-keep, NamesKeep, ball-left}
use Rattle.pi_meaning.proofs.CoreMeaning.KeepsSolve.{end-keeps, solve-keeps}
use Rattle.pi_meaning.proofs.CoreMeaning.LeftLemmas.{Left, left-none, left-after, left-unified}

-- ---- effects of predicates

-- what a goal left, and the state in which a text is written
abbrev EffectKeeps : State → Effect → Type 0
EffectKeeps s (Succeeds r) = Left s r
EffectKeeps s Fails = ⊤
EffectKeeps s (Writes text r) = CalmLater s r
EffectKeeps s (Raises ball) = ⊤

abbrev OptionEffectKeeps : State → Option Effect → Type 0
OptionEffectKeeps s None = ⊤
OptionEffectKeeps s (Some e) = EffectKeeps s e

succeeds-keeps : (s : State) (o : Option State) → ((r : State) → o ≡ Some r → Left s r) → EffectKeeps s (succeeds_in o)
succeeds-keeps s None h = tt
succeeds-keeps s (Some r) h = h r refl

or-keeps : (s : State) (o p : Option Effect) → OptionEffectKeeps s o → OptionEffectKeeps s p → OptionEffectKeeps s (option_or o p)
or-keeps s None p h k = k
or-keeps s (Some e) p h k = h

if-keeps : (s : State) (c : Bool) (o : Option Effect) → OptionEffectKeeps s o → OptionEffectKeeps s (cond c o None)
if-keeps s true o h = h
if-keeps s false o h = tt

-- a test leaves the state as it is, and so does what writes
test-keeps : (s : State) → IsCalm s → (o : Option (Answer Bool)) → OptionEffectKeeps s (option_map (test_in s) o)
test-keeps s is None = tt
test-keeps s is (Some (Ok true)) = left-none s is.state is.settles
test-keeps s is (Some (Ok false)) = tt
test-keeps s is (Some (Err ball)) = tt

writing-keeps : (s : State) → IsCalm s → (o : Option (Answer (List ℕ))) → OptionEffectKeeps s (option_map (writing_in s) o)
writing-keeps s is None = tt
writing-keeps s is (Some (Ok text)) = calm-itself s is
writing-keeps s is (Some (Err ball)) = tt

-- `=` and `throw`
others-keep : (name : List ℕ) (ts : Trees) (s : State) → IsCalm s → TreesBelow (next s) ts → OptionEffectKeeps s (done_by other_predicates name ts s)
unfolding other_predicates done_by
others-keep name no_trees s is below = or-keeps s _ _ (if-keeps s (bytes_eq (codes "=") name) None tt) (or-keeps s _ None (if-keeps s (bytes_eq (codes "throw") name) None tt) tt)
others-keep name (tree t no_trees) s is below =
    or-keeps s _ _ (if-keeps s (bytes_eq (codes "=") name) None tt) (or-keeps s _ None (if-keeps s (bytes_eq (codes "throw") name) (Some (Raises (thrown t s))) tt) tt)
others-keep name (tree t (tree u no_trees)) s is below =
    or-keeps s _ _ (if-keeps s (bytes_eq (codes "=") name) (Some (succeeds_in (unified s t u)))
    (succeeds-keeps s (unified s t u) (λ r e. left-unified s r t u is.state is.settles (first-below (next s) t (tree u no_trees) below)
    (first-below (next s) u no_trees (rest-below (next s) t (tree u no_trees) below)) e)))
    (or-keeps s _ None (if-keeps s (bytes_eq (codes "throw") name) None tt) tt)
others-keep name (tree t (tree u (tree w ts))) s is below = or-keeps s _ _ (if-keeps s (bytes_eq (codes "=") name) None tt) (or-keeps s _ None (if-keeps s (bytes_eq (codes "throw") name) None tt) tt)

tables-keep : (name : List ℕ) (ts : Trees) (s : State) → IsCalm s → TreesBelow (next s) ts → OptionEffectKeeps s (built_in_predicate name ts s)
unfolding built_in_predicate
tables-keep name ts s is below =
    or-keeps s (option_map (test_in s) (done_by tests name ts s)) _ (test-keeps s is (done_by tests name ts s))
    (or-keeps s (option_map (writing_in s) (done_by writing_predicates name ts s)) _ (writing-keeps s is (done_by writing_predicates name ts s)) (others-keep name ts s is below))

-- ---- goals of constraints

one-below : (n : ℕ) (f : List ℕ) (t : Tree) → SpeaksBelow n t → SpeaksBelow n (comp f (tree t no_trees))
one-below n f t a = comp-below n f (tree t no_trees) (trees-below n t no_trees a (no-trees-below n))

two-below : (n : ℕ) (f : List ℕ) (t u : Tree) → SpeaksBelow n t → SpeaksBelow n u → SpeaksBelow n (comp f (tree t (tree u no_trees)))
two-below n f t u a b = comp-below n f (tree t (tree u no_trees)) (trees-below n t (tree u no_trees) a (trees-below n u no_trees b (no-trees-below n)))

three-below : (n : ℕ) (f : List ℕ) (t u w : Tree) → SpeaksBelow n t → SpeaksBelow n u → SpeaksBelow n w → SpeaksBelow n (comp f (tree t (tree u (tree w no_trees))))
three-below n f t u w a b c = comp-below n f (tree t (tree u (tree w no_trees))) (trees-below n t (tree u (tree w no_trees)) a (trees-below n u (tree w no_trees) b (trees-below n w no_trees c (no-trees-below n))))

module _ (s : State) (is : IsCalm s) where
  posted-left : (t : Tree) → SpeaksBelow (next s) t → LeavesSo (Left s) (posting_goal s t)
  posted-left t below = posting-leaves (Left s) s t (λ r same. left-after s r (posted_may_settle s r t is.state is.settles below same) (follows-posted s r t same))

  one : (f : List ℕ) (t : Tree) → SpeaksBelow (next s) t → LeavesSo (Left s) (posting_goal s (comp f (tree t no_trees)))
  one f t a = posted-left (comp f (tree t no_trees)) (one-below (next s) f t a)

  two : (f : List ℕ) (t u : Tree) → SpeaksBelow (next s) t → SpeaksBelow (next s) u → LeavesSo (Left s) (posting_goal s (comp f (tree t (tree u no_trees))))
  two f t u a b = posted-left (comp f (tree t (tree u no_trees))) (two-below (next s) f t u a b)

  three : (f : List ℕ) (t u w : Tree) → SpeaksBelow (next s) t → SpeaksBelow (next s) u → SpeaksBelow (next s) w → LeavesSo (Left s) (posting_goal s (comp f (tree t (tree u (tree w no_trees)))))
  three f t u w a b c = posted-left (comp f (tree t (tree u (tree w no_trees)))) (three-below (next s) f t u w a b c)

  goals-keep : LinesKeep (LeavesSo (Left s)) s constraint_goals
  unfolding constraint_goals
  goals-keep =
      (λ t u a b. within-leaves (Left s) s t u (λ r same. left-after s r (within_may_settle s r t u is.state is.settles same) (follows-within s r t u same))) &
      (λ t u a b. notin-leaves (Left s) s t u (λ r same. left-after s r (notin_may_settle s r t u is.state is.settles same) (follows-notin s r t u same))) &
      two (codes "#=") &
      two (codes "#!=") &
      two (codes "#<") &
      two (codes "#=<") &
      two (codes "#<=") &
      two (codes "#>") &
      two (codes "#>=") &
      one (codes "#~") &
      two (codes "#/\\") &
      two (codes "#\\/") &
      two (codes "#^") &
      two (codes "#=>") &
      two (codes "#<=>") &
      one (codes "all_different") &
      one (codes "all_distinct") &
      three (codes "element") &
      tt

left-keeps : (s : State) (e : Effect) → LeavesSo (Left s) e → EffectKeeps s e
left-keeps s (Succeeds r) h = h
left-keeps s Fails h = tt
left-keeps s (Writes text r) h = absurd h
left-keeps s (Raises ball) h = tt

goal-keeps : (name : List ℕ) (ts : Trees) (s : State) → IsCalm s → TreesBelow (next s) ts → OptionEffectKeeps s (constraint_effect name ts s)
goal-keeps name ts s is below = go (constraint_effect name ts s) refl
  where
    go : (o : Option Effect) → constraint_effect name ts s ≡ o → OptionEffectKeeps s o
    go None e = tt
    go (Some d) e = left-keeps s d (lines-keep (LeavesSo (Left s)) constraint_goals name ts s d (goals-keep s is) below e)

-- ---- what is left is settled

written-keeps : (s r : State) (inside : Bool) (text : List ℕ) → CalmLater s r → EachAnswer (CalmLater s) (written inside text r)
unfolding EachAnswer
written-keeps s r true text h = tt
written-keeps s r false text h = (h, tt)

settled-effect-keeps : (s : State) → IsCalm s → (v : View) (e : Effect) → EffectKeeps s e → EachAnswer (CalmLater s) (settled_effect v s e)
unfolding EachAnswer
settled-effect-keeps s is v (Succeeds r) h = settled-calm s r is h
settled-effect-keeps s is v Fails h = tt
settled-effect-keeps s is v (Writes text r) h = written-keeps s r (is_body v.within) text h
settled-effect-keeps s is v (Raises ball) h = tt

abbrev OptionKeeps : State → Option (Trace State) → Type 0
OptionKeeps s None = ⊤
OptionKeeps s (Some t) = EachAnswer (CalmLater s) t

option-keeps : (s : State) → IsCalm s → (v : View) (o : Option Effect) → OptionEffectKeeps s o → OptionKeeps s (option_map (settled_effect v s) o)
option-keeps s is v None h = tt
option-keeps s is v (Some e) h = settled-effect-keeps s is v e h

or-else-keeps : (s : State) (o : Option (Trace State)) (t : Trace State) → OptionKeeps s o → EachAnswer (CalmLater s) t → EachAnswer (CalmLater s) (unwrap_or o t)
or-else-keeps s None t h k = k
or-else-keeps s (Some u) t h k = h

first-keeps : (s : State) (o p : Option (Trace State)) → OptionKeeps s o → OptionKeeps s p → OptionKeeps s (option_or o p)
first-keeps s None p a b = b
first-keeps s (Some t) p a b = a

where-keeps : (s : State) (c : Bool) (t : Trace State) (o : Option (Trace State)) → EachAnswer (CalmLater s) t → OptionKeeps s o → OptionKeeps s (cond c (Some t) o)
where-keeps s true t o a b = a
where-keeps s false t o a b = b

abbrev setting : View → List PredTree → Setting
setting v preds = core_setting v built_later preds

given-keeps : (v : View) (preds : List PredTree) (l : Level) → LevelKeeps l → (name : List ℕ) (ts : Trees) (s : State) → IsCalm s → TreesBelow (next s) ts → OptionKeeps s (predicate_given (setting v preds) l name ts s)
unfolding predicate_given
given-keeps v preds l k name ts s is below =
    first-keeps s (built_in (setting v preds) name ts s) (given_later (setting v preds) l name ts s) (option-keeps s is v (built_in_predicate name ts s) (tables-keep name ts s is below))
    (where-keeps s (is_later_predicate name (tree_count ts)) (built_later.predicate v l name ts s) None
    (or-else-keeps s (option_map (settled_effect v s) (constraint_effect name ts s)) (solve_or_unknown l name ts s) (option-keeps s is v (constraint_effect name ts s) (goal-keeps name ts s is below))
    (solve-keeps l k name ts s is below)) tt)

or-called-keeps : (l : Level) → LevelKeeps l → (name : List ℕ) (ts : Trees) (s : State) → IsCalm s → TreesBelow (next s) ts → (o : Option (Trace State)) → OptionKeeps s o → EachAnswer (CalmLater s) (or_called o l name ts s)
or-called-keeps l k name ts s is below None h = (calls-keep l k).called name ts s is below
or-called-keeps l k name ts s is below (Some t) h = h

called-keeps : (v : View) (preds : List PredTree) (l : Level) → LevelKeeps l → (name : List ℕ) (ts : Trees) (s : State) → IsCalm s → TreesBelow (next s) ts → EachAnswer (CalmLater s) (predicate_called (setting v preds) l name ts s)
unfolding predicate_called
called-keeps v preds l k name ts s is below = or-called-keeps l k name ts s is below (predicate_given (setting v preds) l name ts s) (given-keeps v preds l k name ts s is below)

-- ---- functions

abbrev OptionApplies : State → Option (Trace Applied) → Type 0
OptionApplies s None = ⊤
OptionApplies s (Some t) = EachAnswer (AppliedLater s) t

traced-keeps : (s : State) (o : Option FunctionEffect) → ((e : FunctionEffect) → o ≡ Some e → GivesKept s e) → OptionApplies s (option_map function_trace o)
unfolding EachAnswer
traced-keeps s None all = tt
traced-keeps s (Some (Gives t r)) all = (all (Gives t r) refl, tt)
traced-keeps s (Some (Refuses ball)) all = tt

first-applies : (s : State) (o p : Option (Trace Applied)) → OptionApplies s o → OptionApplies s p → OptionApplies s (option_or o p)
first-applies s None p a b = b
first-applies s (Some t) p a b = a

where-applies : (s : State) (c : Bool) (t : Trace Applied) (o : Option (Trace Applied)) → EachAnswer (AppliedLater s) t → OptionApplies s o → OptionApplies s (cond c (Some t) o)
where-applies s true t o a b = a
where-applies s false t o a b = b

or-else-applies : (s : State) (o : Option (Trace Applied)) (e : End) → OptionApplies s o → EachAnswer (AppliedLater s) (unwrap_or o (end e))
or-else-applies s None e h = end-keeps (AppliedLater s) e
or-else-applies s (Some t) e h = h

resource-keeps : (x : Within) (s : State) → IsCalm s → EachAnswer (AppliedLater s) (resource_left x s)
unfolding EachAnswer
resource-keeps a_query s is = tt
resource-keeps (a_body n) s is = ((calm-itself s is, int-below (next s) (pos n)), tt)

function-given-keeps : (v : View) (preds : List PredTree) (name : List ℕ) (ts : Trees) (s : State) → IsCalm s → TreesBelow (next s) ts → OptionApplies s (function_given (setting v preds) name ts s)
unfolding function_given
function-given-keeps v preds name ts s is below =
    first-applies s (option_map function_trace (built_in_function name ts s)) (function_later (setting v preds) name ts s)
    (traced-keeps s (built_in_function name ts s) (λ e h. function-keeps name ts s is below e h))
    (where-applies s (is_resource name (tree_count ts)) (resource_left v.within s) _ (resource-keeps v.within s is)
    (where-applies s (is_later_function name (tree_count ts)) (built_later.function name ts s) None
    (or-else-applies s (option_map function_trace (domain_function name ts s)) _ (traced-keeps s (domain_function name ts s) (λ e h. domain-keeps name ts s is below e h))) tt))

or-applied-keeps : (l : Level) → LevelKeeps l → (name : List ℕ) (ts : Trees) (s : State) → IsCalm s → TreesBelow (next s) ts → (o : Option (Trace Applied)) → OptionApplies s o →
    EachAnswer (AppliedLater s) (or_applied o l name ts s)
or-applied-keeps l k name ts s is below None h = (calls-keep l k).applied name ts s is below
or-applied-keeps l k name ts s is below (Some t) h = h

-- ---- `call`

abbrev Deeper : Type 0
Deeper = Tree → List Tree → State → Trace State

-- what is called with more arguments
abbrev CalledBelow : ℕ → Tree → List Tree → Type 0
CalledBelow n t more = SpeaksBelow n t × TreesBelow n (trees_of more)

abbrev DeeperKeeps : Deeper → Type 0
DeeperKeeps f = (t : Tree) (more : List Tree) (s : State) → IsCalm s → CalledBelow (next s) t more → EachAnswer (CalmLater s) (f t more s)

called-more : (m n : ℕ) (t : Tree) (more : List Tree) → m ≤ n → CalledBelow m t more → CalledBelow n t more
called-more m n t more h a = (speaks-more m n t h a.0, trees-more m n (trees_of more) h a.1)

call-goal-keeps : (l : Level) → LevelKeeps l → (f : Deeper) → DeeperKeeps f → (t : Tree) (more : List Tree) (s : State) → IsCalm s → CalledBelow (next s) t more → EachAnswer (CalmLater s) (call_goal l f t more s)
call-goal-keeps l k f deep t more s is below =
    onward s ((calls_at l).drained s) (λ r. f t more r) ((calls-keep l k).drained s is) (λ r h. deep t more r h.0 (called-more (next s) (next r) t more h.1 below))

drained-after : (l : Level) → LevelKeeps l → (s : State) (t : Trace State) → EachAnswer (CalmLater s) t → EachAnswer (CalmLater s) (then t (λ r. (calls_at l).drained r))
drained-after l k s t a = onward s t (λ r. (calls_at l).drained r) a (λ r h. (calls-keep l k).drained r h.0)

handled-keeps : (s : State) → IsCalm s → (raised : Tree) (f : State → Trace State) → ((r : State) → CalmLater s r → EachAnswer (CalmLater r) (f r)) → (o : Option State) → ((r : State) → o ≡ Some r → Left s r) →
    EachAnswer (CalmLater s) (handled_in s raised f o)
handled-keeps s is raised f each None h = end-keeps (CalmLater s) _
handled-keeps s is raised f each (Some r) h = onward s (settled s r) f (settled-calm s r is (h r refl)) each

alone-below : (n : ℕ) (t : Tree) → SpeaksBelow n t → CalledBelow n t []
alone-below n t a = (a, no-trees-below n)

catch-keeps : (l : Level) → LevelKeeps l → (f : Deeper) → DeeperKeeps f → (ts : Trees) (s : State) → IsCalm s → TreesBelow (next s) ts → EachAnswer (CalmLater s) (catch_called l f ts s)
catch-keeps l k f deep no_trees s is below = end-keeps (CalmLater s) _
catch-keeps l k f deep (tree a no_trees) s is below = end-keeps (CalmLater s) _
catch-keeps l k f deep (tree a (tree c no_trees)) s is below = end-keeps (CalmLater s) _
catch-keeps l k f deep (tree a (tree c (tree g no_trees))) s is below =
    let later : TreesBelow (next s) (tree c (tree g no_trees)) = rest-below (next s) a (tree c (tree g no_trees)) below in
    let last : TreesBelow (next s) (tree g no_trees) = rest-below (next s) c (tree g no_trees) later in
    each-caught (CalmLater s) (then (call_goal l f a [] s) (λ r. (calls_at l).drained r)) (handling s c (λ r. call_goal l f g [] r))
    (drained-after l k s (call_goal l f a [] s) (call-goal-keeps l k f deep a [] s is (alone-below (next s) a (first-below (next s) a (tree c (tree g no_trees)) below))))
    (λ ball. handled-keeps s is ball (λ r. call_goal l f g [] r)
    (λ r h. call-goal-keeps l k f deep g [] r h.0 (alone-below (next r) g (speaks-more (next s) (next r) g h.1 (first-below (next s) g no_trees last))))
    (unified (with_new_variables (new_variables ball) s) c (copy (next s) ball)) (λ r e. ball-left s r c ball is (first-below (next s) c (tree g no_trees) later) e))
catch-keeps l k f deep (tree a (tree c (tree g (tree x ts)))) s is below = end-keeps (CalmLater s) _

trees-each : (ts : Trees) → trees_of (each_tree ts) ≡ ts
unfolding each_tree
trees-each no_trees = refl
trees-each (tree t ts) = ap (tree t) (trees-each ts)

each-again : (n : ℕ) (ts : Trees) → TreesBelow n ts → TreesBelow n (trees_of (each_tree ts))
each-again n ts a = subst (TreesBelow n) (sym (trees-each ts)) a

again-keeps : (l : Level) → LevelKeeps l → (f : Deeper) → DeeperKeeps f → (ts : Trees) (s : State) → IsCalm s → TreesBelow (next s) ts → EachAnswer (CalmLater s) (again_called l f ts s)
again-keeps l k f deep no_trees s is below = end-keeps (CalmLater s) _
again-keeps l k f deep (tree t ts) s is below =
    call-goal-keeps l k f deep t (each_tree ts) s is (first-below (next s) t ts below, each-again (next s) ts (rest-below (next s) t ts below))

either-keeps : (s : State) (c : Bool) (t w : Trace State) → EachAnswer (CalmLater s) t → EachAnswer (CalmLater s) w → EachAnswer (CalmLater s) (cond c t w)
either-keeps s true t w a b = a
either-keeps s false t w a b = b

unknown-keeps : (s : State) (name : List ℕ) (k : ℕ) → EachAnswer (CalmLater s) (unknown_name name k)
unknown-keeps s name k = end-keeps (CalmLater s) _

known-keeps : (v : View) (preds : List PredTree) (l : Level) → LevelKeeps l → (name : List ℕ) (ts : Trees) (s : State) → IsCalm s → TreesBelow (next s) ts → EachAnswer (CalmLater s) (known_called (setting v preds) l name ts s)
known-keeps v preds l k name ts s is below =
    let t : Trace State = predicate_called (setting v preds) l name ts s in
    let a : EachAnswer (CalmLater s) t = called-keeps v preds l k name ts s is below in
    either-keeps s (is_planner name (tree_count ts)) (with_planner (setting v preds) t) _
    (either-keeps s ((setting v preds).defines (codes "final") 1) _ _ (either-keeps s ((setting v preds).defines (codes "action") 4) t _ a (unknown-keeps s (codes "action") 4)) (unknown-keeps s (codes "final") 1))
    (either-keeps s (is_known (setting v preds) name (tree_count ts)) t _ a (unknown-keeps s name (tree_count ts)))

tick-keeps : (s : State) (t : Trace State) → EachAnswer (CalmLater s) t → EachAnswer (CalmLater s) (note Tick t)
unfolding EachAnswer
tick-keeps s t a = a

-- what is called by its name
abbrev SomeCalledBelow : ℕ → Option Called → Type 0
SomeCalledBelow n None = ⊤
SomeCalledBelow n (Some c) = TreesBelow n c.args

term-keeps : (v : View) (preds : List PredTree) (l : Level) → LevelKeeps l → (f : Deeper) → DeeperKeeps f → (t : Tree) (s : State) (o : Option Called) → IsCalm s → SomeCalledBelow (next s) o →
    EachAnswer (CalmLater s) (term_called (setting v preds) l f t s o)
term-keeps v preds l k f deep t s None is below = end-keeps (CalmLater s) _
term-keeps v preds l k f deep t s (Some c) is below =
    either-keeps s (is_catch c.name (tree_count c.args)) (note Tick (catch_called l f c.args s)) _ (tick-keeps s (catch_called l f c.args s) (catch-keeps l k f deep c.args s is below))
    (either-keeps s (is_call c.name (tree_count c.args)) (note Tick (again_called l f c.args s)) _ (tick-keeps s (again_called l f c.args s) (again-keeps l k f deep c.args s is below)) (known-keeps v preds l k c.name c.args s is below))

parts-joined : (n : ℕ) (ts : List Tree) (more : List Tree) → TreesBelow n (trees_of ts) → TreesBelow n (trees_of more) → TreesBelow n (trees_of (ts ++ more))
parts-joined n [] more a b = b
parts-joined n (t ∷ ts) more a b = trees-below n t (trees_of (ts ++ more)) (first-below n t (trees_of ts) a) (parts-joined n ts more (rest-below n t (trees_of ts) a) b)

named-below : (n : ℕ) (t : Tree) (more : List Tree) → SpeaksBelow n t → TreesBelow n (trees_of more) → SomeCalledBelow n (called_by t more)
named-below n (Tree.var m) more a b = tt
named-below n (int i) more a b = tt
named-below n (Tree.atom name) more a b = b
named-below n (comp name ts) more a b = parts-joined n (each_tree ts) more (each-again n ts (args-below n name ts a)) b

called-at : (s : State) (t : Tree) (more : List Tree) → IsCalm s → CalledBelow (next s) t more → SomeCalledBelow (next s) (called_by (followed (bindings s) t) more)
called-at s t more is below = named-below (next s) (followed (bindings s) t) more (followed_below (next s) (bindings s) t (λ m u held. bound_below s m u is.state held) below.0) below.1

at-level-keeps : (v : View) (preds : List PredTree) (l : Level) → LevelKeeps l → DeeperKeeps (called_at_level (setting v preds) l)
unfolding called_at_level
at-level-keeps v preds (lowest c) k t more s is below =
    term-keeps v preds (lowest c) k (λ u us r. end Deep) (λ u us r calm b. end-keeps (CalmLater r) Deep) t s (called_by (followed (bindings s) t) more) is (called-at s t more is below)
at-level-keeps v preds (over c l) k t more s is below =
    term-keeps v preds (over c l) k (called_at_level (setting v preds) l) (at-level-keeps v preds l k.1) t s (called_by (followed (bindings s) t) more) is (called-at s t more is below)

first-called-keeps : (v : View) (preds : List PredTree) (l : Level) → LevelKeeps l → (ts : Trees) (s : State) → IsCalm s → TreesBelow (next s) ts → EachAnswer (CalmLater s) (first_called (setting v preds) l ts s)
unfolding first_called
first-called-keeps v preds l k no_trees s is below = end-keeps (CalmLater s) _
first-called-keeps v preds (lowest c) k (tree t ts) s is below = end-keeps (CalmLater s) Deep
first-called-keeps v preds (over c l) k (tree t ts) s is below =
    at-level-keeps v preds l k.1 t (each_tree ts) s is (first-below (next s) t ts below, each-again (next s) ts (rest-below (next s) t ts below))

-- ---- all names of the language

pub whole-keep : (v : View) (preds : List PredTree) → NamesKeep (whole v built_later preds)
whole-keep v preds = record {
  predicates = λ l k name ts s is below.
      or-called-keeps l k name ts s is below (predicate_or_call (setting v preds) l name ts s)
      (where-keeps s (is_call name (tree_count ts)) (first_called (setting v preds) l ts s) (predicate_given (setting v preds) l name ts s) (first-called-keeps v preds l k ts s is below) (given-keeps v preds l k name ts s is below));
  functions = λ l k name ts s is below. or-applied-keeps l k name ts s is below (function_given (setting v preds) name ts s) (function-given-keeps v preds name ts s is below);
}
