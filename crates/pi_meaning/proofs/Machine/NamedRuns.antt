-- The goal by which a name is called leaves the states that `call` of the name does, and maybe less far: it takes one more from the depth where it is behind a Tick.
use Rattle.std.proofs.Common.{◌≡◌, ℕ, zero, suc, ◌+◌, ◌==◌, ◌||◌, Bool, true, false, cond, List, [], ◌∷◌, ◌++◌, length, refl, ap, sym, subst, ◌∙◌, eqb-true}
use Rattle.std.specs.Prelude.{Option, Some, None, codes}
use Rattle.std.specs.Str.{bytes_eq}
use Rattle.std.proofs.lemmas.Bool.{and_parts}
use Rattle.pi_terms.specs.Tree.{Tree, var, Trees, no_trees, tree, trees_of, tree_count}
use Rattle.pi_terms.specs.Copy.{copy, new_variables}
use Rattle.pi_terms.specs.Places.{Places, held}
use Rattle.pi_constraints.specs.State.{State, next}
use Rattle.pi_constraints.specs.Unify.{unified}
use Rattle.pi_constraints.specs.Evaluation.{Evaluated, EvaluatedAll, evaluated_all, with_new_variables}
use Rattle.pi_core.specs.GoalTree.{GoalTree, tick, call, seq, catch, GoalTrees, no_goals, goal}
use Rattle.pi_core.specs.CoreTree.{PredTree}
use Rattle.pi_effects.specs.BuiltIns.{is_predicate}
use Rattle.pi_settling.specs.Goals.{is_constraint_goal}
use Rattle.pi_settling.specs.SolveCalls.{is_solve}
use Rattle.pi_meaning.proofs.Shared.EffectNames.{goal-later}
use Rattle.pi_meaning.proofs.Machine.SolveNames.{solve-later}
use Rattle.pi_effects.specs.Items.{each_tree}
use Rattle.pi_traces.specs.Trace.{Trace, end, note, Raise, Deep, Tick, one, then}
use Rattle.pi_traces.specs.Control.{caught}
use Rattle.pi_traces.specs.Depth.{Below}
use Rattle.pi_traces.specs.Related.{BelowBy, deeper_by, end_by, note_by}
use Rattle.pi_traces.proofs.TraceLemmas.{then-assoc, then-one, alt-done}
use Rattle.pi_traces.proofs.BelowLemmas.{below-refl}
use Rattle.pi_traces.proofs.RelatedLemmas.{Same, same, by-below, by-one, by-then, by-then_same, by-caught}
use Rattle.pi_meaning.specs.Shared.View.{View}
use Rattle.pi_meaning.specs.Shared.Settle.{settled}
use Rattle.pi_meaning.specs.Shared.Level.{Level, Point, calls_at, ticked, or_called}
use Rattle.pi_meaning.specs.Shared.Names.{is_later_predicate, is_planner, is_catch, is_call}
use Rattle.pi_meaning.specs.CoreMeaning.Builtins.{Builtins, predicate_by}
use Rattle.pi_meaning.specs.Shared.Handling.{handled_in, handling}
use Rattle.pi_meaning.specs.CoreMeaning.Meaning.{Action, draining, strictly, calling, catching, ticking, meaning, meaning_of_all}
use Rattle.pi_meaning.specs.CoreMeaning.Rules.{level_at}
use Rattle.pi_meaning.specs.Shared.Calls.{unknown_name, with_planner, predicate_called, is_known, known_called, call_goal, catch_called, again_called, name_called, called_below, first_called}
use Rattle.pi_meaning.specs.CoreMeaning.Instances.{built_later, whole}
use Rattle.pi_meaning.proofs.Shared.CallLemmas.{first-below, built-later-adds, whole-adds}
use Rattle.pi_meaning.proofs.Shared.LevelLemmas.{quiet-keeps-depth}
use Rattle.pi_meaning.proofs.CoreMeaning.RuleLemmas.{level-below}
use Rattle.pi_meaning.specs.Machine.NamedGoals.{slots_from, call_of_slot, call_of_slots, catch_of_slots}
use Rattle.pi_meaning.proofs.Shared.NamesApart.{call-name}
use Rattle.pi_meaning.proofs.Machine.NamedLemmas.{is_there, NamedBy, by_catch, by_call, by_name}
use Rattle.pi_meaning.specs.Machine.Configuration.{in_places}
use Rattle.pi_meaning.specs.Machine.Remaining.{point}
use Rattle.pi_meaning.specs.Machine.Step.{is_defined}
use Rattle.pi_meaning.proofs.Machine.RuleForms.{then-same}
use Rattle.pi_meaning.proofs.Machine.RunLemmas.{calls-are, drains-at, draining-goes_on}
use Rattle.pi_meaning.proofs.Machine.GoalSteps.{one-goes_on}
use Rattle.pi_meaning.proofs.Machine.EvaluationLemmas.{in_slot, AllFilled, none, one_more, filled-again, all-filled-again}
use Rattle.pi_meaning.proofs.Machine.NamesGiven.{setting, not-call, does-call}

-- ---- slots that hold arguments

held-behind : (front e : Places) (o : Option Tree) → held (front ++ o ∷ e) (length front) ≡ o
held-behind [] e o = refl
held-behind (x ∷ front) e o = held-behind front e o

append-next : (front e : Places) (o : Option Tree) → (front ++ o ∷ []) ++ e ≡ front ++ o ∷ e
append-next [] e o = refl
append-next (x ∷ front) e o = ap (λ xs. x ∷ xs) (append-next front e o)

length-next : (front : Places) (o : Option Tree) → length (front ++ o ∷ []) ≡ suc (length front)
length-next [] o = refl
length-next (x ∷ front) o = ap suc (length-next front o)

slots-filled : (ts : Trees) (front : Places) → AllFilled (front ++ in_places ts) (trees_of (slots_from (length front) (tree_count ts))) ts
unfolding in_places slots_from tree_count
slots-filled no_trees front = none
slots-filled (tree t ts) front =
    one_more (in_slot (length front) t (held-behind front (in_places ts) (Some t)))
    (subst (λ n. AllFilled (front ++ Some t ∷ in_places ts) (trees_of (slots_from n (tree_count ts))) ts) (length-next front (Some t))
    (subst (λ e. AllFilled e (trees_of (slots_from (length (front ++ Some t ∷ [])) (tree_count ts))) ts) (append-next front (in_places ts) (Some t))
    (slots-filled ts (front ++ Some t ∷ []))))

-- the arguments are what the first slots hold
pub arguments-held : (ts : Trees) (s : State) → evaluated_all (trees_of (slots_from 0 (tree_count ts))) (in_places ts) s ≡ record { trees = ts; slots = in_places ts; state = s }
arguments-held ts s = all-filled-again (in_places ts) (trees_of (slots_from 0 (tree_count ts))) ts (slots-filled ts []) s

-- ---- answers that leave a state

abbrev pub Leaves : Point → State → Type 0
Leaves p r = p.state ≡ r

states-left : (l : Level) (e : Places) (t u : Trace State) → Below t u → BelowBy Leaves (then t (λ r. one (point l e r))) u
states-left l e t u b =
    subst (λ w. BelowBy Leaves (then t (λ r. one (point l e r))) w) (then-one u)
    (by-then Same Leaves t u (λ r. one (point l e r)) (λ r. one r) (by-below t u b) (left-same l e))
  where
    left-same : (l : Level) (e : Places) (x y : State) → Same x y → BelowBy Leaves (one (point l e x)) (one y)
    left-same l e x _ (same _) = by-one Leaves (point l e x) x refl

-- ---- a goal by a name

pub slot-ran : (v : View) (preds : List PredTree) (d : ℕ) (name : List ℕ) (args : List Tree) (ts : Trees) (e : Places) (s : State) →
    let given : Builtins = whole v built_later preds in
    let l : Level = level_at given preds d in
    evaluated_all (trees_of args) e s ≡ record { trees = ts; slots = e; state = s } →
    meaning given (call name args) (point l e s) ≡ then (predicate_by given l name ts s) (λ r. one (point l e r))
unfolding meaning calling
slot-ran v preds d name args ts e s is =
    let given : Builtins = whole v built_later preds in
    let l : Level = level_at given preds d in
    draining-goes_on given preds l (calls-are given preds d) (calling given name args) e s
    ∙ ap (λ (all : EvaluatedAll). then (predicate_by given l name all.trees all.state) (λ r. one (point l all.slots r))) is

-- `call` of what slots hold
call-ran : (v : View) (preds : List PredTree) (d : ℕ) (args : List Tree) (ts : Trees) (e : Places) (s : State) → is_call (codes "call") (tree_count ts) ≡ true →
    let given : Builtins = whole v built_later preds in
    let l : Level = level_at given preds d in
    evaluated_all (trees_of args) e s ≡ record { trees = ts; slots = e; state = s } →
    meaning given (call (codes "call") args) (point l e s) ≡ then (first_called (setting v preds) l ts s) (λ r. one (point l e r))
call-ran v preds d args ts e s is held_so =
    let given : Builtins = whole v built_later preds in
    let l : Level = level_at given preds d in
    slot-ran v preds d (codes "call") args ts e s held_so
    ∙ ap (λ o. then (or_called o l (codes "call") ts s) (λ r. one (point l e r))) (does-call v preds l (codes "call") ts s is)

-- a goal behind a Tick, at the lowest level and at any other
tick-lowest : (v : View) (preds : List PredTree) (g : GoalTree) (e : Places) (s : State) →
    let given : Builtins = whole v built_later preds in
    meaning given (seq (goal tick (goal g no_goals))) (point (level_at given preds zero) e s) ≡ end Deep
unfolding meaning then level_at
tick-lowest v preds g e s =
    let given : Builtins = whole v built_later preds in
    let l : Level = level_at given preds zero in
    let goals : GoalTrees = goal tick (goal g no_goals) in
    draining-goes_on given preds l (calls-are given preds zero) (meaning_of_all given goals) e s
    ∙ ap (λ t. then t (meaning_of_all given (goal g no_goals)))
    (draining-goes_on given preds l (calls-are given preds zero) ticking e s ∙ ap (λ o. ticked o (λ m. one (point m e s))) (quiet-keeps-depth given preds None (length preds)))

tick-over : (v : View) (preds : List PredTree) (d : ℕ) (g : GoalTree) (e : Places) (s : State) →
    let given : Builtins = whole v built_later preds in
    meaning given (seq (goal tick (goal g no_goals))) (point (level_at given preds (suc d)) e s) ≡ note Tick (meaning given g (point (level_at given preds d) e s))
unfolding meaning then level_at
tick-over v preds d g e s =
    let given : Builtins = whole v built_later preds in
    let l : Level = level_at given preds (suc d) in
    let lower_one : Level = level_at given preds d in
    let goals : GoalTrees = goal tick (goal g no_goals) in
    draining-goes_on given preds l (calls-are given preds (suc d)) (meaning_of_all given goals) e s
    ∙ (ap (λ t. then t (meaning_of_all given (goal g no_goals)))
    (draining-goes_on given preds l (calls-are given preds (suc d)) ticking e s
    ∙ ap (λ o. ticked o (λ m. one (point m e s))) (quiet-keeps-depth given preds (Some lower_one) (suc (length preds + d))))
    ∙ ap (note Tick) (one-goes_on (meaning_of_all given (goal g no_goals)) (point lower_one e s) ∙ then-one (meaning given g (point lower_one e s))))

-- ---- `call` of a term one down

drained-goes_on : {A : Type 0} (given : Builtins) (preds : List PredTree) (d : ℕ) (s : State) (f : State → Trace A) → then ((calls_at (level_at given preds d)).drained s) f ≡ f s
unfolding then
drained-goes_on given preds d s f = ap (λ t. then t f) (drains-at given preds (level_at given preds d) (calls-are given preds d) s) ∙ alt-done (f s)

goal-called : (v : View) (preds : List PredTree) (d : ℕ) (t : Tree) (s : State) →
    let l : Level = level_at (whole v built_later preds) preds d in
    call_goal l (called_below (setting v preds) l) t [] s ≡ first_called (setting v preds) l (tree t no_trees) s
unfolding first_called each_tree
goal-called v preds d t s =
    let l : Level = level_at (whole v built_later preds) preds d in
    drained-goes_on (whole v built_later preds) preds d s (λ r. called_below (setting v preds) l t [] r)

again-first : (v : View) (preds : List PredTree) (d : ℕ) (ts : Trees) (s : State) →
    let l : Level = level_at (whole v built_later preds) preds d in
    again_called l (called_below (setting v preds) l) ts s ≡ first_called (setting v preds) l ts s
unfolding first_called
again-first v preds d no_trees s = refl
again-first v preds d (tree t ts) s =
    let l : Level = level_at (whole v built_later preds) preds d in
    drained-goes_on (whole v built_later preds) preds d s (λ r. called_below (setting v preds) l t (each_tree ts) r)

-- what is called at the level of one depth less does the same and maybe less
less-called : (v : View) (preds : List PredTree) (d : ℕ) (ts : Trees) (s : State) →
    let given : Builtins = whole v built_later preds in
    Below (first_called (setting v preds) (level_at given preds d) ts s) (first_called (setting v preds) (level_at given preds (suc d)) ts s)
less-called v preds d ts s =
    let given : Builtins = whole v built_later preds in
    first-below (setting v preds) built-later-adds (level_at given preds d) (level_at given preds (suc d)) (level-below given (whole-adds v built_later preds built-later-adds) preds d) ts s

-- the call of what a slot holds, one level lower
slot-called : (v : View) (preds : List PredTree) (d i : ℕ) (t : Tree) (e : Places) (s : State) → held e i ≡ Some t →
    let given : Builtins = whole v built_later preds in
    let m : Level = level_at given preds (suc d) in
    BelowBy Leaves (meaning given (call_of_slot i) (point (level_at given preds d) e s)) (call_goal m (called_below (setting v preds) m) t [] s)
unfolding tree_count
slot-called v preds d i t e s h =
    let given : Builtins = whole v built_later preds in
    let l : Level = level_at given preds d in
    let one_term : Trees = tree t no_trees in
    subst (λ u. BelowBy Leaves u (call_goal (level_at given preds (suc d)) (called_below (setting v preds) (level_at given preds (suc d))) t [] s))
    (sym (call-ran v preds d (var i ∷ []) one_term e s refl (all-filled-again e (tree (var i) no_trees) one_term (one_more (in_slot i t h) none) s)))
    (subst (λ u. BelowBy Leaves (then (first_called (setting v preds) l one_term s) (λ r. one (point l e r))) u) (sym (goal-called v preds (suc d) t s))
    (states-left l e (first_called (setting v preds) l one_term s) (first_called (setting v preds) (level_at given preds (suc d)) one_term s) (less-called v preds d one_term s)))

-- ---- `catch` by its name

-- the call of what a slot holds, as the goal of a `catch`
slot-strictly : (v : View) (preds : List PredTree) (d i : ℕ) (t : Tree) (e : Places) (s : State) → held e i ≡ Some t →
    let given : Builtins = whole v built_later preds in
    let m : Level = level_at given preds (suc d) in
    BelowBy Leaves (strictly (meaning given (call_of_slot i)) (point (level_at given preds d) e s))
    (then (call_goal m (called_below (setting v preds) m) t [] s) (λ r. (calls_at m).drained r))
unfolding tree_count strictly
slot-strictly v preds d i t e s h =
    let given : Builtins = whole v built_later preds in
    let l : Level = level_at given preds d in
    let m : Level = level_at given preds (suc d) in
    let one_term : Trees = tree t no_trees in
    let drain : Action = draining (λ q. one q) in
    let called : Trace State = first_called (setting v preds) l one_term s in
    let left : then (meaning given (call_of_slot i) (point l e s)) drain ≡ then called (λ r. one (point l e r)) =
    ap (λ u. then u drain) (call-ran v preds d (var i ∷ []) one_term e s refl (all-filled-again e (tree (var i) no_trees) one_term (one_more (in_slot i t h) none) s))
    ∙ (then-assoc called (λ r. one (point l e r)) drain
    ∙ then-same called (λ r. then (one (point l e r)) drain) (λ r. one (point l e r))
    (λ r. one-goes_on drain (point l e r) ∙ draining-goes_on given preds l (calls-are given preds d) (λ q. one q) e r)) in
    let right : then (call_goal m (called_below (setting v preds) m) t [] s) (λ r. (calls_at m).drained r) ≡ first_called (setting v preds) m one_term s =
    then-same (call_goal m (called_below (setting v preds) m) t [] s) (λ r. (calls_at m).drained r) (λ r. one r) (λ r. drains-at given preds m (calls-are given preds (suc d)) r)
    ∙ (then-one (call_goal m (called_below (setting v preds) m) t [] s) ∙ goal-called v preds (suc d) t s) in
    subst (λ u. BelowBy Leaves u (then (call_goal m (called_below (setting v preds) m) t [] s) (λ r. (calls_at m).drained r))) (sym left)
    (subst (λ u. BelowBy Leaves (then called (λ r. one (point l e r))) u) (sym right)
    (states-left l e called (first_called (setting v preds) m one_term s) (less-called v preds d one_term s)))

handled-left : (s : State) (ball : Tree) (f : State → Trace Point) (g : State → Trace State) → ((r : State) → BelowBy Leaves (f r) (g r)) → (o : Option State) →
    BelowBy Leaves (handled_in s ball f o) (handled_in s ball g o)
handled-left s ball f g each None = end_by (Raise ball)
handled-left s ball f g each (Some r) = by-then_same Leaves (settled s r) (settled s r) f g (below-refl (settled s r)) each

-- the catch of three terms, behind its Tick
catch-ran : (v : View) (preds : List PredTree) (d : ℕ) (g ball h : Tree) (s : State) →
    let given : Builtins = whole v built_later preds in
    let m : Level = level_at given preds (suc d) in
    let ts : Trees = tree g (tree ball (tree h no_trees)) in
    BelowBy Leaves (meaning given (catch (call_of_slot 0) (var 1) (call_of_slot 2)) (point (level_at given preds d) (in_places ts) s))
    (catch_called m (called_below (setting v preds) m) ts s)
unfolding meaning catching in_places
catch-ran v preds d g ball h s =
    let given : Builtins = whole v built_later preds in
    let l : Level = level_at given preds d in
    let m : Level = level_at given preds (suc d) in
    let e : Places = in_places (tree g (tree ball (tree h no_trees))) in
    let act : Action = meaning given (call_of_slot 0) in
    let handler : State → Trace Point = λ r. meaning given (call_of_slot 2) (point l e r) in
    let handler_called : State → Trace State = λ r. call_goal m (called_below (setting v preds) m) h [] r in
    subst (λ t. BelowBy Leaves t (catch_called m (called_below (setting v preds) m) (tree g (tree ball (tree h no_trees))) s))
    (sym (draining-goes_on given preds l (calls-are given preds d) (catching act (var 1) (meaning given (call_of_slot 2))) e s
    ∙ ap (λ (x : Evaluated). caught (strictly act (point l x.slots x.state)) (handling x.state x.tree (λ r. meaning given (call_of_slot 2) (point l x.slots r))))
    (filled-again e (var 1) ball (in_slot 1 ball refl) s)))
    (by-caught Leaves (strictly act (point l e s)) (then (call_goal m (called_below (setting v preds) m) g [] s) (λ r. (calls_at m).drained r))
    (handling s ball handler) (handling s ball handler_called) (slot-strictly v preds d 0 g e s refl)
    (λ raised. handled-left s raised handler handler_called (λ r. slot-called v preds d 2 h e r refl)
    (unified (with_new_variables (new_variables raised) s) ball (copy (next s) raised))))

-- ---- what a name does that `call` led to

abbrev pub called_name : View → List PredTree → ℕ → List ℕ → Trees → State → Trace State
called_name v preds d name ts s =
    let l : Level = level_at (whole v built_later preds) preds d in name_called (setting v preds) l (called_below (setting v preds) l) name ts s

abbrev pub Runs : View → List PredTree → ℕ → GoalTree → List ℕ → Trees → State → Type 0
Runs v preds d g name ts s =
    let given : Builtins = whole v built_later preds in
    BelowBy Leaves (meaning given g (point (level_at given preds d) (in_places ts) s)) (called_name v preds d name ts s)

second-of : {X : Type 0} (a b : Bool) (x y z : X) → a ≡ false → b ≡ true → cond a x (cond b y z) ≡ y
second-of a b x y z h i = ap (λ c. cond c x (cond b y z)) h ∙ ap (λ c. cond c y z) i

pub third-of : {X : Type 0} (a b : Bool) (x y z : X) → a ≡ false → b ≡ false → cond a x (cond b y z) ≡ z
third-of a b x y z h i = ap (λ c. cond c x (cond b y z)) h ∙ ap (λ c. cond c y z) i

call-again : (v : View) (preds : List PredTree) (d : ℕ) (name : List ℕ) (ts : Trees) (s : State) → is_catch name (tree_count ts) ≡ false → is_call name (tree_count ts) ≡ true →
    called_name v preds d name ts s ≡ note Tick (first_called (setting v preds) (level_at (whole v built_later preds) preds d) ts s)
call-again v preds d name ts s other is =
    let l : Level = level_at (whole v built_later preds) preds d in
    second-of (is_catch name (tree_count ts)) (is_call name (tree_count ts)) (note Tick (catch_called l (called_below (setting v preds) l) ts s))
    (note Tick (again_called l (called_below (setting v preds) l) ts s)) (known_called (setting v preds) l name ts s) other is
    ∙ ap (note Tick) (again-first v preds d ts s)

runs-call : (v : View) (preds : List PredTree) (d : ℕ) (name : List ℕ) (ts : Trees) (s : State) → is_catch name (tree_count ts) ≡ false → is_call name (tree_count ts) ≡ true →
    Runs v preds d (call_of_slots (tree_count ts)) name ts s
runs-call v preds zero name ts s other is =
    subst (λ t. BelowBy Leaves t (called_name v preds zero name ts s)) (sym (tick-lowest v preds (call (codes "call") (slots_from 0 (tree_count ts))) (in_places ts) s))
    (deeper_by (called_name v preds zero name ts s))
runs-call v preds (suc d) name ts s other is =
    let given : Builtins = whole v built_later preds in
    let l : Level = level_at given preds d in
    let slots : List Tree = slots_from 0 (tree_count ts) in
    let is_so : is_call (codes "call") (tree_count ts) ≡ true = sym (ap (λ n. is_call n (tree_count ts)) (call-name name (tree_count ts) is)) ∙ is in
    subst (λ t. BelowBy Leaves t (called_name v preds (suc d) name ts s))
    (sym (tick-over v preds d (call (codes "call") slots) (in_places ts) s ∙ ap (note Tick) (call-ran v preds d slots ts (in_places ts) s is_so (arguments-held ts s))))
    (subst (λ t. BelowBy Leaves (note Tick (then (first_called (setting v preds) l ts s) (λ r. one (point l (in_places ts) r)))) t) (sym (call-again v preds (suc d) name ts s other is))
    (note_by Tick (states-left l (in_places ts) (first_called (setting v preds) l ts s) (first_called (setting v preds) (level_at given preds (suc d)) ts s) (less-called v preds d ts s))))

catch-again : (v : View) (preds : List PredTree) (d : ℕ) (name : List ℕ) (ts : Trees) (s : State) → is_catch name (tree_count ts) ≡ true →
    let l : Level = level_at (whole v built_later preds) preds d in
    called_name v preds d name ts s ≡ note Tick (catch_called l (called_below (setting v preds) l) ts s)
catch-again v preds d name ts s is =
    let l : Level = level_at (whole v built_later preds) preds d in
    ap (λ b. cond b (note Tick (catch_called l (called_below (setting v preds) l) ts s))
    (cond (is_call name (tree_count ts)) (note Tick (again_called l (called_below (setting v preds) l) ts s)) (known_called (setting v preds) l name ts s))) is

-- three terms, as many as `catch` has
is-three : (name : List ℕ) (k : ℕ) → is_catch name k ≡ true → k ≡ 3
is-three name k is = eqb-true k 3 (and_parts (k == 3) (bytes_eq name (codes "catch")) is).0

runs-three : (v : View) (preds : List PredTree) (d : ℕ) (name : List ℕ) (ts : Trees) (s : State) → tree_count ts ≡ 3 → is_catch name (tree_count ts) ≡ true →
    Runs v preds (suc d) catch_of_slots name ts s
unfolding tree_count
runs-three v preds d name (tree g (tree ball (tree h no_trees))) s many is =
    let ts : Trees = tree g (tree ball (tree h no_trees)) in
    subst (λ t. BelowBy Leaves t (called_name v preds (suc d) name ts s)) (sym (tick-over v preds d (catch (call_of_slot 0) (var 1) (call_of_slot 2)) (in_places ts) s))
    (subst (λ t. BelowBy Leaves (note Tick (meaning (whole v built_later preds) (catch (call_of_slot 0) (var 1) (call_of_slot 2)) (point (level_at (whole v built_later preds) preds d) (in_places ts) s))) t)
    (sym (catch-again v preds (suc d) name ts s is)) (note_by Tick (catch-ran v preds d g ball h s)))
runs-three v preds d name no_trees s many is = absurd cc
runs-three v preds d name (tree g no_trees) s many is = absurd cc
runs-three v preds d name (tree g (tree ball no_trees)) s many is = absurd cc
runs-three v preds d name (tree g (tree ball (tree h (tree t ts)))) s many is = absurd cc

runs-catch : (v : View) (preds : List PredTree) (d : ℕ) (name : List ℕ) (ts : Trees) (s : State) → is_catch name (tree_count ts) ≡ true → Runs v preds d catch_of_slots name ts s
runs-catch v preds zero name ts s is =
    subst (λ t. BelowBy Leaves t (called_name v preds zero name ts s)) (sym (tick-lowest v preds (catch (call_of_slot 0) (var 1) (call_of_slot 2)) (in_places ts) s))
    (deeper_by (called_name v preds zero name ts s))
runs-catch v preds (suc d) name ts s is = runs-three v preds d name ts s (is-three name (tree_count ts) is) is

-- any other name, that isn't a planner call's
known-there : (table posts labels later own : Bool) → (posts ≡ true → later ≡ true) → (labels ≡ true → later ≡ true) → (((table || posts) || labels) || own) ≡ true →
    (table || (later || own)) ≡ true
known-there true posts labels later own f g h = refl
known-there false posts labels true own f g h = refl
known-there false true labels false own f g h = let e : false ≡ true = f refl in absurd cc
known-there false false true false own f g h = let e : false ≡ true = g refl in absurd cc
known-there false false false false own f g h = h

pub name-known : (v : View) (preds : List PredTree) (d : ℕ) (name : List ℕ) (ts : Trees) (s : State) → is_catch name (tree_count ts) ≡ false → is_call name (tree_count ts) ≡ false →
    called_name v preds d name ts s ≡ known_called (setting v preds) (level_at (whole v built_later preds) preds d) name ts s
name-known v preds d name ts s no_catch no_call =
    let l : Level = level_at (whole v built_later preds) preds d in
    third-of (is_catch name (tree_count ts)) (is_call name (tree_count ts)) (note Tick (catch_called l (called_below (setting v preds) l) ts s))
    (note Tick (again_called l (called_below (setting v preds) l) ts s)) (known_called (setting v preds) l name ts s) no_catch no_call

pub not-planner : (v : View) (preds : List PredTree) (l : Level) (name : List ℕ) (ts : Trees) (s : State) → is_planner name (tree_count ts) ≡ false → (known : Bool) →
    is_known (setting v preds) name (tree_count ts) ≡ known →
    known_called (setting v preds) l name ts s ≡ cond known (predicate_called (setting v preds) l name ts s) (unknown_name name (tree_count ts))
not-planner v preds l name ts s other known is =
    ap (λ b. cond b (with_planner (setting v preds) (predicate_called (setting v preds) l name ts s))
    (cond (is_known (setting v preds) name (tree_count ts)) (predicate_called (setting v preds) l name ts s) (unknown_name name (tree_count ts)))) other
    ∙ ap (λ b. cond b (predicate_called (setting v preds) l name ts s) (unknown_name name (tree_count ts))) is

named-called : (v : View) (preds : List PredTree) (l : Level) (name : List ℕ) (ts : Trees) (s : State) → is_call name (tree_count ts) ≡ false →
    predicate_by (whole v built_later preds) l name ts s ≡ predicate_called (setting v preds) l name ts s
unfolding predicate_called
named-called v preds l name ts s other = ap (λ o. or_called o l name ts s) (not-call v preds l name ts s other)

runs-name : (v : View) (preds : List PredTree) (d : ℕ) (name : List ℕ) (ts : Trees) (s : State) → is_planner name (tree_count ts) ≡ false → is_catch name (tree_count ts) ≡ false →
    is_call name (tree_count ts) ≡ false → is_there preds name (tree_count ts) ≡ true → Runs v preds d (call name (slots_from 0 (tree_count ts))) name ts s
runs-name v preds d name ts s other no_catch no_call there =
    let given : Builtins = whole v built_later preds in
    let l : Level = level_at given preds d in
    let t : Trace State = predicate_called (setting v preds) l name ts s in
    let same : called_name v preds d name ts s ≡ t =
    name-known v preds d name ts s no_catch no_call
    ∙ not-planner v preds l name ts s other true (known-there (is_predicate name (tree_count ts)) (is_constraint_goal name (tree_count ts)) (is_solve name (tree_count ts)) (is_later_predicate name (tree_count ts)) (is_defined preds name (tree_count ts))
    (goal-later name (tree_count ts)) (solve-later name (tree_count ts)) there) in
    subst (λ u. BelowBy Leaves u (called_name v preds d name ts s))
    (sym (slot-ran v preds d name (slots_from 0 (tree_count ts)) ts (in_places ts) s (arguments-held ts s)
    ∙ ap (λ u. then u (λ r. one (point l (in_places ts) r))) (named-called v preds l name ts s no_call)))
    (subst (λ u. BelowBy Leaves (then t (λ r. one (point l (in_places ts) r))) u) (sym same) (states-left l (in_places ts) t t (below-refl t)))

pub runs-named : (v : View) (preds : List PredTree) (d : ℕ) (name : List ℕ) (ts : Trees) (s : State) (g : GoalTree) → is_planner name (tree_count ts) ≡ false →
    NamedBy preds name (tree_count ts) g → Runs v preds d g name ts s
runs-named v preds d name ts s _ other (by_catch is) = runs-catch v preds d name ts s is
runs-named v preds d name ts s _ other (by_call no_catch is) = runs-call v preds d name ts s no_catch is
runs-named v preds d name ts s _ other (by_name no_catch no_call there) = runs-name v preds d name ts s other no_catch no_call there
