-- Lemmas on steps: `call` leads one down, to an exception or to the goal by a name.
use Rattle.std.proofs.Common.{◌≡◌, ℕ, suc, ◌||◌, Bool, true, false, cond, List, refl, ap, sym, subst, ◌∙◌}
use Rattle.std.specs.Prelude.{Option, Some, None, codes, option_map, unwrap_or}
use Rattle.pi_terms.specs.Tree.{Tree, Trees, no_trees, tree, trees_of, tree_count}
use Rattle.pi_terms.specs.Places.{Places}
use Rattle.pi_constraints.specs.State.{State, bindings, followed}
use Rattle.pi_constraints.specs.Evaluation.{EvaluatedAll, evaluated_all}
use Rattle.pi_core.specs.GoalTree.{GoalTree, call, GoalTrees, no_goals, goal}
use Rattle.pi_core.specs.CoreTree.{PredTree}
use Rattle.pi_core.specs.declared.core_program.NameSlot.{NameSlot}
use Rattle.pi_effects.specs.BuiltIns.{is_predicate}
use Rattle.pi_effects.specs.Exception.{type_error}
use Rattle.pi_effects.specs.Items.{each_tree}
use Rattle.pi_traces.specs.Trace.{Trace, end, Done, Raise, then}
use Rattle.pi_traces.specs.Related.{end_by}
use Rattle.pi_traces.proofs.RelatedLemmas.{by-then}
use Rattle.pi_meaning.specs.Shared.View.{View}
use Rattle.pi_meaning.specs.Shared.Level.{Level, lowest, over, LevelBelow, Point, PointBelow, same_but_level, or_called}
use Rattle.pi_meaning.specs.Shared.Effects.{is_effect_name, is_built_name}
use Rattle.pi_settling.specs.SolveCalls.{is_solve}
use Rattle.pi_meaning.specs.Shared.Names.{is_later_predicate, is_planner, is_call}
use Rattle.pi_meaning.specs.CoreMeaning.Builtins.{Builtins, BuiltinsOnlyAdd}
use Rattle.pi_meaning.specs.Shared.Given.{Setting}
use Rattle.pi_meaning.specs.CoreMeaning.Meaning.{meaning}
use Rattle.pi_meaning.specs.CoreMeaning.Rules.{quiet_level, level_at}
use Rattle.pi_meaning.specs.Shared.Calls.{Called as Named, called_by, unknown_name, with_planner, predicate_called, is_known, known_called, term_called, called_at_level, called_below, first_called}
use Rattle.pi_meaning.specs.CoreMeaning.Instances.{built_later, whole}
use Rattle.pi_meaning.proofs.Shared.CallLemmas.{built-later-adds, whole-adds}
use Rattle.pi_meaning.proofs.Shared.KnownLemmas.{planner-later}
use Rattle.pi_meaning.proofs.CoreMeaning.RuleLemmas.{level-below}
use Rattle.pi_meaning.specs.Machine.NamedGoals.{goal_by_name}
use Rattle.pi_meaning.proofs.Shared.EffectNames.{no-effect, no-predicate}
use Rattle.pi_meaning.proofs.Machine.SolveNames.{no-solve, planner-no_built}
use Rattle.pi_meaning.specs.Shared.Solve.{solve_trace}
use Rattle.pi_settling.specs.Asked.{Asked}
use Rattle.pi_meaning.proofs.Shared.NamesApart.{planner-others}
use Rattle.pi_meaning.proofs.Machine.NamedLemmas.{is_there, IsUnnamed, named-by, unnamed}
use Rattle.pi_meaning.specs.Machine.Configuration.{Frame, Entry, Now, going, raising, config, behind, returning, in_places}
use Rattle.pi_meaning.specs.Machine.Remaining.{point, continued, run_from, now_trace, remaining_at}
use Rattle.pi_meaning.specs.Machine.Step.{deeper, unknown_ball, is_defined, unknown_by, named_now, term_now, first_now}
use Rattle.pi_meaning.specs.Machine.Laws.{Comes}
use Rattle.pi_meaning.proofs.Machine.RunLemmas.{returning-continued, goal-alone}
use Rattle.pi_meaning.proofs.Machine.HigherLemmas.{Under, continued-under}
use Rattle.pi_meaning.proofs.Machine.CallSteps.{quiet-leads, name-ran}
use Rattle.pi_meaning.proofs.Machine.NamesGiven.{setting, does-call, later-given}
use Rattle.pi_meaning.proofs.Machine.NamedRuns.{Leaves, called_name, Runs, name-known, not-planner, runs-named}

-- ---- names that nothing is found for

neither-there : (a c : Bool) → (a || c) ≡ false → (a ≡ false) × (c ≡ false)
neither-there true c h = absurd cc
neither-there false c h = (refl, h)

-- what isn't built of later stages isn't there
later-unknown : (v : View) (preds : List PredTree) (l : Level) (name : List ℕ) (ts : Trees) (s : State) → is_built_name name (tree_count ts) ≡ false →
    is_later_predicate name (tree_count ts) ≡ true → predicate_called (setting v preds) l name ts s ≡ unknown_name name (tree_count ts)
unfolding predicate_called
later-unknown v preds l name ts s none later =
    let k : ℕ = tree_count ts in
    let others : (is_effect_name name k ≡ false) × (is_solve name k ≡ false) = neither-there (is_effect_name name k) (is_solve name k) none in
    ap (λ o. or_called o l name ts s) (later-given v preds l name ts s (no-effect name ts s others.0) later)
    ∙ ap (λ (a : Option Asked). unwrap_or (option_map (solve_trace l s) a) (unknown_name name k)) (no-solve name ts s others.1)

raised-by : (final action : Bool) (x y z : Tree) → cond {A = Trace State} final (cond action (end (Raise x)) (end (Raise y))) (end (Raise z)) ≡ end (Raise (cond final (cond action x y) z))
raised-by true true x y z = refl
raised-by true false x y z = refl
raised-by false action x y z = refl

planner-unknown : (v : View) (preds : List PredTree) (d : ℕ) (name : List ℕ) (ts : Trees) (s : State) → is_planner name (tree_count ts) ≡ true →
    called_name v preds d name ts s ≡ end (Raise (unknown_by preds name (tree_count ts)))
unfolding unknown_by
planner-unknown v preds d name ts s is =
    let l : Level = level_at (whole v built_later preds) preds d in
    let set : Setting = setting v preds in
    let k : ℕ = tree_count ts in
    let t : Trace State = predicate_called set l name ts s in
    let final : Bool = is_defined preds (codes "final") 1 in
    let action : Bool = is_defined preds (codes "action") 4 in
    name-known v preds d name ts s (planner-others name k is).0 (planner-others name k is).1
    ∙ (ap (λ b. cond b (with_planner set t) (cond (is_known set name k) t (unknown_name name k))) is
    ∙ (ap (with_planner set) (later-unknown v preds l name ts s (planner-no_built name k is) (planner-later name k is))
    ∙ (raised-by final action (unknown_ball name k) (unknown_ball (codes "action") 4) (unknown_ball (codes "final") 1)
    ∙ ap (λ b. end (Raise (cond b (cond final (cond action (unknown_ball name k) (unknown_ball (codes "action") 4)) (unknown_ball (codes "final") 1)) (unknown_ball name k)))) (sym is))))

known-later : (a b c : Bool) → b ≡ true → (a || (b || c)) ≡ true
known-later true b c h = refl
known-later false true c h = refl
known-later false false c h = absurd cc

known-none : (a b c : Bool) → a ≡ false → b ≡ false → c ≡ false → (a || (b || c)) ≡ false
known-none false false false h i j = refl
known-none true b c h i j = absurd cc
known-none false true c h i j = absurd cc
known-none false false true h i j = absurd cc

unknown-known : (v : View) (preds : List PredTree) (l : Level) (name : List ℕ) (ts : Trees) (s : State) → is_planner name (tree_count ts) ≡ false → is_there preds name (tree_count ts) ≡ false →
    (later : Bool) → is_later_predicate name (tree_count ts) ≡ later → known_called (setting v preds) l name ts s ≡ unknown_name name (tree_count ts)
unknown-known v preds l name ts s other not_there true is =
    let k : ℕ = tree_count ts in
    not-planner v preds l name ts s other true (known-later (is_predicate name k) (is_later_predicate name k) (is_defined preds name k) is)
    ∙ later-unknown v preds l name ts s (neither-there (is_built_name name k) (is_defined preds name k) not_there).0 is
unknown-known v preds l name ts s other not_there false is =
    let k : ℕ = tree_count ts in
    let none : (is_built_name name k ≡ false) × (is_defined preds name k ≡ false) = neither-there (is_built_name name k) (is_defined preds name k) not_there in
    not-planner v preds l name ts s other false (known-none (is_predicate name k) (is_later_predicate name k) (is_defined preds name k) (no-predicate name k (neither-there (is_effect_name name k) (is_solve name k) none.0).0) is none.1)

unnamed-unknown : (v : View) (preds : List PredTree) (d : ℕ) (name : List ℕ) (ts : Trees) (s : State) → is_planner name (tree_count ts) ≡ false → IsUnnamed preds name (tree_count ts) →
    called_name v preds d name ts s ≡ end (Raise (unknown_by preds name (tree_count ts)))
unfolding unknown_by
unnamed-unknown v preds d name ts s other none =
    let k : ℕ = tree_count ts in
    name-known v preds d name ts s none.no_catch none.no_call
    ∙ (unknown-known v preds (level_at (whole v built_later preds) preds d) name ts s other none.not_there (is_later_predicate name k) refl
    ∙ ap (λ b. end (Raise (cond b (cond (is_defined preds (codes "final") 1) (cond (is_defined preds (codes "action") 4) (unknown_ball name k) (unknown_ball (codes "action") 4)) (unknown_ball (codes "final") 1))
    (unknown_ball name k)))) (sym other))

-- ---- what `call` leads to, and what is behind it

-- what is behind the call of a term, in the caller's slots
abbrev behind_call : View → List PredTree → ℕ → Places → List Frame → State → Trace Point
behind_call v preds d e k r = let m : Level = level_at (whole v built_later preds) preds d in continued (whole v built_later preds) m k (point m e r)

-- the configuration to which `call` leads does the same and maybe less
abbrev LeadsTo : View → List PredTree → ℕ → Places → List Frame → Trace Point → Trace State → Type 0
LeadsTo v preds d e k t u = Under t (then u (behind_call v preds (suc d) e k))

raised-leads : (v : View) (preds : List PredTree) (d : ℕ) (e : Places) (k : List Frame) (ball : Tree) (u : Trace State) → u ≡ end (Raise ball) →
    LeadsTo v preds d e k (now_trace (whole v built_later preds) (level_at (whole v built_later preds) preds d) (raising ball)) u
unfolding now_trace then
raised-leads v preds d e k ball u is = subst (λ w. Under (end (Raise ball)) (then w (behind_call v preds (suc d) e k))) (sym is) (end_by (Raise ball))

named-leads : (v : View) (preds : List PredTree) (d : ℕ) (name : List ℕ) (ts : Trees) (s : State) (e : Places) (k : List Frame) (g : GoalTree) → Runs v preds d g name ts s →
    LeadsTo v preds d e k (run_from (whole v built_later preds) (level_at (whole v built_later preds) preds d) (goal g no_goals) (in_places ts) s (returning e k)) (called_name v preds d name ts s)
named-leads v preds d name ts s e k g runs =
    let given : Builtins = whole v built_later preds in
    let adds : BuiltinsOnlyAdd given = whole-adds v built_later preds built-later-adds in
    let l : Level = level_at given preds d in
    let m : Level = level_at given preds (suc d) in
    let h : LevelBelow l m = level-below given adds preds d in
    subst (λ t. Under t (then (called_name v preds d name ts s) (behind_call v preds (suc d) e k))) (sym (goal-alone given l g (in_places ts) s (returning e k)))
    (by-then Leaves PointBelow (meaning given g (point l (in_places ts) s)) (called_name v preds d name ts s) (continued given l (returning e k)) (behind_call v preds (suc d) e k) runs
    (λ p r left.
    subst (λ t. Under t (behind_call v preds (suc d) e k r)) (sym (returning-continued given l e k p ∙ ap (λ x. continued given l k (point l e x)) left))
    (continued-under given adds l m h k (point l e r) (point m e r) (same_but_level h e r))))

abbrev now_at : View → List PredTree → ℕ → Now → Trace Point
now_at v preds d now = now_trace (whole v built_later preds) (level_at (whole v built_later preds) preds d) now

name-leads : (v : View) (preds : List PredTree) (d : ℕ) (name : List ℕ) (ts : Trees) (s : State) (e : Places) (k : List Frame) → is_planner name (tree_count ts) ≡ false →
    (o : Option GoalTree) → goal_by_name preds name (tree_count ts) ≡ o →
    LeadsTo v preds d e k (now_at v preds d (named_now o (unknown_by preds name (tree_count ts)) ts s (returning e k))) (called_name v preds d name ts s)
unfolding now_trace
name-leads v preds d name ts s e k other None is =
    raised-leads v preds d e k (unknown_by preds name (tree_count ts)) (called_name v preds d name ts s) (unnamed-unknown v preds d name ts s other (unnamed preds name (tree_count ts) is))
name-leads v preds d name ts s e k other (Some g) is =
    named-leads v preds d name ts s e k g (runs-named v preds d name ts s g other (named-by preds name (tree_count ts) g is))

called-leads : (v : View) (preds : List PredTree) (d : ℕ) (name : List ℕ) (ts : Trees) (s : State) (e : Places) (k : List Frame) (planner : Bool) → is_planner name (tree_count ts) ≡ planner →
    LeadsTo v preds d e k (now_at v preds d (named_now (cond planner None (goal_by_name preds name (tree_count ts))) (unknown_by preds name (tree_count ts)) ts s (returning e k)))
    (called_name v preds d name ts s)
called-leads v preds d name ts s e k true is =
    raised-leads v preds d e k (unknown_by preds name (tree_count ts)) (called_name v preds d name ts s) (planner-unknown v preds d name ts s is)
called-leads v preds d name ts s e k false is = name-leads v preds d name ts s e k is (goal_by_name preds name (tree_count ts)) refl

term-leads : (v : View) (preds : List PredTree) (d : ℕ) (t : Tree) (s : State) (e : Places) (k : List Frame) (o : Option Named) →
    let l : Level = level_at (whole v built_later preds) preds d in
    LeadsTo v preds d e k (now_at v preds d (term_now preds t s (returning e k) o)) (term_called (setting v preds) l (called_below (setting v preds) l) t s o)
term-leads v preds d t s e k None = raised-leads v preds d e k (type_error (codes "callable") t s) (end (Raise (type_error (codes "callable") t s))) refl
term-leads v preds d t s e k (Some c) =
    subst (λ b. LeadsTo v preds d e k (now_at v preds d (named_now (cond b None (goal_by_name preds c.name (tree_count c.args))) (unknown_by preds c.name (tree_count c.args)) c.args s (returning e k)))
    (called_name v preds d c.name c.args s)) refl
    (called-leads v preds d c.name c.args s e k (is_planner c.name (tree_count c.args)) refl)

-- a term that is called at a level is called by what it names there
at-level : (set : Setting) (l : Level) (t : Tree) (more : List Tree) (s : State) →
    called_at_level set l t more s ≡ term_called set l (called_below set l) t s (called_by (followed (bindings s) t) more)
unfolding called_at_level
at-level set (lowest c) t more s = refl
at-level set (over c l) t more s = refl

-- the level of one depth more leads to that of a depth
called-one_down : (v : View) (preds : List PredTree) (d : ℕ) (t : Tree) (ts : Trees) (s : State) →
    let l : Level = level_at (whole v built_later preds) preds d in
    first_called (setting v preds) (level_at (whole v built_later preds) preds (suc d)) (tree t ts) s
    ≡ term_called (setting v preds) l (called_below (setting v preds) l) t s (called_by (followed (bindings s) t) (each_tree ts))
unfolding first_called level_at quiet_level
called-one_down v preds d t ts s = at-level (setting v preds) (level_at (whole v built_later preds) preds d) t (each_tree ts) s

first-leads : (v : View) (preds : List PredTree) (d : ℕ) (ts : Trees) (s : State) (e : Places) (k : List Frame) →
    LeadsTo v preds d e k (now_at v preds d (first_now preds ts s (returning e k))) (first_called (setting v preds) (level_at (whole v built_later preds) preds (suc d)) ts s)
unfolding first_now first_called now_trace then
first-leads v preds d no_trees s e k = end_by Done
first-leads v preds d (tree t ts) s e k =
    subst (λ u. LeadsTo v preds d e k (now_at v preds d (first_now preds (tree t ts) s (returning e k))) u) (sym (called-one_down v preds d t ts s))
    (term-leads v preds d t s e k (called_by (followed (bindings s) t) (each_tree ts)))

pub call-comes : (v : View) (preds : List PredTree) (names : List NameSlot) (name : List ℕ) (args : List Tree) (gs : GoalTrees) (e : Places) (s : State) (k : List Frame) (es : List Entry) →
    let all : EvaluatedAll = evaluated_all (trees_of args) e s in
    is_call name (tree_count all.trees) ≡ true →
    Comes v preds names (config (going (goal (call name args) gs) e s k) es) (deeper (config (first_now preds all.trees all.state (returning all.slots (behind gs k))) es))
unfolding remaining_at now_trace
call-comes v preds names name args gs e s k es is = λ d.
    let all : EvaluatedAll = evaluated_all (trees_of args) e s in
    let given : Builtins = whole v built_later preds in
    let adds : BuiltinsOnlyAdd given = whole-adds v built_later preds built-later-adds in
    let l : Level = level_at given preds d in
    let m : Level = level_at given preds (suc d) in
    let t : Trace Point = now_at v preds d (first_now preds all.trees all.state (returning all.slots (behind gs k))) in
    quiet-leads given adds l m (level-below given adds preds d) names es t (run_from given m (goal (call name args) gs) e s k)
    (subst (Under t)
    (sym (name-ran given preds (suc d) name args gs e s k
    ∙ ap (λ o. then (or_called o m name all.trees all.state) (behind_call v preds (suc d) all.slots (behind gs k))) (does-call v preds m name all.trees all.state is)))
    (first-leads v preds d all.trees all.state all.slots (behind gs k)))
