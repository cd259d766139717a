-- What the steps of the machine owe: the configuration that a run stands for makes the step of the machine as data.
use Rattle.std.specs.Prelude.{◌≡◌, ℕ, zero, Option, Some, None, List, slice_get, ⊤, ◌<◌, ◌≤◌, nat_lt, cond, codes}
use Rattle.pi_terms.specs.Places.{Places}
use Rattle.pi_core.specs.GoalTree.{GoalTree, GoalTrees, no_goals, goal, catch}
use Rattle.pi_terms.specs.Tree.{Tree, atom, comp, no_trees, tree, cells, most_cells}
use Rattle.pi_terms.specs.Copy.{copy}
use Rattle.pi_constraints.specs.Evaluation.{evaluated}
use Rattle.pi_meaning.specs.Shared.View.{View}
use Rattle.pi_core.specs.CoreTree.{PredTree}
use Rattle.pi_core.specs.declared.core_program.NameSlot.{NameSlot}
use Rattle.pi_engine_arenas.specs.declared.frames.Point.{Point}
use Rattle.pi_engine_code.specs.declared.code.Step.{Step}
use Rattle.pi_engine_code.specs.declared.code.Node.{Node}
use Rattle.pi_engine_arenas.specs.declared.arenas.Kind.{Kind}
use Rattle.pi_engine_arenas.specs.declared.arenas.Strict.{Strict}
use Rattle.pi_engine_arenas.specs.declared.arenas.Search.{Search}
use Rattle.pi_engine_arenas.specs.declared.run.Now.{Now}
use Rattle.pi_meaning.specs.Machine.Configuration.{Frame, Entry, Config, config, going, catch_level, behind}
use Rattle.pi_meaning.specs.Machine.Step.{Outcome, silently, with_tick, quietly, writing, answering, ending, goal_step, step, inside, back_to, deeper, with_rest, loading}
use Rattle.pi_meaning.specs.Machine.Shape.{IsBalanced}
use Rattle.pi_meaning.specs.declared.happening.Mode.{Mode}
use Rattle.pi_engine_stands.specs.Stands.{World, steps_of, Stands, StandsGoing}
use Rattle.pi_engine_stands.specs.Views.{Fits}
use Rattle.pi_engine_stands.specs.Changes.{Change}

-- a run stands for what a step comes to, where that is a configuration
abbrev pub StandsAfter : {M : Type 0} → World M → Now → Outcome → Type 0
StandsAfter w now (silently c) = Stands w now c
StandsAfter w now (with_tick c) = Stands w now c
StandsAfter w now (quietly c) = Stands w now c
StandsAfter w now (deeper c) = Stands w now c
StandsAfter w now (loading n c) = ⊥
StandsAfter w now (writing text c) = ⊥
StandsAfter w now (answering x c) = ⊥
StandsAfter w now (ending e) = ⊥

-- A step of a run: the first goal at a point, which has this step, is run, whatever is left
-- behind the goal and on the stack.
abbrev pub RunsGoal : {M : Type 0} → Point → Step → Change M → Type 0
RunsGoal p s made =
    (view : View) (g : GoalTree) (gs : GoalTrees) (e : Places) (k : List Frame) (es : List Entry) →
    slice_get (steps_of made.before.loaded) p.place ≡ Some s → StandsGoing made.before p (goal g gs) e k es →
    StandsAfter made.after made.now (goal_step view made.before.loaded.preds g e made.before.store.now.state (with_rest gs k es))

-- the same under the views that fit a kind of machine: what a body of a planner call may not write it raises
abbrev pub RunsGoalIn : {M : Type 0} → Mode → Point → Step → Change M → Type 0
RunsGoalIn mode p s made =
    (view : View) → Fits mode view → (g : GoalTree) (gs : GoalTrees) (e : Places) (k : List Frame) (es : List Entry) →
    slice_get (steps_of made.before.loaded) p.place ≡ Some s → StandsGoing made.before p (goal g gs) e k es →
    StandsAfter made.after made.now (goal_step view made.before.loaded.preds g e made.before.store.now.state (with_rest gs k es))

-- the entry by which a goal with this node at a place is entered, where so many values are collected
abbrev pub level_kind : ℕ → ℕ → Node → Option Kind
level_kind place collected Node.If = Some (Kind.Strict (Strict.If place))
level_kind place collected Node.Not = Some (Kind.Strict (Strict.Not place))
level_kind place collected Node.Once = Some (Kind.Strict (Strict.Once place))
level_kind place collected (Node.Collect value into) = Some (Kind.Strict (Strict.Collect place collected))
level_kind place collected (Node.Count into) = Some (Kind.Strict (Strict.Count place 0))
level_kind place collected node = None

-- steps that are silent, or none
pub data SilentlyTo (view : View) (preds : List PredTree) (names : List NameSlot) : Config → Config → Type 0 where
  already : {c : Config} → SilentlyTo view preds names c c
  one_more : {c d e : Config} → step view preds names c ≡ silently d → SilentlyTo view preds names d e → SilentlyTo view preds names c e

-- goals are done and no frame is left, and the newest open level has an answer
abbrev pub AnswersLevel : {M : Type 0} → Change M → Type 0
AnswersLevel made =
    (view : View) (names : List NameSlot) (p : Point) (e : Places) (k : List Frame) (es : List Entry) →
    StandsGoing made.before p no_goals e k es → p.count ≡ 0 → p.frame ≡ 0 → IsBalanced zero es →
    (c : Config) × SilentlyTo view made.before.loaded.preds names (config (going no_goals e made.before.store.now.state k) es) c × Stands made.after made.now c

-- the same where there is an open level
abbrev pub AnswersOpen : {M : Type 0} → Change M → Type 0
AnswersOpen made = 0 < made.before.arenas.level → AnswersLevel made

-- the entries of levels at a place
abbrev pub once_at : ℕ → Kind
once_at place = Kind.Strict (Strict.Once place)

abbrev pub not_at : ℕ → Kind
not_at place = Kind.Strict (Strict.Not place)

abbrev pub if_at : ℕ → Kind
if_at place = Kind.Strict (Strict.If place)

abbrev pub guard_at : ℕ → ℕ → Kind
guard_at predicate rule = Kind.Strict (Strict.Guard predicate rule)

abbrev pub apply_at : ℕ → ℕ → Kind
apply_at place caller = Kind.Strict (Strict.Apply place caller)

abbrev pub count_at : ℕ → ℕ → Kind
count_at place n = Kind.Strict (Strict.Count place n)

abbrev pub search_at : Search → Kind
search_at site = Kind.Strict (Strict.Search site)

abbrev pub collect_at : ℕ → ℕ → Kind
collect_at place first = Kind.Strict (Strict.Collect place first)

-- entries that are passed over where there is no further answer: of a `once`, of a `catch`, and of an exit
abbrev pub IsPassed : Kind → Type 0
IsPassed (Kind.Strict (Strict.Once place)) = ⊤
IsPassed (Kind.Catch place) = ⊤
IsPassed Kind.Exit = ⊤
IsPassed kind = ⊥

-- what is raised for a term with this value: a copy of it, where it isn't too large
abbrev pub raised_for : Tree → Tree
raised_for u = cond (nat_lt most_cells (cells u)) (atom (codes "term_too_large")) (copy 0 u)

-- what is raised for a call with this value that has none: it says the call, where that isn't too large
abbrev pub unresolved_for : Tree → Tree
unresolved_for u = cond (nat_lt most_cells (cells u)) (atom (codes "term_too_large")) (comp (codes "unresolved_function_call") (tree (copy 0 u) no_trees))

-- a term with this value, as it is written down, or none where it is too large
abbrev pub IsRead : Tree → Option Tree → Type 0
IsRead u (Some x) = (x ≡ u) × (cells u ≤ most_cells)
IsRead u None = most_cells < cells u

-- a copy of a term with this value, or none where it is too large
abbrev pub IsCopied : Tree → Option Tree → Type 0
IsCopied u (Some x) = (x ≡ copy 0 u) × (cells u ≤ most_cells)
IsCopied u None = most_cells < cells u

-- The same of a `catch` whose term was evaluated before, so that the slots hold what it needs: its level is entered.
abbrev pub EntersCatch : {M : Type 0} → Point → Step → Change M → Type 0
EntersCatch p s made =
    (g h : GoalTree) (ball : Tree) (gs : GoalTrees) (e : Places) (k : List Frame) (es : List Entry) →
    slice_get (steps_of made.before.loaded) p.place ≡ Some s → StandsGoing made.before p (goal (catch g ball h) gs) e k es →
    evaluated ball e made.before.store.now.state ≡ record { tree = (evaluated ball e made.before.store.now.state).tree; slots = e; state = made.before.store.now.state } →
    Stands made.after made.now (inside g e made.before.store.now.state (catch_level (evaluated ball e made.before.store.now.state).tree h (back_to e made.before.store.now.state (behind gs k))) es)

-- goals are done, and what runs next is silent steps further
abbrev pub GoesFrom : {M : Type 0} → Point → Change M → Type 0
GoesFrom p made =
    (view : View) (names : List NameSlot) (e : Places) (k : List Frame) (es : List Entry) → StandsGoing made.before p no_goals e k es →
    (c : Config) × SilentlyTo view made.before.loaded.preds names (config (going no_goals e made.before.store.now.state k) es) c × Stands made.after made.now c
