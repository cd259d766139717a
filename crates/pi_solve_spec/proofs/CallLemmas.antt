-- Calls by name do the same under each rest, but for `current_resource`.
use Rattle.std.specs.Prelude.{◌≡◌, ℕ, Bool, true, false, cond, List, Option, Some, None, option_map, refl}
use Rattle.std.specs.Option.{option_or}
use Rattle.pi_terms.specs.Tree.{Tree, Trees, no_trees, tree, tree_count}
use Rattle.pi_constraints.specs.State.{State, bindings, followed}
use Rattle.pi_effects.specs.Effect.{Effect, Succeeds, Fails, Writes, Raises}
use Rattle.pi_effects.specs.Items.{each_tree}
use Rattle.pi_effects.specs.BuiltIns.{built_in_predicate, built_in_function}
use Rattle.pi_traces.specs.Trace.{Trace, Call, end, note, Deep, Tick}
use Rattle.pi_core.specs.declared.log.LogEntry.{LogEntry}
use Rattle.pi_meaning.specs.Shared.Builtin.{settled_effect, function_trace}
use Rattle.pi_meaning.specs.Shared.Level.{Level, lowest, over, Applied, or_called, or_applied}
use Rattle.pi_meaning.specs.Shared.Within.{a_body, resource_left}
use Rattle.pi_meaning.specs.Shared.View.{body_view}
use Rattle.pi_meaning.specs.Shared.Names.{is_later_predicate, is_later_function, is_planner, is_resource, is_catch, is_call}
use Rattle.pi_meaning.specs.Shared.Given.{Later, Setting}
use Rattle.pi_meaning.specs.Shared.Calls.{predicate_given, predicate_called, function_given, function_called, Called, called_by, unknown_name, with_planner, is_known, catch_called, again_called, name_called, term_called, called_at_level, called_below, first_called}
use Rattle.pi_solve_spec.specs.Rest.{IgnoresRests}

-- a setting with a rest
abbrev pub resting : List LogEntry → List Call → Later → (List ℕ → ℕ → Bool) → ℕ → Setting
resting log waiting later defines r = record { view = body_view log waiting r; later = later; defines = defines }

-- ---- predicates

effect-alike : (log : List LogEntry) (waiting : List Call) (q r : ℕ) (s : State) (e : Effect) → settled_effect (body_view log waiting q) s e ≡ settled_effect (body_view log waiting r) s e
effect-alike log waiting q r s (Succeeds t) = refl
effect-alike log waiting q r s Fails = refl
effect-alike log waiting q r s (Writes text t) = refl
effect-alike log waiting q r s (Raises ball) = refl

pub given-alike : (log : List LogEntry) (waiting : List Call) (later : Later) (defines : List ℕ → ℕ → Bool) → IgnoresRests later → (q r : ℕ) (l : Level) (name : List ℕ) (ts : Trees) (s : State) →
    predicate_given (resting log waiting later defines q) l name ts s ≡ predicate_given (resting log waiting later defines r) l name ts s
unfolding predicate_given
given-alike log waiting later defines ignores q r l name ts s =
    λ i. option_or (option_map (λ e. effect-alike log waiting q r s e i) (built_in_predicate name ts s))
    (cond (is_later_predicate name (tree_count ts)) (Some (ignores log waiting q r l name ts s i)) None)

pub called-alike : (log : List LogEntry) (waiting : List Call) (later : Later) (defines : List ℕ → ℕ → Bool) → IgnoresRests later → (q r : ℕ) (l : Level) (name : List ℕ) (ts : Trees) (s : State) →
    predicate_called (resting log waiting later defines q) l name ts s ≡ predicate_called (resting log waiting later defines r) l name ts s
unfolding predicate_called
called-alike log waiting later defines ignores q r l name ts s = λ i. or_called (given-alike log waiting later defines ignores q r l name ts s i) l name ts s

-- ---- functions

-- where it isn't `current_resource`, what is left is not asked for
other-function : (q r : ℕ) (s : State) (o : Option (Trace Applied)) (b : Bool) → b ≡ false → cond b (Some (resource_left (a_body q) s)) o ≡ cond b (Some (resource_left (a_body r) s)) o
other-function q r s o true e = absurd cc
other-function q r s o false e = refl

pub function-given-alike : (log : List LogEntry) (waiting : List Call) (later : Later) (defines : List ℕ → ℕ → Bool) (q r : ℕ) (name : List ℕ) (ts : Trees) (s : State) → is_resource name (tree_count ts) ≡ false →
    function_given (resting log waiting later defines q) name ts s ≡ function_given (resting log waiting later defines r) name ts s
unfolding function_given
function-given-alike log waiting later defines q r name ts s other =
    λ i. option_or (option_map function_trace (built_in_function name ts s))
    (other-function q r s (cond (is_later_function name (tree_count ts)) (Some (later.function name ts s)) None) (is_resource name (tree_count ts)) other i)

pub function-alike : (log : List LogEntry) (waiting : List Call) (later : Later) (defines : List ℕ → ℕ → Bool) (q r : ℕ) (l : Level) (name : List ℕ) (ts : Trees) (s : State) → is_resource name (tree_count ts) ≡ false →
    function_called (resting log waiting later defines q) l name ts s ≡ function_called (resting log waiting later defines r) l name ts s
unfolding function_called
function-alike log waiting later defines q r l name ts s other = λ i. or_applied (function-given-alike log waiting later defines q r name ts s other i) l name ts s

-- ---- `call`

-- what `call` does one level down
abbrev Deeper : Type 0
Deeper = Tree → List Tree → State → Trace State

name-alike : (log : List LogEntry) (waiting : List Call) (later : Later) (defines : List ℕ → ℕ → Bool) → IgnoresRests later → (q r : ℕ) (l : Level) (f g : Deeper) → f ≡ g → (name : List ℕ) (ts : Trees) (s : State) →
    name_called (resting log waiting later defines q) l f name ts s ≡ name_called (resting log waiting later defines r) l g name ts s
name-alike log waiting later defines ignores q r l f g same name ts s =
    λ i. cond (is_catch name (tree_count ts)) (note Tick (catch_called l (same i) ts s))
    (cond (is_call name (tree_count ts)) (note Tick (again_called l (same i) ts s))
    (cond (is_planner name (tree_count ts)) (with_planner (resting log waiting later defines q) (called-alike log waiting later defines ignores q r l name ts s i))
    (cond (is_known (resting log waiting later defines q) name (tree_count ts)) (called-alike log waiting later defines ignores q r l name ts s i) (unknown_name name (tree_count ts)))))

term-alike : (log : List LogEntry) (waiting : List Call) (later : Later) (defines : List ℕ → ℕ → Bool) → IgnoresRests later → (q r : ℕ) (l : Level) (f g : Deeper) → f ≡ g → (t : Tree) (s : State) (o : Option Called) →
    term_called (resting log waiting later defines q) l f t s o ≡ term_called (resting log waiting later defines r) l g t s o
term-alike log waiting later defines ignores q r l f g same t s None = refl
term-alike log waiting later defines ignores q r l f g same t s (Some c) = name-alike log waiting later defines ignores q r l f g same c.name c.args s

at-level-alike : (log : List LogEntry) (waiting : List Call) (later : Later) (defines : List ℕ → ℕ → Bool) → IgnoresRests later → (q r : ℕ) (l : Level) (t : Tree) (more : List Tree) (s : State) →
    called_at_level (resting log waiting later defines q) l t more s ≡ called_at_level (resting log waiting later defines r) l t more s
unfolding called_at_level
at-level-alike log waiting later defines ignores q r (lowest c) t more s =
    term-alike log waiting later defines ignores q r (lowest c) (λ u us x. end Deep) (λ u us x. end Deep) refl t s (called_by (followed (bindings s) t) more)
at-level-alike log waiting later defines ignores q r (over c l) t more s =
    term-alike log waiting later defines ignores q r (over c l) (called_at_level (resting log waiting later defines q) l) (called_at_level (resting log waiting later defines r) l)
    (λ i u us x. at-level-alike log waiting later defines ignores q r l u us x i) t s (called_by (followed (bindings s) t) more)

below-alike : (log : List LogEntry) (waiting : List Call) (later : Later) (defines : List ℕ → ℕ → Bool) → IgnoresRests later → (q r : ℕ) (l : Level) (t : Tree) (more : List Tree) (s : State) →
    called_below (resting log waiting later defines q) l t more s ≡ called_below (resting log waiting later defines r) l t more s
below-alike log waiting later defines ignores q r (lowest c) t more s = refl
below-alike log waiting later defines ignores q r (over c l) t more s = at-level-alike log waiting later defines ignores q r l t more s

pub first-alike : (log : List LogEntry) (waiting : List Call) (later : Later) (defines : List ℕ → ℕ → Bool) → IgnoresRests later → (q r : ℕ) (l : Level) (ts : Trees) (s : State) →
    first_called (resting log waiting later defines q) l ts s ≡ first_called (resting log waiting later defines r) l ts s
unfolding first_called
first-alike log waiting later defines ignores q r l no_trees s = refl
first-alike log waiting later defines ignores q r l (tree t ts) s = below-alike log waiting later defines ignores q r l t (each_tree ts) s
