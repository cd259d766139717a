-- Calls by name do the same and maybe more at a higher level, where what later stages give does, as it does where none is there.
use Rattle.std.proofs.Common.{ℕ, Bool, true, false, cond, List, []}
use Rattle.std.specs.Prelude.{Option, Some, None, unwrap_or, option_map, codes, ⊤}
use Rattle.std.specs.Option.{option_or}
use Rattle.pi_terms.specs.Tree.{Tree, Trees, no_trees, tree, tree_count}
use Rattle.pi_constraints.specs.State.{State, bindings, followed}
use Rattle.pi_effects.specs.Effect.{Effect}
use Rattle.pi_effects.specs.Items.{each_tree}
use Rattle.pi_traces.specs.Trace.{Trace, end, Deep, Tick, done}
use Rattle.pi_traces.specs.Depth.{Below, deeper, same_note}
use Rattle.pi_meaning.specs.Shared.Settle.{settled}
use Rattle.pi_meaning.specs.Shared.Level.{Level, lowest, over, Applied, LevelBelow, or_called, or_applied}
use Rattle.pi_meaning.specs.Shared.Names.{is_later_predicate, is_planner, is_catch, is_call}
use Rattle.pi_settling.specs.Goals.{constraint_effect}
use Rattle.pi_meaning.specs.Shared.Builtin.{settled_effect, effect, function_effect}
use Rattle.pi_meaning.specs.Shared.Given.{Setting, LaterOnlyAdds}
use Rattle.pi_meaning.specs.Shared.Handling.{handled_in, handling}
use Rattle.pi_meaning.specs.Shared.Calls.{built_in, given_later, predicate_given, predicate_called, function_given, function_called, Called, called_by, with_planner, is_known, known_called, call_goal, catch_called, again_called, term_called, called_at_level, called_below, first_called, unknown_name}
use Rattle.pi_meaning.specs.CoreMeaning.Instances.{tabled, core_setting, predicate_or_call, solve_or_unknown, built_later}
use Rattle.pi_meaning.specs.CoreMeaning.Builtins.{BuiltinsOnlyAdd}
use Rattle.pi_meaning.specs.Shared.View.{View}
use Rattle.pi_meaning.specs.CoreMeaning.Laws.{WholeOnlyAdds}
use Rattle.pi_traces.proofs.BelowLemmas.{below-refl, below-then, below-caught}
use Rattle.pi_meaning.proofs.CoreMeaning.MeaningLemmas.{calls-below}
use Rattle.pi_meaning.proofs.Shared.SolveBelow.{solve-below}

pub cond-below : {X : Type 0} (c : Bool) (t u v w : Trace X) → Below t v → Below u w → Below (cond c t u) (cond c v w)
cond-below true t u v w a b = a
cond-below false t u v w a b = b

-- ---- what a name does by itself

-- both do something, and the second maybe more, or none does
abbrev OptionBelow : {X : Type 0} → Option (Trace X) → Option (Trace X) → Type 0
OptionBelow None None = ⊤
OptionBelow None (Some u) = ⊥
OptionBelow (Some t) None = ⊥
OptionBelow (Some t) (Some u) = Below t u

option-itself : {X : Type 0} (o : Option (Trace X)) → OptionBelow o o
option-itself None = tt
option-itself (Some t) = below-refl t

or-below : {X : Type 0} (o p q : Option (Trace X)) → OptionBelow p q → OptionBelow (option_or o p) (option_or o q)
or-below None p q b = b
or-below (Some t) p q b = below-refl t

some-below : {X : Type 0} (c : Bool) (t u : Trace X) (o p : Option (Trace X)) → Below t u → OptionBelow o p → OptionBelow (cond c (Some t) o) (cond c (Some u) p)
some-below true t u o p a b = a
some-below false t u o p a b = b

or-called-below : (o p : Option (Trace State)) → OptionBelow o p → (l m : Level) → LevelBelow l m → (name : List ℕ) (ts : Trees) (s : State) →
    Below (or_called o l name ts s) (or_called p m name ts s)
or-called-below None None a l m h name ts s = (calls-below l m h).called name ts s
or-called-below None (Some u) a l m h name ts s = absurd a
or-called-below (Some t) None a l m h name ts s = absurd a
or-called-below (Some t) (Some u) a l m h name ts s = a

or-applied-below : (o : Option (Trace Applied)) (l m : Level) → LevelBelow l m → (name : List ℕ) (ts : Trees) (s : State) →
    Below (or_applied o l name ts s) (or_applied o m name ts s)
or-applied-below None l m h name ts s = (calls-below l m h).applied name ts s
or-applied-below (Some t) l m h name ts s = below-refl t

given-below : (set : Setting) → LaterOnlyAdds set.later → (l m : Level) → LevelBelow l m → (name : List ℕ) (ts : Trees) (s : State) →
    OptionBelow (predicate_given set l name ts s) (predicate_given set m name ts s)
unfolding predicate_given
given-below set adds l m h name ts s =
    or-below (built_in set name ts s) (given_later set l name ts s) (given_later set m name ts s)
    (some-below (is_later_predicate name (tree_count ts)) (set.later.predicate set.view l name ts s) (set.later.predicate set.view m name ts s) None None
    (adds set.view l m h name ts s) tt)

pub predicate-below : (set : Setting) → LaterOnlyAdds set.later → (l m : Level) → LevelBelow l m → (name : List ℕ) (ts : Trees) (s : State) →
    Below (predicate_called set l name ts s) (predicate_called set m name ts s)
unfolding predicate_called
predicate-below set adds l m h name ts s =
    or-called-below (predicate_given set l name ts s) (predicate_given set m name ts s) (given-below set adds l m h name ts s) l m h name ts s

pub function-below : (set : Setting) (l m : Level) → LevelBelow l m → (name : List ℕ) (ts : Trees) (s : State) →
    Below (function_called set l name ts s) (function_called set m name ts s)
unfolding function_called
function-below set l m h name ts s = or-applied-below (function_given set name ts s) l m h name ts s

-- ---- exceptions that are caught

handled-below : {A : Type 0} (s : State) (ball : Tree) (f g : State → Trace A) → ((r : State) → Below (f r) (g r)) → (o : Option State) → Below (handled_in s ball f o) (handled_in s ball g o)
handled-below s ball f g each None = below-refl _
handled-below s ball f g each (Some r) = below-then _ _ _ _ (below-refl (settled s r)) each

pub handling-below : {A : Type 0} (s : State) (wanted : Tree) (f g : State → Trace A) → ((r : State) → Below (f r) (g r)) → (ball : Tree) → Below (handling s wanted f ball) (handling s wanted g ball)
handling-below s wanted f g each ball = handled-below s ball f g each _

-- ---- `call`

abbrev Deeper : Type 0
Deeper = Tree → List Tree → State → Trace State

abbrev DeeperBelow : Deeper → Deeper → Type 0
DeeperBelow f g = (t : Tree) (ts : List Tree) (s : State) → Below (f t ts s) (g t ts s)

call-goal-below : (l m : Level) → LevelBelow l m → (f g : Deeper) → DeeperBelow f g → (t : Tree) (ts : List Tree) (s : State) → Below (call_goal l f t ts s) (call_goal m g t ts s)
call-goal-below l m b f g each t ts s = below-then _ _ _ _ ((calls-below l m b).drained s) (λ r. each t ts r)

catch-below : (l m : Level) → LevelBelow l m → (f g : Deeper) → DeeperBelow f g → (ts : Trees) (s : State) → Below (catch_called l f ts s) (catch_called m g ts s)
catch-below l m b f g each (tree t (tree ball (tree h no_trees))) s =
    below-caught _ _ _ _ (below-then _ _ _ _ (call-goal-below l m b f g each t [] s) (λ r. (calls-below l m b).drained r))
    (handling-below s ball _ _ (λ r. call-goal-below l m b f g each h [] r))
catch-below l m b f g each no_trees s = below-refl done
catch-below l m b f g each (tree t no_trees) s = below-refl done
catch-below l m b f g each (tree t (tree u no_trees)) s = below-refl done
catch-below l m b f g each (tree t (tree u (tree v (tree w ts)))) s = below-refl done

again-below : (l m : Level) → LevelBelow l m → (f g : Deeper) → DeeperBelow f g → (ts : Trees) (s : State) → Below (again_called l f ts s) (again_called m g ts s)
again-below l m b f g each no_trees s = below-refl done
again-below l m b f g each (tree t ts) s = call-goal-below l m b f g each t (each_tree ts) s

planner-below : (set : Setting) (t u : Trace State) → Below t u → Below (with_planner set t) (with_planner set u)
planner-below set t u b =
    let final : Trace State = unknown_name (codes "final") 1 in
    let action : Trace State = unknown_name (codes "action") 4 in
    cond-below (set.defines (codes "final") 1) (cond (set.defines (codes "action") 4) t action) final (cond (set.defines (codes "action") 4) u action) final
    (cond-below (set.defines (codes "action") 4) t action u action b (below-refl action)) (below-refl final)

known-below : (set : Setting) → LaterOnlyAdds set.later → (l m : Level) → LevelBelow l m → (name : List ℕ) (ts : Trees) (s : State) → Below (known_called set l name ts s) (known_called set m name ts s)
known-below set adds l m b name ts s =
    let t : Trace State = predicate_called set l name ts s in
    let u : Trace State = predicate_called set m name ts s in
    let none : Trace State = unknown_name name (tree_count ts) in
    let more : Below t u = predicate-below set adds l m b name ts s in
    cond-below (is_planner name (tree_count ts)) (with_planner set t) (cond (is_known set name (tree_count ts)) t none) (with_planner set u) (cond (is_known set name (tree_count ts)) u none)
    (planner-below set t u more) (cond-below (is_known set name (tree_count ts)) t none u none more (below-refl none))

term-below : (set : Setting) → LaterOnlyAdds set.later → (l m : Level) → LevelBelow l m → (f g : Deeper) → DeeperBelow f g → (t : Tree) (s : State) (o : Option Called) → Below (term_called set l f t s o) (term_called set m g t s o)
term-below set adds l m b f g each t s None = below-refl _
term-below set adds l m b f g each t s (Some c) =
    cond-below (is_catch c.name (tree_count c.args)) _ _ _ _ (same_note Tick (catch-below l m b f g each c.args s))
    (cond-below (is_call c.name (tree_count c.args)) _ _ _ _ (same_note Tick (again-below l m b f g each c.args s)) (known-below set adds l m b c.name c.args s))

abbrev no-depth : Trace State
no-depth = end Deep

abbrev no-more : Deeper
no-more u us r = no-depth

called-below : (set : Setting) → LaterOnlyAdds set.later → (l m : Level) → LevelBelow l m → (t : Tree) (ts : List Tree) (s : State) → Below (called_at_level set l t ts s) (called_at_level set m t ts s)
unfolding called_at_level
called-below set adds (lowest c) (lowest d) b t ts s =
    term-below set adds (lowest c) (lowest d) b no-more no-more (λ u us r. deeper no-depth) t s (called_by (followed (bindings s) t) ts)
called-below set adds (lowest c) (over d m) b t ts s =
    term-below set adds (lowest c) (over d m) b no-more (called_at_level set m) (λ u us r. deeper (called_at_level set m u us r)) t s (called_by (followed (bindings s) t) ts)
called-below set adds (over c l) (lowest d) b t ts s = absurd b
called-below set adds (over c l) (over d m) b t ts s =
    term-below set adds (over c l) (over d m) b (called_at_level set l) (called_at_level set m) (called-below set adds l m b.1) t s (called_by (followed (bindings s) t) ts)

one-down-below : (set : Setting) → LaterOnlyAdds set.later → (l m : Level) → LevelBelow l m → (t : Tree) (ts : List Tree) (s : State) → Below (called_below set l t ts s) (called_below set m t ts s)
one-down-below set adds (lowest c) m b t ts s = deeper _
one-down-below set adds (over c l) (lowest d) b t ts s = absurd b
one-down-below set adds (over c l) (over d m) b t ts s = called-below set adds l m b.1 t ts s

pub first-below : (set : Setting) → LaterOnlyAdds set.later → (l m : Level) → LevelBelow l m → (ts : Trees) (s : State) → Below (first_called set l ts s) (first_called set m ts s)
unfolding first_called
first-below set adds l m b no_trees s = below-refl done
first-below set adds l m b (tree t ts) s = one-down-below set adds l m b t (each_tree ts) s

-- ---- built-ins

pub tabled-adds : (v : View) → BuiltinsOnlyAdd (tabled v)
tabled-adds v = record {
  predicates = λ l m h name ts s. or-called-below (effect v name ts s) (effect v name ts s) (option-itself (effect v name ts s)) l m h name ts s;
  functions = λ l m h name ts s. or-applied-below (function_effect name ts s) l m h name ts s;
}

or-call-below : (set : Setting) → LaterOnlyAdds set.later → (l m : Level) → LevelBelow l m → (name : List ℕ) (ts : Trees) (s : State) →
    OptionBelow (predicate_or_call set l name ts s) (predicate_or_call set m name ts s)
or-call-below set adds l m h name ts s =
    some-below (is_call name (tree_count ts)) (first_called set l ts s) (first_called set m ts s) (predicate_given set l name ts s) (predicate_given set m name ts s)
    (first-below set adds l m h ts s) (given-below set adds l m h name ts s)

-- an effect where there is one, else what is done at a level
or-effect-below : (v : View) (s : State) (o : Option Effect) (t u : Trace State) → Below t u → Below (unwrap_or (option_map (settled_effect v s) o) t) (unwrap_or (option_map (settled_effect v s) o) u)
or-effect-below v s None t u more = more
or-effect-below v s (Some e) t u more = below-refl (settled_effect v s e)

pub built-later-adds : LaterOnlyAdds built_later
built-later-adds v l m h name ts s = or-effect-below v s (constraint_effect name ts s) (solve_or_unknown l name ts s) (solve_or_unknown m name ts s) (solve-below l m h name ts s)

pub whole-adds : WholeOnlyAdds
whole-adds v later preds adds = record {
  predicates = λ l m h name ts s.
      let set : Setting = core_setting v later preds in
      or-called-below (predicate_or_call set l name ts s) (predicate_or_call set m name ts s) (or-call-below set adds l m h name ts s) l m h name ts s;
  functions = λ l m h name ts s. or-applied-below (function_given (core_setting v later preds) name ts s) l m h name ts s;
}
