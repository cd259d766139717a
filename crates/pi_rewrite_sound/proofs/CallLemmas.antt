-- Calls of names that are built do the same under settings that differ in what later stages give alone, and there not in what is built.
use Rattle.std.specs.Prelude.{◌≡◌, ℕ, suc, Bool, true, false, cond, List, Option, Some, None, option_map, is_some, refl}
use Rattle.std.specs.Option.{option_or}
use Rattle.std.proofs.Common.{sym, ap, subst, ◌∙◌}
use Rattle.std.proofs.Math.Path.{fun_ext}
use Rattle.pi_terms.specs.Tree.{Trees, no_trees, tree, tree_count}
use Rattle.pi_constraints.specs.State.{State}
use Rattle.pi_effects.specs.Effect.{Effect, FunctionEffect}
use Rattle.pi_effects.specs.BuiltIns.{built_in_predicate, built_in_function}
use Rattle.pi_effects.proofs.BuiltInLemmas.{functions-listed, predicates-listed}
use Rattle.pi_syntax.specs.ExpTree.{ExpTrees, no_exps, exp}
use Rattle.pi_syntax.specs.Signature.{exp_count}
use Rattle.pi_traces.specs.Trace.{Trace, end, Done, one, alt, then}
use Rattle.pi_traces.proofs.TraceLemmas.{alt-done, then-assoc}
use Rattle.pi_meaning.specs.Shared.View.{View}
use Rattle.pi_meaning.specs.Shared.Level.{Level, or_called, or_applied}
use Rattle.pi_meaning.specs.OverNames.Environment.{Valued, ValuedAll}
use Rattle.pi_meaning.specs.OverNames.Place.{Place}
use Rattle.pi_meaning.specs.Shared.Names.{is_later_predicate, is_later_function, is_resource}
use Rattle.pi_meaning.specs.Shared.Given.{Later, Setting}
use Rattle.pi_meaning.specs.Shared.Builtin.{settled_effect, function_trace}
use Rattle.pi_meaning.specs.Shared.Within.{resource_left}
use Rattle.pi_meaning.specs.Shared.Calls.{given_later, predicate_given, predicate_called, function_later, function_given, function_called}
use Rattle.pi_meaning.specs.OverNames.Assigning.{place_of}
use Rattle.pi_meaning.specs.OverNames.Texts.{Names, places, behind}
use Rattle.pi_meaning.specs.OverNames.Control.{Value, Values, nothing, in_front, applied_to, called_with}
use Rattle.pi_meaning.specs.OverNames.Forms.{Reading, first_reading, later_readings}
use Rattle.pi_meaning.specs.OverNames.Goals.{value_of, values_of}
use Rattle.pi_rewrite_sound.specs.Built.{is_built_predicate, is_built_function}
use Rattle.pi_rewrite_sound.specs.TermCalls.{GivesBuilt}
use Rattle.pi_rewrite_sound.proofs.BuiltNames.{predicate-by, function-by}

-- settings under which calls of names that are built are the same
pub record CallsAlike (a b : Setting) : Type 0 where
  pub predicates : (l : Level) (name : List ℕ) (ts : Trees) (s : State) → is_built_predicate name (tree_count ts) ≡ true → predicate_called a l name ts s ≡ predicate_called b l name ts s
  pub functions : (l : Level) (name : List ℕ) (ts : Trees) (s : State) → is_built_function name (tree_count ts) ≡ true → function_called a l name ts s ≡ function_called b l name ts s

abbrev pub under : View → (List ℕ → ℕ → Bool) → Later → Setting
under v defines later = record { view = v; later = later; defines = defines }

-- ---- what differs is asked for other names alone

not-asked : {X : Type 0} (t : Bool) (x y : X) → t ≡ false → cond t (Some x) None ≡ cond t (Some y) None
not-asked true x y e = absurd cc
not-asked false x y e = refl

effect-first : {X Y : Type 0} (f : X → Y) (o : Option X) (x y : Option Y) → is_some o ≡ true → option_or (option_map f o) x ≡ option_or (option_map f o) y
effect-first f None x y h = absurd cc
effect-first f (Some e) x y h = refl

predicate-alike : (v : View) (defines : List ℕ → ℕ → Bool) (x y : Later) → GivesBuilt x → GivesBuilt y → (l : Level) (name : List ℕ) (ts : Trees) (s : State) → is_built_predicate name (tree_count ts) ≡ true →
    predicate_called (under v defines x) l name ts s ≡ predicate_called (under v defines y) l name ts s
unfolding predicate_called predicate_given
predicate-alike v defines x y a b l name ts s built =
    let k : ℕ = tree_count ts in
    let o : Option Effect = built_in_predicate name ts s in
    let same : (option_or (option_map (settled_effect v s) o) (given_later (under v defines x) l name ts s)) ≡ option_or (option_map (settled_effect v s) o) (given_later (under v defines y) l name ts s) =
    predicate-by name k built
    (λ listed. effect-first (settled_effect v s) o _ _ (predicates-listed name ts s ∙ listed))
    (λ posts. ap (λ t. option_or (option_map (settled_effect v s) o) (cond (is_later_predicate name k) (Some t) None)) (a.goals v l name ts s posts ∙ sym (b.goals v l name ts s posts)))
    (λ labels. ap (λ t. option_or (option_map (settled_effect v s) o) (cond (is_later_predicate name k) (Some t) None)) (a.labelling v l name ts s labels ∙ sym (b.labelling v l name ts s labels)))
    (λ other. ap (option_or (option_map (settled_effect v s) o)) (not-asked (is_later_predicate name k) (x.predicate v l name ts s) (y.predicate v l name ts s) other)) in
    λ i. or_called (same i) l name ts s

function-alike : (v : View) (defines : List ℕ → ℕ → Bool) (x y : Later) → GivesBuilt x → GivesBuilt y → (l : Level) (name : List ℕ) (ts : Trees) (s : State) → is_built_function name (tree_count ts) ≡ true →
    function_called (under v defines x) l name ts s ≡ function_called (under v defines y) l name ts s
unfolding function_called function_given
function-alike v defines x y a b l name ts s built =
    let k : ℕ = tree_count ts in
    let o : Option FunctionEffect = built_in_function name ts s in
    let same : (option_or (option_map function_trace o) (function_later (under v defines x) name ts s)) ≡ option_or (option_map function_trace o) (function_later (under v defines y) name ts s) =
    function-by name k built
    (λ listed. effect-first function_trace o _ _ (functions-listed name ts s ∙ listed))
    (λ domain. ap (λ t. option_or (option_map function_trace o) (cond (is_resource name k) (Some (resource_left v.within s)) (cond (is_later_function name k) (Some t) None)))
    (a.functions name ts s domain ∙ sym (b.functions name ts s domain)))
    (λ other. ap (λ later. option_or (option_map function_trace o) (cond (is_resource name k) (Some (resource_left v.within s)) later))
    (not-asked (is_later_function name k) (x.function name ts s) (y.function name ts s) other)) in
    λ i. or_applied (same i) l name ts s

pub stages-alike : (v : View) (defines : List ℕ → ℕ → Bool) (x y : Later) → GivesBuilt x → GivesBuilt y → CallsAlike (under v defines x) (under v defines y)
stages-alike v defines x y a b = record {
  predicates = λ l name ts s built. predicate-alike v defines x y a b l name ts s built;
  functions = λ l name ts s built. function-alike v defines x y a b l name ts s built;
}

-- ---- how many values arguments come to

-- what follows is asked for so many
abbrev pub Counted : Type 0 → ℕ → Values → Type 0
Counted X k vs = (l : Level) (p : Place) (f g : ValuedAll → Trace X) → ((all : ValuedAll) → tree_count all.trees ≡ k → f all ≡ g all) → then (vs l p) f ≡ then (vs l p) g

pub nothing-counted : {X : Type 0} → Counted X 0 nothing
unfolding then tree_count
nothing-counted l p f g h = λ i. alt (h (record { trees = no_trees; names = p.names; state = p.state }) refl i) (end Done)

-- with an argument in front
front-split : {X : Type 0} (v : Value) (vs : Values) (l : Level) (p : Place) (f : ValuedAll → Trace X) →
    then (in_front v vs l p) f
    ≡ then (v l p) (λ x. then (vs l (place_of x)) (λ all. f (record { trees = tree x.tree all.trees; names = all.names; state = all.state })))
unfolding then
front-split v vs l p f =
    let joined : Valued → ValuedAll → ValuedAll = λ x all. record { trees = tree x.tree all.trees; names = all.names; state = all.state } in
    then-assoc (v l p) (λ x. then (vs l (place_of x)) (λ all. one (joined x all))) f
    ∙ ap (then (v l p)) (fun_ext (λ x. then-assoc (vs l (place_of x)) (λ all. one (joined x all)) f
    ∙ ap (then (vs l (place_of x))) (fun_ext (λ all. alt-done (f (joined x all))))))

pub front-counted : {X : Type 0} (k : ℕ) (v : Value) (vs : Values) → Counted X k vs → Counted X (suc k) (in_front v vs)
unfolding tree_count
front-counted k v vs rest l p f g h =
    let joined : Valued → ValuedAll → ValuedAll = λ x all. record { trees = tree x.tree all.trees; names = all.names; state = all.state } in
    front-split v vs l p f
    ∙ ap (then (v l p)) (fun_ext (λ x. rest l (place_of x) (λ all. f (joined x all)) (λ all. g (joined x all)) (λ all e. h (joined x all) (ap suc e))))
    ∙ sym (front-split v vs l p g)

pub values-counted : {X : Type 0} (set : Setting) (rs : List Reading) (before : Names) (es : ExpTrees) → Counted X (exp_count es) (values_of set rs before es)
unfolding values_of exp_count
values-counted set rs before no_exps l p f g h = nothing-counted l p f g h
values-counted set rs before (exp e es) l p f g h =
    front-counted (exp_count es) (value_of set (first_reading rs) before e) (values_of set (later_readings rs) (behind before (places e)) es)
    (values-counted set (later_readings rs) (behind before (places e)) es) l p f g h

-- ---- calls with arguments

pub called-alike : (a b : Setting) → CallsAlike a b → (name : List ℕ) (k : ℕ) → is_built_predicate name k ≡ true → (vs ws : Values) → Counted Place k vs → vs ≡ ws → called_with a name vs ≡ called_with b name ws
unfolding called_with
called-alike a b h name k built vs ws counted e = λ i l p.
    let after : Setting → ValuedAll → Trace Place = λ set all. then (predicate_called set l name all.trees all.state) (λ s. one (record { names = all.names; state = s })) in
    (counted l p (after a) (after b)
    (λ all n j. then (h.predicates l name all.trees all.state (subst (λ (m : ℕ). is_built_predicate name m ≡ true) (sym n) built) j) (λ s. one (record { names = all.names; state = s })))
    ∙ (λ j. then (e j l p) (after b))) i

pub applied-alike : (a b : Setting) → CallsAlike a b → (name : List ℕ) (k : ℕ) → is_built_function name k ≡ true → (vs ws : Values) → Counted Valued k vs → vs ≡ ws → applied_to a name vs ≡ applied_to b name ws
unfolding applied_to
applied-alike a b h name k built vs ws counted e = λ i l p.
    let after : Setting → ValuedAll → Trace Valued = λ set all. then (function_called set l name all.trees all.state) (λ y. one (record { tree = y.value; names = all.names; state = y.state })) in
    (counted l p (after a) (after b)
    (λ all n j. then (h.functions l name all.trees all.state (subst (λ (m : ℕ). is_built_function name m ≡ true) (sym n) built) j) (λ y. one (record { tree = y.value; names = all.names; state = y.state })))
    ∙ (λ j. then (e j l p) (after b))) i
