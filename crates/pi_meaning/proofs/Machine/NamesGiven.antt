-- What a name does by itself, with all names of the language.
use Rattle.std.proofs.Common.{◌≡◌, ℕ, Bool, true, false, cond, List, refl, ap, sym, ◌∙◌}
use Rattle.std.specs.Prelude.{Option, Some, None, is_some, option_map, unwrap_or}
use Rattle.std.specs.Option.{option_or}
use Rattle.pi_terms.specs.Tree.{Trees, tree_count}
use Rattle.pi_constraints.specs.State.{State}
use Rattle.pi_core.specs.CoreTree.{PredTree}
use Rattle.pi_effects.specs.Effect.{Effect, FunctionEffect}
use Rattle.pi_effects.specs.BuiltIns.{built_in_predicate, built_in_function}
use Rattle.pi_settling.specs.Goals.{constraint_effect}
use Rattle.pi_settling.specs.DomainValues.{domain_function}
use Rattle.pi_traces.specs.Trace.{done}
use Rattle.pi_meaning.specs.Shared.View.{View}
use Rattle.pi_meaning.specs.Shared.Level.{Level}
use Rattle.pi_meaning.specs.Shared.Within.{resource_left}
use Rattle.pi_meaning.specs.Shared.Effects.{predicate_effect, value_effect}
use Rattle.pi_meaning.specs.Shared.Names.{is_later_predicate, is_later_function, is_resource, is_call}
use Rattle.pi_meaning.specs.Shared.Builtin.{settled_effect, function_trace}
use Rattle.pi_meaning.specs.Shared.Given.{Setting}
use Rattle.pi_meaning.specs.Shared.Calls.{predicate_given, first_called, function_given}
use Rattle.pi_meaning.specs.CoreMeaning.Instances.{core_setting, built_later, solve_or_unknown, whole}
use Rattle.pi_meaning.proofs.Shared.EffectNames.{goals-listed, domains-listed, goal-later, domain-later, domain-no_resource}

-- ---- predicates

abbrev pub setting : View → List PredTree → Setting
setting v preds = core_setting v built_later preds

-- what the tables and later stages give, of what is built there
built-given : {A B : Type 0} (f : A → B) (u : B) (b c : Option A) (later : Bool) → (is_some c ≡ true → later ≡ true) →
    option_or (option_map f b) (cond later (Some (unwrap_or (option_map f c) u)) None) ≡ option_or (option_map f (option_or b c)) (cond later (Some u) None)
built-given f u (Some x) c later h = refl
built-given f u None None later h = refl
built-given f u None (Some x) true h = refl
built-given f u None (Some x) false h = let e : false ≡ true = h refl in absurd cc

given-by : (v : View) (preds : List PredTree) (l : Level) (name : List ℕ) (ts : Trees) (s : State) (o : Option Effect) → predicate_effect name ts s ≡ o →
    (later : Bool) → is_later_predicate name (tree_count ts) ≡ later →
    predicate_given (setting v preds) l name ts s ≡ option_or (option_map (settled_effect v s) o) (cond later (Some (solve_or_unknown l name ts s)) None)
unfolding predicate_given
given-by v preds l name ts s o built later is =
    built-given (settled_effect v s) (solve_or_unknown l name ts s) (built_in_predicate name ts s) (constraint_effect name ts s) (is_later_predicate name (tree_count ts))
    (λ h. goal-later name (tree_count ts) (sym (goals-listed name ts s) ∙ h))
    ∙ (ap (λ x. option_or (option_map (settled_effect v s) x) (cond (is_later_predicate name (tree_count ts)) (Some (solve_or_unknown l name ts s)) None)) built
    ∙ ap (λ b. option_or (option_map (settled_effect v s) o) (cond b (Some (solve_or_unknown l name ts s)) None)) is)

pub later-given : (v : View) (preds : List PredTree) (l : Level) (name : List ℕ) (ts : Trees) (s : State) → predicate_effect name ts s ≡ None →
    is_later_predicate name (tree_count ts) ≡ true → predicate_given (setting v preds) l name ts s ≡ Some (solve_or_unknown l name ts s)
later-given v preds l name ts s built later = given-by v preds l name ts s None built true later

-- a name that isn't `call`
pub not-call : (v : View) (preds : List PredTree) (l : Level) (name : List ℕ) (ts : Trees) (s : State) → is_call name (tree_count ts) ≡ false →
    (whole v built_later preds).predicate l name ts s ≡ predicate_given (setting v preds) l name ts s
not-call v preds l name ts s other = ap (λ b. cond b (Some (first_called (setting v preds) l ts s)) (predicate_given (setting v preds) l name ts s)) other

pub does-effect : (v : View) (preds : List PredTree) (l : Level) (name : List ℕ) (ts : Trees) (s : State) (e : Effect) → is_call name (tree_count ts) ≡ false →
    predicate_effect name ts s ≡ Some e → (whole v built_later preds).predicate l name ts s ≡ Some (settled_effect v s e)
does-effect v preds l name ts s e other built =
    not-call v preds l name ts s other ∙ given-by v preds l name ts s (Some e) built (is_later_predicate name (tree_count ts)) refl

pub does-later : (v : View) (preds : List PredTree) (l : Level) (name : List ℕ) (ts : Trees) (s : State) → is_call name (tree_count ts) ≡ false →
    predicate_effect name ts s ≡ None → is_later_predicate name (tree_count ts) ≡ true → (whole v built_later preds).predicate l name ts s ≡ Some (solve_or_unknown l name ts s)
does-later v preds l name ts s other built later = not-call v preds l name ts s other ∙ later-given v preds l name ts s built later

pub does-nothing : (v : View) (preds : List PredTree) (name : List ℕ) (ts : Trees) (s : State) → is_call name (tree_count ts) ≡ false →
    predicate_effect name ts s ≡ None → is_later_predicate name (tree_count ts) ≡ false → (l : Level) → (whole v built_later preds).predicate l name ts s ≡ None
does-nothing v preds name ts s other built later l = not-call v preds l name ts s other ∙ given-by v preds l name ts s None built false later

pub does-call : (v : View) (preds : List PredTree) (l : Level) (name : List ℕ) (ts : Trees) (s : State) → is_call name (tree_count ts) ≡ true →
    (whole v built_later preds).predicate l name ts s ≡ Some (first_called (setting v preds) l ts s)
does-call v preds l name ts s is = ap (λ b. cond b (Some (first_called (setting v preds) l ts s)) (predicate_given (setting v preds) l name ts s)) is

-- ---- functions

value-given : {A B : Type 0} (f : A → B) (w u : B) (b c : Option A) (resource later : Bool) → (is_some c ≡ true → (resource ≡ false) × (later ≡ true)) →
    option_or (option_map f b) (cond resource (Some w) (cond later (Some (unwrap_or (option_map f c) u)) None)) ≡ option_or (option_map f (option_or b c)) (cond resource (Some w) (cond later (Some u) None))
value-given f w u (Some x) c resource later h = refl
value-given f w u None None resource later h = refl
value-given f w u None (Some x) true later h = let e : true ≡ false = (h refl).0 in absurd cc
value-given f w u None (Some x) false true h = refl
value-given f w u None (Some x) false false h = let e : false ≡ true = (h refl).1 in absurd cc

value-by : (v : View) (preds : List PredTree) (name : List ℕ) (ts : Trees) (s : State) (o : Option FunctionEffect) → value_effect name ts s ≡ o →
    (resource : Bool) → is_resource name (tree_count ts) ≡ resource → (later : Bool) → is_later_function name (tree_count ts) ≡ later →
    function_given (setting v preds) name ts s
    ≡ option_or (option_map function_trace o) (cond resource (Some (resource_left v.within s)) (cond later (Some done) None))
unfolding function_given
value-by v preds name ts s o built resource is later was =
    value-given function_trace (resource_left v.within s) done (built_in_function name ts s) (domain_function name ts s) (is_resource name (tree_count ts)) (is_later_function name (tree_count ts))
    (λ h. let there = sym (domains-listed name ts s) ∙ h in (domain-no_resource name (tree_count ts) there, domain-later name (tree_count ts) there))
    ∙ (ap (λ x. option_or (option_map function_trace x) (cond (is_resource name (tree_count ts)) (Some (resource_left v.within s)) (cond (is_later_function name (tree_count ts)) (Some done) None))) built
    ∙ (ap (λ b. option_or (option_map function_trace o) (cond b (Some (resource_left v.within s)) (cond (is_later_function name (tree_count ts)) (Some done) None))) is
    ∙ ap (λ b. option_or (option_map function_trace o) (cond resource (Some (resource_left v.within s)) (cond b (Some done) None))) was))

pub gives-value : (v : View) (preds : List PredTree) (name : List ℕ) (ts : Trees) (s : State) (e : FunctionEffect) → value_effect name ts s ≡ Some e →
    function_given (setting v preds) name ts s ≡ Some (function_trace e)
gives-value v preds name ts s e built = value-by v preds name ts s (Some e) built (is_resource name (tree_count ts)) refl (is_later_function name (tree_count ts)) refl

pub gives-resource : (v : View) (preds : List PredTree) (name : List ℕ) (ts : Trees) (s : State) → value_effect name ts s ≡ None → is_resource name (tree_count ts) ≡ true →
    function_given (setting v preds) name ts s ≡ Some (resource_left v.within s)
gives-resource v preds name ts s built is = value-by v preds name ts s None built true is (is_later_function name (tree_count ts)) refl

pub gives-later : (v : View) (preds : List PredTree) (name : List ℕ) (ts : Trees) (s : State) → value_effect name ts s ≡ None → is_resource name (tree_count ts) ≡ false →
    is_later_function name (tree_count ts) ≡ true → function_given (setting v preds) name ts s ≡ Some done
gives-later v preds name ts s built other later = value-by v preds name ts s None built false other true later

pub gives-nothing : (v : View) (preds : List PredTree) (name : List ℕ) (ts : Trees) (s : State) → value_effect name ts s ≡ None → is_resource name (tree_count ts) ≡ false →
    is_later_function name (tree_count ts) ≡ false → function_given (setting v preds) name ts s ≡ None
gives-nothing v preds name ts s built other later = value-by v preds name ts s None built false other false later
