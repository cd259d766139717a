-- What is raised, as a term; and a predicate that was looked up.
use Rattle.std.proofs.Common.{◌≡◌, ℕ, zero, suc, true, false, List, [], ◌∷◌, ◌++◌, length, refl, ap, sym, subst, ◌∙◌}
use Rattle.std.specs.Prelude.{Option, Some, None, Ok, Err, IfSome, IfNone, is_some}
use Rattle.pi_terms.specs.Tree.{Tree, Trees, no_trees, tree, tree_count, tree_at, args}
use Rattle.pi_terms.specs.TermCells.{take_trees}
use Rattle.pi_constraints.specs.State.{State, IsState, bindings}
use Rattle.pi_constraints.specs.Value.{IsAcyclic}
use Rattle.pi_constraints.specs.Store.{StoreView, IsTerm, IsName, ShowsCell, AreTerms, Stays}
use Rattle.pi_constraints.specs.declared.store.Ref.{Ref}
use Rattle.pi_constraints.specs.declared.store.Cell.{Cell}
use Rattle.pi_effects.specs.Effect.{Effect, Raises, FunctionEffect, Refuses}
use Rattle.pi_effects.specs.BuiltIns.{built_in_function, built_in_predicate, is_predicate}
use Rattle.pi_effects.proofs.BuiltInLemmas.{predicates-listed}
use Rattle.pi_effects.specs.Balls.{IsBall}
use Rattle.pi_effects.specs.Results.{ShowsEffect}
use Rattle.pi_effects.specs.declared.fault.Fault.{Fault}
use Rattle.pi_effects.specs.declared.fault.Stop.{Stop}
use Rattle.pi_effects.proofs.FaultLemmas.{ball-stays}
use Rattle.pi_lib_builtin.specs.Names.{function_name, function_arity}
use Rattle.pi_lib_builtin.specs.Resolved.{IsFunctionNamed, IsPredicateNamed}
use Rattle.pi_lib_builtin.specs.declared.functions.Function.{Function}
use Rattle.pi_lib_builtin.specs.declared.predicates.Predicate.{Predicate}
use Rattle.pi_lib.specs.Outcomes.{ShowsOutcome}
use Rattle.pi_lib.specs.Runs.{ShowsStep, ShowsValue, DoesCall, IsRaised, step_of, effect_of_call}
use Rattle.pi_lib.specs.declared.predicates.Outcome.{Outcome}
use Rattle.pi_lib.specs.declared.runs.LibStep.{LibStep}
use Rattle.pi_lib.specs.declared.runs.LibValue.{LibValue}

-- ---- the term of a fault

-- it is the ball, in a state that is the one before
made-ball : {M : Type 0} (v w : StoreView M) (fault : Fault) (ball made : Tree) → IsAcyclic (bindings v.now.state) → Stays v w → IsBall v fault ball → ((t : Tree) → IsAcyclic (bindings w.now.state) → IsBall w fault t → made ≡ t) → made ≡ ball
made-ball v w fault ball made a stays is makes = makes ball (subst (λ s. IsAcyclic (bindings s)) (sym stays.state) a) (ball-stays v w fault ball stays is)

raised-step : {M : Type 0} (v w : StoreView M) (fault : Fault) (e : Effect) (made : Tree) → IsState v.now.state → ShowsOutcome v w (Err (Stop.Raised fault)) e → ((t : Tree) → IsAcyclic (bindings w.now.state) → IsBall w fault t → made ≡ t) → ShowsStep v w (LibStep.Raised made) e
raised-step v w fault e made state shows makes = (shows.1 ∙ ap Raises (sym (made-ball v w fault shows.0 made state.acyclic shows.3 shows.2 makes)), shows.3)

raised-value : {M : Type 0} (v w : StoreView M) (fault : Fault) (e : FunctionEffect) (made : Tree) → IsAcyclic (bindings v.now.state) → ShowsEffect v w (Err (Stop.Raised fault)) e → ((t : Tree) → IsAcyclic (bindings w.now.state) → IsBall w fault t → made ≡ t) → ShowsValue v w (LibValue.Raised made) e
raised-value v w fault e made a shows makes = (shows.1 ∙ ap Refuses (sym (made-ball v w fault shows.0 made a shows.3 shows.2 makes)), shows.3)

pub step-raised : {M : Type 0} (v w : StoreView M) (stop : Stop) (e : Effect) (made : Tree) → IsState v.now.state → ShowsOutcome v w (Err stop) e → IsRaised w stop made → ShowsStep v w (LibStep.Raised made) e
step-raised v w stop e made state shows is = raised-step v w is.0 e made state (subst (λ x. ShowsOutcome v w (Err x) e) is.1 shows) is.2

pub value-raised : {M : Type 0} (v w : StoreView M) (stop : Stop) (e : FunctionEffect) (made : Tree) → IsAcyclic (bindings v.now.state) → ShowsEffect v w (Err stop) e → IsRaised w stop made → ShowsValue v w (LibValue.Raised made) e
value-raised v w stop e made a shows is = raised-value v w is.0 e made a (subst (λ x. ShowsEffect v w (Err x) e) is.1 shows) is.2

pub step-shown : {M : Type 0} (v w : StoreView M) (o : Outcome) (step : LibStep) (e : Effect) → step ≡ step_of o → ShowsOutcome v w (Ok o) e → ShowsStep v w step e
step-shown v w o step e is shows = subst (λ x. ShowsStep v w x e) (sym is) (by_outcome o shows)
  where
    by_outcome : (p : Outcome) → ShowsOutcome v w (Ok p) e → ShowsStep v w (step_of p) e
    by_outcome Outcome.Yes h = h
    by_outcome Outcome.No h = h
    by_outcome (Outcome.Out text) h = h

-- ---- the predicate of a name

listed : (name : List ℕ) (ts : Trees) (s : State) (e : Effect) (k : ℕ) → tree_count ts ≡ k → built_in_predicate name ts s ≡ Some e → is_predicate name k ≡ false → ⊥
listed name ts s e k many done none =
    let yes : true ≡ false = sym (ap is_some done) ∙ predicates-listed name ts s ∙ ap (is_predicate name) many ∙ none in cc

pub does-call : (name : List ℕ) (ts : Trees) (s : State) (k : ℕ) (found : Option Predicate) (e : Effect) → tree_count ts ≡ k → IfSome found (λ p. IsPredicateNamed name k p) → IfNone found (is_predicate name k ≡ false) → built_in_predicate name ts s ≡ Some e → DoesCall s k ts found e
does-call name ts s k None e many some none done = listed name ts s e k many done none
does-call name ts s k (Some p) e many some none done = (some.takes, sym (some.same ts s many) ∙ done)

-- ---- arguments

-- as many Refs as terms
pub terms-count : {M : Type 0} (v : StoreView M) (rs : List Ref) (ts : Trees) → AreTerms v rs ts → length rs ≡ tree_count ts
unfolding AreTerms tree_count
terms-count v [] no_trees h = refl
terms-count v [] (tree t ts) h = absurd h
terms-count v (r ∷ rs) no_trees h = absurd h
terms-count v (r ∷ rs) (tree t ts) h = ap suc (terms-count v rs ts h.1)

-- one more argument is taken
pub terms-more : {M : Type 0} (v : StoreView M) (i : ℕ) (ts : Trees) (rs : List Ref) (q : Ref) (u : Tree) → tree_at ts i ≡ Some u → IsTerm v q u → AreTerms v rs (take_trees i ts) → AreTerms v (rs ++ q ∷ []) (take_trees (suc i) ts)
unfolding AreTerms tree_at
terms-more v i no_trees rs q u at is h = absurd cc
terms-more v zero (tree t ts) [] q u at is h = (is ∙ sym at, tt)
terms-more v zero (tree t ts) (r ∷ rs) q u at is h = absurd h
terms-more v (suc i) (tree t ts) [] q u at is h = absurd h
terms-more v (suc i) (tree t ts) (r ∷ rs) q u at is h = (h.0, terms-more v i ts rs q u at is h.1)

take-all : (ts : Trees) → take_trees (tree_count ts) ts ≡ ts
unfolding tree_count
take-all no_trees = refl
take-all (tree t ts) = ap (tree t) (take-all ts)

pub terms-all : {M : Type 0} (v : StoreView M) (i : ℕ) (ts : Trees) (rs : List Ref) → i ≡ tree_count ts → AreTerms v rs (take_trees i ts) → AreTerms v rs ts
terms-all v i ts rs e h = subst (AreTerms v rs) (ap (λ n. take_trees n ts) e ∙ take-all ts) h

pub terms-none : {M : Type 0} (v : StoreView M) (ts : Trees) (rs : List Ref) → rs ≡ [] → AreTerms v rs (take_trees zero ts)
unfolding AreTerms
terms-none v ts rs e = subst (λ (qs : List Ref). AreTerms v qs no_trees) (sym e) tt

-- a function that was looked up, and the arguments that it is called with
pub function-done : {M : Type 0} (v : StoreView M) (name : List ℕ) (ts : Trees) (args : List Ref) (f : Function) (e : FunctionEffect) → AreTerms v args ts → IsFunctionNamed name (length args) f → built_in_function name ts v.now.state ≡ Some e
    → (length args ≡ function_arity f) × (built_in_function (function_name f) ts v.now.state ≡ Some e)
function-done v name ts args f e terms is done = (sym is.takes, sym (is.same ts v.now.state (sym (terms-count v args ts terms))) ∙ done)

-- a call that is an atom or a compound at its root
pub atom-call : {M : Type 0} (v : StoreView M) (u : Tree) (k : ℕ) (text : List ℕ) (found : Option Predicate) (e : Effect) → ShowsCell v u (Cell.Atom k) → ((n : List ℕ) → IsName v k n → text ≡ n) → effect_of_call v.now.state u ≡ Some e
    → IfSome found (λ p. IsPredicateNamed text 0 p) → IfNone found (is_predicate text 0 ≡ false) → DoesCall v.now.state 0 no_trees found e
unfolding tree_count
atom-call v u k text found e shows named done some none =
    does-call text no_trees v.now.state 0 found e refl some none
    (ap (λ n. built_in_predicate n no_trees v.now.state) (named shows.0 shows.1) ∙ sym (ap (effect_of_call v.now.state) shows.2) ∙ done)

pub comp-call : {M : Type 0} (v : StoreView M) (u : Tree) (k count many : ℕ) (text : List ℕ) (found : Option Predicate) (e : Effect) → ShowsCell v u (Cell.Comp k count) → ((n : List ℕ) → IsName v k n → text ≡ n) → effect_of_call v.now.state u ≡ Some e
    → tree_count (args u) ≡ many → IfSome found (λ p. IsPredicateNamed text many p) → IfNone found (is_predicate text many ≡ false) → DoesCall v.now.state many (args u) found e
comp-call v u k count many text found e shows named done same some none =
    does-call text (args u) v.now.state many found e same some none
    (ap (λ n. built_in_predicate n (args u) v.now.state) (named shows.0 shows.1) ∙ sym (ap (effect_of_call v.now.state) shows.2) ∙ done)
