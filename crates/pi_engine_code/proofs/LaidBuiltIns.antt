-- Calls of what is built in: a name that stands among the names, and the predicates that bind nothing.
use Rattle.std.proofs.Common.{◌≡◌, ◌≢◌, ℕ, Bool, true, false, cond, List, [], ◌∷◌, ◌++◌, ◌||◌, Option, Some, None, length, option_map, refl, sym, ◌∙◌, ap, subst}
use Rattle.std.specs.Prelude.{codes, slice_get, Ok, Err}
use Rattle.std.specs.Option.{option_or}
use Rattle.std.specs.Str.{bytes_eq}
use Rattle.std.proofs.lemmas.Bool.Decides.{Decides-eqb}
use Rattle.std.proofs.lemmas.Slice.Eq.{bytes_eq-Decides}
use Rattle.pi_terms.specs.Tree.{Tree, no_trees, tree, tree_count, var, atom, cells}
use Rattle.pi_terms.specs.Variables.{occurrences}
use Rattle.pi_terms.specs.Substitution.{instance}
use Rattle.pi_constraints.specs.Value.{rounds, value}
use Rattle.pi_constraints.specs.State.{State, free, bound, followed_for, followed}
use Rattle.pi_constraints.specs.Store.{StoreView}
use Rattle.pi_constraints.specs.Unify.{unified, assigned, outcome, unified_for, unbound_in, cells_of_pairs, most_pairs, all_unified}
use Rattle.pi_effects.specs.Effect.{Effect, Succeeds, succeeds_in}
use Rattle.pi_effects.specs.Answer.{Answer}
use Rattle.pi_effects.specs.Rows.{done_by}
use Rattle.pi_effects.specs.Comparing.{comparing_tests}
use Rattle.pi_effects.specs.Kinds.{kind_tests}
use Rattle.pi_effects.specs.Texts.{writing_predicates}
use Rattle.pi_effects.specs.BuiltIns.{tests, test_in, writing_in, other_predicates, built_in_predicate}
use Rattle.pi_settling.specs.SolveCalls.{is_solve}
use Rattle.pi_lib_builtin.specs.Names.{may_bind}
use Rattle.pi_lib_builtin.specs.Resolved.{IsFunctionNamed, IsPredicateNamed}
use Rattle.pi_lib_builtin.specs.declared.functions.Function.{Function}
use Rattle.pi_lib_builtin.specs.declared.predicates.Predicate.{Predicate}
use Rattle.pi_lib_builtin.specs.declared.predicates.PredicateOfTwo.{PredicateOfTwo}
use Rattle.pi_unify.proofs.KeepsLemmas.{keeps_none}
use Rattle.pi_terms.proofs.GetLemmas.{get_append_last}
use Rattle.pi_core.specs.declared.goal_node.GoalKind.{GoalKind}
use Rattle.pi_core.specs.declared.core_program.CorePred.{CorePred}
use Rattle.pi_engine_code.specs.declared.code.Node.{Node}
use Rattle.pi_engine_code.specs.declared.code.Code.{Code}
use Rattle.pi_lib_constraints.specs.Named.{IsConstraintNamed}
use Rattle.pi_lib_constraints.specs.declared.functions.DomainFunction.{DomainFunction}
use Rattle.pi_lib_constraints.specs.declared.kinds.ConstraintGoal.{ConstraintGoal}
use Rattle.pi_engine_code.specs.Laid.{tables_for, AddsOperands, OperandsAt, IsDomainFunctionNamed, IsNodeOf}
use Rattle.pi_engine_code.proofs.LaidTables.{longer-pushed}
use Rattle.pi_engine_code.proofs.LaidTerms.{wider-added, operands-wider}

-- ---- names

-- the tables with the names of others
abbrev pub with_names : Code → Code → Code
with_names d e = record { core = d.core; helpers = d.helpers; steps = d.steps; operands = d.operands; parts = d.parts; names = e.names; tests = d.tests; rules = d.rules; predicates = d.predicates; callables = d.callables; keys = d.keys }

pub name-pushed : {M : Type 0} (v : StoreView M) (d e : Code) (name : List ℕ) → e.names.items ≡ d.names.items ++ name ∷ [] → AddsOperands v v d (with_names d e)
name-pushed v d e name pushed =
    record {
      adds = record {
        stays = record { keeps = keeps_none v; state = refl };
        core = refl;
        steps = λ i x at. at;
        operands = λ i x at. at;
        parts = λ i x at. at;
        names = longer-pushed d.names.items e.names.items name pushed;
        tests = λ i x at. at;
        rules = λ i x at. at;
        predicates = λ i x at. at;
      };
      steps = refl;
      tests = refl;
      rules = refl;
      predicates = refl;
    }

pub name-there : (old new : List (List ℕ)) (name : List ℕ) (place : ℕ) → new ≡ old ++ name ∷ [] → place ≡ length old → slice_get new place ≡ Some name
name-there old new name place pushed at = ap (slice_get new) at ∙ ap (λ r. slice_get r (length old)) pushed ∙ get_append_last old name

-- ---- predicates that bind nothing

-- what a test or a predicate that writes leaves the state as
kept-by : (s r : State) (a : Option (Answer Bool)) (b : Option (Answer (List ℕ))) (c : Option Effect) → c ≡ None →
    option_or (option_map (test_in s) a) (option_or (option_map (writing_in s) b) c) ≡ Some (Succeeds r) → r ≡ s
kept-by s r (Some (Ok true)) b c none h = cc
kept-by s r (Some (Ok false)) b c none h = absurd cc
kept-by s r (Some (Err ball)) b c none h = absurd cc
kept-by s r None (Some (Ok text)) c none h = absurd cc
kept-by s r None (Some (Err ball)) c none h = absurd cc
kept-by s r None None c none h = absurd cc

-- neither unification nor `throw` has another name with two arguments
neither-row : (equal thrown : Bool) (x : Option Effect) → equal ≡ false → option_or (cond equal x None) (option_or (cond thrown (let none : Option Effect = None in none) None) None) ≡ None
neither-row true thrown x h = absurd cc
neither-row false true x h = refl
neither-row false false x h = refl

no-other : (name : List ℕ) (t u : Tree) (s : State) → bytes_eq (codes "=") name ≡ false → done_by other_predicates name (tree t (tree u no_trees)) s ≡ None
unfolding done_by other_predicates
no-other name t u s not = neither-row (bytes_eq (codes "=") name) (bytes_eq (codes "throw") name) (Some (succeeds_in (unified s t u))) not

pub other-keeps : (name : List ℕ) (t u : Tree) (s r : State) → bytes_eq (codes "=") name ≡ false → built_in_predicate name (tree t (tree u no_trees)) s ≡ Some (Succeeds r) → r ≡ s
unfolding built_in_predicate
other-keeps name t u s r not h =
    kept-by s r (done_by tests name (tree t (tree u no_trees)) s) (done_by writing_predicates name (tree t (tree u no_trees)) s) (done_by other_predicates name (tree t (tree u no_trees)) s)
    (no-other name t u s not) h

-- a variable that unification binds
abbrev a_free : State
a_free = record { variables = free ∷ []; constraints = []; agents = []; waiting = [] }

abbrev a_bound : State
a_bound = record { variables = bound (atom []) ∷ []; constraints = []; agents = []; waiting = [] }

bound-by-equal : built_in_predicate (codes "=") (tree (var 0) (tree (atom []) no_trees)) a_free ≡ Some (Succeeds a_bound)
unfolding built_in_predicate tests comparing_tests kind_tests writing_predicates other_predicates done_by cells occurrences instance rounds value followed_for followed assigned outcome unified_for unbound_in cells_of_pairs most_pairs all_unified
bound-by-equal = refl

not-free : a_bound ≡ a_free → ⊥
not-free h = let same : (bound (atom []) ∷ []) ≡ (free ∷ []) = ap (λ s. s.variables) h in absurd cc

only-equal : (same : Bool) (name : List ℕ) → bytes_eq (codes "=") name ≡ same → ((t u : Tree) (s : State) → built_in_predicate name (tree t (tree u no_trees)) s ≡ built_in_predicate (codes "=") (tree t (tree u no_trees)) s) → name ≡ codes "="
only-equal true name e h = sym ((bytes_eq-Decides (codes "=") name).0 e)
only-equal false name e h = absurd (not-free (other-keeps name (var 0) (atom []) a_free a_bound e (h (var 0) (atom []) a_free ∙ bound-by-equal)))

pub binds-nothing : (name : List ℕ) (k : ℕ) (p : Predicate) → IsPredicateNamed name k p → (name ≡ codes "=" → k ≢ 2) → may_bind p ≡ false
unfolding tree_count
binds-nothing name k (Predicate.OfNone p) is other = refl
binds-nothing name k (Predicate.OfOne p) is other = refl
binds-nothing name k (Predicate.OfTwo PredicateOfTwo.Unify) is other =
    let two : k ≡ 2 = (Decides-eqb k 2).0 is.takes in
    absurd (other (only-equal (bytes_eq (codes "=") name) name refl (λ t u s. is.same (tree t (tree u no_trees)) s (sym two))) two)
binds-nothing name k (Predicate.OfTwo PredicateOfTwo.Differ) is other = refl
binds-nothing name k (Predicate.OfTwo (PredicateOfTwo.Integers relation)) is other = refl
binds-nothing name k (Predicate.OfTwo (PredicateOfTwo.Terms relation)) is other = refl
binds-nothing name k Predicate.Printf is other = refl

-- ---- nodes

pub built-in-laid : {M : Type 0} (preds : List CorePred) (v : StoreView M) (d e : Code) (name shown : List ℕ) (us : List Tree) (p : Predicate) (place first arity k : ℕ) → e.names.items ≡ d.names.items ++ name ∷ [] → place ≡ length d.names.items → arity ≡ length us →
    shown ≡ name → k ≡ length us → IsPredicateNamed shown k p → (name ≡ codes "=" → length us ≢ 2) → OperandsAt (tables_for preds v.now.terms d) first us →
    IsNodeOf preds (tables_for preds v.now.terms (with_names d e)) (GoalKind.Call name us) (Node.BuiltIn p place first arity)
built-in-laid preds v d e name shown us p place first arity k pushed at many same long named other are =
    let named_so : IsPredicateNamed name (length us) p = subst (λ n. IsPredicateNamed n (length us) p) same (subst (λ n. IsPredicateNamed shown n p) long named) in (
      name,
      us,
      refl,
      name-there d.names.items e.names.items name place pushed at,
      many,
      (named_so, binds-nothing name (length us) p named_so other),
      operands-wider (tables_for preds v.now.terms d) (tables_for preds v.now.terms (with_names d e)) first us (wider-added preds v v d (with_names d e) (name-pushed v d e name pushed).adds) are,
    )

pub built-value-laid : {M : Type 0} (preds : List CorePred) (v : StoreView M) (d e : Code) (name shown : List ℕ) (us : List Tree) (f : Function) (place first arity slot k : ℕ) → e.names.items ≡ d.names.items ++ name ∷ [] → place ≡ length d.names.items → arity ≡ length us →
    shown ≡ name → k ≡ length us → IsFunctionNamed shown k f → OperandsAt (tables_for preds v.now.terms d) first us →
    IsNodeOf preds (tables_for preds v.now.terms (with_names d e)) (GoalKind.Apply name us slot) (Node.BuiltInValue f place first arity slot)
built-value-laid preds v d e name shown us f place first arity slot k pushed at many same long named are = (
  name,
  us,
  refl,
  name-there d.names.items e.names.items name place pushed at,
  many,
  subst (λ n. IsFunctionNamed n (length us) f) same (subst (λ n. IsFunctionNamed shown n f) long named),
  operands-wider (tables_for preds v.now.terms d) (tables_for preds v.now.terms (with_names d e)) first us (wider-added preds v v d (with_names d e) (name-pushed v d e name pushed).adds) are,
)

-- neither by one table nor by the other
pub neither-built : (a b : Bool) → a ≡ false → b ≡ false → (a || b) ≡ false
neither-built true b first second = absurd cc
neither-built false b first second = second

pub constraint-laid : {M : Type 0} (preds : List CorePred) (v : StoreView M) (d e : Code) (name shown : List ℕ) (us : List Tree) (g : ConstraintGoal) (place first arity k : ℕ) → e.names.items ≡ d.names.items ++ name ∷ [] → place ≡ length d.names.items → arity ≡ length us →
    shown ≡ name → k ≡ length us → IsConstraintNamed shown k g → OperandsAt (tables_for preds v.now.terms d) first us →
    IsNodeOf preds (tables_for preds v.now.terms (with_names d e)) (GoalKind.Call name us) (Node.Constrain g place first arity)
constraint-laid preds v d e name shown us g place first arity k pushed at many same long named are = (
  name,
  us,
  refl,
  name-there d.names.items e.names.items name place pushed at,
  many,
  subst (λ n. IsConstraintNamed n (length us) g) same (subst (λ n. IsConstraintNamed shown n g) long named),
  operands-wider (tables_for preds v.now.terms d) (tables_for preds v.now.terms (with_names d e)) first us (wider-added preds v v d (with_names d e) (name-pushed v d e name pushed).adds) are,
)

pub solve-laid : {M : Type 0} (preds : List CorePred) (v : StoreView M) (d e : Code) (name shown : List ℕ) (us : List Tree) (place first arity : ℕ) → e.names.items ≡ d.names.items ++ name ∷ [] → place ≡ length d.names.items → arity ≡ length us →
    shown ≡ name → is_solve shown arity ≡ true → OperandsAt (tables_for preds v.now.terms d) first us →
    IsNodeOf preds (tables_for preds v.now.terms (with_names d e)) (GoalKind.Call name us) (Node.Solve place first arity)
solve-laid preds v d e name shown us place first arity pushed at many same labels are = (
  name,
  us,
  refl,
  name-there d.names.items e.names.items name place pushed at,
  many,
  subst (λ n. is_solve n (length us) ≡ true) same (subst (λ n. is_solve shown n ≡ true) many labels),
  operands-wider (tables_for preds v.now.terms d) (tables_for preds v.now.terms (with_names d e)) first us (wider-added preds v v d (with_names d e) (name-pushed v d e name pushed).adds) are,
)

pub domain-value-laid : {M : Type 0} (preds : List CorePred) (v : StoreView M) (d e : Code) (name shown : List ℕ) (us : List Tree) (f : DomainFunction) (place first arity slot k : ℕ) → e.names.items ≡ d.names.items ++ name ∷ [] → place ≡ length d.names.items → arity ≡ length us →
    shown ≡ name → k ≡ length us → IsDomainFunctionNamed shown k f → OperandsAt (tables_for preds v.now.terms d) first us →
    IsNodeOf preds (tables_for preds v.now.terms (with_names d e)) (GoalKind.Apply name us slot) (Node.DomainValue f place first arity slot)
domain-value-laid preds v d e name shown us f place first arity slot k pushed at many same long named are = (
  name,
  us,
  refl,
  name-there d.names.items e.names.items name place pushed at,
  many,
  (sym same ∙ named.0, sym long ∙ named.1),
  operands-wider (tables_for preds v.now.terms d) (tables_for preds v.now.terms (with_names d e)) first us (wider-added preds v v d (with_names d e) (name-pushed v d e name pushed).adds) are,
)
