-- A listed value once new variables were made, and its copy.
use Rattle.std.proofs.Common.{◌≡◌, ℕ, zero, suc, List, [], ◌∷◌, ◌++◌, length, None, Ok, refl, ap, sym, ◌∙◌, subst}
use Rattle.std.proofs.lemmas.List.{map-append}
use Rattle.pi_terms.specs.Tree.{Tree, no_trees, tree, subterms}
use Rattle.pi_terms.specs.Variables.{firsts}
use Rattle.pi_constraints.specs.Value.{IsAcyclic, value}
use Rattle.pi_terms.specs.Copy.{renamed}
use Rattle.pi_constraints.specs.State.{State, free, binding, bindings, with_new}
use Rattle.pi_constraints.specs.Store.{StoreView, IsTerm, Keeps, Stays}
use Rattle.pi_constraints.specs.declared.store.Ref.{Ref}
use Rattle.pi_constraints.proofs.BindingLemmas.{new_variable_stays_acyclic, new_variable_changes_no_value}
use Rattle.pi_unify.specs.Terms.{HoldsNoCycle, term_of, value_of}
use Rattle.pi_unify.specs.Copying.{with_variables, Makes, renumbered, AreGiven, values_of, ListsNodes, ShowsCopy, forest, Nested, root_variables, AreListed}
use Rattle.pi_unify.specs.declared.copying.Nodes.{Nodes}
use Rattle.pi_unify.proofs.TermValues.{given_term, term_given, term_is}
use Rattle.pi_unify.proofs.BuildLemmas.{all_nested, whole_forest, root_variables-subterms}
use Rattle.pi_unify.proofs.PlaceLemmas.{made_enough, placed}

bindings_more : (s : State) → bindings (with_new s) ≡ bindings s ++ None ∷ []
bindings_more s = map-append binding s.variables (free ∷ [])

record Same (s r : State) : Type 0 where
  acyclic : IsAcyclic (bindings r)
  values : (t : Tree) → value (bindings r) t ≡ value (bindings s) t

-- new variables change no value
same_with : (k : ℕ) (s : State) → IsAcyclic (bindings s) → Same s (with_variables k s)
unfolding with_variables
same_with zero s a = record { acyclic = a; values = λ t. refl }
same_with (suc k) s a =
    let before : Same s (with_variables k s) = same_with k s a in
    let more : bindings (with_new (with_variables k s)) ≡ bindings (with_variables k s) ++ None ∷ [] = bindings_more (with_variables k s) in
    record {
      acyclic = subst IsAcyclic (sym more) (new_variable_stays_acyclic (bindings (with_variables k s)) before.acyclic);
      values = λ t. ap (λ b. value b t) more ∙ (new_variable_changes_no_value (bindings (with_variables k s)) t before.acyclic ∙ before.values t);
    }

same_made : {M : Type 0} (v w : StoreView M) (k : ℕ) → Makes v w k → HoldsNoCycle v → Same v.now.state w.now.state
same_made v w k makes a = subst (Same v.now.state) (sym makes.state) (same_with k v.now.state a)

given_still : {M : Type 0} (v w : StoreView M) (refs : List Ref) → Keeps v w → AreGiven v refs → AreGiven w refs
unfolding AreGiven
given_still v w [] kept all = tt
given_still v w (r ∷ refs) kept all = (term_given w r (term_of v r) (kept.terms r (term_of v r) (given_term v r all.0)), given_still v w refs kept all.1)

values_still : {M : Type 0} (v w : StoreView M) (refs : List Ref) → Keeps v w → Same v.now.state w.now.state → AreGiven v refs → values_of w refs ≡ values_of v refs
unfolding AreGiven
values_still v w [] kept same all = refl
values_still v w (r ∷ refs) kept same all =
    let term : term_of w r ≡ term_of v r = term_is w r (term_of v r) (kept.terms r (term_of v r) (given_term v r all.0)) in
    let this : value_of w r ≡ value_of v r = ap (value (bindings w.now.state)) term ∙ same.values (term_of v r) in
    let rest : values_of w refs ≡ values_of v refs = values_still v w refs kept same all.1 in
    cc

-- what the copies are put by
pub record Ready {M : Type 0} (w : StoreView M) (refs : List Ref) (ns : List ℕ) (u : Tree) : Type 0 where
  pub listed : AreListed w ns refs
  pub one : forest (values_of w refs) ≡ tree u no_trees

pub ready_to_copy : {M : Type 0} (v w : StoreView M) (k : ℕ) (u : Tree) (nodes : Nodes) → HoldsNoCycle v → Makes v w k → k ≡ length nodes.numbers → ListsNodes v u nodes → Ready w nodes.refs.items nodes.numbers u
ready_to_copy v w k u nodes a makes e lists =
    let same : Same v.now.state w.now.state = same_made v w k makes a in
    let listed : values_of w nodes.refs.items ≡ subterms u = values_still v w nodes.refs.items makes.keeps same lists.given ∙ lists.listed in
    record {
      listed = record {
        acyclic = same.acyclic;
        given = given_still v w nodes.refs.items makes.keeps lists.given;
        nested = subst Nested (sym listed) (all_nested u);
        known = lists.numbers ∙ ap firsts (sym (ap root_variables listed ∙ root_variables-subterms u));
        made = made_enough v w k nodes.numbers makes e;
      };
      one = ap forest listed ∙ whole_forest u;
    }

pub copied : {M : Type 0} (v w x : StoreView M) (k : ℕ) (u : Tree) (nodes : Nodes) (made : Ref) → HoldsNoCycle v → Makes v w k → k ≡ length nodes.numbers → ListsNodes v u nodes → Stays w x → ((t : Tree) → forest (values_of w nodes.refs.items) ≡ tree t no_trees → IsTerm x made (renamed (renumbered w.now.state nodes.numbers) t)) → ShowsCopy v x u (Ok made)
copied v w x k u nodes made a makes e lists stays term =
    let ready : Ready w nodes.refs.items nodes.numbers u = ready_to_copy v w k u nodes a makes e lists in
    (placed v w x k nodes.numbers u made makes e lists.numbers stays (term u ready.one), lists.few)
