-- The goals by which names are called, as they are found in tables, and what `call` comes to by them.
use Rattle.std.proofs.Common.{◌≡◌, ℕ, ◌||◌, Bool, true, false, cond, List, Option, Some, None, refl, sym, ◌∙◌, ap}
use Rattle.std.specs.Prelude.{slice_get, codes}
use Rattle.pi_terms.specs.Tree.{Tree, Trees, tree, tree_count}
use Rattle.pi_constraints.specs.State.{State, bindings, followed}
use Rattle.pi_core.specs.GoalTree.{GoalTree, no_goals, goal}
use Rattle.pi_core.specs.CoreTree.{PredTree, find_pred}
use Rattle.pi_effects.specs.BuiltIns.{is_predicate}
use Rattle.pi_meaning.specs.Shared.Effects.{is_built_name}
use Rattle.pi_effects.specs.Exception.{type_error}
use Rattle.pi_effects.specs.Items.{each_tree}
use Rattle.pi_meaning.specs.Shared.Names.{is_later_predicate, is_planner, is_call}
use Rattle.pi_meaning.specs.Shared.Calls.{Called as Named, called_by}
use Rattle.pi_meaning.specs.CoreMeaning.Defined.{NamesAreFree}
use Rattle.pi_meaning.specs.CoreMeaning.Instances.{is_called_by_name}
use Rattle.pi_meaning.proofs.Shared.KnownLemmas.{planner-later}
use Rattle.pi_meaning.proofs.Shared.WholeLemmas.{free-found}
use Rattle.pi_meaning.specs.Machine.NamedGoals.{goal_by_name}
use Rattle.pi_meaning.proofs.Shared.NamesApart.{planner-others}
use Rattle.pi_meaning.proofs.Machine.NamedLemmas.{NamedBy, by_catch, by_call, by_name, named-by}
use Rattle.pi_engine_code.specs.Callables.{place_in, HasPlace}
use Rattle.pi_meaning.specs.Machine.Configuration.{Frame, going, raising, in_places}
use Rattle.pi_meaning.specs.Machine.Step.{unknown_by, goal_called, named_now, term_now, first_now}
use Rattle.pi_engine_stands.specs.Here.{IsHere}
use Rattle.pi_meaning.proofs.Machine.SolveNames.{planner-no_built}
use Rattle.pi_engine_stands.specs.Stands.{World, tables_in, steps_of, NamedHere, IsCodeOf}

-- ---- planner calls have no goal where names are free

later-given : (a b c : Bool) → c ≡ true → (a || (b || c)) ≡ false → ⊥
later-given true b c later given = absurd cc
later-given false true c later given = absurd cc
later-given false false true later given = absurd cc
later-given false false false later given = absurd cc

none-there : (preds : List PredTree) (name : List ℕ) (k : ℕ) → NamesAreFree preds → is_planner name k ≡ true → (o : Option PredTree) → find_pred false name k preds ≡ o → is_called_by_name o ≡ true → ⊥
none-there preds name k free is None found called = absurd cc
none-there preds name k free is (Some pred) found called =
    later-given (is_call name k) (is_predicate name k) (is_later_predicate name k) (planner-later name k is) (free-found preds free false name k (Some pred) found refl)

neither-there : (a b : Bool) → a ≡ false → (b ≡ true → ⊥) → (a || b) ≡ true → ⊥
neither-there true b other absent is = absurd cc
neither-there false b other absent is = absent is

planner-unnamed : (preds : List PredTree) (name : List ℕ) (k : ℕ) (g : GoalTree) → NamesAreFree preds → is_planner name k ≡ true → NamedBy preds name k g → ⊥
planner-unnamed preds name k _ free is (by_catch catches) = absurd (let other = (planner-others name k is).0 in cc)
planner-unnamed preds name k _ free is (by_call not calls) = absurd (let other = (planner-others name k is).1 in cc)
planner-unnamed preds name k _ free is (by_name not other there) =
    neither-there (is_built_name name k) (is_called_by_name (find_pred false name k preds)) (planner-no_built name k is) (none-there preds name k free is (find_pred false name k preds) refl) there

called-is : (preds : List PredTree) (name : List ℕ) (k : ℕ) (o : Option GoalTree) → NamesAreFree preds → goal_by_name preds name k ≡ o → (planner : Bool) → is_planner name k ≡ planner → goal_called preds name k ≡ o
called-is preds name k o free by_it false is = ap (λ b. cond b None (goal_by_name preds name k)) is ∙ by_it
called-is preds name k None free by_it true is = ap (λ b. cond b None (goal_by_name preds name k)) is
called-is preds name k (Some g) free by_it true is = absurd (planner-unnamed preds name k g free is (named-by preds name k g by_it))

-- ---- the goal of a name that is looked up by its number

same-name : (o : Option (List ℕ)) (name other : List ℕ) → o ≡ Some name → o ≡ Some other → name ≡ other
same-name o name other at is = cc

-- a place is found
pub record FoundNamed {M : Type 0} (w : World M) (name : List ℕ) (k place : ℕ) : Type 0 where
  pub it : GoalTree
  pub called : goal_called w.loaded.preds name k ≡ Some it
  pub here : (base : ℕ) → IsHere (tables_in w.loaded) (steps_of w.loaded) (record { base = base; first = 0; count = k }) place it true

pub found-goal : {M : Type 0} (w : World M) (n k place : ℕ) (name : List ℕ) → IsCodeOf w.loaded.code (tables_in w.loaded) w.store.names w.loaded.preds → place_in w.loaded.code.callables n k ≡ Some place →
    slice_get w.store.names n ≡ Some name → FoundNamed w name k place
found-goal w n k place name code found is =
    let named : NamedHere w.loaded.code (tables_in w.loaded) w.store.names w.loaded.preds n k place = code.named.right n k place found in
    let same : named.name ≡ name = same-name (slice_get w.store.names n) named.name name named.name_is is in
    record {
      it = named.it;
      called = called-is w.loaded.preds name k (Some named.it) code.free (sym (ap (λ x. goal_by_name w.loaded.preds x k) same) ∙ named.is) (is_planner name k) refl;
      here = named.here;
    }

no-place : (o : Option ℕ) (place : ℕ) (X : Type 0) → o ≡ None → o ≡ Some place → X
no-place o place X none some = absurd cc

-- none is found, where no name has two numbers
pub missing-goal : {M : Type 0} (w : World M) (n k : ℕ) (name : List ℕ) → IsCodeOf w.loaded.code (tables_in w.loaded) w.store.names w.loaded.preds → place_in w.loaded.code.callables n k ≡ None →
    slice_get w.store.names n ≡ Some name → ((i j : ℕ) (other : List ℕ) → slice_get w.store.names i ≡ Some other → slice_get w.store.names j ≡ Some other → i ≡ j) → goal_by_name w.loaded.preds name k ≡ None
missing-goal w n k name code none is distinct = by-goal (goal_by_name w.loaded.preds name k) refl
  where
    by-goal : (o : Option GoalTree) → goal_by_name w.loaded.preds name k ≡ o → o ≡ None
    by-goal None named = refl
    by-goal (Some g) named =
        let it : HasPlace w.store.names w.loaded.code.callables name k = code.named.each name k g named in
        no-place (place_in w.loaded.code.callables n k) it.place (Some g ≡ None) none
        (ap (λ i. place_in w.loaded.code.callables i k) (distinct n it.number name is it.name_is) ∙ it.place_is)

pub missing-called : {M : Type 0} (w : World M) (n k : ℕ) (name : List ℕ) → IsCodeOf w.loaded.code (tables_in w.loaded) w.store.names w.loaded.preds → place_in w.loaded.code.callables n k ≡ None →
    slice_get w.store.names n ≡ Some name → ((i j : ℕ) (other : List ℕ) → slice_get w.store.names i ≡ Some other → slice_get w.store.names j ≡ Some other → i ≡ j) → goal_called w.loaded.preds name k ≡ None
missing-called w n k name code none is distinct =
    called-is w.loaded.preds name k None code.free (missing-goal w n k name code none is distinct) (is_planner name k) refl

-- ---- what `call` comes to

pub first-none : (preds : List PredTree) (t : Tree) (ts : Trees) (s : State) (k : List Frame) → called_by (followed (bindings s) t) (each_tree ts) ≡ None → first_now preds (tree t ts) s k ≡ raising (type_error (codes "callable") t s)
unfolding first_now
first-none preds t ts s k none = ap (term_now preds t s k) none

pub first-unknown : (preds : List PredTree) (t : Tree) (ts : Trees) (s : State) (k : List Frame) (c : Named) → called_by (followed (bindings s) t) (each_tree ts) ≡ Some c → goal_called preds c.name (tree_count c.args) ≡ None →
    first_now preds (tree t ts) s k ≡ raising (unknown_by preds c.name (tree_count c.args))
unfolding first_now
first-unknown preds t ts s k c is none = ap (term_now preds t s k) is ∙ ap (λ o. named_now o (unknown_by preds c.name (tree_count c.args)) c.args s k) none

pub first-goes : (preds : List PredTree) (t : Tree) (ts : Trees) (s : State) (k : List Frame) (c : Named) (g : GoalTree) → called_by (followed (bindings s) t) (each_tree ts) ≡ Some c → goal_called preds c.name (tree_count c.args) ≡ Some g →
    first_now preds (tree t ts) s k ≡ going (goal g no_goals) (in_places c.args) s k
unfolding first_now
first-goes preds t ts s k c g is found = ap (term_now preds t s k) is ∙ ap (λ o. named_now o (unknown_by preds c.name (tree_count c.args)) c.args s k) found
