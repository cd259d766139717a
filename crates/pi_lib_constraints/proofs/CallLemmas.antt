-- Calls by the names of goals.
use Rattle.std.specs.Prelude.{◌≡◌, ℕ, ◌∷◌, [], List, Option, Some, Result, codes, refl}
use Rattle.std.proofs.Common.{subst}
use Rattle.pi_terms.specs.Tree.{Tree, Trees, comp, no_trees, tree}
use Rattle.pi_constraints.specs.declared.store.Ref.{Ref}
use Rattle.pi_constraints.specs.State.{State}
use Rattle.pi_constraints.specs.Store.{StoreView, IsTerm, AreTerms}
use Rattle.pi_effects.specs.Effect.{Effect}
use Rattle.pi_effects.specs.Rows.{done_by}
use Rattle.pi_effects.specs.declared.fault.Stop.{Stop}
use Rattle.pi_lib.specs.Outcomes.{ShowsOutcome}
use Rattle.pi_lib.specs.declared.predicates.Outcome.{Outcome}
use Rattle.pi_prop_read.specs.declared.relations.Comparison.{Comparison}
use Rattle.pi_prop_read.specs.declared.truths.nodes.Connective.{Connective}
use Rattle.pi_settling.specs.Goals.{constraint_goals, constraint_effect}
use Rattle.pi_settling.specs.Posted.{posting_goal}
use Rattle.pi_lib_constraints.specs.Done.{two_done}
use Rattle.pi_lib_constraints.specs.Names.{one_name, two_name, goal_name}
use Rattle.pi_lib_constraints.specs.declared.kinds.GoalOfOne.{GoalOfOne}
use Rattle.pi_lib_constraints.specs.declared.kinds.GoalOfTwo.{GoalOfTwo}
use Rattle.pi_lib_constraints.specs.declared.kinds.ConstraintGoal.{ConstraintGoal}

-- ---- by name

one-by_name : (g : GoalOfOne) (t : Tree) (s : State) → constraint_effect (one_name g) (tree t no_trees) s ≡ Some (posting_goal s (comp (one_name g) (tree t no_trees)))
unfolding done_by constraint_goals
one-by_name GoalOfOne.Negation t s = refl
one-by_name GoalOfOne.Different t s = refl
one-by_name GoalOfOne.Distinct t s = refl

two-by_name : (g : GoalOfTwo) (t u : Tree) (s : State) → constraint_effect (two_name g) (tree t (tree u no_trees)) s ≡ Some (two_done g s t u)
unfolding done_by constraint_goals
two-by_name GoalOfTwo.Within t u s = refl
two-by_name GoalOfTwo.NotIn t u s = refl
two-by_name (GoalOfTwo.Relation Comparison.Equal) t u s = refl
two-by_name (GoalOfTwo.Relation Comparison.Unequal) t u s = refl
two-by_name (GoalOfTwo.Relation Comparison.Less) t u s = refl
two-by_name (GoalOfTwo.Relation Comparison.AtMost) t u s = refl
two-by_name (GoalOfTwo.Relation Comparison.Greater) t u s = refl
two-by_name (GoalOfTwo.Relation Comparison.AtLeast) t u s = refl
two-by_name (GoalOfTwo.Joined Connective.And) t u s = refl
two-by_name (GoalOfTwo.Joined Connective.Or) t u s = refl
two-by_name (GoalOfTwo.Joined Connective.Either) t u s = refl
two-by_name (GoalOfTwo.Joined Connective.Implies) t u s = refl
two-by_name (GoalOfTwo.Joined Connective.Equivalent) t u s = refl

element-by_name : (t u w : Tree) (s : State) → constraint_effect (codes "element") (tree t (tree u (tree w no_trees))) s ≡ Some (posting_goal s (comp (codes "element") (tree t (tree u (tree w no_trees)))))
unfolding done_by constraint_goals
element-by_name t u w s = refl

same-done : (o : Option Effect) (d e : Effect) → o ≡ Some d → o ≡ Some e → d ≡ e
same-done o d e h g = cc

-- ---- the terms of so many Refs

terms-one : {M : Type 0} (v : StoreView M) (a : Ref) (us : Trees) (P : Trees → Type 0) → AreTerms v (a ∷ []) us → ((t : Tree) → IsTerm v a t → P (tree t no_trees)) → P us
unfolding AreTerms
terms-one v a no_trees P h f = absurd h
terms-one v a (tree t no_trees) P h f = f t h.0
terms-one v a (tree t (tree u us)) P h f = absurd h.1

terms-two : {M : Type 0} (v : StoreView M) (a b : Ref) (us : Trees) (P : Trees → Type 0) → AreTerms v (a ∷ b ∷ []) us → ((t u : Tree) → IsTerm v a t → IsTerm v b u → P (tree t (tree u no_trees))) → P us
unfolding AreTerms
terms-two v a b no_trees P h f = absurd h
terms-two v a b (tree t no_trees) P h f = absurd h.1
terms-two v a b (tree t (tree u no_trees)) P h f = f t u h.0 h.1.0
terms-two v a b (tree t (tree u (tree w us))) P h f = absurd h.1.1

terms-three : {M : Type 0} (v : StoreView M) (a b d : Ref) (us : Trees) (P : Trees → Type 0) → AreTerms v (a ∷ b ∷ d ∷ []) us → ((t u w : Tree) → IsTerm v a t → IsTerm v b u → IsTerm v d w → P (tree t (tree u (tree w no_trees)))) → P us
unfolding AreTerms
terms-three v a b d no_trees P h f = absurd h
terms-three v a b d (tree t no_trees) P h f = absurd h.1
terms-three v a b d (tree t (tree u no_trees)) P h f = absurd h.1.1
terms-three v a b d (tree t (tree u (tree w no_trees))) P h f = f t u w h.0 h.1.0 h.1.1.0
terms-three v a b d (tree t (tree u (tree w (tree x us)))) P h f = absurd h.1.1.1

-- ---- calls

abbrev Calls : {M : Type 0} → StoreView M → StoreView M → Result Outcome Stop → List ℕ → Effect → Trees → Type 0
Calls v w result name e us = constraint_effect name us v.now.state ≡ Some e → ShowsOutcome v w result e

pub one-called : {M : Type 0} (v w : StoreView M) (result : Result Outcome Stop) (goal : ConstraintGoal) (g : GoalOfOne) (args : List Ref) (a : Ref) (ts : Trees) (e : Effect) → goal ≡ ConstraintGoal.OfOne g → args ≡ a ∷ [] → AreTerms v args ts →
    ((t : Tree) → IsTerm v a t → ShowsOutcome v w result (posting_goal v.now.state (comp (one_name g) (tree t no_trees)))) → constraint_effect (goal_name goal) ts v.now.state ≡ Some e → ShowsOutcome v w result e
one-called v w result goal g args a ts e is are terms shows done =
    let s : State = v.now.state in
    terms-one v a ts (Calls v w result (one_name g) e) (subst (λ (rs : List Ref). AreTerms v rs ts) are terms)
    (λ t at asked. subst (ShowsOutcome v w result) (same-done (constraint_effect (one_name g) (tree t no_trees) s) (posting_goal s (comp (one_name g) (tree t no_trees))) e (one-by_name g t s) asked) (shows t at))
    (subst (λ (x : ConstraintGoal). constraint_effect (goal_name x) ts s ≡ Some e) is done)

pub two-called : {M : Type 0} (v w : StoreView M) (result : Result Outcome Stop) (goal : ConstraintGoal) (g : GoalOfTwo) (args : List Ref) (a b : Ref) (ts : Trees) (e : Effect) → goal ≡ ConstraintGoal.OfTwo g → args ≡ a ∷ b ∷ [] → AreTerms v args ts →
    ((t u : Tree) → IsTerm v a t → IsTerm v b u → ShowsOutcome v w result (two_done g v.now.state t u)) → constraint_effect (goal_name goal) ts v.now.state ≡ Some e → ShowsOutcome v w result e
two-called v w result goal g args a b ts e is are terms shows done =
    let s : State = v.now.state in
    terms-two v a b ts (Calls v w result (two_name g) e) (subst (λ (rs : List Ref). AreTerms v rs ts) are terms)
    (λ t u at too asked. subst (ShowsOutcome v w result) (same-done (constraint_effect (two_name g) (tree t (tree u no_trees)) s) (two_done g s t u) e (two-by_name g t u s) asked) (shows t u at too))
    (subst (λ (x : ConstraintGoal). constraint_effect (goal_name x) ts s ≡ Some e) is done)

pub element-called : {M : Type 0} (v w : StoreView M) (result : Result Outcome Stop) (goal : ConstraintGoal) (args : List Ref) (a b d : Ref) (ts : Trees) (e : Effect) → goal ≡ ConstraintGoal.Element → args ≡ a ∷ b ∷ d ∷ [] → AreTerms v args ts →
    ((t u x : Tree) → IsTerm v a t → IsTerm v b u → IsTerm v d x → ShowsOutcome v w result (posting_goal v.now.state (comp (codes "element") (tree t (tree u (tree x no_trees)))))) → constraint_effect (goal_name goal) ts v.now.state ≡ Some e → ShowsOutcome v w result e
element-called v w result goal args a b d ts e is are terms shows done =
    let s : State = v.now.state in
    terms-three v a b d ts (Calls v w result (codes "element") e) (subst (λ (rs : List Ref). AreTerms v rs ts) are terms)
    (λ t u x at too three asked.
    subst (ShowsOutcome v w result) (same-done (constraint_effect (codes "element") (tree t (tree u (tree x no_trees))) s) (posting_goal s (comp (codes "element") (tree t (tree u (tree x no_trees))))) e (element-by_name t u x s) asked) (shows t u x at too three))
    (subst (λ (x : ConstraintGoal). constraint_effect (goal_name x) ts s ≡ Some e) is done)
