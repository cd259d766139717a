-- Which goal a name with arguments is.
use Rattle.std.specs.Prelude.{◌≡◌, ℕ, List, Result, codes, refl}
use Rattle.std.proofs.Common.{◌∙◌, ap, sym, subst}
use Rattle.pi_terms.specs.Tree.{Tree, comp, no_trees, tree}
use Rattle.pi_terms.specs.Substitution.{instance}
use Rattle.pi_constraints.specs.State.{IsState, SpeaksBelow, bindings, next}
use Rattle.pi_constraints.specs.Store.{Moment, StoreView, IsTerm}
use Rattle.pi_constraints.specs.Value.{Bindings, value}
use Rattle.pi_constraints.specs.declared.store.Ref.{Ref}
use Rattle.pi_constraints.proofs.KeepsLemmas.{comp-below, trees-below, no-trees-below}
use Rattle.pi_constraints.proofs.RootLemmas.{value_comp}
use Rattle.pi_constraints.proofs.ValueLemmas.{value_goes_by_variables}
use Rattle.pi_prop_read.specs.declared.called.PostingGoal.{PostingGoal}
use Rattle.pi_prop_read.specs.declared.relations.Comparison.{Comparison}
use Rattle.pi_prop_read.specs.declared.truths.nodes.Connective.{Connective}
use Rattle.pi_prop_read.specs.Called.{goal_as, HasParts}
use Rattle.pi_prop_read.specs.Refs.{value_at}
use Rattle.pi_prop_read.proofs.RootLemmas.{value_is, there}
use Rattle.pi_prop_spec.specs.Terms.{goal_of, boolean_of, comparison_named, connective_named}
use Rattle.pi_effects.specs.declared.fault.Stop.{Stop}
use Rattle.pi_lib.specs.Outcomes.{ShowsOutcome}
use Rattle.pi_lib.specs.declared.predicates.Outcome.{Outcome}
use Rattle.pi_settling.specs.Posted.{posting_goal}
use Rattle.pi_lib_constraints.specs.Names.{one_name, comparison_name, connective_name}
use Rattle.pi_lib_constraints.specs.declared.kinds.GoalOfOne.{GoalOfOne}
use Rattle.pi_lib_constraints.proofs.PostLemmas.{Posts}

-- all terms of a store speak of variables that were made
abbrev pub AllBelow : {M : Type 0} → StoreView M → Type 0
AllBelow v = (q : Ref) (t : Tree) → IsTerm v q t → SpeaksBelow (next v.now.state) t

one-value : (b : Bindings) (name : List ℕ) (t : Tree) → value b (comp name (tree t no_trees)) ≡ comp name (tree (value b t) no_trees)
unfolding instance
one-value b name t = value_comp b name (tree t no_trees) ∙ ap (λ (x : Tree). comp name (tree x no_trees)) (sym (value_goes_by_variables b t))

pub two-value : (b : Bindings) (name : List ℕ) (t u : Tree) → value b (comp name (tree t (tree u no_trees))) ≡ comp name (tree (value b t) (tree (value b u) no_trees))
unfolding instance
two-value b name t u =
    value_comp b name (tree t (tree u no_trees))
    ∙ (λ i. comp name (tree (sym (value_goes_by_variables b t) i) (tree (sym (value_goes_by_variables b u) i) no_trees)))

three-value : (b : Bindings) (name : List ℕ) (t u w : Tree) → value b (comp name (tree t (tree u (tree w no_trees)))) ≡ comp name (tree (value b t) (tree (value b u) (tree (value b w) no_trees)))
unfolding instance
three-value b name t u w =
    value_comp b name (tree t (tree u (tree w no_trees)))
    ∙ (λ i. comp name (tree (sym (value_goes_by_variables b t) i) (tree (sym (value_goes_by_variables b u) i) (tree (sym (value_goes_by_variables b w) i) no_trees))))

-- ---- with one argument

abbrev pub posting_of_one : GoalOfOne → Ref → PostingGoal
posting_of_one GoalOfOne.Negation a = PostingGoal.Negation a
posting_of_one GoalOfOne.Different a = PostingGoal.Different a
posting_of_one GoalOfOne.Distinct a = PostingGoal.Distinct a

one-is : (g : GoalOfOne) (w : Moment) (a : Ref) → goal_of (comp (one_name g) (tree (value_at w a) no_trees)) ≡ goal_as w (posting_of_one g a)
unfolding goal_of boolean_of
one-is GoalOfOne.Negation w a = refl
one-is GoalOfOne.Different w a = refl
one-is GoalOfOne.Distinct w a = refl

pub one-posts : {M : Type 0} (v : StoreView M) (g : GoalOfOne) (a : Ref) (t : Tree) → IsState v.now.state → AllBelow v → IsTerm v a t → Posts v (posting_of_one g a) (comp (one_name g) (tree t no_trees))
one-posts v g a t is all at =
    let s = v.now.state in
    record {
      state = is;
      below = comp-below (next s) (one_name g) (tree t no_trees) (trees-below (next s) t no_trees (all a t at) (no-trees-below (next s)));
      same = ap goal_of (one-value (bindings s) (one_name g) t ∙ ap (λ (x : Tree). comp (one_name g) (tree x no_trees)) (sym (value_is v.now a t at))) ∙ one-is g v.now a;
    }

-- ---- with two

two-below : {M : Type 0} (v : StoreView M) (name : List ℕ) (a b : Ref) (t u : Tree) → AllBelow v → IsTerm v a t → IsTerm v b u → SpeaksBelow (next v.now.state) (comp name (tree t (tree u no_trees)))
two-below v name a b t u all at too =
    let n = next v.now.state in
    comp-below n name (tree t (tree u no_trees)) (trees-below n t (tree u no_trees) (all a t at) (trees-below n u no_trees (all b u too) (no-trees-below n)))

two-are : {M : Type 0} (v : StoreView M) (name : List ℕ) (a b : Ref) (t u : Tree) → IsTerm v a t → IsTerm v b u →
    goal_of (value (bindings v.now.state) (comp name (tree t (tree u no_trees)))) ≡ goal_of (comp name (tree (value_at v.now a) (tree (value_at v.now b) no_trees)))
two-are v name a b t u at too =
    ap goal_of (two-value (bindings v.now.state) name t u
    ∙ (ap (λ (x : Tree). comp name (tree x (tree (value (bindings v.now.state) u) no_trees))) (sym (value_is v.now a t at)) ∙ ap (λ (x : Tree). comp name (tree (value_at v.now a) (tree x no_trees))) (sym (value_is v.now b u too))))

relation-is : (c : Comparison) (w : Moment) (a b : Ref) → goal_of (comp (comparison_name c) (tree (value_at w a) (tree (value_at w b) no_trees))) ≡ goal_as w (PostingGoal.Relation c a b)
unfolding goal_of boolean_of comparison_named connective_named
relation-is Comparison.Equal w a b = refl
relation-is Comparison.Unequal w a b = refl
relation-is Comparison.Less w a b = refl
relation-is Comparison.AtMost w a b = refl
relation-is Comparison.Greater w a b = refl
relation-is Comparison.AtLeast w a b = refl

joined-is : (k : Connective) (w : Moment) (a b : Ref) → goal_of (comp (connective_name k) (tree (value_at w a) (tree (value_at w b) no_trees))) ≡ goal_as w (PostingGoal.Joined k a b)
unfolding goal_of boolean_of comparison_named connective_named
joined-is Connective.And w a b = refl
joined-is Connective.Or w a b = refl
joined-is Connective.Either w a b = refl
joined-is Connective.Implies w a b = refl
joined-is Connective.Equivalent w a b = refl

pub relation-posts : {M : Type 0} (v : StoreView M) (c : Comparison) (a b : Ref) (t u : Tree) → IsState v.now.state → AllBelow v → IsTerm v a t → IsTerm v b u → Posts v (PostingGoal.Relation c a b) (comp (comparison_name c) (tree t (tree u no_trees)))
relation-posts v c a b t u is all at too = record { state = is; below = two-below v (comparison_name c) a b t u all at too; same = two-are v (comparison_name c) a b t u at too ∙ relation-is c v.now a b }

pub joined-posts : {M : Type 0} (v : StoreView M) (k : Connective) (a b : Ref) (t u : Tree) → IsState v.now.state → AllBelow v → IsTerm v a t → IsTerm v b u → Posts v (PostingGoal.Joined k a b) (comp (connective_name k) (tree t (tree u no_trees)))
joined-posts v k a b t u is all at too = record { state = is; below = two-below v (connective_name k) a b t u all at too; same = two-are v (connective_name k) a b t u at too ∙ joined-is k v.now a b }

-- ---- with three

element-is : (w : Moment) (a b d : Ref) → goal_of (comp (codes "element") (tree (value_at w a) (tree (value_at w b) (tree (value_at w d) no_trees)))) ≡ goal_as w (PostingGoal.Element a b d)
unfolding goal_of
element-is w a b d = refl

pub element-posts : {M : Type 0} (v : StoreView M) (a b d : Ref) (t u w : Tree) → IsState v.now.state → AllBelow v → IsTerm v a t → IsTerm v b u → IsTerm v d w → Posts v (PostingGoal.Element a b d) (comp (codes "element") (tree t (tree u (tree w no_trees))))
element-posts v a b d t u w is all at too three =
    let s = v.now.state in
    let n = next s in
    let name = codes "element" in
    record {
      state = is;
      below = comp-below n name (tree t (tree u (tree w no_trees))) (trees-below n t (tree u (tree w no_trees)) (all a t at) (trees-below n u (tree w no_trees) (all b u too) (trees-below n w no_trees (all d w three) (no-trees-below n))));
      same =
          ap goal_of (three-value (bindings s) name t u w
          ∙ (ap (λ (x : Tree). comp name (tree x (tree (value (bindings s) u) (tree (value (bindings s) w) no_trees)))) (sym (value_is v.now a t at))
          ∙ (ap (λ (x : Tree). comp name (tree (value_at v.now a) (tree x (tree (value (bindings s) w) no_trees)))) (sym (value_is v.now b u too))
          ∙ ap (λ (x : Tree). comp name (tree (value_at v.now a) (tree (value_at v.now b) (tree x no_trees)))) (sym (value_is v.now d w three)))))
          ∙ element-is v.now a b d;
    }

-- ---- what the posting shows is what the call does

abbrev pub PostShows : {M : Type 0} → StoreView M → StoreView M → Result Outcome Stop → PostingGoal → Type 0
PostShows v w result goal =
    (t : Tree) → IsState v.now.state → HasParts v.now goal → SpeaksBelow (next v.now.state) t → goal_of (value (bindings v.now.state) t) ≡ goal_as v.now goal → ShowsOutcome v w result (posting_goal v.now.state t)

by-posts : {M : Type 0} (v w : StoreView M) (result : Result Outcome Stop) (goal : PostingGoal) (t : Tree) → PostShows v w result goal → Posts v goal t → HasParts v.now goal → ShowsOutcome v w result (posting_goal v.now.state t)
by-posts v w result goal t shows h parts = shows t h.state parts h.below h.same

one-parts : {M : Type 0} (v : StoreView M) (g : GoalOfOne) (a : Ref) (t : Tree) → IsTerm v a t → HasParts v.now (posting_of_one g a)
one-parts v GoalOfOne.Negation a t at = there v.now a t at
one-parts v GoalOfOne.Different a t at = there v.now a t at
one-parts v GoalOfOne.Distinct a t at = there v.now a t at

pub one-shown : {M : Type 0} (v w : StoreView M) (result : Result Outcome Stop) (g known : GoalOfOne) (a : Ref) (t : Tree) → g ≡ known → IsState v.now.state → AllBelow v → IsTerm v a t → PostShows v w result (posting_of_one known a) →
    ShowsOutcome v w result (posting_goal v.now.state (comp (one_name g) (tree t no_trees)))
one-shown v w result g known a t e is all at shows =
    subst (λ (x : GoalOfOne). ShowsOutcome v w result (posting_goal v.now.state (comp (one_name x) (tree t no_trees)))) (sym e)
    (by-posts v w result (posting_of_one known a) (comp (one_name known) (tree t no_trees)) shows (one-posts v known a t is all at) (one-parts v known a t at))

pub relation-shown : {M : Type 0} (v w : StoreView M) (result : Result Outcome Stop) (c : Comparison) (a b : Ref) (t u : Tree) → IsState v.now.state → AllBelow v → IsTerm v a t → IsTerm v b u → PostShows v w result (PostingGoal.Relation c a b) →
    ShowsOutcome v w result (posting_goal v.now.state (comp (comparison_name c) (tree t (tree u no_trees))))
relation-shown v w result c a b t u is all at too shows =
    by-posts v w result (PostingGoal.Relation c a b) (comp (comparison_name c) (tree t (tree u no_trees))) shows (relation-posts v c a b t u is all at too) (there v.now a t at, there v.now b u too)

pub joined-shown : {M : Type 0} (v w : StoreView M) (result : Result Outcome Stop) (k : Connective) (a b : Ref) (t u : Tree) → IsState v.now.state → AllBelow v → IsTerm v a t → IsTerm v b u → PostShows v w result (PostingGoal.Joined k a b) →
    ShowsOutcome v w result (posting_goal v.now.state (comp (connective_name k) (tree t (tree u no_trees))))
joined-shown v w result k a b t u is all at too shows =
    by-posts v w result (PostingGoal.Joined k a b) (comp (connective_name k) (tree t (tree u no_trees))) shows (joined-posts v k a b t u is all at too) (there v.now a t at, there v.now b u too)

pub element-shown : {M : Type 0} (v w : StoreView M) (result : Result Outcome Stop) (a b d : Ref) (t u x : Tree) → IsState v.now.state → AllBelow v → IsTerm v a t → IsTerm v b u → IsTerm v d x → PostShows v w result (PostingGoal.Element a b d) →
    ShowsOutcome v w result (posting_goal v.now.state (comp (codes "element") (tree t (tree u (tree x no_trees)))))
element-shown v w result a b d t u x is all at too three shows =
    by-posts v w result (PostingGoal.Element a b d) (comp (codes "element") (tree t (tree u (tree x no_trees)))) shows (element-posts v a b d t u x is all at too three) (there v.now a t at, there v.now b u too, there v.now d x three)
