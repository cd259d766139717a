-- What goals of constraints leave of a state from which goals begin.
use Rattle.std.proofs.Common.{◌≡◌, ℕ, ◌≤◌, List, [], ◌∷◌, Option, Some, Ok, Err, refl, sym, arith, subst}
use Rattle.pi_terms.specs.Tree.{Tree, comp, Trees, no_trees, tree, tree_count}
use Rattle.pi_constraints.specs.State.{State, IsState, SpeaksBelow, next}
use Rattle.pi_constraints.specs.Store.{StoreView, Keeps, IsTerm, AreTerms}
use Rattle.pi_constraints.specs.declared.store.Ref.{Ref}
use Rattle.pi_constraints.proofs.KeepsLemmas.{TreesBelow, no-trees-below, trees-below, comp-below}
use Rattle.pi_effects.specs.Effect.{Effect, Succeeds, Fails, Writes, Raises}
use Rattle.pi_effects.specs.Rows.{done_by}
use Rattle.pi_prop_read.specs.declared.relations.Comparison.{Comparison}
use Rattle.pi_prop_read.specs.declared.truths.nodes.Connective.{Connective}
use Rattle.pi_settling.specs.SettlingLaws.{MaySettle}
use Rattle.pi_settling.specs.CalmLaws.{MaySettleAfter}
use Rattle.pi_settling.specs.Goals.{constraint_goals, constraint_effect}
use Rattle.pi_settling.specs.Posted.{posting_goal}
use Rattle.pi_settling.specs.Within.{within_goal, notin_goal}
use Rattle.pi_settling.proofs.CalmGoals.{within_may_settle, notin_may_settle}
use Rattle.pi_settling.proofs.CalmPosted.{posted_may_settle}
use Rattle.pi_meaning.proofs.Shared.ConstraintEffects.{LeavesSo, within-leaves, notin-leaves, posting-leaves}
use Rattle.pi_lib_constraints.specs.declared.kinds.ConstraintGoal.{ConstraintGoal}
use Rattle.pi_lib_constraints.specs.declared.kinds.GoalOfOne.{GoalOfOne}
use Rattle.pi_lib_constraints.specs.declared.kinds.GoalOfTwo.{GoalOfTwo}
use Rattle.pi_lib_constraints.specs.Names.{goal_name, goal_arity}
use Rattle.pi_meaning.specs.Shared.Follows.{Follows}
use Rattle.pi_meaning.proofs.Shared.FollowLemmas.{follows-within, follows-notin, follows-posted}
use Rattle.pi_meaning.proofs.CoreMeaning.LeftLemmas.{Left}
use Rattle.pi_engine_settle.proofs.LeftLemmas.{left-by}
use Rattle.pi_engine_stands.specs.Rests.{Rests}
use Rattle.pi_effects.specs.declared.fault.Stop.{Stop}
use Rattle.pi_lib.specs.declared.predicates.Outcome.{Outcome}
use Rattle.pi_lib.specs.Outcomes.{ShowsOutcome}
use Rattle.pi_lib.specs.Runs.{IsRaised}
use Rattle.pi_lib.proofs.RunLemmas.{step-raised}
use Rattle.pi_engine_settle.specs.Settles.{LeftBy}
use Rattle.pi_engine_arenas.specs.declared.frames.Point.{Point}
use Rattle.pi_engine_arenas.specs.declared.run.Now.{Now}
use Rattle.pi_engine_stands.specs.Does.{ComesAfter}
use Rattle.pi_engine_steps.specs.Done.{Leaves, IsNext}

pub left-so : (s r : State) → Follows s r → MaySettleAfter s r → Left s r
left-so s r follows may = record { follows = follows; state = may.state; settles = may.settles; agents = may.agents }

same-effect : (P : Effect → Type 0) (x e : Effect) → Some x ≡ Some e → P x → P e
same-effect P x e same is = let it : x ≡ e = cc in subst P it is

within-left : (s : State) (t u : Tree) → IsState s → MaySettle s → LeavesSo (Left s) (within_goal s t u)
within-left s t u is may = within-leaves (Left s) s t u (λ r same. left-so s r (follows-within s r t u same) (within_may_settle s r t u is may same))

notin-left : (s : State) (t u : Tree) → IsState s → MaySettle s → LeavesSo (Left s) (notin_goal s t u)
notin-left s t u is may = notin-leaves (Left s) s t u (λ r same. left-so s r (follows-notin s r t u same) (notin_may_settle s r t u is may same))

pub posted-left : (s : State) (name : List ℕ) (ts : Trees) → IsState s → MaySettle s → TreesBelow (next s) ts → LeavesSo (Left s) (posting_goal s (comp name ts))
posted-left s name ts is may below =
    posting-leaves (Left s) s (comp name ts) (λ r same. left-so s r (follows-posted s r (comp name ts) same) (posted_may_settle s r (comp name ts) is may (comp-below (next s) name ts below) same))

-- by the number of arguments
one-left : (g : GoalOfOne) (ts : Trees) (s : State) (e : Effect) → tree_count ts ≡ 1 → IsState s → MaySettle s → TreesBelow (next s) ts → constraint_effect (goal_name (ConstraintGoal.OfOne g)) ts s ≡ Some e → LeavesSo (Left s) e
unfolding done_by constraint_goals tree_count
one-left g no_trees s e many is may below done = absurd (omega (arith, many))
one-left GoalOfOne.Negation (tree t no_trees) s e many is may below done = same-effect (LeavesSo (Left s)) _ e done (posted-left s _ (tree t no_trees) is may below)
one-left GoalOfOne.Different (tree t no_trees) s e many is may below done = same-effect (LeavesSo (Left s)) _ e done (posted-left s _ (tree t no_trees) is may below)
one-left GoalOfOne.Distinct (tree t no_trees) s e many is may below done = same-effect (LeavesSo (Left s)) _ e done (posted-left s _ (tree t no_trees) is may below)
one-left g (tree t (tree u ts)) s e many is may below done = absurd (omega (arith, many))

two-left : (g : GoalOfTwo) (ts : Trees) (s : State) (e : Effect) → tree_count ts ≡ 2 → IsState s → MaySettle s → TreesBelow (next s) ts → constraint_effect (goal_name (ConstraintGoal.OfTwo g)) ts s ≡ Some e → LeavesSo (Left s) e
unfolding done_by constraint_goals tree_count
two-left g no_trees s e many is may below done = absurd (omega (arith, many))
two-left g (tree t no_trees) s e many is may below done = absurd (omega (arith, many))
two-left GoalOfTwo.Within (tree t (tree u no_trees)) s e many is may below done = same-effect (LeavesSo (Left s)) _ e done (within-left s t u is may)
two-left GoalOfTwo.NotIn (tree t (tree u no_trees)) s e many is may below done = same-effect (LeavesSo (Left s)) _ e done (notin-left s t u is may)
two-left (GoalOfTwo.Relation Comparison.Equal) (tree t (tree u no_trees)) s e many is may below done = same-effect (LeavesSo (Left s)) _ e done (posted-left s _ (tree t (tree u no_trees)) is may below)
two-left (GoalOfTwo.Relation Comparison.Unequal) (tree t (tree u no_trees)) s e many is may below done = same-effect (LeavesSo (Left s)) _ e done (posted-left s _ (tree t (tree u no_trees)) is may below)
two-left (GoalOfTwo.Relation Comparison.Less) (tree t (tree u no_trees)) s e many is may below done = same-effect (LeavesSo (Left s)) _ e done (posted-left s _ (tree t (tree u no_trees)) is may below)
two-left (GoalOfTwo.Relation Comparison.AtMost) (tree t (tree u no_trees)) s e many is may below done = same-effect (LeavesSo (Left s)) _ e done (posted-left s _ (tree t (tree u no_trees)) is may below)
two-left (GoalOfTwo.Relation Comparison.Greater) (tree t (tree u no_trees)) s e many is may below done = same-effect (LeavesSo (Left s)) _ e done (posted-left s _ (tree t (tree u no_trees)) is may below)
two-left (GoalOfTwo.Relation Comparison.AtLeast) (tree t (tree u no_trees)) s e many is may below done = same-effect (LeavesSo (Left s)) _ e done (posted-left s _ (tree t (tree u no_trees)) is may below)
two-left (GoalOfTwo.Joined Connective.And) (tree t (tree u no_trees)) s e many is may below done = same-effect (LeavesSo (Left s)) _ e done (posted-left s _ (tree t (tree u no_trees)) is may below)
two-left (GoalOfTwo.Joined Connective.Or) (tree t (tree u no_trees)) s e many is may below done = same-effect (LeavesSo (Left s)) _ e done (posted-left s _ (tree t (tree u no_trees)) is may below)
two-left (GoalOfTwo.Joined Connective.Either) (tree t (tree u no_trees)) s e many is may below done = same-effect (LeavesSo (Left s)) _ e done (posted-left s _ (tree t (tree u no_trees)) is may below)
two-left (GoalOfTwo.Joined Connective.Implies) (tree t (tree u no_trees)) s e many is may below done = same-effect (LeavesSo (Left s)) _ e done (posted-left s _ (tree t (tree u no_trees)) is may below)
two-left (GoalOfTwo.Joined Connective.Equivalent) (tree t (tree u no_trees)) s e many is may below done = same-effect (LeavesSo (Left s)) _ e done (posted-left s _ (tree t (tree u no_trees)) is may below)
two-left g (tree t (tree u (tree w ts))) s e many is may below done = absurd (omega (arith, many))

element-left : (ts : Trees) (s : State) (e : Effect) → tree_count ts ≡ 3 → IsState s → MaySettle s → TreesBelow (next s) ts → constraint_effect (goal_name ConstraintGoal.Element) ts s ≡ Some e → LeavesSo (Left s) e
unfolding done_by constraint_goals tree_count
element-left no_trees s e many is may below done = absurd (omega (arith, many))
element-left (tree t no_trees) s e many is may below done = absurd (omega (arith, many))
element-left (tree t (tree u no_trees)) s e many is may below done = absurd (omega (arith, many))
element-left (tree t (tree u (tree w no_trees))) s e many is may below done = same-effect (LeavesSo (Left s)) _ e done (posted-left s _ (tree t (tree u (tree w no_trees))) is may below)
element-left (tree t (tree u (tree w (tree x ts)))) s e many is may below done = absurd (omega (arith, many))

goal-left : (g : ConstraintGoal) (ts : Trees) (s : State) (e : Effect) → tree_count ts ≡ goal_arity g → IsState s → MaySettle s → TreesBelow (next s) ts → constraint_effect (goal_name g) ts s ≡ Some e → LeavesSo (Left s) e
goal-left (ConstraintGoal.OfOne g) ts s e many is may below done = one-left g ts s e many is may below done
goal-left (ConstraintGoal.OfTwo g) ts s e many is may below done = two-left g ts s e many is may below done
goal-left ConstraintGoal.Element ts s e many is may below done = element-left ts s e many is may below done

pub leaves-by : (s : State) (e : Effect) → Rests s → LeavesSo (Left s) e → Leaves s e
leaves-by s (Succeeds r) rests left = left-by s r rests.calm rests.none_made left
leaves-by s Fails rests left = tt
leaves-by s (Writes text r) rests left = left
leaves-by s (Raises ball) rests left = tt

-- ---- arguments in a store speak of variables that were made

terms-below : {M : Type 0} (v : StoreView M) (rs : List Ref) (ts : Trees) → ((q : Ref) (t : Tree) → IsTerm v q t → SpeaksBelow (next v.now.state) t) → AreTerms v rs ts → TreesBelow (next v.now.state) ts
unfolding AreTerms
terms-below v [] no_trees below are = no-trees-below (next v.now.state)
terms-below v [] (tree t ts) below are = absurd are
terms-below v (r ∷ rs) no_trees below are = absurd are
terms-below v (r ∷ rs) (tree t ts) below are = trees-below (next v.now.state) t ts (below r t are.0) (terms-below v rs ts below are.1)

-- they stay terms
pub terms-stay : {M : Type 0} (v w : StoreView M) (rs : List Ref) (ts : Trees) → Keeps v w → AreTerms v rs ts → AreTerms w rs ts
unfolding AreTerms
terms-stay v w [] no_trees keeps are = tt
terms-stay v w [] (tree t ts) keeps are = absurd are
terms-stay v w (r ∷ rs) no_trees keeps are = absurd are
terms-stay v w (r ∷ rs) (tree t ts) keeps are = (keeps.terms r t are.0, terms-stay v w rs ts keeps are.1)

-- the only one
pub record OneTerm {M : Type 0} (v : StoreView M) (r : Ref) (ts : Trees) : Type 0 where
  pub term : Tree
  pub is : ts ≡ tree term no_trees
  pub at : IsTerm v r term

pub one-term : {M : Type 0} (v : StoreView M) (r : Ref) (ts : Trees) → AreTerms v (r ∷ []) ts → OneTerm v r ts
unfolding AreTerms
one-term v r no_trees are = absurd are
one-term v r (tree t no_trees) are = record { term = t; is = refl; at = are.0 }
one-term v r (tree t (tree u ts)) are = absurd are.1

pub goal-leaves : {M : Type 0} (v : StoreView M) (g : ConstraintGoal) (rs : List Ref) (ts : Trees) (e : Effect) → tree_count ts ≡ goal_arity g → Rests v.now.state → ((q : Ref) (t : Tree) → IsTerm v q t → SpeaksBelow (next v.now.state) t) → AreTerms v rs ts →
    constraint_effect (goal_name g) ts v.now.state ≡ Some e → Leaves v.now.state e
goal-leaves v g rs ts e many rests below are done =
    leaves-by v.now.state e rests (goal-left g ts v.now.state e many rests.calm.state rests.calm.settles (terms-below v rs ts below are) done)

-- ---- what is next

pub posted-comes : {M : Type 0} (v w : StoreView M) (before : State) (p : Point) (o : Outcome) (e : Effect) (now : Now) → ShowsOutcome v w (Ok o) e → Leaves before e → IsNext before w.now.state p o now → ComesAfter before p e w.now.state now
posted-comes v w before p Outcome.Yes e now shows leaves is = subst (λ d. ComesAfter before p d w.now.state now) (sym shows) (refl, subst (Leaves before) shows leaves, is)
posted-comes v w before p Outcome.No e now shows leaves is = subst (λ d. ComesAfter before p d w.now.state now) (sym shows) is
posted-comes v w before p (Outcome.Out text) e now shows leaves is = absurd (subst (Leaves before) shows leaves)

-- it leaves a state where it has an answer
pub yes-leaves : {M : Type 0} (v w : StoreView M) (before : State) (o : Outcome) (e : Effect) → ShowsOutcome v w (Ok o) e → Leaves before e → o ≡ Outcome.Yes → LeftBy before w.now.state
yes-leaves v w before Outcome.Yes e shows leaves same = subst (Leaves before) shows leaves
yes-leaves v w before Outcome.No e shows leaves same = absurd cc
yes-leaves v w before (Outcome.Out text) e shows leaves same = absurd cc

pub posting-raised : {M : Type 0} (v w : StoreView M) (before : State) (p : Point) (stop : Stop) (e : Effect) (made : Tree) → IsState v.now.state → ShowsOutcome v w (Err stop) e → IsRaised w stop made → ComesAfter before p e w.now.state (Now.Raising made)
posting-raised v w before p stop e made state shows is = subst (λ d. ComesAfter before p d w.now.state (Now.Raising made)) (sym (step-raised v w stop e made state shows is).0) refl
