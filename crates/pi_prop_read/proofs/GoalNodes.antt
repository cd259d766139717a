-- What a store shows of a term is what it is as a goal of constraints.
use Rattle.std.specs.Prelude.{◌≡◌, ℕ, ◌==◌, Bool, true, false, cond, List, codes, refl}
use Rattle.std.specs.Str.{bytes_eq}
use Rattle.std.proofs.Common.{arith, tests, eqb-true, ◌∙◌, ap, sym, subst}
use Rattle.pi_terms.specs.Tree.{Tree, var, int, atom, comp, Trees, no_trees, tree, tree_count, tree_at, args}
use Rattle.pi_terms.specs.Substitution.{instance}
use Rattle.pi_constraints.specs.Value.{Bindings, IsAcyclic}
use Rattle.pi_constraints.specs.State.{IsState, bindings}
use Rattle.pi_constraints.specs.Store.{Moment, StoreView, IsTerm, ShowsCell}
use Rattle.pi_constraints.specs.declared.store.Ref.{Ref}
use Rattle.pi_constraints.specs.declared.store.Cell.{Cell}
use Rattle.pi_constraints.proofs.RootLemmas.{with_values}
use Rattle.pi_prop_spec.specs.Operands.{no_boolean, Goal, all_different, all_distinct, element, no_constraint}
use Rattle.pi_prop_spec.specs.Terms.{boolean_of, goal_of_boolean, goal_of}
use Rattle.pi_prop_read.specs.Refs.{IsThere, value_at}
use Rattle.pi_prop_read.proofs.RootLemmas.{root_of, IsArg, Names, variable-root, integer-root, atom-root, compound-root, IsCompound, compound-shown, three-arguments, argument-there, argument-value, there, HasOne, has-one}
use Rattle.pi_prop_read.specs.TruthNodes.{boolean_by, ShowsTruthNode}
use Rattle.pi_prop_read.specs.declared.truths.nodes.TruthNode.{TruthNode}
use Rattle.pi_prop_read.specs.declared.nodes.ListGoal.{ListGoal}
use Rattle.pi_prop_read.specs.declared.nodes.GoalNode.{GoalNode}
use Rattle.pi_prop_read.specs.GoalNodes.{one_named, three_named, goal_at, list_goal_by, HasListParts, ShowsListGoal, ShowsGoalNode}

-- ---- terms that are no goals over items

other-by : (w : Moment) (r : Ref) (t : Tree) → value_at w r ≡ t → goal_of t ≡ goal_of_boolean (boolean_of t) t → goal_at w r ≡ list_goal_by w r ListGoal.Other
other-by w r t e is = ap goal_of e ∙ (is ∙ ap (λ u. goal_of_boolean (boolean_of u) u) (sym e))

pub variable-goal : {M : Type 0} (v : StoreView M) (r : Ref) (cell : Cell) (n : ℕ) → IsState v.now.state → cell ≡ Cell.Var n → ShowsCell v (root_of v.now r) cell → ShowsListGoal v.now r ListGoal.Other
unfolding boolean_of goal_of
variable-goal v r cell n s is e = record { is = other-by v.now r (var n) (variable-root v.now r n s.acyclic (subst (ShowsCell v (root_of v.now r)) is e)) refl; parts = tt }

pub integer-goal : {M : Type 0} (v : StoreView M) (r : Ref) (cell : Cell) (i : _) → IsState v.now.state → cell ≡ Cell.Int i → ShowsCell v (root_of v.now r) cell → ShowsListGoal v.now r ListGoal.Other
unfolding boolean_of goal_of
integer-goal v r cell i s is e = record { is = other-by v.now r (int i) (integer-root v.now r i s.acyclic (subst (ShowsCell v (root_of v.now r)) is e)) refl; parts = tt }

pub atom-goal : {M : Type 0} (v : StoreView M) (r : Ref) (k : ℕ) → IsState v.now.state → ShowsCell v (root_of v.now r) (Cell.Atom k) → ShowsListGoal v.now r ListGoal.Other
unfolding boolean_of goal_of
atom-goal v r k s (name, is, e) = record { is = other-by v.now r (atom name) (atom-root v.now r name s.acyclic e) refl; parts = tt }

no-list-goal : (b : Bindings) (name : List ℕ) (ts : Trees) (count : ℕ) → count ≡ tree_count ts → (count == 1) ≡ false → (count == 3) ≡ false → goal_of (comp name (with_values b ts)) ≡ goal_of_boolean (boolean_of (comp name (with_values b ts))) (comp name (with_values b ts))
unfolding boolean_of goal_of instance tree_count
no-list-goal b name no_trees count e one three = refl
no-list-goal b name (tree x no_trees) count e one three = absurd (grind (arith, tests, e, one))
no-list-goal b name (tree x (tree y no_trees)) count e one three = refl
no-list-goal b name (tree x (tree y (tree z no_trees))) count e one three = absurd (grind (arith, tests, e, three))
no-list-goal b name (tree x (tree y (tree z (tree u us)))) count e one three = refl

pub other-goal : {M : Type 0} (v : StoreView M) (r : Ref) (k count : ℕ) → IsState v.now.state → ShowsCell v (root_of v.now r) (Cell.Comp k count) → (count == 1) ≡ false → (count == 3) ≡ false → ShowsListGoal v.now r ListGoal.Other
other-goal v r k count s (name, is, e, many) one three =
    let b : Bindings = bindings v.now.state in
    let ts : Trees = args (root_of v.now r) in
    record { is = other-by v.now r (comp name (with_values b ts)) (compound-root v.now r name ts s.acyclic e) (no-list-goal b name ts count many one three); parts = tt }

-- ---- names with one argument

one-by : (w : Moment) (r q : Ref) (whole : Tree) (a b : Bool) → whole ≡ value_at w r →
    cond a (all_different (value_at w q)) (cond b (all_distinct (value_at w q)) (goal_of_boolean (boolean_of whole) whole)) ≡ list_goal_by w r (cond a (ListGoal.Different q) (cond b (ListGoal.Distinct q) ListGoal.Other))
one-by w r q whole true b e = refl
one-by w r q whole false true e = refl
one-by w r q whole false false e = ap (λ u. goal_of_boolean (boolean_of u) u) e

one-parts : (w : Moment) (q : Ref) (a b : Bool) → IsThere w q → HasListParts w (cond a (ListGoal.Different q) (cond b (ListGoal.Distinct q) ListGoal.Other))
one-parts w q true b h = h
one-parts w q false true h = h
one-parts w q false false h = tt

pub one-goal : {M : Type 0} (v : StoreView M) (r q : Ref) (k count : ℕ) (text : List ℕ) (node : ListGoal) → IsState v.now.state → IsThere v.now r → ShowsCell v (root_of v.now r) (Cell.Comp k count) → Names v k text → (count == 1) ≡ true → IsArg v r 0 q → node ≡ one_named text q → ShowsListGoal v.now r node
unfolding goal_of
one-goal v r q k count text node s here shows named size arg is =
    let h : HasOne v r q text = has-one v r q count text s.acyclic here (compound-shown v r k count text s.acyclic shows named) (eqb-true count 1 size) arg in
    let p : Bool = bytes_eq text (codes "all_different") in
    let d : Bool = bytes_eq text (codes "all_distinct") in
    subst (ShowsListGoal v.now r) (sym is) (record {
      is = ap goal_of h.value ∙ one-by v.now r q (comp text (tree (value_at v.now q) no_trees)) p d (sym h.value);
      parts = one-parts v.now q p d h.first;
    })

-- ---- names with three arguments

pub record HasThree {M : Type 0} (v : StoreView M) (r i l x : Ref) (text : List ℕ) : Type 0 where
  pub value : value_at v.now r ≡ comp text (tree (value_at v.now i) (tree (value_at v.now l) (tree (value_at v.now x) no_trees)))
  pub first : IsThere v.now i
  pub second : IsThere v.now l
  pub third : IsThere v.now x

has-three : {M : Type 0} (v : StoreView M) (r i l x : Ref) (count : ℕ) (text : List ℕ) → IsAcyclic (bindings v.now.state) → IsThere v.now r → IsCompound v r text count → count ≡ 3 → IsArg v r 0 i → IsArg v r 1 l → IsArg v r 2 x → HasThree v r i l x text
unfolding instance tree_at
has-three v r i l x count text a here c size arg more last =
    let b : Bindings = bindings v.now.state in
    let three = three-arguments c.trees (sym c.size ∙ size) in
    let t : Tree = three.0 in
    let u : Tree = three.1 in
    let y : Tree = three.2 in
    let is : IsTerm v i t = argument-there v r i 0 (comp text c.trees) t here a c.root (ap (λ ts. tree_at ts 0) three.3) arg in
    let so : IsTerm v l u = argument-there v r l 1 (comp text c.trees) u here a c.root (ap (λ ts. tree_at ts 1) three.3) more in
    let too : IsTerm v x y = argument-there v r x 2 (comp text c.trees) y here a c.root (ap (λ ts. tree_at ts 2) three.3) last in
    record {
      value = c.value ∙ (ap (λ ts. comp text (with_values b ts)) three.3 ∙ (λ j. comp text (tree (argument-value v.now i t is j) (tree (argument-value v.now l u so j) (tree (argument-value v.now x y too j) no_trees)))));
      first = there v.now i t is;
      second = there v.now l u so;
      third = there v.now x y too;
    }

three-by : (w : Moment) (r i l x : Ref) (whole : Tree) (b : Bool) → whole ≡ value_at w r → boolean_of whole ≡ no_boolean whole →
    cond b (element (value_at w i) (value_at w l) (value_at w x)) (no_constraint whole) ≡ list_goal_by w r (cond b (ListGoal.Element i l x) ListGoal.Other)
three-by w r i l x whole true e other = refl
three-by w r i l x whole false e other = ap (λ c. goal_of_boolean c whole) (sym other) ∙ ap (λ u. goal_of_boolean (boolean_of u) u) e

three-parts : (w : Moment) (i l x : Ref) (b : Bool) → IsThere w i → IsThere w l → IsThere w x → HasListParts w (cond b (ListGoal.Element i l x) ListGoal.Other)
three-parts w i l x true h k m = (h, k, m)
three-parts w i l x false h k m = tt

pub three-goal : {M : Type 0} (v : StoreView M) (r i l x : Ref) (k count : ℕ) (text : List ℕ) (node : ListGoal) → IsState v.now.state → IsThere v.now r → ShowsCell v (root_of v.now r) (Cell.Comp k count) → Names v k text → (count == 3) ≡ true → IsArg v r 0 i → IsArg v r 1 l → IsArg v r 2 x → node ≡ three_named text i l x → ShowsListGoal v.now r node
unfolding boolean_of goal_of
three-goal v r i l x k count text node s here shows named size arg more last is =
    let h : HasThree v r i l x text = has-three v r i l x count text s.acyclic here (compound-shown v r k count text s.acyclic shows named) (eqb-true count 3 size) arg more last in
    let b : Bool = bytes_eq text (codes "element") in
    subst (ShowsListGoal v.now r) (sym is) (record {
      is = ap goal_of h.value ∙ three-by v.now r i l x (comp text (tree (value_at v.now i) (tree (value_at v.now l) (tree (value_at v.now x) no_trees)))) b (sym h.value) refl;
      parts = three-parts v.now i l x b h.first h.second h.third;
    })

-- ---- goals

pub different-node : (w : Moment) (r q : Ref) → ShowsListGoal w r (ListGoal.Different q) → ShowsGoalNode w r (GoalNode.Different q)
different-node w r q s = record { is = s.is; parts = s.parts }

pub distinct-node : (w : Moment) (r q : Ref) → ShowsListGoal w r (ListGoal.Distinct q) → ShowsGoalNode w r (GoalNode.Distinct q)
distinct-node w r q s = record { is = s.is; parts = s.parts }

pub element-node : (w : Moment) (r i l x : Ref) → ShowsListGoal w r (ListGoal.Element i l x) → ShowsGoalNode w r (GoalNode.Element i l x)
element-node w r i l x s = record { is = s.is; parts = s.parts }

by-truth : (w : Moment) (r : Ref) (node : TruthNode) → ShowsListGoal w r ListGoal.Other → ShowsTruthNode w r node → goal_at w r ≡ goal_of_boolean (boolean_by w r node) (value_at w r)
by-truth w r node s t = s.is ∙ ap (λ b. goal_of_boolean b (value_at w r)) t.is

pub variable-node : (w : Moment) (r : Ref) (n : ℕ) → ShowsListGoal w r ListGoal.Other → ShowsTruthNode w r (TruthNode.Variable n) → ShowsGoalNode w r GoalNode.Other
variable-node w r n s t = record { is = by-truth w r (TruthNode.Variable n) s t; parts = tt }

pub number-node : (w : Moment) (r : Ref) (i : _) → ShowsListGoal w r ListGoal.Other → ShowsTruthNode w r (TruthNode.Number i) → ShowsGoalNode w r GoalNode.Other
number-node w r i s t = record { is = by-truth w r (TruthNode.Number i) s t; parts = tt }

pub relation-node : (w : Moment) (r p q : Ref) (c : _) → ShowsListGoal w r ListGoal.Other → ShowsTruthNode w r (TruthNode.Relation c p q) → ShowsGoalNode w r (GoalNode.Relation c p q)
relation-node w r p q c s t = record { is = by-truth w r (TruthNode.Relation c p q) s t; parts = t.parts }

pub negation-node : (w : Moment) (r q : Ref) → ShowsListGoal w r ListGoal.Other → ShowsTruthNode w r (TruthNode.Negation q) → ShowsGoalNode w r GoalNode.Truth
negation-node w r q s t = record { is = by-truth w r (TruthNode.Negation q) s t ∙ ap Goal.is_so (sym t.is); parts = tt }

pub joined-node : (w : Moment) (r p q : Ref) (k : _) → ShowsListGoal w r ListGoal.Other → ShowsTruthNode w r (TruthNode.Joined k p q) → ShowsGoalNode w r GoalNode.Truth
joined-node w r p q k s t = record { is = by-truth w r (TruthNode.Joined k p q) s t ∙ ap Goal.is_so (sym t.is); parts = tt }

pub other-node : (w : Moment) (r : Ref) → ShowsListGoal w r ListGoal.Other → ShowsTruthNode w r TruthNode.Other → ShowsGoalNode w r GoalNode.Other
other-node w r s t = record { is = by-truth w r TruthNode.Other s t; parts = tt }
