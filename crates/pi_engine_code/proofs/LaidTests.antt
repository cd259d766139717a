-- The tests of heads that are added, and whether a condition is `true`.
use Rattle.pi_terms.specs.PatternTree.{PatternTree, PatternTrees, no_patterns, pattern, exact_atom}
use Rattle.std.proofs.Common.{◌≡◌, ◌≢◌, ℕ, zero, suc, ◌+◌, ◌<◌, ◌≤◌, Bool, false, List, [], ◌∷◌, ◌++◌, Some, length, take, get_or, refl, sym, ◌∙◌, ap, subst, arith, length-append}
use Rattle.std.specs.Prelude.{slice_get}
use Rattle.std.proofs.lemmas.List.{take_more, take_all}
use Rattle.pi_terms.specs.Tree.{Tree, atom}
use Rattle.pi_constraints.specs.State.{bindings, followed, followed_for}
use Rattle.pi_constraints.specs.Value.{Bindings, IsAcyclic}
use Rattle.pi_constraints.specs.Store.{StoreView, ShowsCell, IsName, Stays}
use Rattle.pi_constraints.specs.declared.store.Cell.{Cell}
use Rattle.pi_core.specs.GoalCells.{kind_of, kind_shown, subgoals-children}
use Rattle.pi_core.specs.declared.goal_node.GoalKind.{GoalKind}
use Rattle.pi_core.specs.declared.goal_node.GoalNode.{GoalNode}
use Rattle.pi_core.specs.GoalTree.{GoalTree, truth, subgoal, ShowsNode}
use Rattle.pi_core.specs.CoreTree.{pattern_tree, pattern_trees}
use Rattle.pi_core.specs.declared.core_program.Pattern.{Pattern}
use Rattle.pi_terms.proofs.GetLemmas.{get_append_last}
use Rattle.pi_unify.proofs.KeepsLemmas.{keeps_none, stays_then}
use Rattle.pi_engine_code.specs.declared.code.HeadTest.{HeadTest}
use Rattle.pi_engine_code.specs.declared.code.Code.{Code}
use Rattle.pi_engine_code.specs.LaidRules.{IsTestOf, AddsRule, TestsAt}
use Rattle.pi_engine_code.specs.Laid.{Longer, AddsSteps}
use Rattle.pi_engine_code.proofs.LaidTables.{adds-none, adds-then, longer-pushed}
use Rattle.pi_engine_code.proofs.LaidGoals.{shown-kind}
use Rattle.pi_terms.proofs.ListLemmas.{length-taken}

abbrev pub MoreNames : List (List ℕ) → List (List ℕ) → Type 0
MoreNames names others = (k : ℕ) (name : List ℕ) → slice_get names k ≡ Some name → slice_get others k ≡ Some name

pub test-keeps : (names others : List (List ℕ)) (p : PatternTree) (t : HeadTest) → MoreNames names others → IsTestOf names p t → IsTestOf others p t
test-keeps names others p HeadTest.Deep more is = is
test-keeps names others p (HeadTest.Slot k) more is = is
test-keeps names others p (HeadTest.Int n) more is = is
test-keeps names others p (HeadTest.Atom k) more is = (is.0, more k is.0 is.1, is.2)

-- ---- tests

pub tests-wider : (ns ms : List (List ℕ)) (ts us : List HeadTest) (deep : Bool) (at : ℕ) (ps : PatternTrees) → Longer ns ms → Longer ts us → TestsAt ns ts deep at ps → TestsAt ms us deep at ps
unfolding TestsAt
tests-wider ns ms ts us deep at no_patterns names longer are = are
tests-wider ns ms ts us deep at (pattern p ps) names longer (first, rest) =
    ((first.0, longer at first.0 first.1, test-keeps ns ms p first.0 names first.2, first.3), tests-wider ns ms ts us deep (suc at) ps names longer rest)

tests-deeper : (ns : List (List ℕ)) (ts : List HeadTest) (deep deeper : Bool) (at : ℕ) (ps : PatternTrees) → (deeper ≡ false → deep ≡ false) → TestsAt ns ts deep at ps → TestsAt ns ts deeper at ps
unfolding TestsAt
tests-deeper ns ts deep deeper at no_patterns h are = are
tests-deeper ns ts deep deeper at (pattern p ps) h (first, rest) = ((first.0, first.1, first.2, λ no. first.3 (h no)), tests-deeper ns ts deep deeper (suc at) ps h rest)

tests-more : (ns : List (List ℕ)) (ts : List HeadTest) (deep : Bool) (at : ℕ) (xs : List Pattern) (x : Pattern) (t : HeadTest) → TestsAt ns ts deep at (pattern_trees xs) → slice_get ts (at + length xs) ≡ Some t → IsTestOf ns (pattern_tree x) t →
    (deep ≡ false → t ≢ HeadTest.Deep) → TestsAt ns ts deep at (pattern_trees (xs ++ x ∷ []))
unfolding TestsAt pattern_trees
tests-more ns ts deep at [] x t are here is shallow = ((t, ap (slice_get ts) (omega arith) ∙ here, is, shallow), tt)
tests-more ns ts deep at (y ∷ xs) x t (first, rest) here is shallow = (first, tests-more ns ts deep (suc at) xs x t rest (ap (slice_get ts) (omega arith) ∙ here) is shallow)

followed-atom : (k : ℕ) (b : Bindings) (name : List ℕ) → followed_for k b (atom name) ≡ atom name
unfolding followed_for
followed-atom zero b name = refl
followed-atom (suc k) b name = refl

-- the test of an atom's name, as it was put
pub atom-test : (p : Pattern) (name put shown : List ℕ) (b : Bindings) → p ≡ Pattern.Atom name → put ≡ name → followed b (atom put) ≡ atom shown → pattern_tree p ≡ exact_atom shown
unfolding pattern_tree followed
atom-test p name put shown b is same e =
    let shows : atom put ≡ atom shown = sym (followed-atom (length b) b put) ∙ e in ap pattern_tree is ∙ cc

-- the number of an atom, as it was put
put-shown : (name shown : List ℕ) (b : Bindings) → followed b (atom name) ≡ atom shown → name ≡ shown
unfolding followed
put-shown name shown b e = let same : atom name ≡ atom shown = sym (followed-atom (length b) b name) ∙ e in cc

pub number-shown : {M : Type 0} (v : StoreView M) (name : List ℕ) (b : Bindings) (k : ℕ) → ShowsCell v (followed b (atom name)) (Cell.Atom k) → IsName v k name
number-shown v name b k (shown, named, e) = subst (IsName v k) (sym (put-shown name shown b e)) named

atom-is : (name : List ℕ) (b : Bindings) → followed b (atom name) ≡ atom name
unfolding followed
atom-is name b = followed-atom (length b) b name

no-cell : {M : Type 0} (v : StoreView M) (name : List ℕ) (t : Tree) (cell : Cell) → t ≡ atom name → ShowsCell v t cell → ((k : ℕ) → cell ≡ Cell.Atom k → ⊥) → ⊥
no-cell v name t (Cell.Var n) is shows other = cc (is, shows)
no-cell v name t (Cell.Int n) is shows other = cc (is, shows)
no-cell v name t (Cell.Atom k) is shows other = other k refl
no-cell v name t (Cell.Comp k count) is shows other = cc (is, shows.2)

-- it is shown as one
pub atom-shown : {M : Type 0} (v : StoreView M) (name : List ℕ) (b : Bindings) (cell : Cell) → ShowsCell v (followed b (atom name)) cell → ((k : ℕ) → cell ≡ Cell.Atom k → ⊥) → ⊥
atom-shown v name b cell shows other = no-cell v name (followed b (atom name)) cell (atom-is name b) shows other

-- so many tests were added
pub record TestsAdded {M : Type 0} (v w : StoreView M) (c d : Code) (head : List Pattern) (deep : Bool) (i : ℕ) : Type 0 where
  pub stays : Stays v w
  pub adds : AddsRule v w c d
  pub steps : d.steps ≡ c.steps
  pub long : length d.tests.items ≡ length c.tests.items + i
  pub are : IsAcyclic (bindings v.now.state) → TestsAt w.names d.tests.items deep (length c.tests.items) (pattern_trees (take i head))

pub no-tests-added : {M : Type 0} (v : StoreView M) (c : Code) (head : List Pattern) → TestsAdded v v c c head false 0
unfolding TestsAt pattern_trees
no-tests-added v c head =
    record { stays = record { keeps = keeps_none v; state = refl }; adds = record { adds = adds-none v c; rules = refl; predicates = refl }; steps = refl; long = omega arith; are = λ acyclic. tt }

pub rule-then : {M : Type 0} (u v w : StoreView M) (c d e : Code) → AddsRule u v c d → AddsRule v w d e → AddsRule u w c e
rule-then u v w c d e a b = record { adds = adds-then u v w c d e a.adds b.adds; rules = b.rules ∙ a.rules; predicates = b.predicates ∙ a.predicates }

pub rule-by-steps : {M : Type 0} (v w : StoreView M) (c d : Code) → AddsSteps v w c d → AddsRule v w c d
rule-by-steps v w c d a = record { adds = a.adds; rules = a.rules; predicates = a.predicates }

abbrev with_tests : Code → Code → Code
with_tests d e = record { core = d.core; helpers = d.helpers; steps = d.steps; operands = d.operands; parts = d.parts; names = d.names; tests = e.tests; rules = d.rules; predicates = d.predicates; callables = d.callables; keys = d.keys }

pub test-added : {M : Type 0} (v w x : StoreView M) (c d e : Code) (head : List Pattern) (deep own deeper : Bool) (i : ℕ) (p : Pattern) (t : HeadTest) → TestsAdded v w c d head deep i → i < length head → p ≡ get_or head i p → Stays w x →
    (IsAcyclic (bindings w.now.state) → IsTestOf x.names (pattern_tree p) t) → (own ≡ false → t ≢ HeadTest.Deep) → (deeper ≡ false → (deep ≡ false) × (own ≡ false)) → e.tests.items ≡ d.tests.items ++ t ∷ [] → TestsAdded v x c (with_tests d e) head deeper (i + 1)
test-added v w x c d e head deep own deeper i p t before within item stays is shallow both pushed =
    let after : Code = with_tests d e in
    let more : AddsRule w x d after =
    record {
      adds = record {
        stays = stays;
        core = refl;
        steps = λ i x at. at;
        operands = λ i x at. at;
        parts = λ i x at. at;
        names = λ i x at. at;
        tests = longer-pushed d.tests.items e.tests.items t pushed;
        rules = λ i x at. at;
        predicates = λ i x at. at;
      };
      rules = refl;
      predicates = refl;
    } in
    let place : length c.tests.items + length (take i head) ≡ length d.tests.items = ap (λ n. length c.tests.items + n) (length-taken head i (omega (arith, within))) ∙ sym before.long in
    record {
      stays = stays_then v w x v.now.state before.stays stays;
      adds = rule-then v w x c d after before.adds more;
      steps = before.steps;
      long = ap length pushed ∙ length-append d.tests.items (t ∷ []) ∙ omega (arith, before.long);
      are = λ acyclic.
          subst (λ ps. TestsAt x.names e.tests.items deeper (length c.tests.items) (pattern_trees ps)) (sym (take_more head i p within ∙ ap (λ y. take i head ++ y ∷ []) (sym item)))
          (tests-more x.names e.tests.items deeper (length c.tests.items) (take i head) p t
          (tests-deeper x.names e.tests.items deep deeper (length c.tests.items) (pattern_trees (take i head)) (λ no. (both no).0)
          (tests-wider w.names x.names d.tests.items e.tests.items deep (length c.tests.items) (pattern_trees (take i head)) stays.keeps.names (longer-pushed d.tests.items e.tests.items t pushed) (before.are acyclic)))
          (ap (slice_get e.tests.items) place ∙ ap (λ r. slice_get r (length d.tests.items)) pushed ∙ get_append_last d.tests.items t)
          (is (subst (λ s. IsAcyclic (bindings s)) (sym before.stays.state) acyclic)) (λ no. shallow (both no).1));
    }

pub all-tests-added : {M : Type 0} (v w : StoreView M) (c d : Code) (head : List Pattern) (deep : Bool) (i : ℕ) → TestsAdded v w c d head deep i → length head ≤ i → IsAcyclic (bindings v.now.state) → TestsAt w.names d.tests.items deep (length c.tests.items) (pattern_trees head)
all-tests-added v w c d head deep i added whole acyclic =
    subst (λ ps. TestsAt w.names d.tests.items deep (length c.tests.items) (pattern_trees ps)) (take_all i head whole) (added.are acyclic)

pub acyclic-stays : {M : Type 0} (v w : StoreView M) → Stays v w → IsAcyclic (bindings v.now.state) → IsAcyclic (bindings w.now.state)
acyclic-stays v w stays acyclic = subst (λ s. IsAcyclic (bindings s)) (sym stays.state) acyclic

-- ---- conditions

first-goal : (g : GoalTree) → subgoal g 0 ≡ g
first-goal g = ap (λ r. get_or r 0 g) (subgoals-children g)

pub shows-truth : (g : GoalTree) (n : GoalNode) → ShowsNode (subgoal g 0) n → n ≡ GoalNode.True → g ≡ truth
shows-truth g n shows e = sym (first-goal g) ∙ subst (ShowsNode (subgoal g 0)) e shows

kind-truth : (n : GoalNode) → GoalKind.True ≡ kind_shown n → n ≡ GoalNode.True
kind-truth GoalNode.True e = refl
kind-truth GoalNode.Fail e = absurd cc
kind-truth GoalNode.Tick e = absurd cc
kind-truth (GoalNode.Call name args) e = absurd cc
kind-truth (GoalNode.Apply name args slot) e = absurd cc
kind-truth (GoalNode.Seq k) e = absurd cc
kind-truth (GoalNode.Alt k) e = absurd cc
kind-truth GoalNode.If e = absurd cc
kind-truth GoalNode.Not e = absurd cc
kind-truth GoalNode.Once e = absurd cc
kind-truth (GoalNode.Collect value into) e = absurd cc
kind-truth (GoalNode.Count into) e = absurd cc
kind-truth (GoalNode.Catch ball) e = absurd cc

pub shows-no-truth : (g : GoalTree) (n : GoalNode) → ShowsNode (subgoal g 0) n → (n ≡ GoalNode.True → ⊥) → g ≢ truth
unfolding kind_of
shows-no-truth g n shows isnt e = isnt (kind-truth n (ap kind_of (sym e ∙ sym (first-goal g)) ∙ shown-kind (subgoal g 0) n shows))
