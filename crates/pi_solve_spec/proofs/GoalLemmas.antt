-- A goal of the core language in which `current_resource` isn't called does the same with built-ins that differ in that function alone.
use Rattle.std.specs.Prelude.{◌≡◌, ℕ, suc, ◌==◌, Bool, true, false, ◌||◌, List, [], ◌∷◌, ◌++◌, refl}
use Rattle.std.specs.List.{list_any}
use Rattle.std.proofs.Common.{sym, ◌∙◌, arith}
use Rattle.std.proofs.lemmas.List.Folds.{list_any-append}
use Rattle.pi_terms.specs.Tree.{Tree, Trees, tree, trees_of, tree_count}
use Rattle.pi_constraints.specs.State.{State}
use Rattle.pi_constraints.specs.Evaluation.{Evaluated, evaluated, EvaluatedAll, evaluated_all}
use Rattle.pi_core.specs.GoalTree.{GoalTree, truth, fail, tick, call, apply, seq, alternatives, if_else, not, once, collect, count, catch, GoalTrees, no_goals, goal, subgoals, subgoals_all}
use Rattle.pi_traces.specs.Trace.{one, alt, then, first}
use Rattle.pi_traces.specs.Control.{negated, chosen}
use Rattle.pi_meaning.specs.Shared.Names.{is_resource}
use Rattle.pi_meaning.specs.Shared.Level.{Level, Point, or_called, or_applied}
use Rattle.pi_meaning.specs.CoreMeaning.Builtins.{Builtins}
use Rattle.pi_meaning.specs.CoreMeaning.Meaning.{in_state, with_slot, draining, strictly, after_arguments, calling, applying, collecting, counting, catching, meaning, meaning_of_all, meaning_of_any}
use Rattle.pi_solve_spec.specs.Rests.{is_rest, asks_rest}

-- built-ins that are the same but for `current_resource`
pub record Alike (a b : Builtins) : Type 0 where
  pub predicate : (l : Level) (name : List ℕ) (ts : Trees) (s : State) → a.predicate l name ts s ≡ b.predicate l name ts s
  pub function : (l : Level) (name : List ℕ) (ts : Trees) (s : State) → is_resource name (tree_count ts) ≡ false → a.function l name ts s ≡ b.function l name ts s

-- neither of two is true
pub both_false : (b c : Bool) → (b || c) ≡ false → (b ≡ false) × (c ≡ false)
both_false true c e = absurd cc
both_false false c e = (refl, e)

pub parts_false : {X : Type 0} (test : X → Bool) (xs ys : List X) → list_any test (xs ++ ys) ≡ false → (list_any test xs ≡ false) × (list_any test ys ≡ false)
parts_false test xs ys e = both_false (list_any test xs) (list_any test ys) (sym (list_any-append test xs ys) ∙ e)

calling-alike : (a b : Builtins) → Alike a b → (name : List ℕ) (args : List Tree) → calling a name args ≡ calling b name args
unfolding calling
calling-alike a b h name args = λ i p.
    let all : EvaluatedAll = evaluated_all (trees_of args) p.slots p.state in
    then (or_called (h.predicate p.level name all.trees all.state i) p.level name all.trees all.state) (λ s. one (in_state (after_arguments p all) s))

-- a call with arguments is none of `current_resource`
pub some-arguments : (name : List ℕ) (t : Tree) (ts : Trees) → is_resource name (tree_count (tree t ts)) ≡ false
unfolding tree_count
some-arguments name t ts = let e : (suc (tree_count ts) == 0) ≡ false = grind arith in rw e refl

other-name : (name : List ℕ) (args : List Tree) (slot : ℕ) → is_rest (apply name args slot) ≡ false → (p : Point) →
    is_resource name (tree_count (evaluated_all (trees_of args) p.slots p.state).trees) ≡ false
unfolding evaluated_all tree_count
other-name name [] slot n p = n
other-name name (t ∷ ts) slot n p =
    let first : Evaluated = evaluated t p.slots p.state in
    some-arguments name first.tree (evaluated_all (trees_of ts) first.slots first.state).trees

applying-alike : (a b : Builtins) → Alike a b → (name : List ℕ) (args : List Tree) (slot : ℕ) → is_rest (apply name args slot) ≡ false → applying a name args slot ≡ applying b name args slot
unfolding applying
applying-alike a b h name args slot n = λ i p.
    let all : EvaluatedAll = evaluated_all (trees_of args) p.slots p.state in
    then (or_applied (h.function p.level name all.trees all.state (other-name name args slot n p) i) p.level name all.trees all.state)
    (λ x. one (with_slot (in_state (after_arguments p all) x.state) slot x.value))

mutual
  unfolding meaning subgoals

  pub goal-alike : (a b : Builtins) → Alike a b → (g : GoalTree) → asks_rest g ≡ false → meaning a g ≡ meaning b g
  goal-alike a b h truth n = refl
  goal-alike a b h fail n = refl
  goal-alike a b h tick n = refl
  goal-alike a b h (call name args) n = λ i. draining (calling-alike a b h name args i)
  goal-alike a b h (apply name args slot) n = λ i. draining (applying-alike a b h name args slot (both_false (is_rest (apply name args slot)) false n).0 i)
  goal-alike a b h (seq gs) n = λ i. draining (goals-alike a b h gs n i)
  goal-alike a b h (alternatives gs) n = λ i. draining (branches-alike a b h gs n i)
  goal-alike a b h (if_else test yes_goal other) n =
      let parts = parts_false is_rest (subgoals test) (subgoals yes_goal ++ subgoals other) n in
      let rest = parts_false is_rest (subgoals yes_goal) (subgoals other) parts.1 in
      λ i. draining (λ p. chosen (strictly (goal-alike a b h test parts.0 i) p) (goal-alike a b h yes_goal rest.0 i) (goal-alike a b h other rest.1 i p))
  goal-alike a b h (not g) n = λ i. draining (λ p. negated (strictly (goal-alike a b h g n i) p) p)
  goal-alike a b h (once g) n = λ i. draining (λ p. first (strictly (goal-alike a b h g n i) p))
  goal-alike a b h (collect g k into) n = λ i. draining (collecting (goal-alike a b h g n i) k into)
  goal-alike a b h (count g into) n = λ i. draining (counting (goal-alike a b h g n i) into)
  goal-alike a b h (catch g ball handler) n =
      let parts = parts_false is_rest (subgoals g) (subgoals handler) n in
      λ i. draining (catching (goal-alike a b h g parts.0 i) ball (goal-alike a b h handler parts.1 i))

  goals-alike : (a b : Builtins) → Alike a b → (gs : GoalTrees) → list_any is_rest (subgoals_all gs) ≡ false → meaning_of_all a gs ≡ meaning_of_all b gs
  goals-alike a b h no_goals n = refl
  goals-alike a b h (goal g gs) n =
      let parts = parts_false is_rest (subgoals g) (subgoals_all gs) n in
      λ i p. then (goal-alike a b h g parts.0 i p) (goals-alike a b h gs parts.1 i)

  branches-alike : (a b : Builtins) → Alike a b → (gs : GoalTrees) → list_any is_rest (subgoals_all gs) ≡ false → meaning_of_any a gs ≡ meaning_of_any b gs
  branches-alike a b h no_goals n = refl
  branches-alike a b h (goal g gs) n =
      let parts = parts_false is_rest (subgoals g) (subgoals_all gs) n in
      λ i p. alt (goal-alike a b h g parts.0 i p) (branches-alike a b h gs parts.1 i p)
