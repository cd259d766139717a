-- Expressions and goals that are built, and whose nodes are fine, are of the forms that are lowered.
use Rattle.std.proofs.Common.{◌≡◌, ℕ, zero, suc, Bool, true, false, List, ◌++◌, refl, sym, ◌∙◌, subst}
use Rattle.std.specs.Prelude.{◌&&◌, ◌||◌, not, ◌≢◌, Option, Some, None}
use Rattle.std.proofs.lemmas.Bool.{and_parts}
use Rattle.pi_syntax.specs.ExpTree.{ExpTree, var, int, atom, str, list, list_onto, array, call, quote, index, range, range_by, collect, and, or, arrow, if_then, if_else, foreach, while_do, do_while, ExpTrees, no_exps, exp, ExpBranches, no_branches, branch}
use Rattle.pi_syntax.specs.Signature.{exp_count}
use Rattle.pi_meaning.specs.OverNames.Texts.{iterated}
use Rattle.pi_meaning.specs.OverNames.Forms.{Reading, plain, operand, boolean, ranged, readings, first_reading, later_readings, operand_readings, form_of}
use Rattle.pi_prog_clauses.specs.Calls.{Named, named, is_known, calls_of_goal, calls_at}
use Rattle.pi_prog_clauses.specs.Items.{is_misplaced_at}
use Rattle.pi_prog_clauses.specs.Operators.{is_goal_call, is_boolean_call, is_membership, is_reified, is_constraint as is_relation_of_constraints}
use Rattle.pi_prog_clauses.specs.Places.{goal, asked, expression, iterator, placed, called, below, all_placed, arguments_placed, branches_placed}
use Rattle.pi_rewrite_spec.specs.Values.{stays}
use Rattle.pi_rewrite_spec.proofs.ReadingLemmas.{third-of}
use Rattle.pi_rewrite_sound.specs.Built.{are_some, is_built_function, is_built_value, are_built_values, is_built_value_at, is_built_goal_at, is_built_goal, are_built_goals, are_built_branches, is_built_branch, have_built_goals, is_built_pattern, is_built_form, is_assigned, is_built_unit, is_built_collection, are_built_units}
use Rattle.pi_rewrite_spec.specs.Forms.{IsNode, IsRead, AreRead, Knows, IsUnit, IsExpression, AreExpressions, IsExpressionAt, IsGoalAt, IsGoal, AreGoals, AreBranches, IsBranch, HaveGoals, AreUnits, IsCollection}
use Rattle.pi_rewrite_sound.proofs.KnownCalls.{AreKnown, AreFine, nodes-apart}
use Rattle.pi_rewrite_sound.proofs.BuiltTerms.{term-of, pattern-of}
use Rattle.pi_rewrite_sound.proofs.CallPlaces.{plain-arguments, goal-arguments, iterator-arguments, below-asked, below-operand, below-iterator, place_behind}
use Rattle.pi_rewrite_sound.proofs.PlainNames.{is_no_expression}
use Rattle.pi_rewrite_sound.proofs.ReadPlaces.{place_read, Fit, fit-goal, fit-node}
use Rattle.pi_rewrite_sound.proofs.BuiltCalls.{Has, function-of, predicate-of, assigned-of, collection-place, atom-of}
use Rattle.pi_rewrite_sound.proofs.NamedPatterns.{units-named}

some-exps : (es : ExpTrees) → are_some es ≡ true → es ≢ no_exps
some-exps no_exps h = absurd cc
some-exps (exp e es) h = λ same. cc

-- the arguments of a call that stands as a goal, where an expression's would stand
as-expression : (defined : List Named) (assigns : Bool) (name : List ℕ) (es : ExpTrees) → AreFine defined (below (goal assigns) (call name es)) → AreFine defined (arguments_placed expression name (exp_count es) 0 es)
unfolding below
as-expression defined assigns name es fine = subst (AreFine defined) (goal-arguments assigns name (exp_count es) 0 es) fine

-- an iterator, by its pattern and what it goes over, or a test
unit-by : (o : Option ExpTree) (over test : Bool) (Over Test : Type 0) → is_built_unit o over test ≡ true → ((e : ExpTree) → o ≡ Some e → over ≡ true → Over) → (test ≡ true → Test) → IsUnit o Over Test
unit-by None over test Over Test built f g = g built
unit-by (Some e) over test Over Test built f g = let both = and_parts (is_built_pattern e) over built in (pattern-of e both.0, f e refl both.1)

-- what stands below an expression, however it is read
below-read : (r : Reading) (e : ExpTree) → below (place_read r) e ≡ below expression e
below-read plain e = refl
below-read operand e = refl
below-read boolean e = below-operand e
below-read ranged e = refl

-- a call that is no structure is called as a function
module _ (defined : List Named) (name : List ℕ) (es : ExpTrees) where
  abbrev IsFunctions : Type 0
  IsFunctions = (is_known defined (named name (exp_count es) true) ≡ true) × (is_no_expression name (exp_count es) ≡ false)

  not-boolean : (b g m : Bool) → b ≡ false → is_known defined (named name (exp_count es) (not b)) ≡ true → ((g && not b) || m) ≡ false → (is_known defined (named name (exp_count es) true) ≡ true) × ((g || m) ≡ false)
  not-boolean true g m none found place = absurd cc
  not-boolean false true m none found place = absurd cc
  not-boolean false false m none found place = (found, place)

  function-called : (r : Reading) → stays r name (exp_count es) ≡ false → AreKnown defined (calls_at (place_read r) (call name es)) → is_misplaced_at (place_read r) (call name es) ≡ false → IsFunctions
  unfolding is_reified is_relation_of_constraints
  function-called plain none calls place = (calls.0, place)
  function-called operand none calls place = (calls.0, place)
  function-called ranged none calls place = (calls.0, place)
  function-called boolean none calls place =
      not-boolean (is_boolean_call name (exp_count es)) (is_goal_call name (exp_count es)) (is_membership name (exp_count es)) none calls.0 place

-- a node that stays as a structure, or a function's call
node-by : (b : Bool) (Own Called : Type 0) → (b ≡ true → Own) → (b ≡ false → Called) → IsNode b Own Called
node-by true Own Called f g = f refl
node-by false Own Called f g = g refl

mutual
  unfolding is_built_value IsRead below all_placed arguments_placed branches_placed

  read-of : (defined : List Named) (known : Knows) → Has defined known → (r : Reading) (e : ExpTree) → is_built_value e ≡ true → AreKnown defined (calls_at (place_read r) e) × (is_misplaced_at (place_read r) e ≡ false) →
      AreFine defined (below expression e) → IsRead known r e
  read-of defined known has r (var name) built here fine = tt
  read-of defined known has r (int n) built here fine = tt
  read-of defined known has r (atom name) built here fine = tt
  read-of defined known has r (str text) built here fine = tt
  read-of defined known has r (list es) built here fine = values-of defined known has es built fine
  read-of defined known has r (list_onto es e) built here fine =
      let both = and_parts (are_built_values es) (is_built_value e) built in
      let parts = nodes-apart defined (all_placed expression es) (placed expression e) fine in
      (values-of defined known has es both.0 parts.0, read-of defined known has plain e both.1 parts.1.0 parts.1.1)
  read-of defined known has r (array es) built here fine = values-of defined known has es built fine
  read-of defined known has r (call name es) built here fine =
      let k : ℕ = exp_count es in
      node-by (stays r name k) (AreRead known (operand_readings r name k) es) _
      (λ is. reads-at defined known has name k 0 (operand_readings r name k) es
      (and_parts (are_built_values es) (is_built_function name k) (sym (third-of r name k is (is_built_value_at es 0 && is_built_goal_at es 1) (is_built_goal_at es 0) (are_built_values es && is_built_function name k)) ∙ built)).0
      (fit-node r name es is) fine)
      (λ none.
      let calls = function-called defined name es r none here.0 here.1 in
      function-of defined known has name k (are_built_values es) (is_built_value_at es) (is_built_goal_at es) (AreExpressions known es) (IsExpressionAt known es) (IsGoalAt known es)
      (record {
        all = λ placeless all. values-of defined known has es all (subst (AreFine defined) (plain-arguments name k 0 es placeless) fine);
        one = λ i place is. value-at defined known has name k 0 es i place is fine;
        inner = λ i place is. goal-at defined known has name k 0 es i place is fine;
      }) calls.0 calls.1 built)
  read-of defined known has r (quote e) built here fine = term-of e built
  read-of defined known has r (index e es) built here fine =
      let both = and_parts (is_built_value e) (are_built_values es && are_some es) built in
      let rest = and_parts (are_built_values es) (are_some es) both.1 in
      let parts = nodes-apart defined (placed expression e) (all_placed expression es) fine in
      (read-of defined known has plain e both.0 parts.0.0 parts.0.1, values-of defined known has es rest.0 parts.1, some-exps es rest.1)
  read-of defined known has r (range first last) built here fine =
      let both = and_parts (is_built_value first) (is_built_value last) built in
      let parts = nodes-apart defined (placed expression first) (placed expression last) fine in
      (read-of defined known has plain first both.0 parts.0.0 parts.0.1, read-of defined known has plain last both.1 parts.1.0 parts.1.1)
  read-of defined known has r (range_by first step last) built here fine =
      let both = and_parts (is_built_value first) (is_built_value step && is_built_value last) built in
      let rest = and_parts (is_built_value step) (is_built_value last) both.1 in
      let parts = nodes-apart defined (placed expression first) (placed expression step ++ placed expression last) fine in
      let behind = nodes-apart defined (placed expression step) (placed expression last) parts.1 in
      (read-of defined known has plain first both.0 parts.0.0 parts.0.1, read-of defined known has plain step rest.0 behind.0.0 behind.0.1, read-of defined known has plain last rest.1 behind.1.0 behind.1.1)
  read-of defined known has r (collect is_array e es) built here fine =
      let both = and_parts (are_built_units es) (is_built_value e) built in
      let parts = nodes-apart defined (placed expression e) (all_placed iterator es) fine in
      (units-of defined known has es both.0 parts.1, read-of defined known has plain e both.1 parts.0.0 parts.0.1, units-named es both.0)
  read-of defined known has r e built here fine = absurd cc

  -- arguments from this one on, each as it is read
  reads-at : (defined : List Named) (known : Knows) → Has defined known → (name : List ℕ) (k from : ℕ) (rs : List Reading) (es : ExpTrees) → are_built_values es ≡ true → Fit name k from rs es →
      AreFine defined (arguments_placed expression name k from es) → AreRead known rs es
  reads-at defined known has name k from rs no_exps built fit fine = tt
  reads-at defined known has name k from rs (exp e es) built fit fine =
      let both = and_parts (is_built_value e) (are_built_values es) built in
      let parts = nodes-apart defined (placed (called name k from) e) (arguments_placed expression name k (suc from) es) fine in
      let here : AreFine defined (placed (place_read (first_reading rs)) e) = subst (λ p. AreFine defined (placed p e)) fit.0 parts.0 in
      (read-of defined known has (first_reading rs) e both.0 here.0 (subst (AreFine defined) (below-read (first_reading rs) e) here.1), reads-at defined known has name k (suc from) (later_readings rs) es both.1 fit.1 parts.1)

  values-of : (defined : List Named) (known : Knows) → Has defined known → (es : ExpTrees) → are_built_values es ≡ true → AreFine defined (all_placed expression es) → AreExpressions known es
  values-of defined known has no_exps built fine = tt
  values-of defined known has (exp e es) built fine =
      let both = and_parts (is_built_value e) (are_built_values es) built in
      let parts = nodes-apart defined (placed expression e) (all_placed expression es) fine in
      (read-of defined known has plain e both.0 parts.0.0 parts.0.1, values-of defined known has es both.1 parts.1)

  -- an argument, so far behind this one
  value-at : (defined : List Named) (known : Knows) → Has defined known → (name : List ℕ) (k from : ℕ) (es : ExpTrees) (i : ℕ) → place_behind name k from i ≡ expression → is_built_value_at es i ≡ true →
      AreFine defined (arguments_placed expression name k from es) → IsExpressionAt known es i
  value-at defined known has name k from no_exps i place built fine = absurd cc
  value-at defined known has name k from (exp e es) zero place built fine =
      let here : AreFine defined (placed expression e) =
      subst (λ p. AreFine defined (placed p e)) place (nodes-apart defined (placed (called name k from) e) (arguments_placed expression name k (suc from) es) fine).0 in
      read-of defined known has plain e built here.0 here.1
  value-at defined known has name k from (exp e es) (suc i) place built fine =
      value-at defined known has name k (suc from) es i place built (nodes-apart defined (placed (called name k from) e) (arguments_placed expression name k (suc from) es) fine).1

  goal-at : (defined : List Named) (known : Knows) → Has defined known → (name : List ℕ) (k from : ℕ) (es : ExpTrees) (i : ℕ) → place_behind name k from i ≡ asked → is_built_goal_at es i ≡ true →
      AreFine defined (arguments_placed expression name k from es) → IsGoalAt known es i
  goal-at defined known has name k from no_exps i place built fine = absurd cc
  goal-at defined known has name k from (exp e es) zero place built fine =
      let here : AreFine defined (placed asked e) =
      subst (λ p. AreFine defined (placed p e)) place (nodes-apart defined (placed (called name k from) e) (arguments_placed expression name k (suc from) es) fine).0 in
      goal-of defined known has false e built here.0.0 (subst (AreFine defined) (below-asked e) here.1)
  goal-at defined known has name k from (exp e es) (suc i) place built fine =
      goal-at defined known has name k (suc from) es i place built (nodes-apart defined (placed (called name k from) e) (arguments_placed expression name k (suc from) es) fine).1

  pub goal-of : (defined : List Named) (known : Knows) → Has defined known → (assigns : Bool) (e : ExpTree) → is_built_goal e ≡ true → AreKnown defined (calls_of_goal e) → AreFine defined (below (goal assigns) e) → IsGoal known e
  goal-of defined known has assigns (atom name) built calls fine = atom-of defined known has name built calls
  goal-of defined known has assigns (call name es) built calls fine =
      let k : ℕ = exp_count es in
      let both = and_parts (is_built_form (form_of name k) name k (are_built_values es) (is_built_value_at es) (is_built_goal_at es)) (is_assigned (form_of name k) es) built in
      let here : AreFine defined (arguments_placed expression name k 0 es) = as-expression defined assigns name es fine in (
        predicate-of defined known has name k (are_built_values es) (is_built_value_at es) (is_built_goal_at es) (λ rs. AreRead known rs es) (IsExpressionAt known es) (IsGoalAt known es)
            (record {
              all = λ placeless all. values-of defined known has es all (subst (AreFine defined) (plain-arguments name k 0 es placeless) here);
              one = λ i place is. value-at defined known has name k 0 es i place is here;
              inner = λ i place is. goal-at defined known has name k 0 es i place is here;
            }) (λ name_built all. reads-at defined known has name k 0 (readings name k) es all (fit-goal name es name_built) here) calls both.0,
        assigned-of name es both.1,
      )
  goal-of defined known has assigns (and es) built calls fine = goals-of defined known has assigns es built fine
  goal-of defined known has assigns (or es) built calls fine = branches-of defined known has assigns es built fine
  goal-of defined known has assigns (if_then bs) built calls fine = choices-of defined known has assigns bs built fine
  goal-of defined known has assigns (if_else bs e) built calls fine =
      let both = and_parts (have_built_goals bs) (is_built_goal e) built in
      let parts = nodes-apart defined (branches_placed (goal assigns) bs) (placed (goal assigns) e) fine in
      (choices-of defined known has assigns bs both.0 parts.0, goal-of defined known has assigns e both.1 parts.1.0.0 parts.1.1)
  goal-of defined known has assigns (foreach es e) built calls fine =
      let both = and_parts (are_built_units es) (is_built_goal e) built in
      let parts = nodes-apart defined (all_placed iterator es) (placed (goal assigns) e) fine in
      (units-of defined known has es both.0 parts.0, goal-of defined known has assigns e both.1 parts.1.0.0 parts.1.1)
  goal-of defined known has assigns (while_do c e) built calls fine =
      let both = and_parts (is_built_goal c) (is_built_goal e) built in
      let parts = nodes-apart defined (placed (goal false) c) (placed (goal assigns) e) fine in
      (goal-of defined known has false c both.0 parts.0.0.0 parts.0.1, goal-of defined known has assigns e both.1 parts.1.0.0 parts.1.1)
  goal-of defined known has assigns (do_while e c) built calls fine =
      let both = and_parts (is_built_goal e) (is_built_goal c) built in
      let parts = nodes-apart defined (placed (goal assigns) e) (placed (goal false) c) fine in
      (goal-of defined known has assigns e both.0 parts.0.0.0 parts.0.1, goal-of defined known has false c both.1 parts.1.0.0 parts.1.1)
  goal-of defined known has assigns e built calls fine = absurd cc

  goals-of : (defined : List Named) (known : Knows) → Has defined known → (assigns : Bool) (es : ExpTrees) → are_built_goals es ≡ true → AreFine defined (all_placed (goal assigns) es) → AreGoals known es
  goals-of defined known has assigns no_exps built fine = tt
  goals-of defined known has assigns (exp e es) built fine =
      let both = and_parts (is_built_goal e) (are_built_goals es) built in
      let parts = nodes-apart defined (placed (goal assigns) e) (all_placed (goal assigns) es) fine in
      (goal-of defined known has assigns e both.0 parts.0.0.0 parts.0.1, goals-of defined known has assigns es both.1 parts.1)

  branches-of : (defined : List Named) (known : Knows) → Has defined known → (assigns : Bool) (es : ExpTrees) → are_built_branches es ≡ true → AreFine defined (all_placed (goal assigns) es) → AreBranches known es
  branches-of defined known has assigns no_exps built fine = tt
  branches-of defined known has assigns (exp e es) built fine =
      let both = and_parts (is_built_branch e) (are_built_branches es) built in
      let parts = nodes-apart defined (placed (goal assigns) e) (all_placed (goal assigns) es) fine in
      (branch-of defined known has assigns e both.0 parts.0.0.0 parts.0.1, branches-of defined known has assigns es both.1 parts.1)

  branch-of : (defined : List Named) (known : Knows) → Has defined known → (assigns : Bool) (e : ExpTree) → is_built_branch e ≡ true → AreKnown defined (calls_of_goal e) → AreFine defined (below (goal assigns) e) → IsBranch known e
  branch-of defined known has assigns (arrow c e) built calls fine =
      let both = and_parts (is_built_goal c) (is_built_goal e) built in
      let parts = nodes-apart defined (placed (goal false) c) (placed (goal assigns) e) fine in
      (goal-of defined known has false c both.0 parts.0.0.0 parts.0.1, goal-of defined known has assigns e both.1 parts.1.0.0 parts.1.1)
  branch-of defined known has assigns (atom name) built calls fine = atom-of defined known has name built calls
  branch-of defined known has assigns (call name es) built calls fine =
      let k : ℕ = exp_count es in
      let both = and_parts (is_built_form (form_of name k) name k (are_built_values es) (is_built_value_at es) (is_built_goal_at es)) (is_assigned (form_of name k) es) built in
      let here : AreFine defined (arguments_placed expression name k 0 es) = as-expression defined assigns name es fine in (
        predicate-of defined known has name k (are_built_values es) (is_built_value_at es) (is_built_goal_at es) (λ rs. AreRead known rs es) (IsExpressionAt known es) (IsGoalAt known es)
            (record {
              all = λ placeless all. values-of defined known has es all (subst (AreFine defined) (plain-arguments name k 0 es placeless) here);
              one = λ i place is. value-at defined known has name k 0 es i place is here;
              inner = λ i place is. goal-at defined known has name k 0 es i place is here;
            }) (λ name_built all. reads-at defined known has name k 0 (readings name k) es all (fit-goal name es name_built) here) calls both.0,
        assigned-of name es both.1,
      )
  branch-of defined known has assigns (and es) built calls fine = goals-of defined known has assigns es built fine
  branch-of defined known has assigns (or es) built calls fine = branches-of defined known has assigns es built fine
  branch-of defined known has assigns (if_then bs) built calls fine = choices-of defined known has assigns bs built fine
  branch-of defined known has assigns (if_else bs e) built calls fine =
      let both = and_parts (have_built_goals bs) (is_built_goal e) built in
      let parts = nodes-apart defined (branches_placed (goal assigns) bs) (placed (goal assigns) e) fine in
      (choices-of defined known has assigns bs both.0 parts.0, goal-of defined known has assigns e both.1 parts.1.0.0 parts.1.1)
  branch-of defined known has assigns (foreach es e) built calls fine =
      let both = and_parts (are_built_units es) (is_built_goal e) built in
      let parts = nodes-apart defined (all_placed iterator es) (placed (goal assigns) e) fine in
      (units-of defined known has es both.0 parts.0, goal-of defined known has assigns e both.1 parts.1.0.0 parts.1.1)
  branch-of defined known has assigns (while_do c e) built calls fine =
      let both = and_parts (is_built_goal c) (is_built_goal e) built in
      let parts = nodes-apart defined (placed (goal false) c) (placed (goal assigns) e) fine in
      (goal-of defined known has false c both.0 parts.0.0.0 parts.0.1, goal-of defined known has assigns e both.1 parts.1.0.0 parts.1.1)
  branch-of defined known has assigns (do_while e c) built calls fine =
      let both = and_parts (is_built_goal e) (is_built_goal c) built in
      let parts = nodes-apart defined (placed (goal assigns) e) (placed (goal false) c) fine in
      (goal-of defined known has assigns e both.0 parts.0.0.0 parts.0.1, goal-of defined known has false c both.1 parts.1.0.0 parts.1.1)
  branch-of defined known has assigns e built calls fine = absurd cc

  choices-of : (defined : List Named) (known : Knows) → Has defined known → (assigns : Bool) (bs : ExpBranches) → have_built_goals bs ≡ true → AreFine defined (branches_placed (goal assigns) bs) → HaveGoals known bs
  choices-of defined known has assigns no_branches built fine = tt
  choices-of defined known has assigns (branch c e bs) built fine =
      let both = and_parts (is_built_goal c) (is_built_goal e && have_built_goals bs) built in
      let rest = and_parts (is_built_goal e) (have_built_goals bs) both.1 in
      let parts = nodes-apart defined (placed (goal false) c) (placed (goal assigns) e ++ branches_placed (goal assigns) bs) fine in
      let behind = nodes-apart defined (placed (goal assigns) e) (branches_placed (goal assigns) bs) parts.1 in
      (goal-of defined known has false c both.0 parts.0.0.0 parts.0.1, goal-of defined known has assigns e rest.0 behind.0.0.0 behind.0.1, choices-of defined known has assigns bs rest.1 behind.1)

  -- iterators and tests
  units-of : (defined : List Named) (known : Knows) → Has defined known → (es : ExpTrees) → are_built_units es ≡ true → AreFine defined (all_placed iterator es) → AreUnits known es
  units-of defined known has no_exps built fine = tt
  units-of defined known has (exp u us) built fine =
      let both = and_parts (is_built_unit (iterated u) (is_built_collection u) (is_built_goal u)) (are_built_units us) built in
      let parts = nodes-apart defined (placed iterator u) (all_placed iterator us) fine in (
        unit-by (iterated u) (is_built_collection u) (is_built_goal u) (IsCollection known u) (IsGoal known u) both.0 (λ e is over. collection-of defined known has u e is over parts.0.1)
            (λ test. goal-of defined known has false u test parts.0.0.0 (subst (AreFine defined) (below-iterator u) parts.0.1)),
        units-of defined known has us both.1 parts.1,
      )

  -- what an iterator goes over
  collection-of : (defined : List Named) (known : Knows) → Has defined known → (u e : ExpTree) → iterated u ≡ Some e → is_built_collection u ≡ true → AreFine defined (below iterator u) → IsCollection known u
  collection-of defined known has (call name es) e is built fine =
      value-at defined known has name (exp_count es) 0 es 1 (collection-place name es e is) built (subst (AreFine defined) (iterator-arguments name (exp_count es) 0 es) fine)
  collection-of defined known has u e is built fine = absurd cc

pub value-of : (defined : List Named) (known : Knows) → Has defined known → (e : ExpTree) → is_built_value e ≡ true → AreFine defined (placed expression e) → IsExpression known e
value-of defined known has e built fine = read-of defined known has plain e built fine.0 fine.1
