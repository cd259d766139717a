-- An iterator as a goal does over slots what it does over names, where what stands in its turns keeps what terms are followed to.
use Rattle.std.proofs.Common.{◌≡◌, ℕ, suc, ◌<◌, Bool, true, false, cond, List, [], ◌∷◌, length, refl, sym, ◌∙◌, ap, subst, arith}
use Rattle.std.specs.Prelude.{ℤ, Option, Some, None, Ok, Err, is_some, slice_set, pos, codes}
use Rattle.std.specs.Option.{option_or}
use Rattle.std.specs.Str.{bytes_eq}
use Rattle.std.proofs.lemmas.List.{get_or-set_same}
use Rattle.std.proofs.lemmas.Slice.Eq.{bytes_eq-Decides}
use Rattle.pi_terms.specs.Tree.{Tree, comp, Trees, no_trees, tree, trees_of, tree_count, cells}
use Rattle.pi_terms.specs.Places.{Places}
use Rattle.pi_constraints.specs.Value.{value}
use Rattle.pi_constraints.specs.State.{State, bindings, followed}
use Rattle.pi_constraints.specs.Evaluation.{Evaluated, EvaluatedAll, evaluated, evaluated_all}
use Rattle.pi_syntax.specs.PrintTerm.{array_name}
use Rattle.pi_effects.specs.Range.{Outcome}
use Rattle.pi_effects.specs.Value.{value_of}
use Rattle.pi_effects.specs.declared.operation.Op.TheVariants.{Add}
use Rattle.pi_effects.specs.Answer.{found_or}
use Rattle.pi_effects.specs.Integers.{fault_term, outcome_then, number}
use Rattle.pi_effects.specs.Collections.{count}
use Rattle.pi_effects.specs.Exception.{type_error}
use Rattle.pi_effects.specs.BuiltIns.{answer_in}
use Rattle.pi_effects.specs.Items.{each_tree, array_parts, list_items, collection_items}
use Rattle.pi_core.specs.GoalTree.{GoalTree}
use Rattle.pi_traces.specs.Trace.{Trace, end, Raise, one, then}
use Rattle.pi_meaning.specs.Shared.Level.{Level, Applied, Point}
use Rattle.pi_meaning.specs.Shared.Builtin.{function_trace}
use Rattle.pi_meaning.specs.CoreMeaning.Builtins.{Builtins, function_by}
use Rattle.pi_meaning.specs.Shared.Given.{Setting}
use Rattle.pi_meaning.specs.CoreMeaning.Meaning.{applying, meaning}
use Rattle.pi_meaning.specs.OverNames.Environment.{Environment, meant}
use Rattle.pi_meaning.specs.OverNames.Place.{Place}
use Rattle.pi_meaning.specs.OverNames.Assigning.{narrowed}
use Rattle.pi_meaning.specs.OverNames.Loops as over_names
use Rattle.pi_meaning.proofs.OverNames.OtherEnvironments.{meant-narrowed}
use Rattle.pi_rewrite_spec.specs.Forms.{Knows}
use Rattle.pi_rewrite_spec.specs.Loops.{Loop}
use Rattle.pi_rewrite_spec.proofs.SameLemmas.{SameBy, same_end}
use Rattle.pi_rewrite_spec.proofs.FilledLemmas.{none_filled, one_filled, in_slot, is_int, all-filled-comes, terms_at, in_front_of, term_at}
use Rattle.pi_rewrite_spec.proofs.RunLemmas.{Alike, point, runs, then-of-one, runs-one, not-drained}
use Rattle.pi_rewrite_spec.proofs.ControlLemmas.{Drains}
use Rattle.pi_rewrite_spec.proofs.EnteredLemmas.{among-slot, variables_from}
use Rattle.pi_rewrite_spec.proofs.CarriedLemmas.{Handed}
use Rattle.pi_rewrite_laws.proofs.EnterLemmas.{AllThere, values_now, now-count, values-stand, new_variables, variables-handed, handed_on, handed-count}
use Rattle.pi_rewrite_laws.proofs.WalkCalls.{sum-called, sum-known, length-called, length-known}
use Rattle.pi_rewrite_laws.proofs.NumberLemmas.{next-number}
use Rattle.pi_rewrite_laws.proofs.WalkArrays.{number_of}
use Rattle.pi_rewrite_laws.proofs.WalkTurns.{Ahead, list_ahead, array_ahead}
use Rattle.pi_rewrite_spec.proofs.HandedLemmas.{some-again}

-- ---- a walk begins

-- what the first turn is handed
pub first-handed : (w : Loop) (base : ℕ) (e : Environment) → AllThere w.shared e → Handed w base (narrowed w.shared e) (handed_on w base e)
first-handed w base e there = record {
  count = handed-count w base e;
  values = λ name named k at.
      meant-narrowed name w.shared e ∙ ap (λ (b : Bool). cond b (meant name e) None) (among-slot name w.shared ∙ ap is_some at)
      ∙ some-again (meant name e) (there name (among-slot name w.shared ∙ ap is_some at) named) ∙ sym (values-stand w.shared e (new_variables base w.kept) name k at);
  others = λ name named at. meant-narrowed name w.shared e ∙ ap (λ (b : Bool). cond b (meant name e) None) (among-slot name w.shared ∙ ap is_some at);
  variables = λ k t at. variables-handed (values_now w.shared e) base w.kept k t (ap (λ (j : ℕ). variables_from j base w.kept k) (now-count w.shared e) ∙ at);
}

-- all items are ahead
pub first-ahead : (s : State) (t : Tree) (ts : List Tree) (n : ℤ) → collection_items (bindings s) t ≡ Some ts → value_of Add (pos (length ts)) (pos 1) ≡ Ok n → Ahead s t (number_of 1) (number_of (suc (length ts))) ts
unfolding list_items
first-ahead s t ts n is numbered = go (followed (bindings s) t) refl is
  where
    of-list : list_items (bindings s) t ≡ Some ts → Ahead s t (number_of 1) (number_of (suc (length ts))) ts
    of-list found = list_ahead t (number_of 1) (number_of (suc (length ts))) (cells (value (bindings s) t)) ts found

    items : Option (List Tree) → List Tree
    items None = []
    items (Some us) = us

    of-array : (name : List ℕ) (us : Trees) → followed (bindings s) t ≡ comp name us → (b : Bool) → bytes_eq name array_name ≡ b → option_or (cond b (Some (each_tree us)) None) (list_items (bindings s) t) ≡ Some ts → Ahead s t (number_of 1) (number_of (suc (length ts))) ts
    of-array name us root false other found = of-list found
    of-array name us root true same found =
        let it : each_tree us ≡ ts = ap items found in
        subst (λ (xs : List Tree). Ahead s t (number_of 1) (number_of (suc (length xs))) xs) it
        (array_ahead t us 0 n (each_tree us) (root ∙ ap (λ (f : List ℕ). comp f us) ((bytes_eq-Decides name array_name).0 same)) (omega arith) (ap (λ (xs : List Tree). value_of Add (pos (length xs)) (pos 1)) it ∙ numbered) refl)

    go : (u : Tree) → followed (bindings s) t ≡ u → option_or (array_parts u) (list_items (bindings s) t) ≡ Some ts → Ahead s t (number_of 1) (number_of (suc (length ts))) ts
    go (Tree.var k) root found = of-list found
    go (Tree.int k) root found = of-list found
    go (Tree.atom name) root found = of-list found
    go (comp name us) root found = of-array name us root (bytes_eq name array_name) refl found

-- a function's value goes into a slot, behind what its arguments fill
pub applied-comes : (b : Builtins) (l : Level) → Drains l → (name : List ℕ) (args vs : List Tree) (into : ℕ) (slots after : Places) (s r : State) (t : Trace Applied) → evaluated_all (trees_of args) slots s ≡ terms_at (trees_of vs) after r → function_by b l name (trees_of vs) r ≡ t →
    meaning b (GoalTree.apply name args into) (point l slots s) ≡ then t (λ a. one (point l (slice_set after into (Some a.value)) a.state))
unfolding meaning applying
applied-comes b l drains name args vs into slots after s r t is calls =
    not-drained (applying b name args into) (point l slots s) drains
    ∙ ap (λ (y : EvaluatedAll). then (function_by b l name y.trees y.state) (λ a. one (point l (slice_set y.slots into (Some a.value)) a.state))) is
    ∙ ap (λ (u : Trace Applied). then u (λ a. one (point l (slice_set after into (Some a.value)) a.state))) calls

pub one-comes : (t u : Tree) (slots after : Places) (s r : State) → evaluated t slots s ≡ term_at u after r → evaluated_all (trees_of (t ∷ [])) slots s ≡ terms_at (trees_of (u ∷ [])) after r
unfolding evaluated
one-comes t u slots after s r is = ap (λ (x : Evaluated). in_front_of x (evaluated_all no_trees x.slots x.state)) is

-- The items are counted, as an error or by a number and one more.
abbrev pub counting_goals : Tree → ℕ → List GoalTree
counting_goals t k = GoalTree.apply (codes "length") (t ∷ []) k ∷ GoalTree.apply (codes "+") (Tree.var k ∷ Tree.int (pos 1) ∷ []) (suc k) ∷ []

abbrev pub counted_slots : Places → ℕ → ℕ → Places
counted_slots after k n = slice_set (slice_set after k (Some (number_of n))) (suc k) (Some (number_of (suc n)))

pub counted-same : (known : Knows) (set : Setting) (b : Builtins) (l m : Level) → Alike known set b l m → (t u : Tree) (k : ℕ) (slots after : Places) (s r : State) → evaluated t slots s ≡ term_at u after r → k < length after →
    (goals : List GoalTree) (turns : List Tree → Trace Place) (S : Point → Place → Type 0) →
    ((ts : List Tree) (n : ℤ) → collection_items (bindings r) u ≡ Some ts → value_of Add (pos (length ts)) (pos 1) ≡ Ok n → SameBy S (runs b goals (point l (counted_slots after k (length ts)) r)) (turns ts)) →
    SameBy S (then (runs b (counting_goals t k) (point l slots s)) (runs b goals)) (over_names.items_then turns u r (collection_items (bindings r) u))
unfolding meaning then tree_count
counted-same known set b l m alike t u k slots after s r is fits goals turns S each = go (collection_items (bindings r) u) refl
  where
    count-value : Option (List Tree) → Trace Applied
    count-value o = function_trace (answer_in r (found_or o (type_error (codes "collection") u r) (λ ts. count ts)))

    sum : GoalTree
    sum = GoalTree.apply (codes "+") (Tree.var k ∷ Tree.int (pos 1) ∷ []) (suc k)

    length-runs : meaning b (GoalTree.apply (codes "length") (t ∷ []) k) (point l slots s) ≡ then (count-value (collection_items (bindings r) u)) (λ a. one (point l (slice_set after k (Some a.value)) a.state))
    length-runs = applied-comes b l alike.core_drains (codes "length") (t ∷ []) (u ∷ []) k slots after s r (count-value (collection_items (bindings r) u)) (one-comes t u slots after s r is)
        (alike.functions (codes "length") (tree u no_trees) r (length-known (known.function (codes "length") 1)) ∙ length-called set m u r)

    first : List Tree → Places
    first ts = slice_set after k (Some (number_of (length ts)))

    sum-runs : (ts : List Tree) → meaning b sum (point l (first ts) r) ≡ then (function_trace (answer_in r (outcome_then (value_of Add (pos (length ts)) (pos 1)) number))) (λ a. one (point l (slice_set (first ts) (suc k) (Some a.value)) a.state))
    sum-runs ts = applied-comes b l alike.core_drains (codes "+") (Tree.var k ∷ Tree.int (pos 1) ∷ []) (number_of (length ts) ∷ number_of 1 ∷ []) (suc k) (first ts) (first ts) r r _
        (all-filled-comes (first ts) _ _ (one_filled (in_slot k (number_of (length ts)) (get_or-set_same after k (Some (number_of (length ts))) None fits)) (one_filled (is_int (pos 1)) none_filled)) r)
        (alike.functions (codes "+") (tree (number_of (length ts)) (tree (number_of 1) no_trees)) r (sum-known (known.function (codes "+") 2)) ∙ sum-called set m (pos (length ts)) (pos 1) r)

    counted : (ts : List Tree) → collection_items (bindings r) u ≡ Some ts → (o : Outcome) → value_of Add (pos (length ts)) (pos 1) ≡ o →
        SameBy S (then (runs b (sum ∷ []) (point l (first ts) r)) (runs b goals)) (over_names.if_numbered o (turns ts))
    counted ts at (Err fault) numbered =
        subst (λ (x : Trace Point). SameBy S (then x (runs b goals)) (end (Raise (fault_term fault)))) (sym (runs-one b sum (point l (first ts) r) ∙ sum-runs ts ∙ ap (λ (q : Outcome). then (function_trace (answer_in r (outcome_then q number))) (λ a. one (point l (slice_set (first ts) (suc k) (Some a.value)) a.state))) numbered)) (same_end _)
    counted ts at (Ok n) numbered =
        subst (λ (x : Trace Point). SameBy S x (turns ts)) (sym (ap (λ (x : Trace Point). then x (runs b goals)) (runs-one b sum (point l (first ts) r) ∙ sum-runs ts
        ∙ ap (λ (q : Outcome). then (function_trace (answer_in r (outcome_then q number))) (λ a. one (point l (slice_set (first ts) (suc k) (Some a.value)) a.state))) (next-number (length ts) (length ts) n (omega arith) numbered)
        ∙ then-of-one {A = Applied} (record { value = number_of (suc (length ts)); state = r }) (λ a. one (point l (slice_set (first ts) (suc k) (Some a.value)) a.state)))
        ∙ then-of-one (point l (counted_slots after k (length ts)) r) (runs b goals))) (each ts n at numbered)

    go : (o : Option (List Tree)) → collection_items (bindings r) u ≡ o → SameBy S (then (runs b (counting_goals t k) (point l slots s)) (runs b goals)) (over_names.items_then turns u r o)
    go None at = subst (λ (x : Trace Point). SameBy S (then (then x (runs b (sum ∷ []))) (runs b goals)) (end (Raise (type_error (codes "collection") u r)))) (sym (length-runs ∙ ap (λ (o : Option (List Tree)). then (count-value o) (λ a. one (point l (slice_set after k (Some a.value)) a.state))) at)) (same_end _)
    go (Some ts) at =
        subst (λ (x : Trace Point). SameBy S (then x (runs b goals)) (over_names.if_numbered (value_of Add (pos (length ts)) (pos 1)) (turns ts)))
        (sym (ap (λ (x : Trace Point). then x (runs b (sum ∷ []))) (length-runs ∙ ap (λ (o : Option (List Tree)). then (count-value o) (λ a. one (point l (slice_set after k (Some a.value)) a.state))) at
        ∙ then-of-one {A = Applied} (record { value = number_of (length ts); state = r }) (λ a. one (point l (slice_set after k (Some a.value)) a.state))) ∙ then-of-one (point l (first ts) r) (runs b (sum ∷ []))))
        (counted ts at (value_of Add (pos (length ts)) (pos 1)) refl)
