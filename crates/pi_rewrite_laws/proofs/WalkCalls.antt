-- The calls by which a walk goes on: how many items there are, the next number, whether that is past the last one, and the item of a number.
use Rattle.std.proofs.Common.{◌≡◌, ℕ, suc, Bool, true, false, cond, List, refl, ◌∙◌, ap}
use Rattle.std.specs.Prelude.{ℤ, Option, Some, Ok, pos, codes, int_lt, ◌||◌, IsTrue, slice_get}
use Rattle.std.specs.Option.{option_or}
use Rattle.pi_terms.specs.Tree.{Tree, int, comp, Trees, no_trees, tree}
use Rattle.pi_constraints.specs.State.{State, bindings, followed}
use Rattle.pi_constraints.proofs.FollowLemmas.{followed_other}
use Rattle.pi_syntax.specs.PrintTerm.{array_name}
use Rattle.pi_effects.specs.Value.{value_of}
use Rattle.pi_effects.specs.declared.operation.Op.TheVariants.{Add}
use Rattle.pi_effects.specs.Answer.{Answer, found_or, or_raised, integer_at, integer_then}
use Rattle.pi_effects.specs.Items.{each_tree, structure_parts, list_items}
use Rattle.pi_effects.specs.Exception.{type_error, bad_index}
use Rattle.pi_effects.specs.Rows.{done_by, has_line}
use Rattle.pi_effects.specs.Integers.{integer_functions, outcome_then, number}
use Rattle.pi_effects.specs.Comparing.{comparing_tests}
use Rattle.pi_effects.specs.Kinds.{kind_tests}
use Rattle.pi_effects.specs.Collections.{collection_then, count, collection_functions}
use Rattle.pi_effects.specs.Sorting.{sorting_functions}
use Rattle.pi_effects.specs.Indexing.{index_name, item_at, indexed, index_functions}
use Rattle.pi_effects.specs.Ranges.{range_functions}
use Rattle.pi_effects.specs.Naming.{naming_functions}
use Rattle.pi_effects.specs.Texts.{text_functions, writing_predicates}
use Rattle.pi_effects.specs.BuiltIns.{reading_functions, built_in_function, tests, other_predicates, built_in_predicate, is_predicate, is_function, answer_in, test_in}
use Rattle.pi_traces.specs.Trace.{one, done}
use Rattle.pi_meaning.specs.Shared.Level.{Level}
use Rattle.pi_meaning.specs.Shared.Builtin.{settled_effect, function_trace}
use Rattle.pi_meaning.specs.Shared.Given.{Setting}
use Rattle.pi_meaning.specs.Shared.Names.{is_given_predicate, is_later_predicate, is_given_function, is_resource, is_later_function}
use Rattle.pi_meaning.specs.Shared.Calls.{predicate_given, predicate_called, function_given, function_called}
use Rattle.pi_meaning.proofs.Shared.SettleLemmas.{settled-same}
use Rattle.pi_rewrite_spec.proofs.BuiltInLemmas.{given-first, given-of, no-number, item-called}

-- ---- `<`

less-tested : (set : Setting) (m : Level) (t u : Tree) (s : State) →
    predicate_called set m (codes "<") (tree t (tree u no_trees)) s ≡ settled_effect set.view s (test_in s (integer_then s t (λ a. integer_then s u (λ c. Ok (int_lt a c)))))
unfolding predicate_called predicate_given built_in_predicate done_by tests comparing_tests kind_tests writing_predicates other_predicates
less-tested set m t u s = refl

pub integers-there : {A : Type 0} (s : State) (a : ℤ) (f : ℤ → Answer A) → integer_then s (int a) f ≡ f a
integers-there s a f = ap (λ (t : Tree). found_or (integer_at t) (type_error (codes "integer") (int a) s) f) (followed_other (bindings s) (int a) (no-number a))

pub less-called : (set : Setting) (m : Level) (a c : ℤ) (s : State) → predicate_called set m (codes "<") (tree (int a) (tree (int c) no_trees)) s ≡ cond (int_lt a c) (one s) done
less-called set m a c s =
    less-tested set m (int a) (int c) s
    ∙ ap (λ (x : Answer Bool). settled_effect set.view s (test_in s x)) (integers-there s a (λ b. integer_then s (int c) (λ d. Ok (int_lt b d))) ∙ integers-there s c (λ d. Ok (int_lt a d)))
    ∙ go (int_lt a c)
  where
    go : (b : Bool) → settled_effect set.view s (test_in s (Ok b)) ≡ cond b (one s) done
    go true = settled-same s
    go false = refl

less-given : is_predicate (codes "<") 2 ≡ true
unfolding is_predicate has_line tests comparing_tests kind_tests writing_predicates other_predicates
less-given = refl

pub less-known : (known : Bool) → IsTrue (is_given_predicate (codes "<") 2 || known)
less-known known = given-first (is_predicate (codes "<") 2) (is_later_predicate (codes "<") 2) known less-given

-- ---- `+`

sum-given : (set : Setting) (m : Level) (t u : Tree) (s : State) →
    function_called set m (codes "+") (tree t (tree u no_trees)) s ≡ function_trace (answer_in s (integer_then s t (λ a. integer_then s u (λ c. outcome_then (value_of Add a c) number))))
unfolding function_called function_given built_in_function done_by reading_functions integer_functions collection_functions sorting_functions index_functions range_functions naming_functions text_functions
sum-given set m t u s = refl

pub sum-called : (set : Setting) (m : Level) (a c : ℤ) (s : State) → function_called set m (codes "+") (tree (int a) (tree (int c) no_trees)) s ≡ function_trace (answer_in s (outcome_then (value_of Add a c) number))
sum-called set m a c s =
    sum-given set m (int a) (int c) s
    ∙ ap (λ (x : Answer Tree). function_trace (answer_in s x)) (integers-there s a (λ b. integer_then s (int c) (λ d. outcome_then (value_of Add b d) number)) ∙ integers-there s c (λ d. outcome_then (value_of Add a d) number))

sum-listed : is_function (codes "+") 2 ≡ true
unfolding is_function has_line reading_functions integer_functions collection_functions sorting_functions index_functions range_functions naming_functions text_functions
sum-listed = refl

pub sum-known : (known : Bool) → IsTrue (is_given_function (codes "+") 2 || known)
sum-known known = given-of (is_given_function (codes "+") 2) known (given-of (is_function (codes "+") 2) (is_resource (codes "+") 2 || is_later_function (codes "+") 2) sum-listed)

-- ---- `length`

pub length-called : (set : Setting) (m : Level) (t : Tree) (s : State) → function_called set m (codes "length") (tree t no_trees) s ≡ function_trace (answer_in s (collection_then s t (λ ts. count ts)))
unfolding function_called function_given built_in_function done_by reading_functions integer_functions collection_functions sorting_functions index_functions range_functions naming_functions text_functions
length-called set m t s = refl

length-listed : is_function (codes "length") 1 ≡ true
unfolding is_function has_line reading_functions integer_functions collection_functions sorting_functions index_functions range_functions naming_functions text_functions
length-listed = refl

pub length-known : (known : Bool) → IsTrue (is_given_function (codes "length") 1 || known)
length-known known = given-of (is_given_function (codes "length") 1) known (given-of (is_function (codes "length") 1) (is_resource (codes "length") 1 || is_later_function (codes "length") 1) length-listed)

-- ---- the item of an array

pub array-item-called : (set : Setting) (m : Level) (d : Tree) (ts : Trees) (j : ℕ) (x : Tree) (s : State) → followed (bindings s) d ≡ comp array_name ts → slice_get (each_tree ts) j ≡ Some x →
    function_called set m index_name (tree d (tree (int (pos (suc j))) no_trees)) s ≡ one (record { value = x; state = s })
unfolding indexed each_tree
array-item-called set m d ts j x s root item =
    item-called set m d (int (pos (suc j))) s
    ∙ ap (λ (u : Tree). function_trace (answer_in s (found_or (option_or (structure_parts u) (list_items (bindings s) d)) (type_error (codes "list") d s)
    (λ us. integer_then s (int (pos (suc j))) (λ n. or_raised (item_at us n) (bad_index (int (pos (suc j))) s)))))) root
    ∙ ap (λ (o : Option (List Tree)). function_trace (answer_in s (found_or o (type_error (codes "list") d s) (λ us. integer_then s (int (pos (suc j))) (λ n. or_raised (item_at us n) (bad_index (int (pos (suc j))) s)))))) (parts ts)
    ∙ ap (λ (a : Answer Tree). function_trace (answer_in s a)) (integers-there s (pos (suc j)) (λ n. or_raised (item_at (each_tree ts) n) (bad_index (int (pos (suc j))) s)) ∙ ap (λ (o : Option Tree). or_raised o (bad_index (int (pos (suc j))) s)) item)
  where
    parts : (ts : Trees) → option_or (structure_parts (comp array_name ts)) (list_items (bindings s) d) ≡ Some (each_tree ts)
    parts no_trees = refl
    parts (tree t no_trees) = refl
    parts (tree t (tree u no_trees)) = refl
    parts (tree t (tree u (tree w us))) = refl
