-- Calls of functions that no text can call, and of `to_array` on a list that was just made: what each gives, in any state.
use Rattle.std.proofs.Common.{◌≡◌, ℕ, zero, suc, ◌<◌, Bool, List, [], ◌∷◌, length, refl, ◌∙◌, ap, arith, reverse}
use Rattle.std.specs.Prelude.{Option, Some, option_map, codes, ◌||◌, IsTrue, true, unwrap_or, Ok}
use Rattle.std.specs.Option.{option_or}
use Rattle.pi_terms.specs.Tree.{Tree, atom, no_trees, tree, cells}
use Rattle.pi_terms.specs.ListNames.{nil, cell_name}
use Rattle.pi_terms.specs.ListCopies.{list_cell}
use Rattle.pi_terms.specs.Substitution.{instance}
use Rattle.pi_constraints.specs.Value.{Bindings, value}
use Rattle.pi_constraints.specs.State.{State, bindings}
use Rattle.pi_constraints.proofs.FollowLemmas.{followed_other}
use Rattle.pi_constraints.proofs.RootLemmas.{value_atom, value_comp}
use Rattle.pi_constraints.proofs.ValueLemmas.{value_goes_by_variables}
use Rattle.pi_effects.specs.Answer.{found_or}
use Rattle.pi_effects.specs.Items.{list_onto, list_of, array_of, items_of_root, items_for, list_items, collection_items, array_parts}
use Rattle.pi_effects.specs.Exception.{type_error}
use Rattle.pi_effects.specs.Rows.{done_by, has_line}
use Rattle.pi_effects.specs.Integers.{integer_functions}
use Rattle.pi_effects.specs.Collections.{collection_then, collection_functions}
use Rattle.pi_effects.specs.Sorting.{sorting_functions}
use Rattle.pi_effects.specs.Indexing.{index_functions}
use Rattle.pi_effects.specs.Ranges.{range_functions}
use Rattle.pi_effects.specs.Naming.{naming_functions}
use Rattle.pi_effects.specs.Texts.{text_functions}
use Rattle.pi_effects.specs.Inner.{itself_name, in_order_name}
use Rattle.pi_effects.specs.BuiltIns.{reading_functions, built_in_function, is_function, answer_in}
use Rattle.pi_traces.specs.Trace.{one}
use Rattle.pi_meaning.specs.Shared.Level.{Level}
use Rattle.pi_meaning.specs.Shared.Builtin.{function_trace}
use Rattle.pi_meaning.specs.Shared.Given.{Setting}
use Rattle.pi_meaning.specs.Shared.Names.{is_given_function, is_resource, is_later_function}
use Rattle.pi_meaning.specs.Shared.Calls.{function_given, function_called}
use Rattle.pi_rewrite_spec.proofs.BuiltInLemmas.{given-of, no-variable}

-- ---- a list that was just made

no-name : (name : List ℕ) (n : ℕ) → atom name ≡ Tree.var n → ⊥
no-name name n e = absurd cc

-- its items, by so many cells as it has at least
items-made : (b : Bindings) (ts : List Tree) (k : ℕ) → length ts < k → items_for k b (list_of ts) ≡ Some ts
unfolding items_for list_onto
items-made b ts zero less = absurd (omega (arith, less))
items-made b [] (suc k) less = ap (items_of_root (items_for k b)) (followed_other b (atom nil) (no-name nil))
items-made b (t ∷ ts) (suc k) less =
    ap (items_of_root (items_for k b)) (followed_other b (list_cell t (list_of ts)) (no-variable cell_name (tree t (tree (list_of ts) no_trees))))
    ∙ ap (option_map (λ us. t ∷ us)) (items-made b ts k (omega (arith, less)))

cells-made : (b : Bindings) (ts : List Tree) → length ts < cells (value b (list_of ts))
unfolding list_onto cells instance
cells-made b [] = omega (arith, ap cells (value_atom b nil))
cells-made b (t ∷ ts) =
    omega (arith, cells-made b ts, ap cells (value_comp b cell_name (tree t (tree (list_of ts) no_trees))), ap cells (value_goes_by_variables b (list_of ts)))

pub list-made : (b : Bindings) (ts : List Tree) → list_items b (list_of ts) ≡ Some ts
unfolding list_items
list-made b ts = items-made b ts (cells (value b (list_of ts))) (cells-made b ts)

pub collection-made : (b : Bindings) (ts : List Tree) → collection_items b (list_of ts) ≡ Some ts
unfolding list_onto
collection-made b [] = ap (λ (t : Tree). option_or (array_parts t) (list_items b (list_of []))) (followed_other b (atom nil) (no-name nil)) ∙ list-made b []
collection-made b (t ∷ ts) =
    ap (λ (u : Tree). option_or (array_parts u) (list_items b (list_of (t ∷ ts)))) (followed_other b (list_cell t (list_of ts)) (no-variable cell_name (tree t (tree (list_of ts) no_trees)))) ∙ list-made b (t ∷ ts)

-- ---- what functions give

-- a value as it stands
pub itself-called : (set : Setting) (m : Level) (t : Tree) (s : State) → function_called set m itself_name (tree t no_trees) s ≡ one (record { value = t; state = s })
unfolding function_called function_given built_in_function done_by reading_functions integer_functions collection_functions sorting_functions index_functions range_functions naming_functions text_functions
itself-called set m t s = refl

-- what was gathered from the front, in order
pub order-called : (set : Setting) (m : Level) (t : Tree) (s : State) → function_called set m in_order_name (tree t no_trees) s ≡ one (record { value = list_of (reverse (unwrap_or (list_items (bindings s) t) [])); state = s })
unfolding function_called function_given built_in_function done_by reading_functions integer_functions collection_functions sorting_functions index_functions range_functions naming_functions text_functions
order-called set m t s = refl

array-given : (set : Setting) (m : Level) (t : Tree) (s : State) → function_called set m (codes "to_array") (tree t no_trees) s ≡ function_trace (answer_in s (collection_then s t (λ ts. Ok (array_of ts))))
unfolding function_called function_given built_in_function done_by reading_functions integer_functions collection_functions sorting_functions index_functions range_functions naming_functions text_functions
array-given set m t s = refl

pub array-called : (set : Setting) (m : Level) (ts : List Tree) (s : State) → function_called set m (codes "to_array") (tree (list_of ts) no_trees) s ≡ one (record { value = array_of ts; state = s })
array-called set m ts s =
    array-given set m (list_of ts) s
    ∙ ap (λ (o : Option (List Tree)). function_trace (answer_in s (found_or o (type_error (codes "collection") (list_of ts) s) (λ us. Ok (array_of us))))) (collection-made (bindings s) ts)

-- ---- names that are functions

inner-listed : (is_function itself_name 1 ≡ true) × (is_function in_order_name 1 ≡ true) × (is_function (codes "to_array") 1 ≡ true)
unfolding is_function has_line reading_functions integer_functions collection_functions sorting_functions index_functions range_functions naming_functions text_functions
inner-listed = (refl, refl, refl)

listed-known : (name : List ℕ) (k : ℕ) → is_function name k ≡ true → (known : Bool) → IsTrue (is_given_function name k || known)
listed-known name k listed known = given-of (is_given_function name k) known (given-of (is_function name k) (is_resource name k || is_later_function name k) listed)

pub itself-known : (known : Bool) → IsTrue (is_given_function itself_name 1 || known)
itself-known = listed-known itself_name 1 inner-listed.0

pub order-known : (known : Bool) → IsTrue (is_given_function in_order_name 1 || known)
order-known = listed-known in_order_name 1 inner-listed.1

pub array-known : (known : Bool) → IsTrue (is_given_function (codes "to_array") 1 || known)
array-known = listed-known (codes "to_array") 1 inner-listed.2
