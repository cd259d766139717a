-- Built-ins that are worked out: what the examples beside this file compute.
use Rattle.std.specs.Prelude.{ℕ, pos, List, [], ◌∷◌, Option, codes}
use Rattle.pi_terms.specs.Tree.{Tree, int, atom, comp, trees_of, tree_count, cells}
use Rattle.pi_terms.specs.Order.{order}
use Rattle.pi_terms.specs.Variables.{occurrences, firsts}
use Rattle.pi_terms.specs.Substitution.{instance}
use Rattle.pi_terms.specs.Copy.{copy}
use Rattle.pi_constraints.specs.Value.{rounds, value}
use Rattle.pi_constraints.specs.State.{State, Variable, followed_for, followed}
use Rattle.pi_constraints.specs.Unify.{in_pairs, assigned, joined, outcome, unified_for, unbound_in, cells_of_pairs, most_pairs, all_unified}
use Rattle.pi_constraints.specs.Evaluation.{with_new_variables}
use Rattle.pi_effects.specs.Power.{power}
use Rattle.pi_effects.specs.Value.{value_of}
use Rattle.pi_syntax.specs.Tokens.{is_reserved}
use Rattle.pi_syntax.specs.PrintAtom.{is_unquoted_atom, stands_bare, atom_text}
use Rattle.pi_syntax.specs.PrintTerm.{is_characters, characters, written}
use Rattle.std.specs.Str.{chars}
use Rattle.std.specs.Char.{encode_utf8}
use Rattle.std.specs.Fmt.{digits}
use Rattle.pi_effects.specs.Effect.{Effect, FunctionEffect}
use Rattle.pi_effects.specs.Exception.{thrown, exception_with, type_error}
use Rattle.pi_effects.specs.Items.{each_tree, list_onto, items_for, list_items}
use Rattle.pi_effects.specs.Rows.{done_by}
use Rattle.pi_effects.specs.Integers.{integer_functions}
use Rattle.pi_effects.specs.Comparing.{comparing_tests}
use Rattle.pi_effects.specs.Kinds.{kind_tests}
use Rattle.pi_effects.specs.Collections.{total, collection_functions}
use Rattle.pi_effects.specs.Sorting.{inserted, sorted, each_once, sorting_functions}
use Rattle.pi_effects.specs.Indexing.{indexed, index_functions}
use Rattle.pi_effects.specs.Ranges.{values_by, range_functions}
use Rattle.pi_effects.specs.Naming.{naming_functions}
use Rattle.pi_effects.specs.Format.{pieces, filled_in, formatted}
use Rattle.pi_effects.specs.Texts.{text_functions, writing_predicates}
use Rattle.pi_effects.specs.Making.{new_rows, making_functions}
use Rattle.pi_effects.specs.BuiltIns.{reading_functions, built_in_function, tests, other_predicates, built_in_predicate}

-- the state of these variables
abbrev pub a_state : List Variable → State
a_state variables = record { variables = variables; constraints = []; agents = []; waiting = [] }

abbrev pub n : ℕ → Tree
n k = int (pos k)

abbrev pub a : Tree
a = atom (codes "a")

abbrev pub b : Tree
b = atom (codes "b")

abbrev pub compound : List ℕ → List Tree → Tree
compound name ts = comp name (trees_of ts)

abbrev pub raised_type : List ℕ → Tree → Tree
raised_type kind t = compound (codes "type_error") (atom kind ∷ t ∷ [])

-- a function's and a predicate's effect
unfoldable pub gives : List ℕ → List Tree → State → Option FunctionEffect
unfolding built_in_function reading_functions done_by integer_functions collection_functions sorting_functions index_functions range_functions naming_functions text_functions making_functions total inserted sorted each_once indexed values_by new_rows each_tree list_onto items_for list_items thrown exception_with type_error tree_count cells order occurrences firsts instance copy rounds value followed_for followed in_pairs assigned joined outcome unified_for unbound_in cells_of_pairs most_pairs all_unified with_new_variables power value_of is_reserved is_unquoted_atom stands_bare atom_text is_characters characters written chars encode_utf8 digits
gives name ts s = built_in_function name (trees_of ts) s

unfoldable pub does : List ℕ → List Tree → State → Option Effect
unfolding built_in_predicate tests comparing_tests kind_tests writing_predicates other_predicates done_by pieces filled_in formatted each_tree list_onto items_for list_items thrown exception_with type_error tree_count cells order occurrences firsts instance copy rounds value followed_for followed in_pairs assigned joined outcome unified_for unbound_in cells_of_pairs most_pairs all_unified is_reserved is_unquoted_atom stands_bare atom_text is_characters characters written chars encode_utf8 digits
does name ts s = built_in_predicate name (trees_of ts) s
