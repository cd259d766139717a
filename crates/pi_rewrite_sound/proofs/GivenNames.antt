-- What lowering calls by itself stands in the tables of built-ins.
use Rattle.std.proofs.Common.{refl}
use Rattle.std.specs.Prelude.{codes, IsTrue}
use Rattle.pi_effects.specs.Rows.{has_line}
use Rattle.pi_effects.specs.Integers.{integer_functions}
use Rattle.pi_effects.specs.Comparing.{comparing_tests}
use Rattle.pi_effects.specs.Kinds.{kind_tests}
use Rattle.pi_effects.specs.Collections.{collection_functions}
use Rattle.pi_effects.specs.Sorting.{sorting_functions}
use Rattle.pi_effects.specs.Indexing.{index_name, index_functions}
use Rattle.pi_effects.specs.Ranges.{range_functions}
use Rattle.pi_effects.specs.Naming.{naming_functions}
use Rattle.pi_effects.specs.Texts.{text_functions, writing_predicates}
use Rattle.pi_effects.specs.Making.{making_functions}
use Rattle.pi_effects.specs.Inner.{itself_name, in_order_name, range_count_name}
use Rattle.pi_effects.specs.BuiltIns.{reading_functions, tests, other_predicates, is_predicate, is_function}
use Rattle.pi_meaning.specs.Shared.Effects.{is_value_name}
use Rattle.pi_meaning.specs.CoreMeaning.Defined.{is_machine_predicate}

pub equals-there : IsTrue (is_machine_predicate (codes "=") 2)
unfolding is_predicate has_line tests comparing_tests kind_tests writing_predicates other_predicates
equals-there = refl

pub less-there : IsTrue (is_machine_predicate (codes "<") 2)
unfolding is_predicate has_line tests comparing_tests kind_tests writing_predicates other_predicates
less-there = refl

pub item-there : IsTrue (is_value_name index_name 2)
unfolding is_function has_line reading_functions integer_functions collection_functions sorting_functions index_functions range_functions naming_functions text_functions making_functions
item-there = refl

pub ranges-there : IsTrue (is_value_name (codes "..") 2) × IsTrue (is_value_name (codes "..") 3)
unfolding is_function has_line reading_functions integer_functions collection_functions sorting_functions index_functions range_functions naming_functions text_functions making_functions
ranges-there = (refl, refl)

-- those of loops

pub itself-there : IsTrue (is_value_name itself_name 1)
unfolding is_function has_line reading_functions integer_functions collection_functions sorting_functions index_functions range_functions naming_functions text_functions making_functions
itself-there = refl

pub in-order-there : IsTrue (is_value_name in_order_name 1)
unfolding is_function has_line reading_functions integer_functions collection_functions sorting_functions index_functions range_functions naming_functions text_functions making_functions
in-order-there = refl

pub range-count-there : IsTrue (is_value_name range_count_name 2)
unfolding is_function has_line reading_functions integer_functions collection_functions sorting_functions index_functions range_functions naming_functions text_functions making_functions
range-count-there = refl

pub to-array-there : IsTrue (is_value_name (codes "to_array") 1)
unfolding is_function has_line reading_functions integer_functions collection_functions sorting_functions index_functions range_functions naming_functions text_functions making_functions
to-array-there = refl

pub length-there : IsTrue (is_value_name (codes "length") 1)
unfolding is_function has_line reading_functions integer_functions collection_functions sorting_functions index_functions range_functions naming_functions text_functions making_functions
length-there = refl

pub plus-there : IsTrue (is_value_name (codes "+") 2)
unfolding is_function has_line reading_functions integer_functions collection_functions sorting_functions index_functions range_functions naming_functions text_functions making_functions
plus-there = refl

pub minus-there : IsTrue (is_value_name (codes "-") 2)
unfolding is_function has_line reading_functions integer_functions collection_functions sorting_functions index_functions range_functions naming_functions text_functions making_functions
minus-there = refl

pub min-there : IsTrue (is_value_name (codes "min") 2)
unfolding is_function has_line reading_functions integer_functions collection_functions sorting_functions index_functions range_functions naming_functions text_functions making_functions
min-there = refl
