-- The prelude's parts are built.
use Rattle.std.proofs.Common.{◌≡◌, true, ◌++◌, refl}
use Rattle.std.specs.List.{AllByRecursion}
use Rattle.pi_effects.specs.Rows.{has_line}
use Rattle.pi_effects.specs.Integers.{integer_functions}
use Rattle.pi_effects.specs.Comparing.{comparing_tests}
use Rattle.pi_effects.specs.Kinds.{kind_tests}
use Rattle.pi_effects.specs.Collections.{collection_functions}
use Rattle.pi_effects.specs.Sorting.{sorting_functions}
use Rattle.pi_effects.specs.Indexing.{index_functions}
use Rattle.pi_effects.specs.Ranges.{range_functions}
use Rattle.pi_effects.specs.Naming.{naming_functions}
use Rattle.pi_effects.specs.Texts.{text_functions, writing_predicates}
use Rattle.pi_effects.specs.Making.{making_functions}
use Rattle.pi_settling.specs.DomainValues.{domain_functions}
use Rattle.pi_settling.specs.Goals.{constraint_goals}
use Rattle.pi_settling.specs.SolveCalls.{solve_calls}
use Rattle.pi_effects.specs.BuiltIns.{reading_functions, tests, other_predicates, is_predicate, is_function}
use Rattle.pi_syntax.specs.ProgramTree.{ProgramTree}
use Rattle.pi_syntax.specs.Signature.{exp_count}
use Rattle.pi_syntax.specs.Names.{function_rows, predicate_rows, prelude_rows, kind_of}
use Rattle.pi_meaning.specs.OverNames.Forms.{form_of}
use Rattle.pi_meaning.specs.OverNames.Prelude.{prelude}
use Rattle.pi_rewrite_sound.specs.Built.{is_built_pattern, is_built_value, is_built_part}

abbrev pub AreBuilt : ProgramTree → Type 0
AreBuilt parts = AllByRecursion (λ p. is_built_part p ≡ true) parts

pub prelude-built : (program : ProgramTree) → AreBuilt program → AreBuilt (prelude ++ program)
unfolding prelude is_built_pattern is_built_value form_of exp_count kind_of function_rows predicate_rows prelude_rows is_predicate constraint_goals solve_calls is_function domain_functions has_line tests comparing_tests kind_tests writing_predicates other_predicates
    reading_functions making_functions integer_functions collection_functions sorting_functions index_functions range_functions naming_functions text_functions
prelude-built program built = (refl, (refl, (refl, (refl, (refl, (refl, (refl, (refl, (refl, (refl, built))))))))))
