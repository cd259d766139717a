use Rattle.pi_syntax.specs.Names.{function_rows, predicate_rows, prelude_rows}
use Rattle.pi_syntax.proofs.TableLemmas.{apart, functions_apart_from_predicates, functions_apart_from_prelude, predicates_apart_from_prelude}
use Rattle.pi_syntax.proofs.builtin_laws.tables_are_disjoint.Goals as goal

pub returns-clause-functions : goal.returns-clause-functions
returns-clause-functions c name arity listed = (
  apart predicate_rows function_rows functions_apart_from_predicates name arity listed,
  apart prelude_rows function_rows functions_apart_from_prelude name arity listed,
)

pub returns-clause-predicates : goal.returns-clause-predicates
returns-clause-predicates c = apart prelude_rows predicate_rows predicates_apart_from_prelude
