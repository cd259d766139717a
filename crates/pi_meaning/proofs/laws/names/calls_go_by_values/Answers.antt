use Rattle.pi_meaning.proofs.OverNames.ValueLemmas.{calls-go_by_values, functions-go_by_values, goals-are_calls}
use Rattle.pi_meaning.proofs.laws.names.calls_go_by_values.Goals as goal

pub returns-clause-predicates : goal.returns-clause-predicates
returns-clause-predicates c = calls-go_by_values

pub returns-clause-functions : goal.returns-clause-functions
returns-clause-functions c = functions-go_by_values

pub returns-clause-goals : goal.returns-clause-goals
returns-clause-goals c = goals-are_calls
