use Rattle.pi_effects.proofs.BuiltInLemmas.{functions-listed, predicates-listed}
use Rattle.pi_effects.proofs.laws.built_ins_are_listed.Goals as goal

pub returns-clause-functions : goal.returns-clause-functions
returns-clause-functions c = functions-listed

pub returns-clause-predicates : goal.returns-clause-predicates
returns-clause-predicates c = predicates-listed
