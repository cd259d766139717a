use Rattle.pi_effects.proofs.BuiltInLemmas.{functions-make, predicates-unify}
use Rattle.pi_effects.proofs.laws.built_ins_keep_states.Goals as goal

pub returns-clause-functions : goal.returns-clause-functions
returns-clause-functions c = functions-make

pub returns-clause-predicates : goal.returns-clause-predicates
returns-clause-predicates c = predicates-unify
