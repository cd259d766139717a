use Rattle.pi_settling.proofs.ConfinedLemmas.{confined_have_domains, confining_binds_nothing}
use Rattle.pi_settling.proofs.laws.labelling.variables_are_confined.Goals as goal

pub returns-clause-domains : goal.returns-clause-domains
returns-clause-domains c = confined_have_domains

pub returns-clause-bindings : goal.returns-clause-bindings
returns-clause-bindings c = confining_binds_nothing
