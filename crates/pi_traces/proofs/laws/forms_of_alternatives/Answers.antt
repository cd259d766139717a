use Rattle.pi_traces.proofs.TraceLemmas.{first-alt, negated-alt, chosen-alt, collected-alt, counted-alt, caught-alt}
use Rattle.pi_traces.proofs.laws.forms_of_alternatives.Goals as goal

pub returns-clause-first : goal.returns-clause-first
returns-clause-first g c = first-alt

pub returns-clause-negated : goal.returns-clause-negated
returns-clause-negated g c = negated-alt

pub returns-clause-chosen : goal.returns-clause-chosen
returns-clause-chosen g c = chosen-alt

pub returns-clause-collected : goal.returns-clause-collected
returns-clause-collected g c = collected-alt

pub returns-clause-counted : goal.returns-clause-counted
returns-clause-counted g c = counted-alt

pub returns-clause-caught : goal.returns-clause-caught
returns-clause-caught g c = caught-alt
