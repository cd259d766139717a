use Rattle.std.proofs.Common.{refl}
use Rattle.std.proofs.lemmas.Result.{IfOk-weaker}
use Rattle.pi_prog_clauses.proofs.clause.ClauseLemmas.{split_events, split_as_other, split_as_conjunction, split_as_call}
use Rattle.pi_prog_clauses.proofs.clause.split_last.Goals as goal

pub returns-in-Array : goal.returns-in-Array
returns-in-Array c = split_events _ c.in-Array.events _ _ refl c.in-Array.ensures

pub returns-in-Conjunction : goal.returns-in-Conjunction
returns-in-Conjunction c = IfOk-weaker c.without_events.result _ _ (λ made so. split_as_conjunction _ _ c.in-Conjunction.inner _ c.in-Conjunction.ensures so) c.without_events.ensures

pub returns-in-Call : goal.returns-in-Call
returns-in-Call c = IfOk-weaker c.without_events-in-Call.result _ _ (λ made so. split_as_call _ _ c.in-Call.name c.in-Call.args _ c.in-Call.ensures so) c.without_events-in-Call.ensures

pub returns-in-Other : goal.returns-in-Other
returns-in-Other c = IfOk-weaker c.without_events-in-Other.result _ _ (λ made so. split_as_other _ _ _ _ c.in-Other.ensures.0 c.in-Other.ensures.1 so) c.without_events-in-Other.ensures
