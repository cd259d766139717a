use Rattle.pi_prog_clauses.proofs.clause.ClauseLemmas.{headed_other, headed_conjunction, headed_array}
use Rattle.pi_prog_clauses.proofs.clause.read_headed.Goals as goal

pub returns-in-Call : goal.returns-in-Call
returns-in-Call c = rw c.in-Call.ensures c.read_headed_call.ensures

pub returns-in-Conjunction : goal.returns-in-Conjunction
returns-in-Conjunction c = headed_conjunction c.in-Conjunction.units _ c.in-Conjunction.ensures

pub returns-in-Array : goal.returns-in-Array
returns-in-Array c = headed_array c.in-Array.items _ c.in-Array.ensures

pub returns-in-Other : goal.returns-in-Other
returns-in-Other c = headed_other _ _ c.in-Other.ensures.0 c.in-Other.ensures.1
