use Rattle.pi_prog_clauses.proofs.clause.ClauseLemmas.{units_other, units_conjunction, units_array, units_call}
use Rattle.pi_prog_clauses.proofs.clause.units_in.Goals as goal

pub returns-in-Conjunction : goal.returns-in-Conjunction
returns-in-Conjunction c = units_conjunction _ c.in-Conjunction.units _ c.in-Conjunction.ensures c.units_of.ensures

pub returns-in-Array : goal.returns-in-Array
returns-in-Array c = units_array _ c.in-Array.items _ c.in-Array.ensures c.one_unit.ensures

pub returns-in-Call : goal.returns-in-Call
returns-in-Call c = units_call _ c.in-Call.name c.in-Call.args _ c.in-Call.ensures c.one_unit-in-Call.ensures

pub returns-in-Other : goal.returns-in-Other
returns-in-Other c = units_other _ _ _ c.in-Other.ensures.0 c.in-Other.ensures.1 c.one_unit-in-Other.ensures
