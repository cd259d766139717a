use Rattle.pi_solve_spec.proofs.WorkLemmas.{edges_stay, chains_stay, wanted_stays, nothing_is_wanted, nothing_is_entered, only_runs_are_counted}
use Rattle.pi_solve_spec.proofs.laws.work.wanted_calls_stay.Goals as goal

pub returns-clause-edges : goal.returns-clause-edges
returns-clause-edges g c = edges_stay

pub returns-clause-chains : goal.returns-clause-chains
returns-clause-chains g c = chains_stay

pub returns-clause-wanted : goal.returns-clause-wanted
returns-clause-wanted g c = wanted_stays

pub returns-clause-nothing : goal.returns-clause-nothing
returns-clause-nothing g c = nothing_is_wanted

pub returns-clause-entered : goal.returns-clause-entered
returns-clause-entered g c = nothing_is_entered

pub returns-clause-counted : goal.returns-clause-counted
returns-clause-counted g c = only_runs_are_counted
