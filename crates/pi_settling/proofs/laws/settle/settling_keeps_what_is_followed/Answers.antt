use Rattle.pi_settling.proofs.SettleKeeps.{settling_makes_no_variable, followed_stay, followed_to_variables, settling_keeps_the_rest}
use Rattle.pi_settling.proofs.laws.settle.settling_keeps_what_is_followed.Goals as goal

pub returns-clause-count : goal.returns-clause-count
returns-clause-count c = settling_makes_no_variable

pub returns-clause-followed : goal.returns-clause-followed
returns-clause-followed c = followed_stay

pub returns-clause-variables : goal.returns-clause-variables
returns-clause-variables c = followed_to_variables

pub returns-clause-rest : goal.returns-clause-rest
returns-clause-rest c = settling_keeps_the_rest
