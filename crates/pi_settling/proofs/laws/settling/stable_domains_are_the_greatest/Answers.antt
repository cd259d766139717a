use Rattle.pi_settling.proofs.UniqueLemmas.{stable_lies_below}
use Rattle.pi_settling.proofs.StableLemmas.{settling_keeps_solutions, stable_is_unchanged}
use Rattle.pi_settling.proofs.SolutionLemmas.{solutions_stay}
use Rattle.pi_settling.proofs.KeepLemmas.{stable_is_a_state, stable_may_settle}
use Rattle.pi_settling.proofs.laws.settling.stable_domains_are_the_greatest.Goals as goal

pub returns-clause-below : goal.returns-clause-below
returns-clause-below c = stable_lies_below

pub returns-clause-solutions : goal.returns-clause-solutions
returns-clause-solutions c = settling_keeps_solutions

pub returns-clause-stay : goal.returns-clause-stay
returns-clause-stay c = solutions_stay

pub returns-clause-state : goal.returns-clause-state
returns-clause-state c = stable_is_a_state

pub returns-clause-again : goal.returns-clause-again
returns-clause-again c = stable_may_settle

pub returns-clause-unchanged : goal.returns-clause-unchanged
returns-clause-unchanged c = stable_is_unchanged
